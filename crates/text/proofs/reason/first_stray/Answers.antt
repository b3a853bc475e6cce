use Rattle.std.proofs.Common.{sym, ap, ◌∙◌}
use Rattle.std.specs.Prelude.{is_some}
use Rattle.text.proofs.Reasons.{no_digits, no_digit, more_digits, all_digits}
use Rattle.text.proofs.reason.first_stray.Goals as goal

pub loop-place-init : goal.loop-place-init
loop-place-init c = no_digits c.args.bytes.now

pub loop-place-preserved : goal.loop-place-preserved
loop-place-preserved c =
    more_digits _ _ c.loop-place-test.true c.loop-place.invariant (ap is_some (sym c.digit.ensures) ∙ c.if-is_none.ensures)

pub returns-then-is_none-clause-some : goal.returns-then-is_none-clause-some
returns-then-is_none-clause-some c =
    (c.loop-place-test.true, c.loop-place.invariant, no_digit _ (ap is_some (sym c.digit.ensures) ∙ c.if-is_none.ensures))

pub returns-clause-none : goal.returns-clause-none
returns-clause-none c = λ e. all_digits _ _ c.loop-place-test.false c.loop-place.invariant
