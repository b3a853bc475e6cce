use Rattle.std.proofs.Common.{◌∙◌, ℤ, subst}
use Rattle.std.proofs.Math.Facts.{to_z-of_z}
use Rattle.totals_spec.specs.pence.Entry.{pence_entry}
use Rattle.totals_spec.proofs.pence.RefusedExactly.{pence-entry-refused-exactly}
use Rattle.totals_spec.proofs.pence.PenceOfLists.{pence-entry-refused}
use Rattle.totals.specs.Entered.{EntersFigure}
use Rattle.promised_calls.proofs.pence.pence_entry_or_refusal.Goals as goal

pub returns-clause-exactly : goal.returns-clause-exactly
returns-clause-exactly c =
    let is = subst (λ (b : ℤ). EntersFigure (pence_entry c.args.kind c.args.exponent_bits c.args.width c.args.bias_named b c.args.values.now
    c.args.figure.now) c.enter_pence.result c.enter_pence.new.figure) (to_z-of_z c.ranges.bias) c.enter_pence.ensures in
    λ n. rw is.code_is (pence-entry-refused-exactly c.args.kind c.args.exponent_bits c.args.width c.args.bias_named c.args.bias c.args.values.now c.args.figure.now n)

pub returns-clause-nothing_written : goal.returns-clause-nothing_written
returns-clause-nothing_written c =
    let is = subst (λ (b : ℤ). EntersFigure (pence_entry c.args.kind c.args.exponent_bits c.args.width c.args.bias_named b c.args.values.now
    c.args.figure.now) c.enter_pence.result c.enter_pence.new.figure) (to_z-of_z c.ranges.bias) c.enter_pence.ensures in
    λ h. is.figure-is ∙ pence-entry-refused c.args.kind c.args.exponent_bits c.args.width c.args.bias_named c.args.bias c.args.values.now c.args.figure.now (λ e. h (is.code_is ∙ e))
