-- By the bias's name, the refusal, and the figure. A number is what its 64 bits are read as.
use Rattle.std.proofs.Common.{refl, rules}
use Rattle.limbs.proofs.Signs.{read}
use Rattle.totals.proofs.Refusals.{number-some}
use Rattle.totals.proofs.Counted.{misnamed-entry, refused-entry, accepted-entry, code-small}
use Rattle.totals.proofs.entry.enter_pence.Goals as goal

pub returns-in_default : goal.returns-in_default
returns-in_default c = rw c.number.ensures (misnamed-entry _ _ _ c.in_default.ensures.0)

pub code-requires : goal.code-requires
code-requires c =
    let (named, is) = c.in-Ok.ensures in
    (code-small _ _ c.args.figure.now named _ (rw is at c.in-Err.ensures)).1

pub returns-in-Err : goal.returns-in-Err
returns-in-Err c =
    let (named, is) = c.in-Ok.ensures in
    rw c.code.ensures (refused-entry _ _ _ named _ (rw is at c.in-Err.ensures) (number-some c.in-Err.refusal))

pub returns-in-Ok-pence_of_sum : goal.returns-in-Ok-pence_of_sum
returns-in-Ok-pence_of_sum c =
    let (named, is) = c.in-Ok.ensures in
    rw (read c.in-Ok-pence_of_sum.pence (search rules))
    (accepted-entry _ _ _ named _ (rw is at c.in-Ok-pence_of_sum.ensures) refl)
