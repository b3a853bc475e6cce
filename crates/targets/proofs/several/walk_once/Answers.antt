-- The values are as many as their bytes make.
use Rattle.std.proofs.Common.{◌∙◌}
use Rattle.totals_spec.proofs.entries.ValuesInBytes.{values_length}
use Rattle.totals.proofs.Refusals.{number-some}
use Rattle.targets.proofs.several.walk_once.Goals as goal

pub returns-in_err-asked : goal.returns-in_err-asked
returns-in_err-asked c = λ z. absurd (number-some _ (rw c.reading.ensures at c.in_err-asked.ensures ∙ z))

pub keep-requires : goal.keep-requires
keep-requires c =
    let (layout, env, summand, passed) = c.in_ok-asked.ensures in
    rw (layout, env, c.reading.ensures, values_length c.args.values.now) (rw c.reading.ensures at passed)

pub returns : goal.returns
returns c = λ z.
    let (layout, env, summand, passed) = c.in_ok-asked.ensures in
    rw (layout, env, c.reading.ensures) at c.keep.ensures
