-- Kind 4, then by the lengths and the total.
use Rattle.totals.proofs.Tens.{sum-ten, sum-other}
use Rattle.totals.proofs.Written.{sum-turned, sum_fits, sum-enters}
use Rattle.totals.proofs.entry.enter_sum.Goals as goal

pub returns-then-format-eq-TENS : goal.returns-then-format-eq-TENS
returns-then-format-eq-TENS c = rw c.number.ensures (sum-ten _ _ _ _ _ c.args.values.now _ c.if-format-eq-TENS.true c.tens_sum.ensures)

pub returns-in-Err : goal.returns-in-Err
returns-in-Err c = rw c.number-in-Err.ensures (sum-other _ _ _ _ _ c.args.values.now _ c.if-format-eq-TENS.false (sum-turned _ _ _ c.args.values.now _ _ (c.in-Err.ensures {u = tt})))

pub enter-requires : goal.enter-requires
enter-requires c = sum_fits _ _ _ _ _ (c.in_default.ensures {u = tt}) c.sum_bytes.ensures

pub returns : goal.returns
returns c =
    sum-other _ _ _ _ _ c.args.values.now _ c.if-format-eq-TENS.false (sum-enters _ _ _ _ _ (c.in_default.ensures {u = tt}) c.sum_bytes.ensures _ _ c.enter.ensures)
