-- Kind 4, then by the lengths and the total.
use Rattle.totals.proofs.Tens.{dot-ten, dot-other}
use Rattle.totals.proofs.Written.{dot-turned, dot_fits, dot-enters}
use Rattle.totals.proofs.entry.enter_dot.Goals as goal

pub returns-then-format-eq-TENS : goal.returns-then-format-eq-TENS
returns-then-format-eq-TENS c = rw c.number.ensures (dot-ten _ _ _ _ c.args.left.now _ _ c.if-format-eq-TENS.true c.tens_dot.ensures)

pub returns-in-Err : goal.returns-in-Err
returns-in-Err c =
    rw c.number-in-Err.ensures
    (dot-other _ _ _ _ c.args.left.now _ _ c.if-format-eq-TENS.false (dot-turned _ _ c.args.left.now _ _ _ (rw c.either_cut.ensures at (c.in-Err.ensures {u = tt}))))

pub enter-requires : goal.enter-requires
enter-requires c = dot_fits _ _ _ _ _ (rw c.either_cut.ensures at (c.in_default.ensures {u = tt})) c.dot_bytes.ensures

pub returns : goal.returns
returns c =
    dot-other _ _ _ _ c.args.left.now _ _ c.if-format-eq-TENS.false
    (dot-enters _ _ _ _ _ (rw c.either_cut.ensures at (c.in_default.ensures {u = tt})) c.dot_bytes.ensures _ _ c.enter.ensures)
