-- The first i figures of the lists are lows and highs, and the others are as they were.
use Rattle.figures.specs.Ranges.{lows, highs}
use Rattle.figures.proofs.RangeSettled.{Settled}
use Rattle.figures.proofs.range.settle.Given as goal

abbrev pub invariant-loop-i : goal.invariant-loop-i
invariant-loop-i l =
    let xs = l.initial.firsts in
    let ys = l.initial.seconds in
    Settled (lows l.tags xs ys) xs l.i l.firsts × Settled (highs l.ceiling l.tags xs ys) ys l.i l.seconds
