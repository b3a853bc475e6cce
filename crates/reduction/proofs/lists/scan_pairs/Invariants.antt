-- The scan, raised to the position of the fields kept apart, is that of the first i pairs.
use Rattle.std.proofs.Common.{◌<◌, take}
use Rattle.totals_spec.specs.sums.Totals.{pairs}
use Rattle.format.specs.Environments.{env_of}
use Rattle.reduction.specs.Scan.{with_top}
use Rattle.reduction.specs.Encodings.{ScannedPairsAs}
use Rattle.reduction.proofs.lists.scan_pairs.Given as goal

abbrev pub invariant-loop-i : goal.invariant-loop-i
invariant-loop-i g l =
    let e = g.N.Numbers.encoding l.left in
    record {
      small : l.greatest < 536870912;
      so_far :
          ScannedPairsAs e (env_of l.env) (take l.i (pairs (g.N.Numbers.codes l.left) (g.N.Numbers.codes l.right)))
          (with_top (e.pair_top l.greatest) l.scan);
    }
