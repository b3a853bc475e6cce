-- The scan, raised to the position of the field kept apart, is that of the first i codes.
use Rattle.std.proofs.Common.{◌<◌, take}
use Rattle.binary.specs.Summands.{summand_in}
use Rattle.format.specs.Environments.{env_of}
use Rattle.reduction.specs.Scan.{with_top}
use Rattle.reduction.specs.Encodings.{ScannedAs}
use Rattle.reduction.proofs.lists.scan_list.Given as goal

abbrev pub invariant-loop-i : goal.invariant-loop-i
invariant-loop-i g l =
    let e = g.N.Numbers.encoding l.numbers in
    record {
      small : l.greatest < 268435456;
      so_far :
          ScannedAs e (env_of l.env) (summand_in l.summand) (take l.i (g.N.Numbers.codes l.numbers))
          (with_top (e.top (summand_in l.summand) l.greatest) l.scan);
    }
