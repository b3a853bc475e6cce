-- A turn at the pair of one index, and the end.
use Rattle.std.proofs.Common.{◌<◌, length, get_or, refl, sym, arith}
use Rattle.totals_spec.specs.sums.Totals.{pairs}
use Rattle.totals_spec.proofs.order.Order.{pairs-length}
use Rattle.format.specs.Environments.{env_of}
use Rattle.reduction.proofs.Step.{Plainly, Turn, walk_start, walk-taken, walk-plain, walk-done}
use Rattle.reduction.proofs.Codes.{dot, pair-here, pair-taken, pair-plainly}
use Rattle.reduction.proofs.lists.scan_pairs.Given as given
use Rattle.reduction.proofs.lists.scan_pairs.Goals as goal
use Rattle.reduction.proofs.lists.scan_pairs.Goals.{then-fields-eq0, else-fields-eq0+then-greatest-fields, else-fields-eq0+else-greatest-fields}

turn : (g : given.Over) (c : goal.Joined-fields-eq0 g) → let q = g.N.Numbers.encoding c.args.left.now in let xs = g.N.Numbers.codes c.args.left.now in
    let ys = g.N.Numbers.codes c.args.right.now in let e = env_of c.args.env in
    Turn q.format e (dot q e) (pairs xs ys) (0, 0) c.loop-i.i (get_or xs c.loop-i.i 0, get_or ys c.loop-i.i 0) c.loop-i.scan c.loop-i.greatest
turn g c =
    let xs = g.N.Numbers.codes c.args.left.now in
    let ys = g.N.Numbers.codes c.args.right.now in
    let i : c.loop-i.i < length xs = rw c.count-i-end.ensures at c.loop-i-test.true in
    record {
      inside = rw (pairs-length xs ys (sym c.requires)) i;
      here = pair-here xs ys _ _ _ c.requires i refl refl;
      so_far = c.loop-i.invariant.so_far;
    }

plainly : (g : given.Over) (c : goal.Joined-fields-eq0 g) → 0 < c.plain_fields-fields.result → let q = g.N.Numbers.encoding c.args.left.now in
    let e = env_of c.args.env in
    Plainly q.format e (dot q e) (get_or (g.N.Numbers.codes c.args.left.now) c.loop-i.i 0, get_or (g.N.Numbers.codes c.args.right.now) c.loop-i.i 0)
    c.plain_fields-fields.result
plainly g c = pair-plainly (g.N.Numbers.encoding c.args.left.now) (env_of c.args.env) _ _ _ c.plain_fields-fields.ensures

pub loop-i-init : goal.loop-i-init
loop-i-init g c =
    let q = g.N.Numbers.encoding c.args.left.now in
    let e = env_of c.args.env in
    record {
      small = omega arith;
      so_far =
          walk_start q.format e (dot q e)
          (pairs (g.N.Numbers.codes c.args.left.now) (g.N.Numbers.codes c.args.right.now)) _ (c.new-scan.ensures q.format e);
    }

pub plain_fields-fields-requires : goal.plain_fields-fields-requires
plain_fields-fields-requires g c =
    let i = rw c.count-i-end.ensures at c.loop-i-test.true in (i, rw c.requires i)

pub loop-i-preserved : goal.loop-i-preserved
loop-i-preserved g c =
    let q = g.N.Numbers.encoding c.args.left.now in
    elim c.if-fields-eq0.branch [
      | then-fields-eq0 w ↦ record {
        small = omega arith;
        so_far = rw (w.scan-is, w.greatest-is) (walk-taken (turn g c) _ (pair-taken q (env_of c.args.env) _ _ _ _ w.take_pair.ensures));
      }
      | else-fields-eq0+then-greatest-fields w ↦ record {
        small = omega (arith, c.plain_fields-fields.ensures.small);
        so_far = rw (w.scan-is, w.greatest-is) (walk-plain (turn g c) _ _ (plainly g c (omega arith)) (omega arith));
      }
      | else-fields-eq0+else-greatest-fields w ↦ record {
        small = omega arith;
        so_far = rw (w.scan-is, w.greatest-is) (walk-plain (turn g c) _ _ (plainly g c (omega arith)) (omega arith));
      }
    ]

pub returns : goal.returns
returns g c =
    let q = g.N.Numbers.encoding c.args.left.now in
    let e = env_of c.args.env in
    let long = pairs-length _ _ (sym c.requires) in
    walk-done q.format e (dot q e) _ c.loop-i.i c.loop-i.scan _ c.loop-i.greatest _
    (omega (arith, c.count-i-end.ensures, long)) c.top.ensures c.plain_pair_top.ensures c.loop-i.invariant.so_far
