-- A turn at the code of one index, and the end.
use Rattle.std.proofs.Common.{◌<◌, get_or, refl, arith}
use Rattle.binary.specs.Summands.{summand_in}
use Rattle.format.specs.Environments.{env_of}
use Rattle.reduction.proofs.Step.{Plainly, Turn, walk_start, walk-taken, walk-plain, walk-done}
use Rattle.reduction.proofs.Codes.{can-take, list, list-taken, list-plainly}
use Rattle.reduction.proofs.lists.scan_list.Given as given
use Rattle.reduction.proofs.lists.scan_list.Goals as goal
use Rattle.reduction.proofs.lists.scan_list.Goals.{then-field-eq0, else-field-eq0+then-greatest-field, else-field-eq0+else-greatest-field}

turn : (g : given.Over) (c : goal.Joined-field-eq0 g) → let q = g.N.Numbers.encoding c.args.numbers.now in let l = g.N.Numbers.codes c.args.numbers.now in
    let e = env_of c.args.env in Turn q.format e (list q e (summand_in c.args.summand)) l 0 c.loop-i.i (get_or l c.loop-i.i 0) c.loop-i.scan c.loop-i.greatest
turn g c = record { inside = rw c.count-i-end.ensures at c.loop-i-test.true; here = refl; so_far = c.loop-i.invariant.so_far }

plainly : (g : given.Over) (c : goal.Joined-field-eq0 g) → 0 < c.plain_field-field.result → let q = g.N.Numbers.encoding c.args.numbers.now in
    let e = env_of c.args.env in
    Plainly q.format e (list q e (summand_in c.args.summand)) (get_or (g.N.Numbers.codes c.args.numbers.now) c.loop-i.i 0) c.plain_field-field.result
plainly g c = list-plainly (g.N.Numbers.encoding c.args.numbers.now) (env_of c.args.env) (summand_in c.args.summand) _ _ c.plain_field-field.ensures

pub loop-i-init : goal.loop-i-init
loop-i-init g c =
    let q = g.N.Numbers.encoding c.args.numbers.now in
    let e = env_of c.args.env in
    let u = summand_in c.args.summand in
    record { small = omega arith; so_far = walk_start q.format e (list q e u) (g.N.Numbers.codes c.args.numbers.now) _ (c.new-scan.ensures q.format e) }

pub take-requires : goal.take-requires
take-requires g c = can-take (g.N.Numbers.encoding c.args.numbers.now) (env_of c.args.env) _ _ c.operand.ensures.0

pub loop-i-preserved : goal.loop-i-preserved
loop-i-preserved g c =
    let q = g.N.Numbers.encoding c.args.numbers.now in
    elim c.if-field-eq0.branch [
      | then-field-eq0 w ↦ record {
        small = omega arith;
        so_far = rw (w.scan-is, w.greatest-is)
            (walk-taken (turn g c) _ (list-taken q (env_of c.args.env) (summand_in c.args.summand) _ _ _ _ _ w.operand.ensures w.take.ensures));
      }
      | else-field-eq0+then-greatest-field w ↦ record {
        small = omega (arith, c.plain_field-field.ensures.small);
        so_far = rw (w.scan-is, w.greatest-is) (walk-plain (turn g c) _ _ (plainly g c (omega arith)) (omega arith));
      }
      | else-field-eq0+else-greatest-field w ↦ record {
        small = omega arith;
        so_far = rw (w.scan-is, w.greatest-is) (walk-plain (turn g c) _ _ (plainly g c (omega arith)) (omega arith));
      }
    ]

pub returns : goal.returns
returns g c =
    let q = g.N.Numbers.encoding c.args.numbers.now in
    let e = env_of c.args.env in
    walk-done q.format e (list q e (summand_in c.args.summand)) _ c.loop-i.i c.loop-i.scan _ c.loop-i.greatest _
    (omega (arith, c.count-i-end.ensures)) c.top.ensures c.plain_top.ensures c.loop-i.invariant.so_far
