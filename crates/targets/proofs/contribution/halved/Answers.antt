-- Half by half.
use Rattle.std.proofs.Common.{arith}
use Rattle.format.specs.Layouts.{layout_of}
use Rattle.targets.proofs.Halving.{halving-start, halving-up, middle-in, rank-accepted, first-some, last-fits}
use Rattle.targets.proofs.contribution.halved.Goals as goal

pub overflow_add-high : goal.overflow_add-high
overflow_add-high g c = record { fits = rw c.last_rank-high.ensures (last-fits (layout_of c.args.layout) c.args.layout.narrow) }

pub loop-low-init : goal.loop-low-init
loop-low-init g c = rw (c.first_rank-low.ensures, c.last_rank-high.ensures) (halving-start _ _ _ _ c.requires)

pub number_at-requires : goal.number_at-requires
number_at-requires g c = omega (arith, first-some (layout_of c.args.layout), c.loop-low.invariant.first)

pub rank_with-requires : goal.rank_with-requires
rank_with-requires g c =
    let m = middle-in _ _ _ _ c.requires c.loop-low.invariant _ (omega arith) (omega (arith, c.loop-low-test.true)) in
    rw c.number_at.ensures (rank-accepted _ _ _ _ c.requires _ m.0 m.1)

pub loop-low-preserved-then-rank_with-target : goal.loop-low-preserved-then-rank_with-target
loop-low-preserved-then-rank_with-target g c =
    halving-up _ _ _ _ c.requires c.loop-low.invariant _ (omega arith) (omega (arith, c.loop-low-test.true))
    (rw (c.rank_with.ensures, c.number_at.ensures, c.rank_of-target.ensures) at c.if-rank_with-target.true)
