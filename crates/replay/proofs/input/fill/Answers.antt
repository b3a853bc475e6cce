use Rattle.std.proofs.Common.{rules}
use Rattle.replay.proofs.Streams.{read_more}
use Rattle.replay.proofs.input.fill.Goals as goal

pub loop-done-preserved : goal.loop-done-preserved
loop-done-preserved g c = record {
  within = search rules;
  given = read_more _ _ _ _ _ _ _ _ c.loop-done.invariant.within c.in_ok-n.ensures.bound.0 c.loop-done.invariant.given c.in_ok-n.ensures.bytes.0;
}
