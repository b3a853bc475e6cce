-- One word more, and all of them.
use Rattle.std.proofs.Common.{arith}
use Rattle.targets.proofs.EstimateWritten.{puts_none, puts-next, puts-all}
use Rattle.targets.proofs.entry_within.put_words.Goals as goal

pub put_word-requires : goal.put_word-requires
put_word-requires c = omega (arith, c.requires, c.loop-i.invariant.long)

pub loop-i-init : goal.loop-i-init
loop-i-init c = puts_none _ _ _

pub loop-i-preserved : goal.loop-i-preserved
loop-i-preserved c = puts-next c.requires (omega arith) c.loop-i.invariant c.put_word.ensures

pub returns : goal.returns
returns c = puts-all (omega arith) c.loop-i.invariant
