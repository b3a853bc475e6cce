-- The chunk that is read is the value at its index.
use Rattle.values.proofs.Chunks.{value-chunk}
use Rattle.values.proofs.word_at.Goals as goal

pub returns : goal.returns
returns c = cc (value-chunk c.args.values.now c.args.index c.requires)
