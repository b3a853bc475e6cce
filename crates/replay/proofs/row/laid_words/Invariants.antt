-- The first i words are laid.
use Rattle.std.proofs.Common.{◌≡◌}
use Rattle.replay.specs.Row.{laid_words}
use Rattle.replay.proofs.row.laid_words.Given as goal

abbrev pub invariant-loop-i : goal.invariant-loop-i
invariant-loop-i g l = l.bytes ≡ laid_words l.fn.row l.fn.column l.i g.row.N
