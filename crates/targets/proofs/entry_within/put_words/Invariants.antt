-- The first i words are laid.
use Rattle.targets.proofs.EstimateWritten.{Puts}
use Rattle.targets.proofs.entry_within.put_words.Given as goal

abbrev pub invariant-loop-i : goal.invariant-loop-i
invariant-loop-i l = Puts l.fn.words l.fn.answer l.answer l.fn.at l.i
