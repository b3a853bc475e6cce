use Rattle.std.proofs.Common.{◌≡◌, ◌≤◌, ◌<◌, length, get_or, ℕ}
use Rattle.limbs.proofs.run.significant.Given as goal

-- the words from n on repeat the sign
abbrev pub invariant-loop-count : goal.invariant-loop-count
invariant-loop-count l = (l.count ≤ length l.words) × ((k : ℕ) → l.count ≤ k → k < length l.words → get_or l.words k 0 ≡ l.sign)

abbrev pub decreases-loop-count : goal.decreases-loop-count
decreases-loop-count l = l.count
