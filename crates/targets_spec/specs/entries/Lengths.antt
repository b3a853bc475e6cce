-- How many bytes a value has, by its kind, in the byte entries of an answer within an allowance and
-- of targets: ten of kind 4, which gets 3 there, and eight of every other kind.
use Rattle.std.specs.Prelude.{ℕ, cond, eqb, ◌%◌, Bool, not, List, length, ◌≢◌, []}

abbrev pub value_size : (kind : ℕ) → ℕ
value_size k = cond (eqb k 4) 10 8

-- refusal 1: a last value that is cut short
abbrev pub cut_short : (kind : ℕ) → List ℕ → Bool
cut_short k bytes = not (eqb (length bytes % value_size k) 0)

-- ---- of the byte entries: 1, a length in bytes that is no multiple of the value's, which is ten
-- of kind 4, and eight of every other kind

abbrev pub CutShort : (kind : ℕ) → List ℕ → Type 0
CutShort k bytes = length bytes % value_size k ≢ 0
