-- Bytes laid over those of a buffer.
use Rattle.std.specs.Prelude.{List, ◌++◌, ℕ, ◌+◌, length, take, drop}

-- some bytes laid over others, from a place on
abbrev pub laid_over : List ℕ → (at : ℕ) → List ℕ → List ℕ
laid_over old at s = take at old ++ (s ++ drop (at + length s) old)
