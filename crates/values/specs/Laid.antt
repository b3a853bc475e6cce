-- A word in a buffer: eight bytes from a place on, and all others as they were.
use Rattle.std.specs.Prelude.{List, ◌++◌, ℕ, ◌+◌, take, drop}
use Rattle.totals_spec.specs.entries.Bytes.{to_bytes}

abbrev pub laid : List ℕ → ℕ → ℕ → List ℕ
laid l at x = take at l ++ (to_bytes 8 x ++ drop (at + 8) l)
