-- A word and two words, or their complements.
use Rattle.std.specs.Prelude.{ℕ, ◌-◌, Bool, true, false}

-- a word, or what it lacks to the greatest
abbrev pub flip : Bool → ℕ → ℕ
flip false w = w
flip true w = 18446744073709551615 - w

-- of two words
abbrev pub flip_pair : Bool → ℕ → ℕ
flip_pair false t = t
flip_pair true t = 340282366920938463463374607431768211455 - t
