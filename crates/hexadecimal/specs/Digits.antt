-- Hex digits in bytes, by the program's digits (docs/SPECIFICATION.md, The program).
use Rattle.std.specs.Prelude.{List, ℕ, zero, suc, ◌+◌, ◌*◌, get_or, Option, None, Some}
use Rattle.std.proofs.Math.Option as math
use Rattle.totals_spec.specs.program.Program.{hex_digit}

-- the definitions' option as the code's
abbrev pub option_of : {A : Type 0} → math.Option A → Option A
option_of math.none = None
option_of (math.some x) = Some x

-- a digit's value, or another number where there is none
abbrev pub digit_or : ℕ → math.Option ℕ → ℕ
digit_or x math.none = x
digit_or x (math.some d) = d

-- a byte's digit, if it is one
abbrev pub digit_of : ℕ → Option ℕ
digit_of b = option_of (hex_digit b)

-- the digit at a place: 0 past the end, and for a byte that is no digit
abbrev pub digit_at : List ℕ → ℕ → ℕ
digit_at s i = digit_or 0 (hex_digit (get_or s i 48))

-- the number of n digits from a place on
unfoldable pub number_at : List ℕ → ℕ → ℕ → ℕ
number_at s at zero = 0
number_at s at (suc n) = 16 * number_at s at n + digit_at s (at + n)
