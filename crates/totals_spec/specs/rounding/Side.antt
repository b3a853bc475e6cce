-- Which way a result leans: 0 where it is the exact sum of the terms, 1 where it lies below, 2
-- where it lies above, and 3 where it is no number to compare. The result is taken as a reader has
-- it: the record's encoding, decoded again.
use Rattle.std.specs.Prelude.{ℕ, cond, ltb, eqb, ◌+◌, ◌*◌, ◌^◌, ◌/◌, ◌%◌, Bool}
use Rattle.totals_spec.specs.Basics.{Signed, plus_of, minus_of}
use Rattle.totals_spec.specs.formats.Decode.{Unpacked, zero_of, finite, infinity, nan}

-- a number r beside another x
abbrev pub leaning : ℕ → ℕ → ℕ
leaning r x = cond (ltb r x) 1 (cond (eqb r x) 0 2)

-- of signed ones: r < x says that r's positive part and x's negative one are together less than x's
-- positive and r's negative one
unfoldable pub leans_of : Signed → Signed → ℕ
leans_of r x = leaning (plus_of r + minus_of x) (plus_of x + minus_of r)

-- THE SIDE of a decoded result beside an exact sum x, which is counted in units; g is the position
-- of the format's least non-zero number
unfoldable pub side_of : ℕ → Unpacked → Signed → ℕ
side_of g (zero_of s) x = leans_of (record { neg = s; mag = 0 }) x
side_of g (finite s k m) x = leans_of (record { neg = s; mag = m * 2 ^ (k + g) }) x
side_of g (infinity s) x = 3
side_of g (nan s h m) x = 3

-- ---- what a program can work out: the side by the rounding alone. A magnitude went up where flag
-- 64 is set, down where only 16 is, and is exact else

abbrev pub is_on : ℕ → ℕ → Bool
is_on n flags = eqb (flags / n % 2) 1

abbrev pub by_flags : Bool → ℕ → ℕ
by_flags s flags = cond (is_on 16 flags) (cond (is_on 64 flags) (cond s 1 2) (cond s 2 1)) 0

unfoldable pub rounded_side : Unpacked → ℕ → ℕ
rounded_side (zero_of s) flags = by_flags s flags
rounded_side (finite s k m) flags = by_flags s flags
rounded_side (infinity s) flags = 3
rounded_side (nan s h m) flags = 3
