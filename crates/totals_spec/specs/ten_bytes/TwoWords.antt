-- An encoding of kind 4 in two words, as a program holds it: the head, which has the sign above the
-- exponent field, and the significand.
use Rattle.std.specs.Prelude.{ℕ, ◌+◌, ◌*◌, ◌^◌, suc, cond, ltb, not}
use Rattle.totals_spec.specs.Basics.{flag}
use Rattle.totals_spec.specs.formats.Decode.{Unpacked, zero_of, finite, infinity, nan}

abbrev pub joined : (head significand : ℕ) → ℕ
joined h m = h * 2 ^ 64 + m

-- of a value
abbrev pub head_of : Unpacked → ℕ
head_of (zero_of s) = flag 32768 s
head_of (finite s k m) = flag 32768 s + cond (ltb m (2 ^ 63)) 0 (suc k)
head_of (infinity s) = flag 32768 s + 32767
head_of (nan s g m) = flag 32768 s + 32767

abbrev pub significand_of : Unpacked → ℕ
significand_of (zero_of s) = 0
significand_of (finite s k m) = m
significand_of (infinity s) = 2 ^ 63
significand_of (nan s g m) = 2 ^ 63 + (flag (2 ^ 62) (not g) + m)
