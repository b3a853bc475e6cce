-- Ten-byte values: kind 4, ten bytes a value, through the byte entries of a sum and of a dot alone.
-- The numbers of X87 are those of an Ieee format with E = 15 and 64 digits, `extended`: bias, emin,
-- emax, infinities and rounding are that format's, and so are terms and passes. Only the encodings
-- differ. There the leading bit of a significand is written out, so that some encodings stand for
-- nothing, and some numbers have two.
use Rattle.std.specs.Prelude.{[], Bool, true, false, ℤ, ◌&&◌, eqb, ℕ, ◌/◌, ◌%◌, ◌^◌, not, ltb, zero}
use Rattle.std.specs.Prelude.{suc, ◌+◌, cond, ◌-◌, ◌*◌, List, map, length, leb, ◌∷◌, ◌++◌, drop}
use Rattle.std.specs.Prelude.{◌||◌}
use Rattle.std.proofs.Math.Option.{none, Option, some}
use Rattle.totals_spec.specs.formats.Format.{Format}
use Rattle.totals_spec.specs.formats.Decode.{Unpacked, zero_of, finite, infinity, nan, is_finite}
use Rattle.totals_spec.specs.formats.Decode.{sign_bit, field_of, fraction_of, is_signaling}
use Rattle.totals_spec.specs.Basics.{is_set, flag, any}
use Rattle.totals_spec.specs.formats.Settings.{Settings, Summand, valid_settings, summand_of}
use Rattle.totals_spec.specs.sums.Totals.{Answer, special, accepted, is_value, is_square, limit}
use Rattle.totals_spec.specs.sums.Totals.{refuse_if, answered, pairs}
use Rattle.totals_spec.specs.terms.Terms.{Item, item_of, Term, terms, pair_of}
use Rattle.totals_spec.specs.sums.Nan.{default_nan_of, select_all}
use Rattle.totals_spec.specs.entries.Bytes.{wide_from, to_bytes, Entry, sum_entry, dot_entry}

-- ---- the format

-- an encoding of kind 4 has one bit more than these 79, the leading bit of the significand
unfoldable pub extended : Format
extended = record { kind = 0; E = 15; W = 79; named = none }

abbrev pub unnamed : Option ℤ → Bool
unnamed none = true
unnamed (some b) = false

-- kind 4 is offered with E 15 and W 80 and no named bias; its refusal 3 is the failure of this
unfoldable pub valid_extended : Format → Bool
valid_extended f = eqb f.E 15 && (eqb f.W 80 && unnamed f.named)

-- the format as a caller names it
abbrev pub kind4 : Format
kind4 = record { kind = 4; E = 15; W = 80; named = none }

-- ---- encodings: the sign is bit 79, the exponent field the bits 64 to 78, the significand the
-- bits 0 to 63, of which bit 63 is the leading one

abbrev pub sign_in : ℕ → Bool
sign_in b = eqb (b / 2 ^ 79 % 2) 1

abbrev pub field_in : ℕ → ℕ
field_in b = b / 2 ^ 64 % 2 ^ 15

abbrev pub significand_in : ℕ → ℕ
significand_in b = b % 2 ^ 64

-- a field above 0 over a leading bit of 0: an unnormal, a pseudo-infinity or a pseudo-NaN
abbrev pub unsupported_fields : (field significand : ℕ) → Bool
unsupported_fields x m = not (eqb x 0) && ltb m (2 ^ 63)

unfoldable pub unsupported : ℕ → Bool
unsupported b = unsupported_fields (field_in b) (significand_in b)

-- below a field of 0 stands a zero, a subnormal number, or a pseudo-denormal, whose leading bit is
-- set
abbrev pub extended_number : Bool → (field significand : ℕ) → Unpacked
extended_number s zero zero = zero_of s
extended_number s zero (suc m) = finite s 0 (suc m)
extended_number s (suc x) m = finite s x m

-- below a field of all ones: the leading bit alone is an infinity, and bit 62 makes a NaN quiet
abbrev pub extended_top : Bool → ℕ → Unpacked
extended_top s m = cond (eqb m (2 ^ 63)) (infinity s) (nan s (ltb m (2 ^ 63 + 2 ^ 62)) (m % 2 ^ 62))

-- what an encoding stands for. An unsupported one stands for nothing, and is taken for a NaN here:
-- a total asks for it first
abbrev pub extended_fields : Bool → (field significand : ℕ) → Unpacked
extended_fields s x m = cond (unsupported_fields x m) (nan s false 0)
    (cond (eqb x (2 ^ 15 - 1)) (extended_top s m) (extended_number s x m))

unfoldable pub decode_extended : ℕ → Unpacked
decode_extended b = extended_fields (sign_in b) (field_in b) (significand_in b)

-- a pseudo-denormal counts as a subnormal number: for flag 128, and for denormals-are-zero
unfoldable pub subnormal_extended : ℕ → Bool
subnormal_extended b = is_finite (decode_extended b) && eqb (field_in b) 0

unfoldable pub extended_operand : Settings → ℕ → Unpacked
extended_operand c b = cond (is_set c.denormals_are_zero && subnormal_extended b)
    (zero_of (sign_in b)) (decode_extended b)

-- the sign, the exponent field, the leading bit, which is 1 below a field above 0, and the fraction
-- in their places
abbrev pub extended_bits : Bool → (field fraction : ℕ) → ℕ
extended_bits s x m = flag (2 ^ 79) s + x * 2 ^ 64 + (flag (2 ^ 63) (not (eqb x 0)) + m)

-- an encoding of `extended` with its leading bit written out
unfoldable pub spread : ℕ → ℕ
spread b = extended_bits (sign_bit extended b) (field_of extended b) (fraction_of extended b)

-- ---- the record of an accepted call

abbrev pub with_spread : Answer → Answer
with_spread a = record {
  result = spread a.result;
  flags = a.flags;
  passes = a.passes;
  last_edge = a.last_edge;
  refusal = a.refusal;
  place = a.place;
  side = a.side;
}

-- of the elements l, which give the items: an unsupported encoding gives the default NaN and flag
-- 1, before any NaN or infinity is looked at
unfoldable pub extended_accepted : Settings → (products infinity_first : Bool) → List ℕ → List Item
    → Answer
extended_accepted c products infinity_first l items =
    let sub = any subnormal_extended l in
    with_spread
    (cond (any unsupported l)
    (special extended sub (default_nan_of c) true)
    (accepted extended c sub products infinity_first (any (λ b. is_signaling (decode_extended b)) l)
    (select_all c (map decode_extended l)) items))

-- ---- sum, magnitude sum, square sum

unfoldable pub extended_item : Settings → Summand → ℕ → Item
extended_item c u b = item_of u (extended_operand c b)

abbrev pub extended_terms : Settings → Summand → List ℕ → List Term
extended_terms c u l = terms (map (extended_item c u) l)

unfoldable pub extended_sum : Settings → Summand → List ℕ → Answer
extended_sum c u l = extended_accepted c (is_square u) (not (is_value u)) l
    (map (extended_item c u) l)

-- refusals 3, 4 and 6, in this order; every bit is in use, so there is no 7
unfoldable pub extended_sum_refusal : Format → Settings → ℕ → List ℕ → ℕ
extended_sum_refusal f c u l =
    refuse_if (not (valid_extended f)) 3
    (refuse_if (not (valid_settings extended c && leb u 2)) 4
    (refuse_if (ltb limit (length l)) 6 0))

-- THE ANSWER of a sum of kind 4
unfoldable pub extended_sum_answer : Format → Settings → ℕ → List ℕ → Answer
extended_sum_answer f c u l = answered (extended_sum_refusal f c u l) 0
    (extended_sum c (summand_of u) l)

-- ---- dot

unfoldable pub extended_pair : Settings → ℕ × ℕ → Item
extended_pair c x = pair_of (extended_operand c x.0) (extended_operand c x.1)

abbrev pub extended_dot_terms : Settings → List ℕ → List ℕ → List Term
extended_dot_terms c xs ys = terms (map (extended_pair c) (pairs xs ys))

-- the elements of pairs in their order: left, right, left, right, …
abbrev pub both_of : List (ℕ × ℕ) → List ℕ
both_of [] = []
both_of (x ∷ l) = x.0 ∷ x.1 ∷ both_of l

unfoldable pub extended_dot : Settings → List (ℕ × ℕ) → Answer
extended_dot c l = extended_accepted c true false (both_of l) (map (extended_pair c) l)

unfoldable pub extended_dot_refusal : Format → Settings → List ℕ → List ℕ → ℕ
extended_dot_refusal f c xs ys =
    refuse_if (not (valid_extended f)) 3
    (refuse_if (not (valid_settings extended c)) 4
    (refuse_if (not (eqb (length xs) (length ys))) 5
    (refuse_if (ltb limit (length xs)) 6 0)))

-- THE ANSWER of a dot of kind 4
unfoldable pub extended_dot_answer : Format → Settings → List ℕ → List ℕ → Answer
extended_dot_answer f c xs ys = answered (extended_dot_refusal f c xs ys) 0
    (extended_dot c (pairs xs ys))

-- ---- bytes: ten a value, the least first

unfoldable pub tens_in : List ℕ → List ℕ
tens_in bytes = wide_from 10 (length bytes / 10) bytes

-- the result takes bytes 0 to 9, the flags byte 10, the side byte 11, the passes 24 to 31; a side
-- is below 4, so that 12 to 23 are 0. What follows stays
unfoldable pub extended_written : Answer → List ℕ → List ℕ
extended_written r old = to_bytes 10 r.result
    ++ (to_bytes 1 r.flags ++ (to_bytes 13 r.side ++ (to_bytes 8 r.passes ++ drop 32 old)))

-- an accepted call writes; any other gives its refusal, which has no place, and leaves the buffer
-- as it was
unfoldable pub extended_entered : Answer → List ℕ → Entry
extended_entered r old = cond (eqb r.refusal 0)
    (record { code = 0; buffer = extended_written r old })
    (record { code = r.refusal; buffer = old })

-- refusal 1: a last value that is cut short
abbrev pub uneven_tens : List ℕ → Bool
uneven_tens bytes = not (eqb (length bytes % 10) 0)

-- refusal 2: no room for 32 bytes of answer
abbrev pub short32 : List ℕ → Bool
short32 old = ltb (length old) 32

unfoldable pub extended_sum_entry : Format → Settings → ℕ → List ℕ → List ℕ → Entry
extended_sum_entry f c u bytes old =
    cond (uneven_tens bytes) (record { code = 1; buffer = old })
    (cond (short32 old) (record { code = 2; buffer = old })
    (extended_entered (extended_sum_answer f c u (tens_in bytes)) old))

unfoldable pub extended_dot_entry : Format → Settings → List ℕ → List ℕ → List ℕ → Entry
extended_dot_entry f c left right old =
    cond (uneven_tens left || uneven_tens right) (record { code = 1; buffer = old })
    (cond (short32 old) (record { code = 2; buffer = old })
    (extended_entered (extended_dot_answer f c (tens_in left) (tens_in right)) old))

-- ---- THE CALLS of the byte entries, with and without a named bias: kind 4 alone decides which of
-- them it is, before anything else is looked at

abbrev pub is_extended : Format → Bool
is_extended f = eqb f.kind 4

unfoldable pub sum_call : Format → Settings → ℕ → List ℕ → List ℕ → Entry
sum_call f c u bytes old = cond (is_extended f) (extended_sum_entry f c u bytes old)
    (sum_entry f c u bytes old)

unfoldable pub dot_call : Format → Settings → List ℕ → List ℕ → List ℕ → Entry
dot_call f c left right old = cond (is_extended f) (extended_dot_entry f c left right old)
    (dot_entry f c left right old)
