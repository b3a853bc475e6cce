-- Examples of mirrors and squares, worked out by exact arithmetic, as tests that the checker
-- computes.
use Rattle.std.specs.Prelude.{ℕ, List, [], Bool, ◌&&◌, map, eqb, ℤ, ◌∷◌, pos, negsuc, T as Holds}
use Rattle.std.proofs.Math.Option.{some}
use Rattle.std.specs.Float.Ieee.{size, span, climb}
use Rattle.totals_spec.specs.formats.Format.{Format, binary64, bias, grid, valid_format, lift}
use Rattle.totals_spec.specs.formats.Format.{exponent_range, depth, origin, fall, rise}
use Rattle.totals_spec.specs.formats.Settings.{Settings, valid_settings, precision_of}
use Rattle.totals_spec.specs.sums.Totals.{Answer, sum_answer, dot_answer, special, sum_rounded}
use Rattle.totals_spec.specs.sums.Totals.{reported, finite_total, without_nan, accepted}
use Rattle.totals_spec.specs.sums.Totals.{sum_refusal, sum_accepted, dot_refusal, dot_place}
use Rattle.totals_spec.specs.sums.Totals.{dot_accepted}
use Rattle.totals_spec.specs.Basics.{same_list, difference, raised}
use Rattle.totals_spec.specs.examples.Rows.{reads, with, binary16, half16, refused_as, no_inf8}
use Rattle.totals_spec.specs.examples.Rows.{fnuz8, finite4}
use Rattle.totals_spec.specs.ten_bytes.Extended.{kind4, extended_sum_answer, extended_dot_answer}
use Rattle.totals_spec.specs.ten_bytes.Extended.{extended, valid_extended, unsupported}
use Rattle.totals_spec.specs.ten_bytes.Extended.{decode_extended, subnormal_extended}
use Rattle.totals_spec.specs.ten_bytes.Extended.{extended_operand, spread, extended_accepted}
use Rattle.totals_spec.specs.ten_bytes.Extended.{extended_item, extended_sum, extended_sum_refusal}
use Rattle.totals_spec.specs.ten_bytes.Extended.{extended_pair, extended_dot, extended_dot_refusal}
use Rattle.totals_spec.specs.chain.Chain.{half, lost_end, look_at, wrapped, decide, sum_of, pass}
use Rattle.totals_spec.specs.chain.Chain.{run, chain}
use Rattle.totals_spec.specs.rounding.Round.{largest, dropped, rounded_at, overflows, overflow}
use Rattle.totals_spec.specs.rounding.Round.{number_of, finished, tiny_sum, round_to, round}
use Rattle.totals_spec.specs.formats.Decode.{decode, is_subnormal, operand}
use Rattle.totals_spec.specs.terms.Terms.{single, product, item, pair_item, plus_sum, minus_sum}
use Rattle.totals_spec.specs.terms.Terms.{top_of}
use Rattle.totals_spec.specs.formats.Encode.{encode}
use Rattle.totals_spec.specs.sums.Nan.{default_nan_of, select_all}
use Rattle.totals_spec.specs.rounding.Side.{leans_of, side_of}
use Rattle.mirror_spec.specs.Mirror.{exchanged, negated, negated_extended}

abbrev sums : Format → (ℕ → Settings) → ℕ → List ℕ → Answer
sums f c m l = sum_answer f (c m) 0 l

-- by the left list
abbrev dots : Format → (ℕ → Settings) → List ℕ → ℕ → List ℕ → Answer
dots f c ys m xs = dot_answer f (c m) xs ys

-- a mode and the exchanged one, a list and its negatives; the two results, flags, passes, last
-- edge, the two sides
abbrev mirror_by : (ℕ → ℕ) → (ℕ → List ℕ → Answer)
    → (mode other : ℕ) (list negatives : List ℕ) (result negative flags passes : ℕ) → ℤ
    → (side other_side : ℕ) → Bool
mirror_by minus total m n l k result negative flags passes edge side other =
    eqb (exchanged m) n && same_list (map minus l) k
    && reads result flags passes edge side (total m l)
    && reads negative flags passes edge other (total n k)

abbrev mirror : Format → (ℕ → List ℕ → Answer)
    → (mode other : ℕ) (list negatives : List ℕ) (result negative flags passes : ℕ) → ℤ
    → (side other_side : ℕ) → Bool
mirror f = mirror_by (negated f)

-- of kind 4
abbrev sums4 : ℕ → List ℕ → Answer
sums4 m l = extended_sum_answer kind4 (with 0 0 0 0 m) 0 l

abbrev dots4 : List ℕ → ℕ → List ℕ → Answer
dots4 ys m xs = extended_dot_answer kind4 (with 0 0 0 0 m) xs ys

-- a square sum, and the dot product of the list with itself
abbrev squares : Format → Settings → List ℕ → (Answer → Bool) → Bool
squares f c l test = test (sum_answer f c 2 l) && test (dot_answer f c l l)

unfoldable pub mirror_examples : Bool
mirror_examples =
    -- C7 toward positive
    mirror binary64 (sums binary64 (with 0 0 0 0)) 3 4
    (0x3ff0000000000000 ∷ 0x3ca0000000000000 ∷ 0x0170000000000000 ∷ [])
    (0xbff0000000000000 ∷ 0xbca0000000000000 ∷ 0x8170000000000000
    ∷ []) 0x3ff0000000000001 0xbff0000000000001 0x50 2 (negsuc 1402) 2 1
    -- the largest number twice, toward negative and toward positive; in Finite, ties away
    && mirror binary16 (sums binary16 (with 0 0 0 0)) 4 3 (0x7bff ∷ 0x7bff ∷ [])
    (0xfbff ∷ 0xfbff ∷ []) 0x7bff 0xfbff 0x14 1 (negsuc 686) 1 2
    && mirror binary16 (sums binary16 (with 0 0 0 0)) 3 4 (0x7bff ∷ 0x7bff ∷ [])
    (0xfbff ∷ 0xfbff ∷ []) 0x7c00 0xfc00 0x54 1 (negsuc 686) 3 3
    && mirror finite4 (sums finite4 (with 0 0 0 0)) 1 1 (0x7 ∷ 0x7 ∷ [])
    (0xf ∷ 0xf ∷ []) 0x7 0xf 0x14 1 (negsuc 699) 1 2
    -- Fnuz: 0 and 1/2, and the largest number twice, saturated
    && mirror fnuz8 (sums fnuz8 (with 0 0 0 0)) 0 0 (0 ∷ 0x38 ∷ []) (0 ∷ 0xb8 ∷ []) 0x38 0xb8 0 1
    (negsuc 702) 0 0
    && mirror fnuz8 (sums fnuz8 (with 0 0 1 0)) 0 0 (0x7f ∷ 0x7f ∷ [])
    (0xff ∷ 0xff ∷ []) 0x7f 0xff 0x14 1 (negsuc 694) 1 2
    -- NoInf, to odd; −0, the least number and 1, under denormals-are-zero; 1 and 2^−11 in 5 digits
    && mirror no_inf8 (sums no_inf8 (with 0 0 0 0)) 7 7 (0x38 ∷ 0x13 ∷ [])
    (0xb8 ∷ 0x93 ∷ []) 0x39 0xb9 0x50 1 (negsuc 701) 2 1
    && mirror binary16 (sums binary16 (with 0 1 0 0)) 0 0 (0x8000 ∷ 1 ∷ 0x3c00 ∷ [])
    (0 ∷ 0x8001 ∷ 0xbc00 ∷ []) 0x3c00 0xbc00 0x80 1 (negsuc 701) 0 0
    && mirror binary16 (sums binary16 (with 0 0 0 5)) 3 4 (0x3c00 ∷ 0x1000 ∷ [])
    (0xbc00 ∷ 0x9000 ∷ []) 0x3c40 0xbc40 0x50 1 (negsuc 701) 2 1
    -- a bias of −40
    && mirror (half16 (negsuc 39)) (sums (half16 (negsuc 39)) (with 0 0 0 0)) 4 3
    (0x3c00 ∷ 0x8001 ∷ 0x1000 ∷ []) (0xbc00 ∷ 0x0001 ∷ 0x9000 ∷ [])
    0x3c00 0xbc00 0x90 1 (negsuc 646) 1 2
    -- dots: half of the least number, tiny after rounding; with a bias of −2000, where the grid of
    -- products lies below their unit; in Fnuz with a bias of −3
    && mirror binary16 (dots binary16 (with 1 0 0 0) (0x3800 ∷ [])) 3 4 (1 ∷ [])
    (0x8001 ∷ []) 1 0x8001 0xf8 1 (negsuc 725) 2 1
    && mirror (half16 (negsuc 1999)) (dots (half16 (negsuc 1999)) (with 0 0 0 0) (1 ∷ 2 ∷ [])) 3 4
    (1 ∷ 0x8001 ∷ []) (0x8001 ∷ 1 ∷ [])
    0xfbff 0x7bff 0x94 1 (pos 3282) 2 1
    && mirror (record { kind = 2; E = 4; W = 8; named = some (negsuc 2) })
    (dots (record { kind = 2; E = 4; W = 8; named = some (negsuc 2) }) (with 0 0 0 0)
    (0x09 ∷ 0x88 ∷ 0x01 ∷ []))
    3 4 (0x09 ∷ 0 ∷ 0x88 ∷ []) (0x89 ∷ 0 ∷ 0x08 ∷ []) 0x2a 0xaa 0xd0 1 (negsuc 692) 2 1
    -- kind 4: 1 and 2^−64; a pseudo-denormal and the least number's negative; twice the largest
    -- number
    && mirror_by negated_extended sums4 3 4 (0x3fff8000000000000000 ∷ 0x3fbf8000000000000000 ∷ [])
    (0xbfff8000000000000000 ∷ 0xbfbf8000000000000000 ∷ [])
    0x3fff8000000000000001 0xbfff8000000000000001 0x50 1 (negsuc 701) 2 1
    && mirror_by negated_extended sums4 0 0 (0x8000000000000000 ∷ 0x80000000000000000001 ∷ [])
    (0x80008000000000000000 ∷ 1 ∷ [])
    0x7fffffffffffffff 0x80007fffffffffffffff 0xa0 1 (negsuc 17083) 0 0
    && mirror_by negated_extended (dots4 (0x40008000000000000000 ∷ [])) 4 3
    (0x7ffeffffffffffffffff ∷ []) (0xfffeffffffffffffffff ∷ [])
    0x7ffeffffffffffffffff 0xfffeffffffffffffffff 0x14 1 (pos 15683) 1 2
    -- nothing is claimed of Fnuz's NaN and of a zero: the negatives have the same
    && reads 0x80 0x14 1 (negsuc 694) 3 (sums fnuz8 (with 0 0 0 0) 0 (0x7f ∷ 0x7f ∷ []))
    && reads 0x80 0x14 1 (negsuc 694) 3 (sums fnuz8 (with 0 0 0 0) 0 (0xff ∷ 0xff ∷ []))
    && reads 0 0 1 (negsuc 701) 0 (sums binary16 (with 0 0 0 0) 0 (0x3c00 ∷ 0xbc00 ∷ []))
    && reads 0 0 1 (negsuc 701) 0 (sums binary16 (with 0 0 0 0) 0 (0xbc00 ∷ 0x3c00 ∷ []))
    -- squares: of 1/3 and the least number's negative; with a bias of −2000, toward zero; of −∞ and
    -- the least number; of a list that is refused
    && squares binary16 (with 0 0 0 0 0) (0x3555 ∷ 0x8001 ∷ []) (reads 0x2f1c 0xd0 1 (negsuc 704) 2)
    && squares (half16 (negsuc 1999)) (with 0 0 0 0 5) (1 ∷ []) (reads 0x7bff 0x94 1 (pos 3281) 1)
    && squares binary16 (with 0 0 0 0 0) (0xfc00 ∷ 1 ∷ []) (reads 0x7c00 0x80 0 (pos 0) 3)
    && squares binary16 (with 0 0 0 0 0) (0 ∷ 0x10000 ∷ []) (refused_as 7 1)
    -- and with a NaN behind −∞ the two differ
    && reads 0x7c00 0 0 (pos 0) 3 (sum_answer binary16 (with 0 0 0 0 0) 2 (0xfc00 ∷ 0x7e00 ∷ []))
    && reads 0x7e00 0 0 (pos 0) 3
    (dot_answer binary16 (with 0 0 0 0 0) (0xfc00 ∷ 0x7e00 ∷ []) (0xfc00 ∷ 0x7e00 ∷ []))

-- THE THEOREM: the tests compute to true
pub mirrors-agree : Holds mirror_examples
unfolding
    mirror_examples with no_inf8 fnuz8 finite4 binary16 half16 binary64 negated
    difference raised valid_format bias lift exponent_range depth origin fall grid rise
    valid_settings precision_of
    decode is_subnormal operand single product item pair_item plus_sum minus_sum top_of
    lost_end look_at half wrapped decide sum_of pass run chain size span climb
    dropped rounded_at overflows largest overflow number_of finished tiny_sum round_to round encode
    leans_of side_of default_nan_of select_all
    special sum_rounded reported finite_total without_nan accepted sum_refusal sum_accepted
    sum_answer dot_refusal dot_place dot_accepted dot_answer
    extended valid_extended unsupported decode_extended subnormal_extended extended_operand spread
    extended_accepted extended_item extended_sum extended_sum_refusal
    extended_sum_answer extended_pair extended_dot extended_dot_refusal extended_dot_answer
mirrors-agree = tt
