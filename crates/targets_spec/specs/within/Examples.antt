-- Examples of answers within an allowance of passes, worked out by exact arithmetic, as tests that
-- the checker computes.
use Rattle.std.specs.Prelude.{Bool, false, ◌&&◌, [], eqb, pos, ℕ, ℤ, List, ◌+◌, ◌-◌, ◌*◌, ◌^◌, true}
use Rattle.std.specs.Prelude.{◌∷◌, negsuc, ◌++◌, replicate, T as Holds}
use Rattle.std.specs.Bool.{beq}
use Rattle.std.proofs.Math.Option.{none, some}
use Rattle.std.specs.Float.Ieee.{size, span, climb}
use Rattle.totals_spec.specs.examples.Rows.{same_int, reads, refused_as, binary16, entered_as}
use Rattle.totals_spec.specs.formats.Format.{binary64, Format, bias, valid_format, lift}
use Rattle.totals_spec.specs.formats.Format.{exponent_range, depth, origin, fall, grid, rise}
use Rattle.totals_spec.specs.formats.Settings.{with_rounding, value, valid_settings, precision_of}
use Rattle.totals_spec.specs.terms.Terms.{exact_sum, single, product, item, pair_item, plus_sum}
use Rattle.totals_spec.specs.terms.Terms.{minus_sum, top_of}
use Rattle.totals_spec.specs.sums.Totals.{sum_terms, special, reported, sum_rounded, finite_total}
use Rattle.totals_spec.specs.sums.Totals.{without_nan, accepted, sum_refusal, sum_accepted}
use Rattle.totals_spec.specs.sums.Totals.{sum_answer, dot_refusal, dot_place, dot_accepted}
use Rattle.totals_spec.specs.sums.Totals.{dot_answer}
use Rattle.totals_spec.specs.chain.Chain.{pass, run, lost_end, look_at, half, residue, signed_from}
use Rattle.totals_spec.specs.chain.Chain.{wrapped, decide, sum_of, chain}
use Rattle.totals_spec.specs.rounding.IntoFormat.{reading_with}
use Rattle.totals_spec.specs.entries.Bytes.{Entry, value_bytes, values_in}
use Rattle.totals_spec.specs.Basics.{difference, raised}
use Rattle.totals_spec.specs.formats.Decode.{decode, is_subnormal, operand}
use Rattle.totals_spec.specs.rounding.Round.{dropped, rounded_at, overflows, largest, overflow}
use Rattle.totals_spec.specs.rounding.Round.{number_of, finished, tiny_sum, round_to, round}
use Rattle.totals_spec.specs.formats.Encode.{encode}
use Rattle.totals_spec.specs.rounding.Side.{leans_of, side_of}
use Rattle.totals_spec.specs.sums.Nan.{default_nan_of, select_all}
use Rattle.totals_spec.specs.chain.Standing.{standing, pass_of}
use Rattle.targets_spec.specs.within.Estimate.{Estimate, sum_within, dot_within, apart, shown}
use Rattle.targets_spec.specs.within.Estimate.{sum_within_entry, dot_within_entry, unfinished_at}
use Rattle.targets_spec.specs.within.Estimate.{within, estimate_written, estimate_entered}

-- no S and no boundary, and a mark of 0
abbrev unmarked : Estimate → Bool
unmarked e =
    eqb e.mark 0 && beq e.sum.neg false && eqb e.sum.mag 0 && eqb e.whole 0 && eqb e.minus 0
    && same_int e.unit (pos 0)

-- a full answer, and a refused one
abbrev ends : (result flags passes : ℕ) → ℤ → (side : ℕ) → Estimate → Bool
ends result flags passes edge side e = unmarked e && reads result flags passes edge side e.answer

abbrev refuses : ℕ → ℕ → Estimate → Bool
refuses n at e = unmarked e && refused_as n at e.answer

-- an unfinished one: passes, last edge, S as a sign and a magnitude, and the boundary's three
-- numbers
abbrev shows : (passes : ℕ) → ℤ → Bool → (magnitude whole minus : ℕ) → ℤ → Estimate → Bool
shows passes edge neg mag whole minus unit e =
    eqb e.mark 1 && reads 0 0 passes edge 0 e.answer
    && beq e.sum.neg neg && eqb e.sum.mag mag && eqb e.whole whole && eqb e.minus minus
    && same_int e.unit unit

abbrev sum64 : List ℕ → ℕ → Estimate
sum64 l k = sum_within binary64 (with_rounding 0) 0 l k

abbrev sum_by : Format → ℕ → List ℕ → ℕ → Estimate
sum_by f u l k = sum_within f (with_rounding 0) u l k

abbrev dot_by : Format → List ℕ → List ℕ → ℕ → Estimate
dot_by f xs ys k = dot_within f (with_rounding 0) xs ys k

-- how far what is shown lies from the exact sum
abbrev off_by : List ℕ → ℕ → (edge place : ℕ) → ℕ
off_by l k w q = apart (exact_sum (sum_terms binary64 (with_rounding 0) value l))
    (shown (sum64 l k) w q)

-- five digits and many exponents: of kind 0, with a named bias, and of another kind
unfoldable pub wide18 : Format
wide18 = record { kind = 0; E = 13; W = 18; named = none }

unfoldable pub wide_named : ℤ → Format
wide_named b = record { kind = 0; E = 13; W = 18; named = some b }

unfoldable pub wide17 : ℕ → Format
wide17 k = record { kind = k; E = 12; W = 17; named = none }

unfoldable pub estimate_examples : Bool
estimate_examples =
    -- −2^1023 and the least number: a pass without a boundary, one at a boundary below 0, and the
    -- end
    let l : List ℕ = 0xffe0000000000000 ∷ 1 ∷ [] in
    shows 1 (pos 321) true (2 ^ 702) 0 0 (pos 0) (sum64 l 1)
    && shows 2 (negsuc 379) false 0 0x20000000000000 1 (pos 970) (sum64 l 2)
    && ends 0xffe0000000000000 0xd0 3 (negsuc 1145) 1 (sum64 l 3)
    && ends 0xffe0000000000000 0xd0 3 (negsuc 1145) 1 (sum64 l 0xffffffffffffffff)
    -- C5 and C7
    && (let l : List ℕ = 0x7e70000000000000 ∷ 0x3ff0000000000000 ∷ 0xfe70000000000000 ∷ [] in
    shows 1 (pos 298) false 0 0 0 (pos 0) (sum64 l 1)
    && ends 0x3ff0000000000000 0 2 (negsuc 467) 0 (sum64 l 2))
    && (let l : List ℕ = 0x3ff0000000000000 ∷ 0x3ca0000000000000 ∷ 0x0170000000000000 ∷ [] in
    shows 1 (negsuc 701) false (2 ^ 702 + 2 ^ 649) 0 0 (pos 0) (sum64 l 1)
    && ends 0x3ff0000000000001 0x50 2 (negsuc 1402) 2 (sum64 l 2))
    -- 2^1000, −2^298, 2^297 twice, −2^−400 and the least number: a boundary one above the quotient,
    -- and an S below 0 beside it
    && (let l : List ℕ = 0x7e70000000000000 ∷ 0xd290000000000000 ∷ 0x5280000000000000
    ∷ 0x5280000000000000 ∷ 0xa6f0000000000000 ∷ 1 ∷ [] in
    shows 1 (pos 298) false (2 ^ 702 - 1) 0 0 (pos 0) (sum64 l 1)
    && shows 2 (negsuc 402) true 8 0x40000000000000 0 (pos 946) (sum64 l 2))
    -- magnitudes
    && shows 2 (negsuc 379) false 0 0x20000000000000 0 (pos 970)
    (sum_by binary64 1 (0xffe0000000000000 ∷ 0x8000000000000001 ∷ []) 2)
    -- squares of 2^1000 and 2^−1000
    && (let l : List ℕ = 0x7e70000000000000 ∷ 0x0170000000000000 ∷ [] in
    shows 1 (pos 1299) false (2 ^ 701) 0 0 (pos 0) (sum_by binary64 2 l 1)
    && shows 5 (negsuc 1699) false 0 0x20000000000000 0 (pos 1947) (sum_by binary64 2 l 5))
    -- dots: 2^2000 − 2^−900 + 2^−2000, with passes at one boundary; 2^2000 − 2^2000 + 2^−2000
    && (let xs : List ℕ = 0x7e70000000000000 ∷ 0x0170000000000000 ∷ 0x20b0000000000000 ∷ [] in
    let ys : List ℕ = 0x7e70000000000000 ∷ 0x0170000000000000 ∷ 0xa6f0000000000000 ∷ [] in
    shows 2 (pos 598) false 0 0x20000000000000 0 (pos 1947) (dot_by binary64 xs ys 2)
    && shows 3 (negsuc 167) false 0 0x20000000000000 0 (pos 1947) (dot_by binary64 xs ys 3)
    && shows 4 (negsuc 933) true (2 ^ 34) 0x20000000000000 0 (pos 1947) (dot_by binary64 xs ys 4))
    && (let xs : List ℕ = 0x7e70000000000000 ∷ 0xfe70000000000000 ∷ 0x0170000000000000 ∷ [] in
    let ys : List ℕ = 0x7e70000000000000 ∷ 0x7e70000000000000 ∷ 0x0170000000000000 ∷ [] in
    shows 1 (pos 1299) false 0 0 0 (pos 0) (dot_by binary64 xs ys 1)
    && shows 5 (negsuc 1764) false 0 0 0 (pos 0) (dot_by binary64 xs ys 5)
    && ends 0 0x38 6 (negsuc 2530) 1 (dot_by binary64 xs ys 6))
    -- inside a run of empty passes, without a boundary and with one
    && (let l : List ℕ = 0x1f9f0 ∷ 0x3f9f0 ∷ 0x5f0 ∷ [] in
    shows 1 (pos 3298) false 0 0 0 (pos 0) (sum_by wide18 0 l 1)
    && shows 2 (pos 2532) false 0 0 0 (pos 0) (sum_by wide18 0 l 2)
    && shows 9 (negsuc 2829) false 0 0 0 (pos 0) (sum_by wide18 0 l 9)
    && shows 10 (negsuc 3595) false 0 0 0 (pos 0) (sum_by wide18 0 l 10)
    && ends 0x5f0 0 11 (negsuc 4361) 0 (sum_by wide18 0 l 11))
    && (let l : List ℕ = 0x3f9f0 ∷ 0x5f0 ∷ [] in
    shows 1 (pos 3298) true (2 ^ 702) 0 0 (pos 0) (sum_by wide18 0 l 1)
    && shows 2 (pos 2597) false 0 0x20 1 (pos 3995) (sum_by wide18 0 l 2)
    && shows 3 (pos 1831) false 0 0x20 1 (pos 3995) (sum_by wide18 0 l 3)
    && shows 10 (negsuc 3530) false 0 0x20 1 (pos 3995) (sum_by wide18 0 l 10)
    && ends 0x3f9f0 0x50 11 (negsuc 4296) 1 (sum_by wide18 0 l 11))
    -- the other kinds
    && shows 5 (negsuc 1765) false 0 0 0 (pos 0)
    (sum_by (wide17 1) 0 (0xfcf0 ∷ 0x1fcf0 ∷ 0x102f0 ∷ []) 5)
    && shows 5 (negsuc 1765) false 0 0 0 (pos 0)
    (sum_by (wide17 2) 0 (0xfd00 ∷ 0x1fd00 ∷ 0x10300 ∷ []) 5)
    && shows 5 (negsuc 1765) false 0 0 0 (pos 0)
    (sum_by (wide17 3) 0 (0xfcf0 ∷ 0x1fcf0 ∷ 0x102f0 ∷ []) 5)
    -- a bias of −5000, and one of 9000: a sum, squares and a dot
    && (let f = wide_named (negsuc 4999) in
    shows 10 (pos 5405) false 0 0 0 (pos 0) (sum_by f 0 (0x1f410 ∷ 0x3f410 ∷ 0x5f1 ∷ []) 10)
    && shows 2 (pos 24600) false 0 0x20 0 (pos 25997) (sum_by f 2 (0x1f410 ∷ 0x5f0 ∷ []) 2)
    && shows 21 (pos 10046) false 0 0x20 1 (pos 25997)
    (dot_by f (0x1f410 ∷ 1 ∷ []) (0x3f410 ∷ 1 ∷ []) 21))
    && (let f = wide_named (pos 9000) in
    shows 10 (negsuc 8594) false 0 0 0 (pos 0) (sum_by f 0 (0x1f410 ∷ 0x3f410 ∷ 0x5f1 ∷ []) 10)
    && shows 2 (negsuc 3399) false 0 0x20 0 (negsuc 2002) (sum_by f 2 (0x1f410 ∷ 0x5f0 ∷ []) 2)
    && shows 21 (negsuc 17953) false 0 0x20 1 (negsuc 2002)
    (dot_by f (0x1f410 ∷ 1 ∷ []) (0x3f410 ∷ 1 ∷ []) 21))
    -- how far off, in units of 2^−2098: the least number, at the two boundaries above; and 3 × (2 −
    -- 2^−52) × 2^297 beside 2^1000, which is less than 4 units of 2^298 and more than 2
    && eqb (off_by (0xffe0000000000000 ∷ 1 ∷ []) 2 1718 3068) (2 ^ 1024)
    && eqb (off_by
    (0x7e70000000000000 ∷ 0xd290000000000000 ∷ 0x5280000000000000 ∷ 0x5280000000000000
    ∷ 0xa6f0000000000000 ∷ 1 ∷ []) 2 1695 3044) (2 ^ 1024)
    && (let l : List ℕ = 0x7e70000000000000 ∷ 0x528fffffffffffff ∷ 0x528fffffffffffff
    ∷ 0x528fffffffffffff ∷ [] in
    shows 1 (pos 298) false (2 ^ 702) 0 0 (pos 0) (sum64 l 1)
    && eqb (off_by l 1 2396 0) (3 * (2 ^ 53 - 1) * 2 ^ 2343))
    -- no pass: a NaN, an infinity, zeros, nothing; a subnormal that denormals-are-zero drops leaves
    -- one pass
    && ends 0x7ff8000000000000 0x80 0 (pos 0) 3
    (sum64 (0x7e70000000000000 ∷ 1 ∷ 0x7ff8000000000000 ∷ []) 1)
    && ends 0xfff0000000000000 0 0 (pos 0) 3
    (sum64 (0x7e70000000000000 ∷ 0xfff0000000000000 ∷ []) 1)
    && ends 0x8000000000000000 0 0 (pos 0) 0 (sum64 (0x8000000000000000 ∷ []) 1)
    && ends 0 0 0 (pos 0) 0 (dot_by binary64 [] [] 1)
    && ends 0x7e70000000000000 0x80 1 (pos 298) 0
    (sum_within binary64 (reading_with 1) 0 (0x7e70000000000000 ∷ 1 ∷ []) 1)
    -- refusals: 16 before 3 and all others; 3 of kind 4; 4; 5; 7 and its place
    && refuses 16 0 (sum_by (record { kind = 9; E = 1; W = 99; named = none }) 9 (0x10000 ∷ []) 0)
    && refuses 16 0 (dot_by binary16 (0x10000 ∷ []) [] 0)
    && refuses 3 0 (sum_by (record { kind = 4; E = 15; W = 80; named = none }) 3 [] 1)
    && refuses 3 0 (dot_by (record { kind = 4; E = 15; W = 80; named = none }) [] [] 1)
    && refuses 4 0 (sum_by binary16 3 (0x10000 ∷ []) 1)
    && refuses 5 0 (dot_by binary16 (0x10000 ∷ []) [] 1)
    && refuses 7 1 (sum_by binary16 0 (0 ∷ 0x10000 ∷ []) 1)
    && refuses 7 0 (dot_by binary16 (0 ∷ 0 ∷ []) (0x10000 ∷ 0 ∷ []) 7)

-- ---- the entries

abbrev entry64 : ℕ → List ℕ → List ℕ → Entry
entry64 k l old = sum_within_entry 0 11 64 0 (pos 0) (with_rounding 0) 0 k (value_bytes l) old

unfoldable pub estimate_entry_examples : Bool
estimate_entry_examples =
    -- −2^1023 and the least number, in 146 bytes and in 144: S below 0; an edge below 0 and a
    -- boundary; the full answer
    let l : List ℕ = 0xffe0000000000000 ∷ 1 ∷ [] in
    entered_as 0
    (replicate 9 0
    ++ (1 ∷ replicate 6 0
    ++ (1 ∷ replicate 7 0
    ++ (0x41 ∷ 1 ∷ replicate 109 0 ++ (0xc0 ∷ replicate 8 0xff ++ (7 ∷ 7 ∷ []))))))
    (entry64 1 l (replicate 146 7))
    && entered_as 0
    (replicate 9 0
    ++ (1 ∷ 0 ∷ 1
    ∷ replicate 4 0 ++ (2 ∷ replicate 7 0 ++ (0x84 ∷ 0xfe ∷ replicate 6 0xff ++ (replicate 6 0
    ++ (0x20 ∷ 0 ∷ 0xca ∷ 3 ∷ replicate 102 0 ++ (7 ∷ 7 ∷ [])))))))
    (entry64 2 l (replicate 146 7))
    && entered_as 0
    (replicate 6 0
    ++ (0xe0 ∷ 0xff ∷ 0xd0 ∷ 0 ∷ 1 ∷ replicate 5 0
    ++ (3 ∷ replicate 7 0 ++ (0x86 ∷ 0xfb ∷ replicate 6 0xff ++ replicate 112 0))))
    (entry64 3 l (replicate 144 7))
    -- the dot 2^2000 − 2^−900 + 2^−2000: S is −2^34 beside a boundary
    && entered_as 0
    (replicate 9 0
    ++ (1 ∷ replicate 6 0 ++ (4 ∷ replicate 7 0 ++ (0x5a ∷ 0xfc ∷ replicate 6 0xff ++ (replicate 6 0
    ++ (0x20 ∷ 0 ∷ 0x9b ∷ 7 ∷ replicate 10 0 ++ (0xfc ∷ replicate 91 0xff)))))))
    (dot_within_entry 0 11 64 0 (pos 0) (with_rounding 0) 4
    (value_bytes (0x7e70000000000000 ∷ 0x0170000000000000 ∷ 0x20b0000000000000 ∷ []))
    (value_bytes (0x7e70000000000000 ∷ 0x0170000000000000 ∷ 0xa6f0000000000000 ∷ []))
    (replicate 144 7))
    -- squares with a bias of 9000: both positions lie below 0
    && entered_as 0
    (replicate 9 0
    ++ (1 ∷ replicate 6 0
    ++ (2 ∷ replicate 7 0 ++ (0xb8 ∷ 0xf2 ∷ replicate 6 0xff ++ (0x20 ∷ replicate 7 0
    ++ (0x2d ∷ 0xf8 ∷ replicate 6 0xff ++ replicate 96 0))))))
    (sum_within_entry 0 13 18 1 (pos 9000) (with_rounding 0) 2 2
    (value_bytes (0x1f410 ∷ 0x5f0 ∷ [])) (replicate 144 7))
    -- refused: 1 before 2, 2 before 16, 16 before a bias beside none, this before 4; 7 with its
    -- place; 5 of a dot
    && entered_as 1 (replicate 143 7)
    (sum_within_entry 0 11 64 0 (pos 0) (with_rounding 0) 0 0 (replicate 7 0) (replicate 143 7))
    && entered_as 2 (replicate 143 7) (entry64 0 l (replicate 143 7))
    && entered_as 16 (replicate 144 7)
    (sum_within_entry 0 11 64 0 (pos 1) (with_rounding 0) 0 0 [] (replicate 144 7))
    && entered_as 3 (replicate 144 7)
    (sum_within_entry 0 11 64 0 (pos 1) (with_rounding 8) 0 1 [] (replicate 144 7))
    && entered_as (7 + 256) (replicate 144 7)
    (sum_within_entry 0 5 16 0 (pos 0) (with_rounding 0) 0 1 (value_bytes (0 ∷ 0x10000 ∷ []))
    (replicate 144 7))
    && entered_as 5 (replicate 144 7)
    (dot_within_entry 0 11 64 0 (pos 0) (with_rounding 0) 1 [] (replicate 8 0) (replicate 144 7))
    -- of kind 4 a value has ten bytes: one, four and none get 3, with a bias too, and sixteen bytes
    -- 1, of either list; 2, 16 and then 3
    && entered_as 3 (replicate 144 7)
    (sum_within_entry 4 15 80 0 (pos 0) (with_rounding 0) 0 1 (replicate 10 0) (replicate 144 7))
    && entered_as 3 (replicate 144 7)
    (sum_within_entry 4 15 80 1 (pos 16383) (with_rounding 0) 0 1 (replicate 40 0)
    (replicate 144 7))
    && entered_as 3 (replicate 144 7)
    (sum_within_entry 4 11 64 0 (pos 0) (with_rounding 0) 0 1 [] (replicate 144 7))
    && entered_as 1 (replicate 144 7)
    (sum_within_entry 4 15 80 0 (pos 0) (with_rounding 0) 0 1 (replicate 16 0) (replicate 144 7))
    && entered_as 2 (replicate 143 7)
    (sum_within_entry 4 15 80 0 (pos 0) (with_rounding 0) 0 0 (replicate 10 0) (replicate 143 7))
    && entered_as 16 (replicate 144 7)
    (sum_within_entry 4 15 80 0 (pos 0) (with_rounding 0) 0 0 (replicate 10 0) (replicate 144 7))
    && entered_as 3 (replicate 144 7)
    (dot_within_entry 4 15 80 0 (pos 0) (with_rounding 0) 1 (replicate 10 0) (replicate 20 0)
    (replicate 144 7))
    && entered_as 1 (replicate 144 7)
    (dot_within_entry 4 15 80 0 (pos 0) (with_rounding 0) 1 (replicate 10 0) (replicate 8 0)
    (replicate 144 7))

pub estimates-agree : Holds estimate_examples
unfolding
    estimate_examples wide18 wide_named wide17 binary16 binary64 with_rounding reading_with
    difference raised valid_format bias lift exponent_range depth origin fall grid rise
    valid_settings precision_of
    decode is_subnormal operand single product item pair_item plus_sum minus_sum top_of
    lost_end look_at half residue signed_from wrapped decide sum_of pass run chain size span climb
    dropped rounded_at overflows largest overflow number_of finished tiny_sum round_to round encode
    leans_of side_of default_nan_of select_all
    special reported sum_rounded finite_total without_nan accepted sum_refusal sum_accepted
    sum_answer dot_refusal dot_place dot_accepted dot_answer
    standing pass_of unfinished_at within sum_within dot_within shown
estimates-agree = tt

pub estimate-entries-agree : Holds estimate_entry_examples
unfolding
    estimate_entry_examples binary64 with_rounding values_in
    difference raised valid_format bias lift exponent_range depth origin fall grid rise
    valid_settings precision_of
    decode is_subnormal operand single product item pair_item plus_sum minus_sum top_of
    lost_end look_at half residue signed_from wrapped decide sum_of pass run chain size span climb
    dropped rounded_at overflows largest overflow number_of finished tiny_sum round_to round encode
    leans_of side_of default_nan_of select_all
    special reported sum_rounded finite_total without_nan accepted sum_refusal sum_accepted
    sum_answer dot_refusal dot_place dot_accepted dot_answer
    standing pass_of unfinished_at within sum_within dot_within estimate_written estimate_entered
    sum_within_entry dot_within_entry
estimate-entries-agree = tt
