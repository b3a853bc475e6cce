-- Examples of contributions, worked out by exact arithmetic over all numbers of a format, as tests
-- that the checker computes.
use Rattle.std.specs.Prelude.{[], ℤ, ℕ, zero, suc, ◌+◌, cond, List, ◌∷◌, eqb, ◌-◌, Bool, ◌&&◌, pos}
use Rattle.std.specs.Prelude.{negsuc, not, ltb, ◌++◌, replicate, T as Holds}
use Rattle.std.proofs.Math.Option.{none, some}
use Rattle.std.specs.Float.Ieee.{size, span, climb}
use Rattle.totals_spec.specs.formats.Format.{Format, binary64, bias, valid_format, lift}
use Rattle.totals_spec.specs.formats.Format.{exponent_range, depth, origin, fall, grid, rise}
use Rattle.totals_spec.specs.formats.Settings.{Settings, with_rounding, valid_settings}
use Rattle.totals_spec.specs.formats.Settings.{precision_of}
use Rattle.totals_spec.specs.Basics.{same_list, difference, raised}
use Rattle.totals_spec.specs.rounding.Round.{largest, dropped, rounded_at, overflows, overflow}
use Rattle.totals_spec.specs.rounding.Round.{number_of, finished, tiny_sum, round_to, round}
use Rattle.totals_spec.specs.examples.Rows.{with, binary16, half16}
use Rattle.totals_spec.specs.entries.Bytes.{Entry}
use Rattle.totals_spec.specs.formats.Decode.{decode, is_subnormal, operand}
use Rattle.totals_spec.specs.terms.Terms.{single, product, item, plus_sum, minus_sum, top_of}
use Rattle.totals_spec.specs.chain.Chain.{lost_end, look_at, half, wrapped, decide, sum_of, pass}
use Rattle.totals_spec.specs.chain.Chain.{run, chain}
use Rattle.totals_spec.specs.formats.Encode.{encode}
use Rattle.totals_spec.specs.sums.Nan.{default_nan_of, select_all}
use Rattle.totals_spec.specs.rounding.Side.{leans_of, side_of}
use Rattle.totals_spec.specs.sums.Totals.{special, sum_rounded, reported, finite_total, without_nan}
use Rattle.totals_spec.specs.sums.Totals.{accepted, sum_refusal, sum_accepted, sum_answer}
use Rattle.targets_spec.specs.contribution.Contribution.{contribution, rank_of, number_at, reaches}
use Rattle.targets_spec.specs.contribution.Contribution.{rank_with, Contribution}
use Rattle.targets_spec.specs.contribution.Contribution.{contribution_entry, first_rank, last_rank}
use Rattle.targets_spec.specs.contribution.Contribution.{least_rank, found, contribution_refusal}
use Rattle.targets_spec.specs.several.Examples.{binary32, under}

-- Ieee of four bits, its own bias or a named one, and of five
unfoldable pub tiny : Format
tiny = record { kind = 0; E = 2; W = 4; named = none }

unfoldable pub tiny_by : ℤ → Format
tiny_by b = record { kind = 0; E = 2; W = 4; named = some b }

unfoldable pub small : Format
small = record { kind = 0; E = 3; W = 5; named = none }

-- the answers for n wanted totals, from one on: the number found, or 256 more than the refusal
abbrev answers_from : Format → Settings → List ℕ → (n from : ℕ) → List ℕ
answers_from f c l zero w = []
answers_from f c l (suc n) w =
    let x = contribution f c l w in cond (eqb x.refusal 0) x.number (256 + x.refusal)
    ∷ answers_from f c l n (suc w)

unfoldable pub contribution_examples : Bool
contribution_examples =
    -- 2 and −0.375 in five bits, in the eight modes
    same_list (answers_from small (with 0 0 0 0 0) (8 ∷ 0x13 ∷ []) 14 0)
    (0x10e ∷ 0x17 ∷ 0x10e ∷ 0x10e ∷ 0x16 ∷ 0x10e ∷ 0x15 ∷ 0x12 ∷ 1 ∷ 6 ∷ 8 ∷ 0xa ∷ 0xb ∷ 0xd ∷ [])
    && same_list (answers_from small (with 0 0 0 0 1) (8 ∷ 0x13 ∷ []) 14 0)
    (0x10e ∷ 0x17 ∷ 0x10e ∷ 0x10e ∷ 0x10e ∷ 0x16 ∷ 0x15 ∷ 0x13 ∷ 1 ∷ 6 ∷ 8 ∷ 0xa ∷ 0xb ∷ 0xd ∷ [])
    && same_list (answers_from small (with 0 0 0 0 2) (8 ∷ 0x13 ∷ []) 14 0)
    (0x10e ∷ 0x17 ∷ 0x10e ∷ 0x10e ∷ 0x16 ∷ 0x15 ∷ 0x14 ∷ 0x12 ∷ 2 ∷ 6 ∷ 8 ∷ 0xa ∷ 0xb ∷ 0xd ∷ [])
    && same_list (answers_from small (with 0 0 0 0 3) (8 ∷ 0x13 ∷ []) 14 0)
    (0x10e ∷ 0x17 ∷ 0x10e ∷ 0x10e ∷ 0x10e ∷ 0x16 ∷ 0x15 ∷ 0x14 ∷ 0 ∷ 4 ∷ 7 ∷ 9 ∷ 0xb ∷ 0xc ∷ [])
    && same_list (answers_from small (with 0 0 0 0 4) (8 ∷ 0x13 ∷ []) 14 0)
    (0x10e ∷ 0x17 ∷ 0x10e ∷ 0x10e ∷ 0x16 ∷ 0x15 ∷ 0x14 ∷ 0x11 ∷ 3 ∷ 7 ∷ 9 ∷ 0xb ∷ 0xc ∷ 0xd ∷ [])
    && same_list (answers_from small (with 0 0 0 0 5) (8 ∷ 0x13 ∷ []) 14 0)
    (0x10e ∷ 0x17 ∷ 0x10e ∷ 0x10e ∷ 0x16 ∷ 0x15 ∷ 0x14 ∷ 0x11 ∷ 3 ∷ 7 ∷ 9 ∷ 0xb ∷ 0xc ∷ 0xd ∷ [])
    && same_list (answers_from small (with 0 0 0 0 6) (8 ∷ 0x13 ∷ []) 14 0)
    (0x10e ∷ 0x17 ∷ 0x10e ∷ 0x10e ∷ 0x10e ∷ 0x16 ∷ 0x15 ∷ 0x14 ∷ 0 ∷ 4 ∷ 7 ∷ 9 ∷ 0xb ∷ 0xc ∷ [])
    && same_list (answers_from small (with 0 0 0 0 7) (8 ∷ 0x13 ∷ []) 14 0)
    (0x10e ∷ 0x17 ∷ 0x10e ∷ 0x10e ∷ 0x10e ∷ 0x16 ∷ 0x10e ∷ 0x14 ∷ 3 ∷ 4 ∷ 0x10e ∷ 9 ∷ 0x10e ∷ 0xc
    ∷ [])
    -- −2 and 0.375, toward positive and toward negative
    && same_list (answers_from small (with 0 0 0 0 3) (0x18 ∷ 3 ∷ []) 14 0x10)
    (0x10e ∷ 7 ∷ 0x10e ∷ 0x10e ∷ 6 ∷ 5 ∷ 2 ∷ 0x12 ∷ 0x16 ∷ 0x18 ∷ 0x1a ∷ 0x1b ∷ 0x1c ∷ 0x1d ∷ [])
    && same_list (answers_from small (with 0 0 0 0 4) (0x18 ∷ 3 ∷ []) 14 0x10)
    (0x10e ∷ 7 ∷ 0x10e ∷ 0x10e ∷ 0x10e ∷ 6 ∷ 5 ∷ 1 ∷ 0x13 ∷ 0x16 ∷ 0x18 ∷ 0x1a ∷ 0x1b ∷ 0x1c ∷ [])
    -- of four bits: no values; one, and two that nothing takes back to zero; the largest magnitude,
    -- with saturate
    && same_list (answers_from tiny (with 0 0 0 0 0) [] 16 0)
    (0 ∷ 1 ∷ 2 ∷ 3 ∷ 4 ∷ 5 ∷ 0x10f ∷ 0x10f ∷ 0 ∷ 9 ∷ 0xa ∷ 0xb ∷ 0xc ∷ 0xd ∷ 0x10f ∷ 0x10f ∷ [])
    && same_list (answers_from tiny (with 0 0 0 0 0) (5 ∷ []) 16 0)
    (0xd ∷ 0x10e ∷ 0xc ∷ 0xb ∷ 0xa ∷ 0 ∷ 0x10f ∷ 0x10f ∷ 0xd ∷ 0x10e ∷ 0x10e ∷ 0x10e ∷ 0x10e ∷ 0x10e
    ∷ 0x10f ∷ 0x10f ∷ [])
    && same_list (answers_from tiny (with 0 0 0 0 0) (5 ∷ 5 ∷ []) 16 0)
    (0x10e ∷ 0x10e ∷ 0x10e ∷ 0x10e ∷ 0x10e ∷ 0xd ∷ 0x10f ∷ 0x10f ∷ 0x10e ∷ 0x10e ∷ 0x10e ∷ 0x10e
    ∷ 0x10e ∷ 0x10e ∷ 0x10f ∷ 0x10f ∷ [])
    && same_list (answers_from tiny (with 0 0 1 0 0) (0xd ∷ []) 16 0)
    (5 ∷ 0x10e ∷ 0x10e ∷ 0x10e ∷ 0x10e ∷ 0x10e ∷ 0x10f ∷ 0x10f ∷ 5 ∷ 0x10e ∷ 4 ∷ 3 ∷ 1 ∷ 0xd ∷ 0x10f
    ∷ 0x10f ∷ [])
    -- to one digit: to nearest, to odd, and away from zero with saturate
    && same_list (answers_from tiny (with 0 0 0 1 0) (3 ∷ []) 16 0)
    (0xc ∷ 0x10e ∷ 9 ∷ 0x10e ∷ 0 ∷ 0x10e ∷ 0x10f ∷ 0x10f ∷ 0xc ∷ 0x10e ∷ 0x10e ∷ 0x10e ∷ 0xd ∷ 0x10e
    ∷ 0x10f ∷ 0x10f ∷ [])
    && same_list (answers_from tiny (with 0 0 0 1 7) (9 ∷ 0xa ∷ []) 16 0)
    (3 ∷ 0x10e ∷ 4 ∷ 0x10e ∷ 0x10e ∷ 0x10e ∷ 0x10f ∷ 0x10f ∷ 3 ∷ 0x10e ∷ 0 ∷ 0x10e ∷ 0xd ∷ 0x10e
    ∷ 0x10f ∷ 0x10f ∷ [])
    && same_list (answers_from tiny (with 0 0 1 1 6) (0xa ∷ []) 16 0)
    (2 ∷ 0x10e ∷ 3 ∷ 0x10e ∷ 5 ∷ 0x10e ∷ 0x10f ∷ 0x10f ∷ 2 ∷ 0x10e ∷ 0 ∷ 0x10e ∷ 0xd ∷ 0x10e ∷ 0x10f
    ∷ 0x10f ∷ [])
    -- with biases of −3 and 5
    && same_list (answers_from (tiny_by (negsuc 2)) (with 0 0 0 0 3) (4 ∷ 9 ∷ 9 ∷ []) 16 0)
    (0xa ∷ 9 ∷ 0 ∷ 1 ∷ 2 ∷ 3 ∷ 0x10f ∷ 0x10f ∷ 0xa ∷ 0xb ∷ 0xc ∷ 0x10e ∷ 0xd ∷ 0x10e ∷ 0x10f ∷ 0x10f
    ∷ [])
    && same_list (answers_from (tiny_by (pos 5)) (with 0 0 0 0 4) (0xc ∷ 8 ∷ 1 ∷ []) 16 0)
    (3 ∷ 4 ∷ 0x10e ∷ 5 ∷ 0x10e ∷ 0x10e ∷ 0x10f ∷ 0x10f ∷ 3 ∷ 2 ∷ 1 ∷ 0 ∷ 9 ∷ 0xb ∷ 0x10f ∷ 0x10f
    ∷ [])

-- ---- wider formats: not every number is tried

-- a number that does it, where the one below does not
abbrev least_at : Format → Settings → List ℕ → (wanted b : ℕ) → Bool
least_at f c l w b = eqb (number_at f (rank_of f b)) b && reaches f c l w (rank_of f b)
    && not (reaches f c l w (rank_of f b - 1))

-- a number with which the sum is below the wanted total, where it is above with the next
abbrev missed_at : Format → Settings → List ℕ → (wanted r : ℕ) → Bool
missed_at f c l w r = ltb (rank_with f c l (number_at f r)) (rank_of f w)
    && ltb (rank_of f w) (rank_with f c l (number_at f (suc r)))

unfoldable pub wide_contributions : Bool
wide_contributions =
    -- the ends of what rounds to a total; none for more digits than the precision has, for an even
    -- number to odd, and far from the list
    least_at binary16 (with 0 0 0 0 0) (0x3c00 ∷ []) 0x3c00 0x8c00
    && least_at binary16 (with 0 0 0 0 4) (0x3c00 ∷ []) 0x3c00 0
    && least_at binary16 (with 0 0 0 0 3) (0x3c00 ∷ []) 0x3c01 1
    && least_at binary16 (with 0 0 0 0 0) (0x7bff ∷ []) 0x7bff 0xcbff
    && least_at binary16 (with 0 0 0 0 0) (0x7bff ∷ 0x7bff ∷ []) 0x7bff 0xfbff
    && least_at binary16 (with 0 0 0 0 5) (0x7bff ∷ 0x7bff ∷ []) 0x7bff 0xfbff
    && least_at binary16 (with 0 0 0 0 0) (1 ∷ []) 0x8000 0x8001
    && least_at binary16 (with 0 0 0 1 0) [] 0x8000 0x8200
    && missed_at binary16 (with 0 0 0 3 0) (0x3c00 ∷ []) 0x3c01 0xb000
    && least_at binary32 (with 0 0 0 0 0) (0x3f800000 ∷ 0x33800000 ∷ []) 0x3f800000 0xb3c00000
    && least_at binary32 (with 0 0 1 0 0) (0x7f7fffff ∷ []) 0x7f7fffff 0xf2ffffff
    && least_at binary64 (with 0 0 0 0 0)
    (0x3ff0000000000000 ∷ []) 0x3ff0000000000000 0xbc90000000000000
    && missed_at binary64 (with 0 0 0 0 7)
    (0x3c30000000000000 ∷ []) 0x3ff0000000000000 0xbfefffffffffffff
    && least_at binary64 (with 0 0 0 0 0)
    (0x3fb999999999999a ∷ 0x3fc999999999999a ∷ 0x3fd3333333333333
    ∷ []) 0x3ff0000000000000 0x3fd9999999999999
    && missed_at binary64 (with 0 0 0 0 0)
    (0x7e37e43c8800759c ∷ 0x81a56e1fc2f8f359 ∷ []) 0x3ff0000000000000 0x1c81bc377ff8a64
    && least_at binary64 (with 0 0 0 0 5)
    (0x406f400000000000 ∷ 0x406f400000000000 ∷ 0x406f400000000000 ∷ 0x4058ff5c28f5c28f
    ∷ []) 0x408f400000000000 0x4062c051eb851eb9

-- ---- refusals

abbrev refused_with : (n at : ℕ) → Contribution → Bool
refused_with n at x = eqb x.refusal n && eqb x.place at && eqb x.number 0

unfoldable pub refused_contributions : Bool
refused_contributions =
    -- 3: another kind, kind 4, a bias too far; before 4
    refused_with 3 0
    (contribution (record { kind = 1; E = 4; W = 8; named = none }) (with 0 0 0 0 0) [] 0)
    && refused_with 3 0
    (contribution (record { kind = 3; E = 2; W = 4; named = none }) (under 0 0 1 0 0) [] 0)
    && refused_with 3 0
    (contribution (record { kind = 4; E = 15; W = 80; named = none }) (with 0 0 0 0 0) [] 0)
    && refused_with 3 0 (contribution (half16 (pos 268435457)) (with 0 0 0 0 0) [] 0)
    -- 4: flush to zero, denormals-are-zero, a mode and a precision out of range; before 7
    && refused_with 4 0 (contribution binary16 (under 0 0 1 0 0) (0x10000 ∷ []) 0)
    && refused_with 4 0 (contribution binary16 (under 0 0 0 1 0) [] 0)
    && refused_with 4 0 (contribution binary16 (with_rounding 8) [] 0)
    && refused_with 4 0 (contribution binary16 (with 0 0 0 12 0) [] 0)
    -- 7: in the list, before the wanted total; in the wanted total, at the list's length; before 15
    && refused_with 7 1 (contribution tiny (with 0 0 0 0 0) (6 ∷ 0x10 ∷ []) 0x10)
    && refused_with 7 2 (contribution tiny (with 0 0 0 0 0) (5 ∷ 7 ∷ []) 0x10)
    && refused_with 7 0 (contribution binary64 (with 0 0 0 0 0) [] 0x10000000000000000)
    -- 15: an infinity or a NaN, in the list or wanted; before 14
    && refused_with 15 0 (contribution tiny (with 0 0 0 0 0) (0xe ∷ []) 0)
    && refused_with 15 0 (contribution tiny (with 0 0 0 0 0) (5 ∷ 7 ∷ []) 0xd)
    && refused_with 15 0 (contribution binary64 (with 0 0 0 0 0) [] 0x7ff0000000000000)
    -- 14
    && refused_with 14 0 (contribution tiny (with 0 0 0 0 0) (5 ∷ []) 1)

-- ---- the entry

abbrev enters : (code : ℕ) → List ℕ → Entry → Bool
enters n buffer e = eqb e.code n && same_list e.buffer buffer

unfoldable pub contribution_entries : Bool
contribution_entries =
    -- 3 and −2 make 1; byte 8 stays
    enters 0 (0xc ∷ replicate 7 0 ++ (9 ∷ []))
    (contribution_entry 0 2 4 0 (pos 0) (with 0 0 0 0 0) 2 (5 ∷ []) (replicate 9 9))
    -- with a bias of −3
    && enters 0 (0xb ∷ replicate 7 0)
    (contribution_entry 0 2 4 1 (negsuc 2) (with 0 0 0 0 3) 9 (4 ∷ 9 ∷ 9 ∷ []) (replicate 8 9))
    -- 14, 7 at place 1; 2 before 3, and 3
    && enters 14 (replicate 8 9)
    (contribution_entry 0 2 4 0 (pos 0) (with 0 0 0 0 0) 1 (5 ∷ []) (replicate 8 9))
    && enters 0x107 (replicate 8 9)
    (contribution_entry 0 2 4 0 (pos 0) (with 0 0 0 0 0) 0x10 (5 ∷ []) (replicate 8 9))
    && enters 2 (replicate 7 9)
    (contribution_entry 0 2 4 0 (pos 1) (with 0 0 0 0 0) 2 (5 ∷ []) (replicate 7 9))
    && enters 3 (replicate 8 9)
    (contribution_entry 0 2 4 0 (pos 1) (with 0 0 0 0 0) 2 (5 ∷ []) (replicate 8 9))

pub contributions-agree : Holds contribution_examples
unfolding
    contribution_examples binary16 half16 binary32 binary64 tiny tiny_by small with under
    with_rounding
    difference raised valid_format bias lift exponent_range depth origin fall grid rise
    valid_settings precision_of
    decode is_subnormal operand single product item plus_sum minus_sum top_of
    lost_end look_at half wrapped decide sum_of pass run chain size span climb
    dropped rounded_at overflows largest overflow number_of finished tiny_sum round_to round encode
    leans_of side_of default_nan_of select_all
    special sum_rounded reported finite_total without_nan accepted sum_refusal sum_accepted
    sum_answer
    rank_of number_at first_rank last_rank rank_with reaches least_rank found contribution_refusal
    contribution
contributions-agree = tt

pub wide-contributions-agree : Holds wide_contributions
unfolding
    wide_contributions binary16 half16 binary32 binary64 tiny tiny_by small with under with_rounding
    difference raised valid_format bias lift exponent_range depth origin fall grid rise
    valid_settings precision_of
    decode is_subnormal operand single product item plus_sum minus_sum top_of
    lost_end look_at half wrapped decide sum_of pass run chain size span climb
    dropped rounded_at overflows largest overflow number_of finished tiny_sum round_to round encode
    leans_of side_of default_nan_of select_all
    special sum_rounded reported finite_total without_nan accepted sum_refusal sum_accepted
    sum_answer
    rank_of number_at first_rank last_rank rank_with reaches least_rank found contribution_refusal
    contribution
wide-contributions-agree = tt

pub refused-contributions-agree : Holds refused_contributions
unfolding
    refused_contributions binary16 half16 binary32 binary64 tiny tiny_by small with under
    with_rounding
    difference raised valid_format bias lift exponent_range depth origin fall grid rise
    valid_settings precision_of
    decode is_subnormal operand single product item plus_sum minus_sum top_of
    lost_end look_at half wrapped decide sum_of pass run chain size span climb
    dropped rounded_at overflows largest overflow number_of finished tiny_sum round_to round encode
    leans_of side_of default_nan_of select_all
    special sum_rounded reported finite_total without_nan accepted sum_refusal sum_accepted
    sum_answer
    rank_of number_at first_rank last_rank rank_with reaches least_rank found contribution_refusal
    contribution
refused-contributions-agree = tt

pub contribution-entries-agree : Holds contribution_entries
unfolding
    contribution_entries contribution_entry binary16 half16 binary32 binary64 tiny tiny_by small
    with under with_rounding
    difference raised valid_format bias lift exponent_range depth origin fall grid rise
    valid_settings precision_of
    decode is_subnormal operand single product item plus_sum minus_sum top_of
    lost_end look_at half wrapped decide sum_of pass run chain size span climb
    dropped rounded_at overflows largest overflow number_of finished tiny_sum round_to round encode
    leans_of side_of default_nan_of select_all
    special sum_rounded reported finite_total without_nan accepted sum_refusal sum_accepted
    sum_answer
    rank_of number_at first_rank last_rank rank_with reaches least_rank found contribution_refusal
    contribution
contribution-entries-agree = tt
