-- Examples of targets, worked out by exact arithmetic, as tests that the checker computes.
use Rattle.std.specs.Prelude.{[], ℕ, Bool, ◌&&◌, List, ◌∷◌, pos, negsuc, eqb, ◌++◌, replicate, take}
use Rattle.std.specs.Prelude.{T as Holds}
use Rattle.std.proofs.Math.Option.{none, some}
use Rattle.std.specs.Float.Ieee.{size, span, climb}
use Rattle.totals_spec.specs.formats.Format.{Format, binary64, bias, valid_format, lift}
use Rattle.totals_spec.specs.formats.Format.{exponent_range, depth, origin, fall}
use Rattle.totals_spec.specs.formats.Settings.{Settings, with_rounding, valid_settings}
use Rattle.totals_spec.specs.formats.Settings.{precision_of}
use Rattle.totals_spec.specs.chain.Chain.{half, lost_end, look_at, wrapped, decide, sum_of, pass}
use Rattle.totals_spec.specs.chain.Chain.{run, chain}
use Rattle.totals_spec.specs.rounding.Round.{largest, dropped, rounded_at, overflows, overflow}
use Rattle.totals_spec.specs.rounding.Round.{number_of, finished, tiny_sum, round_to, round}
use Rattle.totals_spec.specs.examples.Rows.{binary16, half16, refused_as, no_inf8, fnuz8, finite4}
use Rattle.totals_spec.specs.examples.Rows.{reads}
use Rattle.totals_spec.specs.Basics.{same_list, difference, raised}
use Rattle.totals_spec.specs.entries.Bytes.{Entry, value_bytes, values_in, written}
use Rattle.totals_spec.specs.formats.Decode.{decode, is_subnormal, operand}
use Rattle.totals_spec.specs.terms.Terms.{single, product, item, plus_sum, minus_sum, top_of}
use Rattle.totals_spec.specs.formats.Encode.{encode}
use Rattle.totals_spec.specs.rounding.Side.{leans_of, side_of}
use Rattle.totals_spec.specs.sums.Totals.{special, sum_rounded}
use Rattle.totals_spec.specs.rounding.IntoFormat.{reading_with, rounded_into, printed}
use Rattle.totals_spec.specs.rounding.IntoFormat.{printed_items}
use Rattle.targets_spec.specs.several.Several.{target_answer, target_entry, target_refusal}
use Rattle.targets_spec.specs.several.Several.{answer_at, slots}

unfoldable pub binary32 : Format
binary32 = record { kind = 0; E = 8; W = 32; named = none }

-- kind 0 by its widths
abbrev ieee_by : (exponent_bits width : ℕ) → Format
ieee_by e w = record { kind = 0; E = e; W = w; named = none }

unfoldable pub under : (mode tininess flush denormals_are_zero precision : ℕ) → Settings
under m t z d p =
    record {
      rounding = m;
      tininess = t;
      nan_propagation = 0;
      default_nan_sign = 0;
      flush_to_zero = z;
      denormals_are_zero = d;
      saturate = 0;
      precision = p;
    }

unfoldable pub target_examples : Bool
target_examples =
    -- 1, 2^−11 and 2^−70 in binary16, binary32 and binary64: just above a tie of binary16, which a
    -- rounding to binary64 first would make a tie
    let l : List ℕ = 0x3ff0000000000000 ∷ 0x3f40000000000000 ∷ 0x3b90000000000000 ∷ [] in
    reads 0x3c01 0x50 1 (negsuc 701) 2 (target_answer binary64 0 l binary16 (with_rounding 0))
    && reads 0x3f801000 0x10 1 (negsuc 701) 1
    (target_answer binary64 0 l binary32 (with_rounding 0))
    && reads 0x3ff0020000000000 0x10 1 (negsuc 701) 1
    (target_answer binary64 0 l binary64 (with_rounding 0))
    -- in 5 digits, toward positive
    && reads 0x3c40 0x50 1 (negsuc 701) 2 (target_answer binary64 0 l binary16 (under 3 0 0 0 5))
    -- 1, 2^−24 and 2^−1000 of either sign, beside a tie of binary32; and 1, 2^−53 and 2^−1000, of
    -- which binary32 sees no more than binary64
    && reads 0x3f800001 0x50 2 (negsuc 1402) 2
    (target_answer binary64 0
    (0x3ff0000000000000 ∷ 0x3e70000000000000 ∷ 0x0170000000000000 ∷ []) binary32 (with_rounding 0))
    && reads 0x3f800000 0x10 2 (negsuc 1402) 1
    (target_answer binary64 0
    (0x3ff0000000000000 ∷ 0x3e70000000000000 ∷ 0x8170000000000000 ∷ []) binary32 (with_rounding 0))
    && reads 0x3f800000 0x10 2 (negsuc 1402) 1
    (target_answer binary64 0
    (0x3ff0000000000000 ∷ 0x3ca0000000000000 ∷ 0x0170000000000000 ∷ []) binary32 (with_rounding 0))
    -- the largest double in narrower ranges: binary32 to nearest and toward zero, NoInf, Fnuz and
    -- Finite
    && reads 0x7f800000 0x54 1 (pos 321) 3
    (target_answer binary64 0 (0x7fefffffffffffff ∷ []) binary32 (with_rounding 0))
    && reads 0x7f7fffff 0x14 1 (pos 321) 1
    (target_answer binary64 0 (0x7fefffffffffffff ∷ []) binary32 (with_rounding 5))
    && reads 0x7f 0x14 1 (pos 321) 3
    (target_answer binary64 0 (0x7fefffffffffffff ∷ []) no_inf8 (with_rounding 0))
    && reads 0x80 0x14 1 (pos 321) 3
    (target_answer binary64 0 (0x7fefffffffffffff ∷ []) fnuz8 (with_rounding 0))
    && reads 0x7 0x14 1 (pos 321) 1
    (target_answer binary64 0 (0x7fefffffffffffff ∷ []) finite4 (with_rounding 0))
    -- subnormal in binary16: above half of its least number; the same below, flushed; under 2^−14
    -- before rounding, and not after
    && reads 1 0x78 1 (negsuc 726) 2
    (target_answer binary64 0 (0x3e60000000000000 ∷ 0x3af0000000000000 ∷ []) binary16
    (with_rounding 0))
    && reads 0 0x38 1 (negsuc 726) 1
    (target_answer binary64 0 (0x3e60000000000000 ∷ 0xbaf0000000000000 ∷ []) binary16
    (under 0 0 1 0 0))
    && reads 0x400 0x78 1 (negsuc 715) 2
    (target_answer binary64 0 (0x3f10000000000000 ∷ 0xbe50000000000000 ∷ []) binary16
    (under 0 0 0 0 0))
    && reads 0x400 0x50 1 (negsuc 715) 2
    (target_answer binary64 0 (0x3f10000000000000 ∷ 0xbe50000000000000 ∷ []) binary16
    (under 0 1 0 0 0))
    -- a wider range with fewer digits, where the list's least number is normal; denormals-are-zero
    -- with the list, and with the target
    && reads 0x3fe00 0x80 1 (negsuc 708) 0
    (target_answer (ieee_by 2 10) 0 (1 ∷ []) (ieee_by 13 20) (with_rounding 0))
    && reads 0 0x80 0 (pos 0) 0
    (target_answer (ieee_by 2 10) 1 (1 ∷ []) (ieee_by 13 20) (with_rounding 0))
    && reads 0x3fe00 0x80 1 (negsuc 708) 0
    (target_answer (ieee_by 2 10) 0 (1 ∷ []) (ieee_by 13 20) (under 0 0 0 1 0))
    -- a negative subnormal turned to a zero of its sign, which Fnuz does not keep
    && reads 0x80 0x80 0 (pos 0) 0
    (target_answer fnuz8 1 (0x81 ∷ []) (ieee_by 4 8) (with_rounding 0))
    && reads 0 0x80 0 (pos 0) 0 (target_answer fnuz8 1 (0x81 ∷ []) fnuz8 (with_rounding 0))
    -- +0 and −0, and 1 and −1: the target's mode gives the sign
    && reads 0x8000 0 0 (pos 0) 0
    (target_answer binary64 0 (0 ∷ 0x8000000000000000 ∷ []) binary16 (with_rounding 4))
    && reads 0 0 0 (pos 0) 0
    (target_answer binary64 0 (0 ∷ 0x8000000000000000 ∷ []) binary16 (with_rounding 0))
    && reads 0x8000 0 1 (negsuc 701) 0
    (target_answer binary64 0 (0x3ff0000000000000 ∷ 0xbff0000000000000 ∷ []) binary16
    (with_rounding 4))
    && reads 0 0 1 (negsuc 701) 0
    (target_answer binary64 0 (0x3ff0000000000000 ∷ 0xbff0000000000000 ∷ []) binary32
    (with_rounding 0))
    -- named biases: of the list −40, of the target, and of both
    && reads 0x4d800 0xd0 1 (negsuc 646) 2
    (target_answer (half16 (negsuc 39)) 0 (0x3c00 ∷ 0x8001 ∷ []) (ieee_by 9 20) (with_rounding 3))
    && reads 0x7c00 0x54 1 (negsuc 646) 3
    (target_answer (half16 (negsuc 39)) 0 (0x3c00 ∷ 0x1000 ∷ []) binary16 (with_rounding 0))
    && reads 1 0x78 1 (negsuc 701) 2
    (target_answer binary16 0 (0x3c00 ∷ 0x1000 ∷ []) (half16 (negsuc 39)) (with_rounding 3))
    && reads 0x7bff 0x94 1 (negsuc 670) 1
    (target_answer (half16 (negsuc 39)) 0 (1 ∷ 1 ∷ []) (half16 (pos 20)) (with_rounding 5))
    && reads 2 0xb8 1 (negsuc 646) 1
    (target_answer (half16 (negsuc 39)) 0 (0x3c00 ∷ 3 ∷ [])
    (record { kind = 0; E = 8; W = 16; named = some (negsuc 59) }) (with_rounding 0))
    -- as many digits as the list's, in another range
    && reads 0x1c01 0x10 1 (negsuc 701) 1
    (target_answer binary16 0 (0x3c01 ∷ 0x0401 ∷ []) (ieee_by 4 15) (with_rounding 0))
    -- refusals: 17 by the digits, one more too, by an infinity and by a NaN; 7 before 17; 4 of the
    -- list and of the target, before 7; 3 of either, before 4
    && refused_as 17 0 (target_answer binary16 0 (0x3c00 ∷ []) binary32 (with_rounding 0))
    && refused_as 17 0 (target_answer binary16 0 (0x3c00 ∷ []) (ieee_by 4 16) (with_rounding 0))
    && refused_as 17 0 (target_answer binary16 0 (0x3c00 ∷ 0x7c00 ∷ []) binary16 (with_rounding 0))
    && refused_as 17 0 (target_answer binary16 0 (0x3c00 ∷ 0x7e00 ∷ []) binary16 (with_rounding 0))
    && refused_as 7 0 (target_answer binary16 0 (0x10000 ∷ 0x7c00 ∷ []) binary32 (with_rounding 0))
    && refused_as 4 0 (target_answer binary16 2 (0x10000 ∷ []) binary16 (with_rounding 0))
    && refused_as 4 0 (target_answer binary16 0 (0x10000 ∷ []) binary16 (under 0 0 0 2 0))
    && refused_as 4 0
    (target_answer binary64 0 (0x3ff0000000000000 ∷ []) binary16 (under 0 0 0 0 12))
    && refused_as 3 0
    (target_answer (record { kind = 4; E = 15; W = 80; named = none }) 2 [] binary16
    (with_rounding 0))
    && refused_as 3 0
    (target_answer binary16 0 [] (record { kind = 4; E = 15; W = 80; named = none })
    (with_rounding 8))
    && refused_as 3 0 (target_answer binary16 0 [] (half16 (pos 268435457)) (with_rounding 0))

-- ---- the entry

abbrev enters : (code : ℕ) → List ℕ → Entry → Bool
enters n buffer e = eqb e.code n && same_list e.buffer buffer

-- the thirteen numbers of a target: a format, and settings that are 0 but for the rounding
abbrev numbers_of : (kind exponent_bits width named bias mode : ℕ) → List ℕ
numbers_of k e w named b m = k ∷ e ∷ w ∷ named ∷ b ∷ m ∷ 0 ∷ 0 ∷ 0 ∷ 0 ∷ 0 ∷ 0 ∷ 0 ∷ []

-- binary16, binary32, and Fnuz with a bias of −3 toward positive
unfoldable pub three_targets : List ℕ
three_targets = value_bytes
    (numbers_of 0 5 16 0 0 0
    ++ (numbers_of 0 8 32 0 0 0 ++ numbers_of 2 4 8 1 0xfffffffffffffffd 3))

-- binary16, binary16 with a bias beside none, and kind 4
unfoldable pub one_target : List ℕ
one_target = value_bytes
    (numbers_of 0 5 16 0 0 0 ++ (numbers_of 0 5 16 0 15 0 ++ numbers_of 4 15 80 0 0 0))

-- the 32 bytes of a refused target: a number below 65536
abbrev refused_slot : (low high : ℕ) → List ℕ
refused_slot low high = low ∷ high ∷ replicate 30 0

unfoldable pub target_entry_examples : Bool
target_entry_examples =
    -- 1, 2^−11 and 2^−24: a record, refusal 17, a record; bytes 96 and 97 stay
    let l = value_bytes (0x3c00 ∷ 0x1000 ∷ 1 ∷ []) in
    enters 0
    (replicate 8 0
    ++ (0x01 ∷ 0x3c ∷ replicate 6 0 ++ (0xd0 ∷ 0 ∷ 2 ∷ replicate 5 0 ++ (1 ∷ replicate 7 0
    ++ (refused_slot 17 0
    ++ (replicate 8 0
    ++ (1 ∷ replicate 7 0
    ++ (0xf8 ∷ 0 ∷ 2 ∷ replicate 5 0 ++ (1 ∷ replicate 7 0 ++ (7 ∷ 7 ∷ []))))))))))
    (target_entry 0 5 16 0 (pos 0) 0 three_targets l (replicate 98 7))
    -- 7 at place 1, and 3 twice; a bias of the list beside none: 3 for all
    && enters 0 (refused_slot 7 1 ++ (refused_slot 3 0 ++ refused_slot 3 0))
    (target_entry 0 5 16 0 (pos 0) 0 one_target (value_bytes (0 ∷ 0x10000 ∷ [])) (replicate 96 7))
    && enters 0 (refused_slot 3 0 ++ (refused_slot 3 0 ++ refused_slot 3 0))
    (target_entry 0 5 16 0 (pos 15) 0 three_targets l (replicate 96 7))
    -- 1: 311 bytes of targets, before 2; 7 bytes of values; 2: 95 bytes
    && enters 1 (replicate 95 7)
    (target_entry 0 5 16 0 (pos 0) 0 (take 311 three_targets) l (replicate 95 7))
    && enters 1 (replicate 96 7)
    (target_entry 0 5 16 0 (pos 0) 0 three_targets (replicate 7 0) (replicate 96 7))
    && enters 2 (replicate 95 7) (target_entry 0 5 16 0 (pos 0) 0 three_targets l (replicate 95 7))
    -- a list of kind 4: one value of ten bytes, and four, have 3 for all; sixteen bytes 1, and a
    -- buffer of 95 bytes 2
    && enters 0 (refused_slot 3 0 ++ (refused_slot 3 0 ++ refused_slot 3 0))
    (target_entry 4 15 80 0 (pos 0) 0 three_targets (replicate 10 0) (replicate 96 7))
    && enters 0 (refused_slot 3 0 ++ (refused_slot 3 0 ++ refused_slot 3 0))
    (target_entry 4 15 80 1 (pos 16383) 0 three_targets (replicate 40 0) (replicate 96 7))
    && enters 1 (replicate 96 7)
    (target_entry 4 15 80 0 (pos 0) 0 three_targets (replicate 16 0) (replicate 96 7))
    && enters 2 (replicate 95 7)
    (target_entry 4 15 80 0 (pos 0) 0 three_targets (replicate 10 0) (replicate 95 7))

pub targets-agree : Holds target_examples
unfolding
    target_examples under binary32 no_inf8 fnuz8 finite4 binary16 half16 binary64 with_rounding
    reading_with
    difference raised valid_format bias lift exponent_range depth origin fall valid_settings
    precision_of
    decode is_subnormal operand single product item plus_sum minus_sum top_of
    lost_end look_at half wrapped decide sum_of pass run chain size span climb
    dropped rounded_at overflows largest overflow number_of finished tiny_sum round_to round encode
    leans_of side_of
    special sum_rounded rounded_into printed printed_items target_refusal target_answer
targets-agree = tt

pub target-entries-agree : Holds target_entry_examples
unfolding
    target_entry_examples three_targets one_target reading_with values_in written
    difference raised valid_format bias lift exponent_range depth origin fall valid_settings
    precision_of
    decode is_subnormal operand single product item plus_sum minus_sum top_of
    lost_end look_at half wrapped decide sum_of pass run chain size span climb
    dropped rounded_at overflows largest overflow number_of finished tiny_sum round_to round encode
    leans_of side_of
    special sum_rounded rounded_into printed printed_items target_refusal target_answer answer_at
    slots target_entry
target-entries-agree = tt
