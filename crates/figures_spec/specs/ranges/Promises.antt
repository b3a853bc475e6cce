-- What is promised of amounts known within a range: their refusals, that the pair holds every sum
-- of allowed amounts, that no pair that does is narrower, and the order of the entries.
use Rattle.std.specs.Prelude.{[], ◌-◌, T as Holds, ◌≡◌, ◌↔◌, List, ℕ, ◌≢◌, map, length, drop}
use Rattle.std.specs.Prelude.{get_or, ◌^◌, false, ◌<◌}
use Rattle.totals_spec.specs.refusals.Conditions.{First}
use Rattle.totals_spec.specs.formats.Format.{binary64}
use Rattle.totals_spec.specs.formats.Settings.{with_rounding}
use Rattle.totals_spec.specs.sums.Totals.{sum_refusal, sum_answer}
use Rattle.totals_spec.specs.formats.Decode.{decode, is_nan}
use Rattle.totals_spec.specs.formats.Ordered.{Ordered}
use Rattle.totals_spec.specs.order.Rearranged.{AsOften}
use Rattle.figures_spec.specs.ranges.Examples.{range_examples}
use Rattle.figures_spec.specs.ranges.Conditions.{range_conditions, range_entry_conditions}
use Rattle.figures_spec.specs.ranges.Ranges.{range_answer, refused_range, range_refusal, entries}
use Rattle.figures_spec.specs.ranges.Ranges.{low_of, high_of, plus_zero, triples}
use Rattle.figures_spec.specs.ranges.Entry.{range_entry}
use Rattle.figures_spec.specs.ranges.Allowed.{Encloses, same_triple}

-- ranges: directed roundings and infinities, zeros, figures that are not used, each cause of 11,
-- and 5 before it
abbrev pub Ranges-agree : Type 0
Ranges-agree = Holds range_examples

-- the number in the record is that of the first condition that holds, in the order 5, 6, 11; and 0
-- exactly where none holds
abbrev pub Range-refused-exactly : Type 0
Range-refused-exactly = (ts left right : List ℕ) (z number : ℕ)
    → (range_answer ts left right z).refusal ≡ number
    ↔ First (range_conditions ts left right z) number

-- of its entry 2 before these
abbrev pub Range-entry-refused-exactly : Type 0
Range-entry-refused-exactly = (ts left right : List ℕ) (z : ℕ) (old : List ℕ) (number : ℕ)
    → (range_entry ts left right z old).code ≡ number
    ↔ First (range_entry_conditions ts left right z old) number

-- a refused record is 0 but for the number
abbrev pub Range-refused : Type 0
Range-refused = (ts left right : List ℕ) (z : ℕ) → range_refusal ts left right z ≢ 0
    → range_answer ts left right z ≡ refused_range (range_refusal ts left right z)

-- a refused entry writes nothing
abbrev pub Range-entry-refused : Type 0
Range-entry-refused = (ts left right : List ℕ) (z : ℕ) (old : List ℕ)
    → let e = range_entry ts left right z old in
    e.code ≢ 0 → (e.firsts ≡ left) × (e.seconds ≡ right) × (e.pair ≡ old)

-- where it returns 0, the first two words of the pair are the lower and the upper total, what
-- follows them is as it was, and the figures are the lows and the highs
abbrev pub Range-entry-read-back : Type 0
Range-entry-read-back = (ts left right : List ℕ) (z : ℕ) (old : List ℕ)
    → let e = range_entry ts left right z old in
    e.code ≡ 0
    → (get_or e.pair 0 0 ≡ (range_answer ts left right z).lower)
    × (get_or e.pair 1 0 ≡ (range_answer ts left right z).upper)
    × (drop 2 e.pair ≡ drop 2 old) × (length e.pair ≡ length old)
    × (e.firsts ≡ map low_of (entries ts left right))
    × (e.seconds ≡ map (high_of z) (entries ts left right))

-- only figures that are not used are written: the entries stay what they were, whatever the ceiling
abbrev pub Range-entries-kept : Type 0
Range-entries-kept = (ts left right : List ℕ) (z : ℕ)
    → entries ts (map low_of (entries ts left right)) (map (high_of z) (entries ts left right))
    ≡ entries ts left right

-- of an accepted call: the lows and the highs are accepted by the plain sum, and the pair is what
-- it gives for them toward negative and toward positive, with +0 for −0
abbrev pub Range-plain : Type 0
Range-plain = (ts left right : List ℕ) (z : ℕ) → range_refusal ts left right z ≡ 0
    → let lows = map low_of (entries ts left right) in let highs = map (high_of z)
    (entries ts left right) in
    (sum_refusal binary64 (with_rounding 4) 0 lows ≡ 0)
    × (sum_refusal binary64 (with_rounding 3) 0 highs ≡ 0)
    × ((range_answer ts left right z).lower ≡ plus_zero
    (sum_answer binary64 (with_rounding 4) 0 lows).result)
    × ((range_answer ts left right z).upper ≡ plus_zero
    (sum_answer binary64 (with_rounding 3) 0 highs).result)

-- every sum of amounts that the entries allow lies on one of the two or between
abbrev pub Range-holds : Type 0
Range-holds = (ts left right : List ℕ) (z : ℕ) → range_refusal ts left right z ≡ 0
    → let r = range_answer ts left right z in Encloses z (entries ts left right) r.lower r.upper

-- and each pair of doubles or infinities of which that is true is no narrower, on either side
abbrev pub Range-narrowest : Type 0
Range-narrowest = (ts left right : List ℕ) (z low high : ℕ) → range_refusal ts left right z ≡ 0
    → Encloses z (entries ts left right) low high
    → let r = range_answer ts left right z in
    Ordered (decode binary64 low) (decode binary64 r.lower)
    × Ordered (decode binary64 r.upper) (decode binary64 high)

-- a zero in the pair is +0: neither is 2^63, which is −0
abbrev pub Range-zero : Type 0
Range-zero = (ts left right : List ℕ) (z : ℕ)
    → let r = range_answer ts left right z in (r.lower ≢ 2 ^ 63) × (r.upper ≢ 2 ^ 63)

-- both are encodings of 64 bits, and no NaN; of refused calls too
abbrev pub Range-fits : Type 0
Range-fits = (ts left right : List ℕ) (z : ℕ) → let r = range_answer ts left right z in
    (r.lower < 2 ^ 64) × (r.upper < 2 ^ 64) × (is_nan (decode binary64 r.lower) ≡ false)
    × (is_nan (decode binary64 r.upper) ≡ false)

-- a rearrangement of the entries of an accepted call is accepted, and has the same record
abbrev pub Range-order : Type 0
Range-order = (ts xs ys ts' xs' ys' : List ℕ) (z : ℕ) → length ts' ≡ length xs'
    → length ts' ≡ length ys'
    → AsOften same_triple (triples ts xs ys) (triples ts' xs' ys') → range_refusal ts xs ys z ≡ 0
    → (range_refusal ts' xs' ys' z ≡ 0) × (range_answer ts xs ys z ≡ range_answer ts' xs' ys' z)
