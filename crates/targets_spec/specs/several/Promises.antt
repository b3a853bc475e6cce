-- What is promised of one total in several formats: each record is the exact sum rounded once into
-- its target.
use Rattle.std.specs.Prelude.{[], ◌-◌, T as Holds, ◌≡◌, Bool, List, ℕ, ◌<◌, length, map, ◌≤◌, ◌↔◌}
use Rattle.std.specs.Prelude.{◌≢◌, eqb, ℤ, false, ◌+◌, ◌*◌, take, drop}
use Rattle.totals_spec.specs.formats.Format.{Format, digits}
use Rattle.totals_spec.specs.formats.Settings.{Settings, value}
use Rattle.totals_spec.specs.chain.Chain.{chain}
use Rattle.totals_spec.specs.sums.Totals.{sum_terms, sum_refusal, sum_answer, refused, stray}
use Rattle.totals_spec.specs.sums.Totals.{Answer}
use Rattle.totals_spec.specs.rounding.IntoFormat.{reading_with, unrounded_total, exact_total}
use Rattle.totals_spec.specs.rounding.IntoFormat.{rounded_into, printed, target_grid, on_target}
use Rattle.totals_spec.specs.rounding.IntoFormat.{with_reading}
use Rattle.totals_spec.specs.Basics.{any}
use Rattle.totals_spec.specs.formats.Decode.{is_subnormal, decode}
use Rattle.totals_spec.specs.sums.Promises.{AllFinite, zero_for, zero_answer, FieldsFit}
use Rattle.totals_spec.specs.terms.Terms.{item}
use Rattle.totals_spec.specs.rounding.Side.{side_of}
use Rattle.totals_spec.specs.refusals.Conditions.{First}
use Rattle.totals_spec.specs.refusals.Places.{StrayAt}
use Rattle.totals_spec.specs.order.Rearranged.{AsOften}
use Rattle.totals_spec.specs.chain.Limit.{most_passes}
use Rattle.totals_spec.specs.entries.Bytes.{values_in, from_bytes}
use Rattle.totals_spec.specs.entries.Words.{format_by, misnamed}
use Rattle.totals_spec.specs.entries.Promises.{ReadsBack}
use Rattle.targets_spec.specs.several.Examples.{target_examples, target_entry_examples}
use Rattle.targets_spec.specs.several.Several.{target_refusal, target_answer, target_entry}
use Rattle.targets_spec.specs.several.Several.{answer_at}
use Rattle.targets_spec.specs.several.Conditions.{target_conditions, target_entry_conditions}
use Rattle.targets_spec.specs.entries.Lengths.{cut_short}

-- targets: above a tie that a rounding by way of binary64 would make, beside one, of each kind, of
-- wider and of narrower ranges, subnormal, zeros, with named biases, and their entry; each refusal
-- but 6, and two at once
abbrev pub Targets-agree : Type 0
Targets-agree = Holds target_examples × Holds target_entry_examples

-- the whole record of an accepted target can be made of it, the side too
abbrev pub Target-by-chain : Type 0
Target-by-chain = (format : Format) (d : ℕ) (values : List ℕ) (target : Format)
    (settings : Settings) (sub : Bool)
    → target_refusal format d values target settings ≡ 0
    → let h = chain (digits format) (sum_terms format (reading_with d) value values) in
    printed format target sub (unrounded_total format d values)
    (rounded_into format target settings (unrounded_total format d values)) h
    ≡ printed format target sub (exact_total format d values)
    (rounded_into format target settings (exact_total format d values)) h

-- an accepted list is finite, and with a non-zero term the result and the flags are those of its
-- exact sum rounded once into the target; passes and last edge are those of the list's chain
abbrev pub Target-exact : Type 0
Target-exact = (format : Format) (d : ℕ) (values : List ℕ) (target : Format) (settings : Settings)
    → target_refusal format d values target settings ≡ 0
    → AllFinite format values
    × (0 < length (sum_terms format (reading_with d) value values)
    → target_answer format d values target settings
    ≡ printed format target (any (is_subnormal format) values) (exact_total format d values)
    (rounded_into format target settings (exact_total format d values))
    (chain (digits format) (sum_terms format (reading_with d) value values)))

-- without a term the record is that of a zero, by the listed zeros and the target's mode
abbrev pub Target-zeros : Type 0
Target-zeros = (format : Format) (d : ℕ) (values : List ℕ) (target : Format) (settings : Settings)
    → target_refusal format d values target settings ≡ 0
    → length (sum_terms format (reading_with d) value values) ≡ 0
    → target_answer format d values target settings
    ≡ zero_answer target (any (is_subnormal format) values)
    (zero_for settings (map (item format (reading_with d) value) values))

-- the side: how the result, decoded, lies beside the exact sum
abbrev pub Target-side : Type 0
Target-side = (format : Format) (d : ℕ) (values : List ℕ) (target : Format) (settings : Settings)
    → target_refusal format d values target settings ≡ 0
    → let r = target_answer format d values target settings in r.side
    ≡ side_of (target_grid format target) (decode target r.result)
    (on_target format target (exact_total format d values))

-- in the list's own format a target's record is that of the plain sum
abbrev pub Target-own : Type 0
Target-own = (format : Format) (d : ℕ) (values : List ℕ) (settings : Settings)
    → target_refusal format d values format settings ≡ 0
    → (sum_refusal format (with_reading d settings) 0 values ≡ 0)
    × (target_answer format d values format settings
    ≡ sum_answer format (with_reading d settings) 0 values)

-- a target's own denormals-are-zero has no effect
abbrev pub Target-reading : Type 0
Target-reading = (format : Format) (d : ℕ) (values : List ℕ) (target : Format) (settings : Settings)
    (n : ℕ) → n ≤ 1
    → settings.denormals_are_zero ≤ 1
    → target_answer format d values target (with_reading n settings)
    ≡ target_answer format d values target settings

-- one run of passes: accepted targets of one list have the same passes and last edge
abbrev pub Target-passes : Type 0
Target-passes = (format : Format) (d : ℕ) (values : List ℕ) (target t' : Format)
    (settings c' : Settings)
    → target_refusal format d values target settings ≡ 0 → target_refusal format d values t' c' ≡ 0
    → let r = target_answer format d values target settings in let r' = target_answer format d values t' c' in
    (r.passes ≡ r'.passes) × (r.last_edge ≡ r'.last_edge)

-- the number in the record is that of the first condition that holds, in the order 3, 4, 6, 7, 17;
-- and 0 exactly where none holds
abbrev pub Target-refusal : Type 0
Target-refusal = (format : Format) (d : ℕ) (values : List ℕ) (target : Format) (settings : Settings)
    (number : ℕ)
    → (target_answer format d values target settings).refusal ≡ number
    ↔ First (target_conditions format d values target settings) number

-- a refused record is 0 but for number and place
abbrev pub Target-refused : Type 0
Target-refused = (format : Format) (d : ℕ) (values : List ℕ) (target : Format) (settings : Settings)
    → target_refusal format d values target settings ≢ 0
    → target_answer format d values target settings
    ≡ refused (target_refusal format d values target settings)
    (target_answer format d values target settings).place

-- its place is 0 but for number 7, and there that of the first element with a stray bit
abbrev pub Target-place : Type 0
Target-place = (format : Format) (d : ℕ) (values : List ℕ) (target : Format) (settings : Settings)
    → let r = target_answer format d values target settings in (r.refusal ≢ 7 → r.place ≡ 0)
    × (r.refusal ≡ 7 → StrayAt format values r.place)

-- the fields fit their places, of refused calls too
abbrev pub Target-fits : Type 0
Target-fits = (format : Format) (d : ℕ) (values : List ℕ) (target : Format) (settings : Settings)
    → FieldsFit target (target_answer format d values target settings)

-- a rearrangement of the list has the same number, and the same record but for the place of number
-- 7
abbrev pub Target-order : Type 0
Target-order = (format : Format) (d : ℕ) (l₁ l₂ : List ℕ) (target : Format) (settings : Settings)
    → AsOften eqb l₁ l₂
    → (target_refusal format d l₁ target settings ≡ target_refusal format d l₂ target settings)
    × (target_refusal format d l₁ target settings ≢ 7
    → target_answer format d l₁ target settings ≡ target_answer format d l₂ target settings)

-- the limit on the passes, of every call, refused ones too: that of a plain sum of the list
abbrev pub Target-limit : Type 0
Target-limit = (format : Format) (d : ℕ) (values : List ℕ) (target : Format) (settings : Settings)
    → (target_answer format d values target settings).passes
    ≤ most_passes format (sum_terms format (reading_with d) value values)

-- the entry of three targets: it returns the number of the first condition that holds, 1 or 2, and
-- 0 exactly where neither does
abbrev pub Target-entry-refusal : Type 0
Target-entry-refusal = (kind exponent_bits width named : ℕ) (bias : ℤ) (d : ℕ)
    (targets bytes old : List ℕ) (number : ℕ)
    → (target_entry kind exponent_bits width named bias d targets bytes old).code ≡ number
    ↔ First (target_entry_conditions kind targets bytes old) number

-- a refused entry writes nothing
abbrev pub Target-entry-refused : Type 0
Target-entry-refused = (kind exponent_bits width named : ℕ) (bias : ℤ) (d : ℕ)
    (targets bytes old : List ℕ)
    → let x = target_entry kind exponent_bits width named bias d targets bytes old in x.code ≢ 0
    → x.buffer ≡ old

-- a rearrangement of the values in its bytes, none of which has a stray bit: the number returned
-- and the buffer are alike
abbrev pub Target-entry-order : Type 0
Target-entry-order = (kind exponent_bits width named : ℕ) (bias : ℤ) (d : ℕ)
    (targets b₁ b₂ old : List ℕ)
    → cut_short kind b₁ ≡ false → cut_short kind b₂ ≡ false
    → AsOften eqb (values_in b₁) (values_in b₂)
    → any (stray (format_by kind exponent_bits width named bias)) (values_in b₁) ≡ false
    → target_entry kind exponent_bits width named bias d targets b₁ old
    ≡ target_entry kind exponent_bits width named bias d targets b₂ old

-- what a caller reads where it returns 0: of each target, from byte 32 × i on, the refusal plus 256
-- times the place, and then the 24 bytes of a byte entry; from 96 on the buffer is as it was
pub record ReadsTargets (record_of : ℕ → Answer) (old new : List ℕ) : Type 0 where
  pub number : (i : ℕ) → i < 3 → from_bytes (take 8 (drop (32 * i) new))
      ≡ (record_of i).refusal + 256 * (record_of i).place
  pub record-at : (i : ℕ) → i < 3 → ReadsBack (record_of i) (take 24 (drop (32 * i + 8) old))
      (take 24 (drop (32 * i + 8) new))
  pub rest : drop 96 new ≡ drop 96 old
  pub long : length new ≡ length old

abbrev pub Target-entry-read-back : Type 0
Target-entry-read-back = (kind exponent_bits width named : ℕ) (bias : ℤ) (d : ℕ)
    (targets bytes old : List ℕ)
    → let x = target_entry kind exponent_bits width named bias d targets bytes old in x.code ≡ 0
    → ReadsTargets
    (λ i. answer_at (misnamed named bias) (format_by kind exponent_bits width named bias) d
    (values_in bytes)
    (values_in targets) (13 * i)) old x.buffer
