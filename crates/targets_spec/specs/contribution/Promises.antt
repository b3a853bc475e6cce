-- What is promised of contributions: a total rises with each element, and the answer is the least
-- number with which the wanted total is reached.
use Rattle.std.specs.Prelude.{[], ◌-◌, T as Holds, ◌≡◌, Bool, ℕ, ◌↔◌, false, ◌≤◌, ◌≢◌, ◌^◌, List}
use Rattle.std.specs.Prelude.{◌∷◌, ◌++◌, ◌+◌, length, eqb, ◌%◌, ℤ, take, drop}
use Rattle.totals_spec.specs.Basics.{Signed, any}
use Rattle.totals_spec.specs.formats.Format.{Format, valid_format}
use Rattle.totals_spec.specs.formats.Settings.{Settings, valid_settings, value}
use Rattle.totals_spec.specs.sums.Totals.{sum_rounded, sum_refusal, sum_answer, stray}
use Rattle.totals_spec.specs.formats.Ordered.{at_most, Ordered}
use Rattle.totals_spec.specs.formats.Decode.{decode, is_nan}
use Rattle.totals_spec.specs.refusals.Conditions.{First}
use Rattle.totals_spec.specs.refusals.Places.{StrayAt}
use Rattle.totals_spec.specs.order.Rearranged.{AsOften}
use Rattle.totals_spec.specs.entries.Words.{format_by}
use Rattle.totals_spec.specs.entries.Bytes.{from_bytes}
use Rattle.targets_spec.specs.contribution.Examples.{contribution_examples, wide_contributions}
use Rattle.targets_spec.specs.contribution.Examples.{refused_contributions, contribution_entries}
use Rattle.targets_spec.specs.contribution.Contribution.{rank_of, number_at, first_rank, last_rank}
use Rattle.targets_spec.specs.contribution.Contribution.{contribution_refusal, contribution}
use Rattle.targets_spec.specs.contribution.Contribution.{refused_contribution, contribution_entry}
use Rattle.targets_spec.specs.contribution.Conditions.{FiniteIn, Reaches, contribution_conditions}
use Rattle.targets_spec.specs.contribution.Conditions.{contribution_entry_conditions}

-- contributions: of four and five bits every wanted total in the eight modes, at one digit, with
-- saturate and named biases; in wider formats at the ends of what rounds to a total; each refusal
-- but 6, and two at once; and their entry
abbrev pub Contributions-agree : Type 0
Contributions-agree = Holds contribution_examples × Holds wide_contributions
    × Holds refused_contributions × Holds contribution_entries

-- A rounding into an Ieee format, without flush to zero, rises: of two sums the larger rounds to
-- what is as large, on any grid, in every mode, at every precision and past the largest number
abbrev pub Rounding-rises : Type 0
Rounding-rises = (format : Format) (settings : Settings) (g : ℕ) (towards : Bool) (x y : Signed)
    → Holds (valid_format format) → format.kind ≡ 0
    → Holds (valid_settings format settings) → settings.flush_to_zero ≡ 0 → Holds (at_most x y)
    → Ordered (sum_rounded format settings g towards x).value
    (sum_rounded format settings g towards y).value

-- ranks are the order of the numbers, of encodings that are no NaN
abbrev pub Rank-order : Type 0
Rank-order = (format : Format) (a b : ℕ) → Holds (valid_format format) → format.kind ≡ 0
    → is_nan (decode format a) ≡ false → is_nan (decode format b) ≡ false
    → rank_of format a ≤ rank_of format b ↔ Ordered (decode format a) (decode format b)

-- the finite numbers have the ranks from the first to the last, and each of these is that of one of
-- them, which is not −0
abbrev pub Rank-number : Type 0
Rank-number = (format : Format) → Holds (valid_format format) → format.kind ≡ 0
    → ((b : ℕ) → FiniteIn format b → (first_rank format ≤ rank_of format b)
    × (rank_of format b ≤ last_rank format)
    × (b ≢ 2 ^ (format.W - 1) → number_at format (rank_of format b) ≡ b))
    × ((r : ℕ) → first_rank format ≤ r → r ≤ last_rank format
    → FiniteIn format (number_at format r) × (rank_of format (number_at format r) ≡ r)
    × (number_at format r ≢ 2 ^ (format.W - 1)))

-- where no refusal but 14 answers, the plain sum accepts the list with any finite number behind it,
-- and is the larger, the larger that number is
abbrev pub Contribution-rises : Type 0
Contribution-rises = (format : Format) (settings : Settings) (values : List ℕ) (wanted : ℕ)
    → contribution_refusal format settings values wanted ≡ 0
    → ((b : ℕ) → FiniteIn format b → sum_refusal format settings 0 (values ++ (b ∷ [])) ≡ 0)
    × ((a b : ℕ) → FiniteIn format a → FiniteIn format b
    → Ordered (decode format a) (decode format b)
    → Ordered (decode format (sum_answer format settings 0 (values ++ (a ∷ []))).result)
    (decode format (sum_answer format settings 0 (values ++ (b ∷ []))).result))

-- an answer without a refusal is finite, makes the sum equal to the wanted total, is the least that
-- does, and is not −0
abbrev pub Contribution-least : Type 0
Contribution-least = (format : Format) (settings : Settings) (values : List ℕ) (wanted : ℕ)
    → let x = contribution format settings values wanted in
    x.refusal ≡ 0
    → FiniteIn format x.number × Reaches format settings values wanted x.number
    × (x.number ≢ 2 ^ (format.W - 1))
    × ((b : ℕ) → FiniteIn format b → Reaches format settings values wanted b
    → Ordered (decode format x.number) (decode format b))

-- the number in the record is that of the first condition that holds, in the order 3, 4, 6, 7, 15,
-- 14; and 0 exactly where none holds
abbrev pub Contribution-refusal : Type 0
Contribution-refusal = (format : Format) (settings : Settings) (values : List ℕ) (wanted number : ℕ)
    → (contribution format settings values wanted).refusal ≡ number
    ↔ First (contribution_conditions format settings values wanted) number

-- with 14 there is none
abbrev pub Contribution-none : Type 0
Contribution-none = (format : Format) (settings : Settings) (values : List ℕ) (wanted : ℕ)
    → (contribution format settings values wanted).refusal ≡ 14
    → (b : ℕ) → FiniteIn format b → ¬ Reaches format settings values wanted b

-- a refused record is 0 but for number and place
abbrev pub Contribution-refused : Type 0
Contribution-refused = (format : Format) (settings : Settings) (values : List ℕ) (wanted : ℕ)
    → let x = contribution format settings values wanted in
    x.refusal ≢ 0 → x ≡ refused_contribution x.refusal x.place

-- its place is 0 but for number 7, and there that of the first element with a stray bit; the list's
-- length where that is the wanted total
abbrev pub Contribution-place : Type 0
Contribution-place = (format : Format) (settings : Settings) (values : List ℕ) (wanted : ℕ)
    → let x = contribution format settings values wanted in
    (x.refusal ≢ 7 → x.place ≡ 0)
    × (x.refusal ≡ 7 → StrayAt format (values ++ (wanted ∷ [])) x.place)
    × (x.refusal ≡ 7 → any (stray format) values ≡ false → x.place ≡ length values)

-- a rearrangement of the list has the same number of refusal, and the same record but for the place
-- of a stray bit in it
abbrev pub Contribution-order : Type 0
Contribution-order = (format : Format) (settings : Settings) (l₁ l₂ : List ℕ) (wanted : ℕ)
    → AsOften eqb l₁ l₂
    → let x = contribution format settings l₁ wanted in let y = contribution format settings l₂ wanted in
    (x.refusal ≡ y.refusal) × (x.refusal ≢ 7 → x ≡ y) × (any (stray format) l₁ ≡ false → x ≡ y)

-- the entry: in the lowest byte of the number that it returns, 2 and the naming of the bias before
-- these
abbrev pub Contribution-entry-refusal : Type 0
Contribution-entry-refusal = (kind exponent_bits width named : ℕ) (bias : ℤ) (settings : Settings)
    (wanted : ℕ) (values old : List ℕ)
    (number : ℕ)
    → (contribution_entry kind exponent_bits width named bias settings wanted values old).code % 256
    ≡ number
    ↔ First (contribution_entry_conditions named bias old
    (contribution_conditions
    (format_by kind exponent_bits width named bias) settings values wanted)) number

-- a refused entry writes nothing
abbrev pub Contribution-entry-refused : Type 0
Contribution-entry-refused = (kind exponent_bits width named : ℕ) (bias : ℤ) (settings : Settings)
    (wanted : ℕ) (values old : List ℕ)
    → let x = contribution_entry kind exponent_bits width named bias settings wanted values old in
    x.code ≢ 0 → x.buffer ≡ old

-- where it returns 0, bytes 0 to 7 are the number found, the little end first; from 8 on the buffer
-- is as it was
abbrev pub Contribution-entry-read-back : Type 0
Contribution-entry-read-back = (kind exponent_bits width named : ℕ) (bias : ℤ) (settings : Settings)
    (wanted : ℕ)
    (values old : List ℕ)
    → let x = contribution_entry kind exponent_bits width named bias settings wanted values old in let y = contribution
    (format_by kind exponent_bits width named bias) settings values wanted in
    x.code ≡ 0 → (y.refusal ≡ 0) × (from_bytes (take 8 x.buffer) ≡ y.number)
    × (drop 8 x.buffer ≡ drop 8 old) × (length x.buffer ≡ length old)

-- a rearrangement of the values, none of which has a stray bit: the number returned and the buffer
-- are alike
abbrev pub Contribution-entry-order : Type 0
Contribution-entry-order = (kind exponent_bits width named : ℕ) (bias : ℤ) (settings : Settings)
    (wanted : ℕ)
    (l₁ l₂ old : List ℕ) → AsOften eqb l₁ l₂
    → any (stray (format_by kind exponent_bits width named bias)) l₁ ≡ false
    → contribution_entry kind exponent_bits width named bias settings wanted l₁ old
    ≡ contribution_entry kind exponent_bits width named bias settings wanted l₂ old
