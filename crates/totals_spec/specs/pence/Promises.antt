-- What is promised of pence: their refusals, one encoding as a list, the chain, and the order.
use Rattle.std.specs.Prelude.{[], ◌-◌, T as Holds, ◌≡◌, ◌↔◌, ℕ, List, ◌%◌, ℤ, ◌≢◌, pos, ◌∷◌, ◌≤◌}
use Rattle.std.specs.Prelude.{length, eqb}
use Rattle.totals_spec.specs.pence.Examples.{sum_pence_examples}
use Rattle.totals_spec.specs.formats.Format.{Format}
use Rattle.totals_spec.specs.refusals.Conditions.{First}
use Rattle.totals_spec.specs.pence.Conditions.{pence_conditions, sum_pence_conditions}
use Rattle.totals_spec.specs.pence.Conditions.{pence_entry_conditions}
use Rattle.totals_spec.specs.pence.Pence.{pence_answer, sum_pence, sum_figure}
use Rattle.totals_spec.specs.entries.Words.{format_by}
use Rattle.totals_spec.specs.pence.Entry.{pence_entry}
use Rattle.totals_spec.specs.refusals.Places.{StrayAt}
use Rattle.totals_spec.specs.formats.Settings.{no_settings, value}
use Rattle.totals_spec.specs.terms.Terms.{exact_sum}
use Rattle.totals_spec.specs.sums.Totals.{limit, sum_terms}
use Rattle.totals_spec.specs.pence.Hundredfold.{chain_pence}
use Rattle.totals_spec.specs.order.Rearranged.{AsOften}

-- the pence of lists: at a tie and beside one, beyond the format, at 2^63, with and without a named
-- bias, and each refusal but 6
abbrev pub Sum-pence-agree : Type 0
Sum-pence-agree = Holds sum_pence_examples

abbrev pub Pence-refused-exactly : Type 0
Pence-refused-exactly = (format : Format) (b number : ℕ)
    → (pence_answer format b).refusal ≡ number ↔ First (pence_conditions format b) number

abbrev pub Sum-pence-refused-exactly : Type 0
Sum-pence-refused-exactly = (format : Format) (values : List ℕ) (number : ℕ)
    → (sum_pence format values).refusal ≡ number ↔ First (sum_pence_conditions format values) number

abbrev pub Pence-entry-refused-exactly : Type 0
Pence-entry-refused-exactly = (kind exponent_bits width named : ℕ) (bias : ℤ) (values : List ℕ)
    (old : ℤ) (number : ℕ)
    → (pence_entry kind exponent_bits width named bias values old).code % 256 ≡ number
    ↔ First (pence_entry_conditions named bias
    (format_by kind exponent_bits width named bias) values) number

abbrev pub Sum-pence-refused : Type 0
Sum-pence-refused = (format : Format) (values : List ℕ) → (sum_pence format values).refusal ≢ 0
    → (sum_pence format values).figure ≡ pos 0

-- of the pence of a list too
abbrev pub Pence-place : Type 0
Pence-place = (format : Format) (values : List ℕ)
    → ((sum_pence format values).refusal ≢ 7 → (sum_pence format values).place ≡ 0)
    × ((sum_pence format values).refusal ≡ 7
    → StrayAt format values (sum_pence format values).place)

abbrev pub Pence-entry-refused : Type 0
Pence-entry-refused = (kind exponent_bits width named : ℕ) (bias : ℤ) (values : List ℕ) (old : ℤ)
    → (pence_entry kind exponent_bits width named bias values old).code ≢ 0
    → (pence_entry kind exponent_bits width named bias values old).figure ≡ old

-- of one element they are the pence of its encoding, refused ones too
abbrev pub One-pence : Type 0
One-pence = (format : Format) (b : ℕ) → sum_pence format (b ∷ []) ≡ pence_answer format b

-- what a chain at 64 digits over the terms, a hundred times each, ends with has the figure of the
-- exact sum
abbrev pub Pence-by-chain : Type 0
Pence-by-chain = (format : Format) (values : List ℕ) → length values ≤ limit
    → chain_pence format values ≡ sum_figure format
    (exact_sum (sum_terms format no_settings value values))

-- the pence of a list and of its rearrangements are one record, with NaNs among them too; only the
-- place of a stray bit can differ
abbrev pub Pence-order : Type 0
Pence-order = (format : Format) (l₁ l₂ : List ℕ) → AsOften eqb l₁ l₂
    → (sum_pence format l₁).refusal ≢ 7
    → sum_pence format l₁ ≡ sum_pence format l₂
