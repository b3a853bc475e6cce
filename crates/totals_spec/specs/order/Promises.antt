-- What is promised of the order: every rearrangement of an accepted list without a NaN has the same
-- whole record.
use Rattle.std.specs.Prelude.{◌≡◌, false, List, [], ℕ, ◌-◌, eqb, length, ◌||◌}
use Rattle.totals_spec.specs.formats.Format.{Format}
use Rattle.totals_spec.specs.formats.Settings.{Settings}
use Rattle.totals_spec.specs.sums.Totals.{sum_refusal, sum_answer, pairs, dot_refusal, dot_answer}
use Rattle.totals_spec.specs.order.Rearranged.{AsOften, holds_nan, same_pair}
use Rattle.totals_spec.specs.entries.Bytes.{values_in, uneven, sum_entry, dot_entry}

-- a rearrangement of an accepted list without a NaN is accepted, and has the same record
abbrev pub Sum-order : Type 0
Sum-order = (format : Format) (settings : Settings) (summand : ℕ) (l₁ l₂ : List ℕ)
    → AsOften eqb l₁ l₂
    → sum_refusal format settings summand l₁ ≡ 0 → holds_nan format l₁ ≡ false
    → (sum_refusal format settings summand l₂ ≡ 0)
    × (sum_answer format settings summand l₁ ≡ sum_answer format settings summand l₂)

-- its pairs, of two lists of one length, move together
abbrev pub Dot-order : Type 0
Dot-order = (format : Format) (settings : Settings) (xs ys xs' ys' : List ℕ)
    → length xs' ≡ length ys'
    → AsOften same_pair (pairs xs ys) (pairs xs' ys')
    → dot_refusal format settings xs ys ≡ 0 → holds_nan format xs ≡ false
    → holds_nan format ys ≡ false
    → (dot_refusal format settings xs' ys' ≡ 0)
    × (dot_answer format settings xs ys ≡ dot_answer format settings xs' ys')

-- a byte entry's list is what `values_in` reads: the number returned and the buffer are alike
abbrev pub Sum-entry-order : Type 0
Sum-entry-order = (format : Format) (settings : Settings) (summand : ℕ) (b₁ b₂ old : List ℕ)
    → uneven b₁ ≡ false
    → uneven b₂ ≡ false
    → AsOften eqb (values_in b₁) (values_in b₂)
    → sum_refusal format settings summand (values_in b₁) ≡ 0
    → holds_nan format (values_in b₁) ≡ false
    → sum_entry format settings summand b₁ old ≡ sum_entry format settings summand b₂ old

abbrev pub Dot-entry-order : Type 0
Dot-entry-order = (format : Format) (settings : Settings) (x y x' y' old : List ℕ)
    → (uneven x || uneven y) ≡ false → (uneven x' || uneven y') ≡ false
    → length (values_in x') ≡ length (values_in y')
    → AsOften same_pair (pairs (values_in x) (values_in y)) (pairs (values_in x') (values_in y'))
    → dot_refusal format settings (values_in x) (values_in y) ≡ 0
    → holds_nan format (values_in x) ≡ false
    → holds_nan format (values_in y) ≡ false
    → dot_entry format settings x y old ≡ dot_entry format settings x' y' old
