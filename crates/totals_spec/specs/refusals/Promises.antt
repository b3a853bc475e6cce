-- What is promised of refusals: the number in a record is that of the first condition that holds, a
-- refused record is 0 but for number and place, and the place of number 7 is an element's.
use Rattle.std.specs.Prelude.{◌≡◌, [], ℕ, ◌-◌, ◌≤◌, replicate, ◌<◌, List, ◌↔◌, ◌≢◌}
use Rattle.totals_spec.specs.formats.Format.{binary64, Format}
use Rattle.totals_spec.specs.formats.Settings.{with_rounding, Settings}
use Rattle.totals_spec.specs.sums.Totals.{sum_answer, refused, sum_refusal, dot_refusal, dot_answer}
use Rattle.totals_spec.specs.refusals.Conditions.{First, sum_conditions, dot_conditions}
use Rattle.totals_spec.specs.refusals.Places.{StrayAt, DotStrayAt}

-- as many zeros as the limit allows are summed, and one more gets 6
abbrev pub Zeros-accepted : Type 0
Zeros-accepted = (n : ℕ) → n ≤ 268435456
    → (sum_answer binary64 (with_rounding 0) 0 (replicate n 0)).refusal ≡ 0

abbrev pub Zeros-refused : Type 0
Zeros-refused = (n : ℕ) → 268435456 < n
    → sum_answer binary64 (with_rounding 0) 0 (replicate n 0) ≡ refused 6 0

-- the number in the record is that of the first condition that holds, 0 where none does
abbrev pub Sum-refusal : Type 0
Sum-refusal = (format : Format) (settings : Settings) (summand : ℕ) (values : List ℕ)
    → (sum_answer format settings summand values).refusal
    ≡ sum_refusal format settings summand values

abbrev pub Dot-refusal : Type 0
Dot-refusal = (format : Format) (settings : Settings) (left right : List ℕ)
    → (dot_answer format settings left right).refusal ≡ dot_refusal format settings left right

-- a call has the number n exactly where n's condition holds and none that is tried before it does:
-- 3, 4, 6, 7 of a sum, 3 to 7 of a dot, 1 and 2 before these of a byte entry (in the lowest byte of
-- the number it returns), 3, 7, 8 of pence, 3, 6, 7, 8 of a list's and of its entry; and 0 exactly
-- where none holds
abbrev pub Sum-refused-exactly : Type 0
Sum-refused-exactly = (format : Format) (settings : Settings) (summand : ℕ) (values : List ℕ)
    (number : ℕ)
    → (sum_answer format settings summand values).refusal ≡ number
    ↔ First (sum_conditions format settings summand values) number

abbrev pub Dot-refused-exactly : Type 0
Dot-refused-exactly = (format : Format) (settings : Settings) (left right : List ℕ) (number : ℕ)
    → (dot_answer format settings left right).refusal ≡ number
    ↔ First (dot_conditions format settings left right) number

-- a refused record is 0 but for number and place
abbrev pub Sum-refused : Type 0
Sum-refused = (format : Format) (settings : Settings) (summand : ℕ) (values : List ℕ)
    → sum_refusal format settings summand values ≢ 0
    → sum_answer format settings summand values
    ≡ refused (sum_refusal format settings summand values)
    (sum_answer format settings summand values).place

abbrev pub Dot-refused : Type 0
Dot-refused = (format : Format) (settings : Settings) (left right : List ℕ)
    → dot_refusal format settings left right ≢ 0
    → dot_answer format settings left right
    ≡ refused (dot_refusal format settings left right) (dot_answer format settings left right).place

-- the place is 0 but for number 7, and there that of an element with a stray bit
abbrev pub Sum-place : Type 0
Sum-place = (format : Format) (settings : Settings) (summand : ℕ) (values : List ℕ)
    → (sum_refusal format settings summand values ≢ 7
    → (sum_answer format settings summand values).place ≡ 0)
    × (sum_refusal format settings summand values ≡ 7
    → StrayAt format values (sum_answer format settings summand values).place)

abbrev pub Dot-place : Type 0
Dot-place = (format : Format) (settings : Settings) (left right : List ℕ)
    → (dot_refusal format settings left right ≢ 7
    → (dot_answer format settings left right).place ≡ 0)
    × (dot_refusal format settings left right ≡ 7
    → DotStrayAt format left right (dot_answer format settings left right).place)
