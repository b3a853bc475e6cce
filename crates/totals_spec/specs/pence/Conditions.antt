-- The conditions of the refusals of pence, of an encoding and of a list.
use Rattle.std.specs.Prelude.{[], ℕ, ◌+◌, ◌^◌, ◌≤◌, false, List, ◌∷◌, ◌⊎◌, ℤ}
use Rattle.totals_spec.specs.formats.Format.{depth, lift, Format, origin, fall}
use Rattle.totals_spec.specs.formats.Decode.{Unpacked, zero_of, finite, infinity, nan, decode}
use Rattle.totals_spec.specs.pence.Pence.{pence_of}
use Rattle.totals_spec.specs.Basics.{Signed}
use Rattle.totals_spec.specs.refusals.Conditions.{BadFormat, StrayBit, Condition, TooMany, Stray}
use Rattle.totals_spec.specs.refusals.Conditions.{SomeNoNumber, Misnamed}
use Rattle.totals_spec.specs.formats.Settings.{no_settings, value}
use Rattle.totals_spec.specs.terms.Terms.{exact_sum}
use Rattle.totals_spec.specs.sums.Totals.{sum_terms}

-- ---- 8: a NaN, an infinity, or a pence figure beyond 2^63 − 1

abbrev pub NoPence : (depth lift : ℕ) → Unpacked → Type 0
NoPence d n (zero_of s) = ⊥
NoPence d n (finite s k m) = 2 ^ 63 ≤ pence_of d (k + n) m
NoPence d n (infinity s) = Unit {0}
NoPence d n (nan s g m) = Unit {0}

abbrev pub BeyondPence : Format → Signed → Type 0
BeyondPence f x = 2 ^ 63 ≤ pence_of (origin f false) (fall f false) x.mag

abbrev pub pence_conditions : Format → ℕ → List Condition
pence_conditions f b = (3, BadFormat f) ∷ (7, StrayBit f b)
    ∷ (8, NoPence (depth f) (lift f) (decode f b)) ∷ []

abbrev pub sum_pence_conditions : Format → List ℕ → List Condition
sum_pence_conditions f l =
    (3, BadFormat f)
    ∷ (6, TooMany l)
    ∷ (7, Stray f l)
    ∷ (8, SomeNoNumber f l ⊎ BeyondPence f (exact_sum (sum_terms f no_settings value l)))
    ∷ []

abbrev pub pence_entry_conditions : ℕ → ℤ → Format → List ℕ → List Condition
pence_entry_conditions named b f l = (3, Misnamed named b) ∷ sum_pence_conditions f l
