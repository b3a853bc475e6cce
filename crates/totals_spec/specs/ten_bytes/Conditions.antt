-- The conditions of the refusals of kind 4.
use Rattle.std.specs.Prelude.{◌≢◌, List, [], ℕ, ◌%◌, length, ◌<◌, ℤ, ◌⊎◌, ◌∷◌}
use Rattle.std.proofs.Math.Option.{Option, none, some}
use Rattle.totals_spec.specs.formats.Format.{Format}
use Rattle.totals_spec.specs.formats.Settings.{Settings}
use Rattle.totals_spec.specs.ten_bytes.Extended.{extended}
use Rattle.totals_spec.specs.refusals.Conditions.{BadSettings, BadSummand, TooMany, Condition}
use Rattle.totals_spec.specs.refusals.Conditions.{Unequal}

-- ---- of kind 4: 1, a length in bytes that is no multiple of 10; 2, an answer buffer under 32
-- bytes; 3, an E other than 15, a W other than 80, or a named
-- bias

abbrev pub UnevenTens : List ℕ → Type 0
UnevenTens bytes = length bytes % 10 ≢ 0

abbrev pub Short32 : List ℕ → Type 0
Short32 old = length old < 32

abbrev pub NamesBias : Option ℤ → Type 0
NamesBias none = ⊥
NamesBias (some b) = Unit {0}

abbrev pub BadExtended : Format → Type 0
BadExtended f = (f.E ≢ 15) ⊎ (f.W ≢ 80) ⊎ NamesBias f.named

-- of kind 4; the settings are those of 64 digits
abbrev pub extended_sum_conditions : Format → Settings → ℕ → List ℕ → List Condition
extended_sum_conditions f c u l =
    (3, BadExtended f)
    ∷ (4, BadSettings extended c ⊎ BadSummand u)
    ∷ (6, TooMany l)
    ∷ []

abbrev pub extended_dot_conditions : Format → Settings → List ℕ → List ℕ → List Condition
extended_dot_conditions f c xs ys =
    (3, BadExtended f)
    ∷ (4, BadSettings extended c)
    ∷ (5, Unequal xs ys)
    ∷ (6, TooMany xs)
    ∷ []

abbrev pub extended_entry_conditions : Type 0 → List ℕ → List Condition → List Condition
extended_entry_conditions uneven old values = (1, uneven) ∷ (2, Short32 old) ∷ values
