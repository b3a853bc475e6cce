-- The conditions of the refusals of targets.
use Rattle.std.specs.Prelude.{[], ℕ, ◌<◌, ◌≢◌, List, length, ◌⊎◌, ◌∷◌}
use Rattle.totals_spec.specs.formats.Format.{Format, digits}
use Rattle.totals_spec.specs.formats.Settings.{Settings}
use Rattle.totals_spec.specs.refusals.Conditions.{BadFormat, BadSettings, TooMany, Stray}
use Rattle.totals_spec.specs.refusals.Conditions.{SomeNoNumber, Condition}
use Rattle.targets_spec.specs.entries.Lengths.{CutShort}

-- ---- of a target: 4, the list's denormals-are-zero outside its range; 17, more digits than the
-- list's format has
-- of the entry: 1, targets of another length than 312 bytes; 2, an answer buffer under 96

abbrev pub BadReading : ℕ → Type 0
BadReading d = 1 < d

abbrev pub MoreDigits : Format → Format → Type 0
MoreDigits f t = digits f < digits t

abbrev pub NotThree : List ℕ → Type 0
NotThree targets = length targets ≢ 312

abbrev pub Short96 : List ℕ → Type 0
Short96 old = length old < 96

-- ---- the conditions of a call, in the order in which they are tried

-- of a target t with settings c; d is the list's denormals-are-zero
abbrev pub target_conditions : Format → ℕ → List ℕ → Format → Settings → List Condition
target_conditions f d l t c =
    (3, BadFormat f ⊎ BadFormat t)
    ∷ (4, BadReading d ⊎ BadSettings t c)
    ∷ (6, TooMany l)
    ∷ (7, Stray f l)
    ∷ (17, MoreDigits f t ⊎ SomeNoNumber f l)
    ∷ []

abbrev pub target_entry_conditions : (kind : ℕ) → (targets bytes old : List ℕ) → List Condition
target_entry_conditions k targets bytes old =
    (1, NotThree targets ⊎ CutShort k bytes)
    ∷ (2, Short96 old)
    ∷ []
