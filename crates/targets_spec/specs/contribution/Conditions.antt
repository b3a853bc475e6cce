-- The conditions of the refusals of contributions.
use Rattle.std.specs.Prelude.{◌≢◌, [], ◌⊎◌, List, ℕ, ◌≤◌, length, ◌^◌, ◌<◌, T, ◌∷◌, ◌++◌, ℤ}
use Rattle.totals_spec.specs.formats.Format.{Format}
use Rattle.totals_spec.specs.formats.Settings.{Settings}
use Rattle.totals_spec.specs.sums.Totals.{limit, sum_answer}
use Rattle.totals_spec.specs.formats.Decode.{decode, is_number}
use Rattle.totals_spec.specs.formats.Ordered.{Ordered}
use Rattle.totals_spec.specs.refusals.Conditions.{BadFormat, BadSettings, Stray, SomeNoNumber}
use Rattle.totals_spec.specs.refusals.Conditions.{Condition, Misnamed}

-- ---- of a contribution: 3, another kind than Ieee; 4, flush to zero or denormals-are-zero; 6, a
-- list at the limit; 14, no finite number reaches the wanted
-- total. 7 and 15 are of the list and the wanted total behind it. Of the entry: 2, an answer buffer
-- under 8

abbrev pub OtherKind : Format → Type 0
OtherKind f = f.kind ≢ 0

abbrev pub Flushes : Settings → Type 0
Flushes c = (c.flush_to_zero ≢ 0) ⊎ (c.denormals_are_zero ≢ 0)

abbrev pub AtLimit : List ℕ → Type 0
AtLimit l = limit ≤ length l

-- b is a finite number of the format
abbrev pub FiniteIn : Format → ℕ → Type 0
FiniteIn f b = (b < 2 ^ f.W) × T (is_number (decode f b))

-- neither is above the other; so the zeros are equal
abbrev pub EqualIn : Format → (a b : ℕ) → Type 0
EqualIn f a b = Ordered (decode f a) (decode f b) × Ordered (decode f b) (decode f a)

-- with b behind the list the plain sum is the wanted total
abbrev pub Reaches : Format → Settings → List ℕ → (wanted b : ℕ) → Type 0
Reaches f c l wanted b = EqualIn f (sum_answer f c 0 (l ++ (b ∷ []))).result wanted

abbrev pub Unreached : Format → Settings → List ℕ → (wanted : ℕ) → Type 0
Unreached f c l wanted = (b : ℕ) → FiniteIn f b → ¬ Reaches f c l wanted b

abbrev pub Short8 : List ℕ → Type 0
Short8 old = length old < 8

abbrev pub contribution_conditions : Format → Settings → List ℕ → (wanted : ℕ) → List Condition
contribution_conditions f c l wanted =
    (3, BadFormat f ⊎ OtherKind f)
    ∷ (4, BadSettings f c ⊎ Flushes c)
    ∷ (6, AtLimit l)
    ∷ (7, Stray f (l ++ (wanted ∷ [])))
    ∷ (15, SomeNoNumber f (l ++ (wanted ∷ [])))
    ∷ (14, Unreached f c l wanted)
    ∷ []

abbrev pub contribution_entry_conditions : ℕ → ℤ → List ℕ → List Condition → List Condition
contribution_entry_conditions named b old contribution = (2, Short8 old) ∷ (3, Misnamed named b)
    ∷ contribution
