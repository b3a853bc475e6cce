-- The conditions of the refusals of answers within an allowance.
use Rattle.std.specs.Prelude.{◌≡◌, [], ℕ, List, ◌<◌, length, ◌∷◌, ℤ}
use Rattle.totals_spec.specs.refusals.Conditions.{Condition, Misnamed}

-- ---- within an allowance: 16, an allowance of zero; of the entry: 2, an answer buffer under 144
-- bytes

abbrev pub NoAllowance : ℕ → Type 0
NoAllowance k = k ≡ 0

abbrev pub Short144 : List ℕ → Type 0
Short144 old = length old < 144

-- within an allowance of k passes: 16, and then those of the total
abbrev pub within_conditions : ℕ → List Condition → List Condition
within_conditions k total = (16, NoAllowance k) ∷ total

abbrev pub within_entry_conditions : Type 0 → List ℕ → (allowance named : ℕ) → ℤ → List Condition
    → List Condition
within_entry_conditions cut old k named b total =
    (1, cut)
    ∷ (2, Short144 old)
    ∷ (16, NoAllowance k)
    ∷ (3, Misnamed named b)
    ∷ total
