-- What a refusal is: its number, its place, and nothing else.
use Rattle.std.specs.Prelude.{◌≡◌, ◌≢◌, ◌↔◌, List, ℕ}
use Rattle.totals_spec.specs.sums.Totals.{Answer, refused}
use Rattle.totals_spec.specs.refusals.Conditions.{Condition, First}
use Rattle.targets_spec.specs.within.Estimate.{Estimate, full}

-- a call's number is that of the first of the conditions that holds, and 0 exactly where none does
abbrev pub RefusesExactly : List Condition → (number : ℕ) → Type 0
RefusesExactly conditions number = (n : ℕ) → number ≡ n ↔ First conditions n

-- a refused record is 0 but for number and place
abbrev pub TellsNothingElse : Answer → Type 0
TellsNothingElse a = a.refusal ≢ 0 → a ≡ refused a.refusal a.place

-- the place is 0 but for number 7, and there what it has to be
abbrev pub PlacedAt : (ℕ → Type 0) → (number place : ℕ) → Type 0
PlacedAt Place number place = (number ≢ 7 → place ≡ 0) × (number ≡ 7 → Place place)

-- a refused entry leaves what it was lent
abbrev pub WritesNothing : {A : Type 0} → (number : ℕ) → (old new : A) → Type 0
WritesNothing number old new = number ≢ 0 → new ≡ old

-- the same of what comes within an allowance
abbrev pub RefusalAlone : Estimate → Type 0
RefusalAlone e = e.answer.refusal ≢ 0 → e ≡ full (refused e.answer.refusal e.answer.place)
