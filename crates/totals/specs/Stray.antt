-- The search for a stray bit.
use Rattle.std.specs.Prelude.{◌≡◌, Bool, true, false, List, ℕ, ◌^◌, leb, Option, Some, None, Result}
use Rattle.std.specs.Prelude.{Ok, Err}
use Rattle.totals_spec.specs.Basics.{any}
use Rattle.totals_spec.specs.sums.Totals.{first_index}
use Rattle.totals.specs.declared.refusal.Refusal.{Refusal}
use Rattle.totals.specs.declared.refusal.Refusal.TheVariants.{StrayBit}

-- b does not fit w bits
abbrev pub stray_at : ℕ → ℕ → Bool
stray_at w b = leb (2 ^ w) b

-- what a search says of whether there is one, and of where the first is
abbrev pub FoundIn : Option ℕ → ℕ → List ℕ → Type 0
FoundIn (Some i) w l = (any (stray_at w) l ≡ true) × (first_index (stray_at w) l ≡ i)
FoundIn None w l = any (stray_at w) l ≡ false

-- and what it refuses
abbrev pub Unstrayed : Result (Unit {0}) Refusal → ℕ → List ℕ → Type 0
Unstrayed (Ok x) w l = any (stray_at w) l ≡ false
Unstrayed (Err r) w l = (any (stray_at w) l ≡ true) × (r ≡ StrayBit (first_index (stray_at w) l))
