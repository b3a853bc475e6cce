-- The contribution that reaches a target, as the code has it.
use Rattle.std.specs.Prelude.{◌≡◌, ◌⊎◌, true, false, not, ◌&&◌, List, ℕ, suc, ◌≤◌, ◌<◌, leb, eqb}
use Rattle.std.specs.Prelude.{Result, Ok, Err}
use Rattle.totals_spec.specs.Basics.{any}
use Rattle.totals_spec.specs.formats.Format.{Format, valid_format}
use Rattle.totals_spec.specs.formats.Settings.{Settings, valid_settings}
use Rattle.totals_spec.specs.sums.Totals.{limit, stray, first_index, refuse_if}
use Rattle.totals_spec.specs.pence.Pence.{not_number}
use Rattle.targets_spec.specs.contribution.Contribution as spec
use Rattle.totals.specs.declared.refusal.Refusal.{Refusal}
use Rattle.totals.specs.declared.refusal.Refusal.TheVariants.{StrayBit, NotFinite}
use Rattle.totals.specs.Refusal.{number_of, place_of}

-- the record of a number that may be refused
abbrev pub number_in : Result ℕ Refusal → spec.Contribution
number_in (Ok n) = record { number = n; refusal = 0; place = 0 }
number_in (Err r) = spec.refused_contribution (number_of r) (place_of r)

-- refusals 3, 4 and 6, which do not look at the elements of a list of n
unfoldable pub contribution_numbers : Format → Settings → ℕ → ℕ
contribution_numbers f c n =
    refuse_if (not (valid_format f && eqb f.kind 0)) 3
    (refuse_if (not (valid_settings f c && (eqb c.flush_to_zero 0 && eqb c.denormals_are_zero 0))) 4
    (refuse_if (leb limit n) 6 0))

-- 7 and 15, which do
abbrev pub FiniteList : Format → List ℕ → Result (Unit {0}) Refusal → Type 0
FiniteList f l (Ok x) = (any (stray f) l ≡ false) × (any (not_number f) l ≡ false)
FiniteList f l (Err r) =
    (any (stray f) l ≡ true) × (r ≡ StrayBit (first_index (stray f) l))
    ⊎ (any (stray f) l ≡ false) × (any (not_number f) l ≡ true) × (r ≡ NotFinite)

-- the search so far: below low the sum is below the wanted total, and at high, if it is a rank, it
-- is not
pub record Halving (f : Format) (c : Settings) (l : List ℕ) (wanted low high : ℕ) : Type 0 where
  pub first : spec.first_rank f ≤ low
  pub ordered : low ≤ high
  pub last : high ≤ suc (spec.last_rank f)
  pub under : (i : ℕ) → spec.first_rank f ≤ i → i < low
      → spec.rank_with f c l (spec.number_at f i) < spec.rank_of f wanted
  pub here : high ≤ spec.last_rank f
      → spec.rank_of f wanted ≤ spec.rank_with f c l (spec.number_at f high)

-- and at its end
abbrev pub Halved : Format → Settings → List ℕ → (wanted r : ℕ) → Type 0
Halved f c l wanted r = Halving f c l wanted r r
