-- What a plain sum keeps for further roundings.
use Rattle.std.specs.Prelude.{◌≡◌, true, false, List, [], map, ℕ, ◌<◌, length, Option, Some}
use Rattle.std.specs.Prelude.{None, Bool, Result, Ok, Err}
use Rattle.totals_spec.specs.Basics.{any}
use Rattle.totals_spec.specs.formats.Format as spec
use Rattle.totals_spec.specs.formats.Settings as env
use Rattle.totals_spec.specs.formats.Decode.{is_subnormal}
use Rattle.totals_spec.specs.terms.Terms.{Term, item, is_zero}
use Rattle.totals_spec.specs.sums.Totals.{sum_terms, stray, first_index}
use Rattle.totals_spec.specs.pence.Pence.{not_number}
use Rattle.totals.specs.Walked.{met}
use Rattle.window.specs.declared.ExactSum.{ExactSum}
use Rattle.reduction.specs.Held.{Sums}
use Rattle.targets.specs.declared.kept.Kept.{Kept}
use Rattle.totals.specs.declared.refusal.Refusal.{Refusal}
use Rattle.totals.specs.declared.refusal.Refusal.TheVariants.{StrayBit}

-- the exact sum of the terms, where there are some and no NaN or infinity is met
abbrev pub KeepsSum : Option ExactSum → (special : Bool) → ℕ → List Term → Type 0
KeepsSum (Some e) special p ts = (special ≡ false) × (0 < length ts) × Sums p ts e
KeepsSum None special p ts = special ≡ false → ts ≡ []

-- what is kept of a list without a stray bit
pub record Keeps (f : spec.Format) (c : env.Settings) (l : List ℕ) (k : Kept) : Type 0 where
  pub subnormal : k.scan.subnormal ≡ any (is_subnormal f) l
  pub positive-zero : k.scan.positive_zero ≡ any (is_zero false) (map (item f c env.value) l)
  pub negative-zero : k.scan.negative_zero ≡ any (is_zero true) (map (item f c env.value) l)
  pub special : any (not_number f) l ≡ met k.scan
  pub sum : KeepsSum k.sum (met k.scan) (spec.digits f) (sum_terms f c env.value l)

-- and of one that may have one
abbrev pub KeptIn : spec.Format → env.Settings → List ℕ → Result Kept Refusal → Type 0
KeptIn f c l (Ok k) = (any (stray f) l ≡ false) × Keeps f c l k
KeptIn f c l (Err r) = (any (stray f) l ≡ true) × (r ≡ StrayBit (first_index (stray f) l))
