-- The records of three targets.
use Rattle.std.specs.Prelude.{◌≡◌, ◌≢◌, List, ℕ}
use Rattle.totals_spec.specs.formats.Format.{Format}
use Rattle.totals_spec.specs.refusals.Places.{StrayAt}
use Rattle.targets_spec.specs.several.Conditions.{target_conditions}
use Rattle.targets_spec.specs.several.Several.{target_answer}
use Rattle.format.specs.Formats.{format_of}
use Rattle.format.specs.Settings.{settings_of}
use Rattle.totals_spec.specs.sums.Totals.{Answer}
use Rattle.totals.specs.Asked.{answer_in}
use Rattle.targets.specs.declared.several.Target.{Target}
use Rattle.targets.specs.declared.several.Printed.{Printed}
use Rattle.promised_calls.specs.Refusals.{RefusesExactly, TellsNothingElse, PlacedAt}

-- each target has the record that the definitions give; d is the list's denormals-are-zero
abbrev pub PrintsOne : Format → (d : ℕ) → List ℕ → Target → Answer → Type 0
PrintsOne f d l t a = a ≡ target_answer f d l (format_of t.format) (settings_of t.settings)

pub record Prints (f : Format) (d : ℕ) (l : List ℕ) (a b c : Target) (p : Printed) : Type 0 where
  pub first : PrintsOne f d l a (answer_in p.first)
  pub second : PrintsOne f d l b (answer_in p.second)
  pub third : PrintsOne f d l c (answer_in p.third)

-- a target is refused exactly under its condition, with a record that is 0 but for number and place
pub record RefusedAlone (f : Format) (d : ℕ) (l : List ℕ) (t : Target) (a : Answer) : Type 0 where
  pub exactly : RefusesExactly (target_conditions f d l (format_of t.format) (settings_of t.settings)) a.refusal
  pub nothing_else : TellsNothingElse a
  pub place : PlacedAt (StrayAt f l) a.refusal a.place

pub record PrintsOrRefuses (f : Format) (d : ℕ) (l : List ℕ) (a b c : Target) (p : Printed) : Type 0 where
  pub first : RefusedAlone f d l a (answer_in p.first)
  pub second : RefusedAlone f d l b (answer_in p.second)
  pub third : RefusedAlone f d l c (answer_in p.third)

-- one number, and but for number 7 one record
abbrev pub Alike : Answer → Answer → Type 0
Alike a b = (a.refusal ≡ b.refusal) × (a.refusal ≢ 7 → a ≡ b)

pub record AllAlike (p q : Printed) : Type 0 where
  pub first : Alike (answer_in p.first) (answer_in q.first)
  pub second : Alike (answer_in p.second) (answer_in q.second)
  pub third : Alike (answer_in p.third) (answer_in q.third)
