-- The targets of a list: the tests that do not look at the elements, and what the walk that all
-- targets share keeps.
use Rattle.std.specs.Prelude.{◌≡◌, Bool, true, false, not, ◌&&◌, List, ℕ, leb, ltb, length, Result}
use Rattle.std.specs.Prelude.{Ok, Err}
use Rattle.totals_spec.specs.Basics.{any}
use Rattle.totals_spec.specs.formats.Format.{Format, valid_format}
use Rattle.totals_spec.specs.formats.Settings.{Settings, valid_settings}
use Rattle.totals_spec.specs.formats.Bounds.{SettingsBounds}
use Rattle.totals_spec.specs.sums.Totals.{Answer, refused, refuse_if, limit, stray}
use Rattle.totals_spec.specs.rounding.IntoFormat.{reading_with}
use Rattle.targets_spec.specs.several.Several.{target_answer, misnamed_at, format_at}
use Rattle.targets_spec.specs.several.Several.{settings_at, answer_at}
use Rattle.targets.specs.declared.kept.Kept.{Kept}
use Rattle.totals.specs.Refusal.{number_of, place_of, sum_numbers}
use Rattle.targets.specs.Kept.{Keeps, KeptIn}
use Rattle.format.specs.Layouts.{layout_of}
use Rattle.format.specs.Environments.{env_of}
use Rattle.format.specs.Formats.{format_of}
use Rattle.format.specs.Settings.{settings_of}
use Rattle.totals.specs.Asked.{answer_in}
use Rattle.totals.specs.declared.refusal.Refusal.{Refusal}
use Rattle.totals.specs.declared.refusal.Refusal.TheVariants.{NoSuchFormat}
use Rattle.targets.specs.declared.several.Target.{Target}
use Rattle.targets.specs.declared.several.Printed.{Printed}
use Rattle.targets.specs.declared.several.Aim.{Aim}

-- refusals 3, 4 and 6 of a target, for a list of n values
unfoldable pub target_numbers : Format → ℕ → ℕ → Format → Settings → ℕ
target_numbers f d n t c =
    refuse_if (not (valid_format f && valid_format t)) 3
    (refuse_if (not (leb d 1 && valid_settings t c)) 4
    (refuse_if (ltb limit n) 6 0))

-- the two formats and the target's settings, of a target whose refusal has the number n, 0 where it
-- is accepted
abbrev pub Aims : Format → Format → Settings → ℕ → Result Aim Refusal → Type 0
Aims f t c n (Ok a) = (layout_of a.list ≡ f) × (layout_of a.layout ≡ t) × (env_of a.env ≡ c)
    × (n ≡ 0)
Aims f t c n (Err r) = number_of r ≡ n

-- what is kept of some values, and a target that its tests let pass
pub record Printable (f t : Format) (c : Settings) (k : Kept) : Type 0 where
  pub settings : SettingsBounds t c
  pub reading : ℕ
  pub values : List ℕ
  pub keeps : Keeps f (reading_with reading) values k

-- the record of a target, whatever values it was kept of
abbrev pub Prints : Format → Format → Settings → Kept → Answer → Type 0
Prints f t c k a =
    (d : ℕ) (l : List ℕ) → target_numbers f d (length l) t c ≡ 0 → any (stray f) l ≡ false
    → Keeps f (reading_with d) l k → a ≡ target_answer f d l t c

-- where the list itself is not refused by these tests, values that were walked, n of them
pub record Listed (f : Format) (d n : ℕ) (r : Result Kept Refusal) : Type 0 where
  pub values : List ℕ
  pub kept : KeptIn f (reading_with d) values r
  pub many : n ≡ length values

abbrev pub Answers : Format → ℕ → ℕ → Format → Settings → Result Kept Refusal → Answer → Type 0
Answers f d n t c r a =
    (l : List ℕ) → n ≡ length l
    → (sum_numbers f (reading_with d) 0 n ≡ 0 → KeptIn f (reading_with d) l r)
    → a ≡ target_answer f d l t c

-- the same of a target that may be refused before
abbrev pub AnswersTo : Format → ℕ → ℕ → Result Target Refusal → Result Kept Refusal → Answer
    → Type 0
AnswersTo f d n (Ok t) r a = Answers f d n (format_of t.format) (settings_of t.settings) r a
AnswersTo f d n (Err e) r a = a ≡ refused (number_of e) (place_of e)

-- and of one that was walked
abbrev pub Told : Format → ℕ → List ℕ → Result Target Refusal → Answer → Type 0
Told f d l (Ok t) a = a ≡ target_answer f d l (format_of t.format) (settings_of t.settings)
Told f d l (Err e) a = a ≡ refused (number_of e) (place_of e)

-- the target whose first number is the j-th
abbrev pub TargetAt : List ℕ → ℕ → Result Target Refusal → Type 0
TargetAt ns j (Ok t) = (misnamed_at ns j ≡ false) × (format_of t.format ≡ format_at ns j)
    × (settings_of t.settings ≡ settings_at ns j)
TargetAt ns j (Err e) = (misnamed_at ns j ≡ true) × (e ≡ NoSuchFormat)

-- the three records of a list, whose format is named as a whole or is not
pub record ThreeAnswers (bad : Bool) (f : Format) (d : ℕ) (l ns : List ℕ)
    (r : Printed) : Type 0 where
  pub first : answer_in r.first ≡ answer_at bad f d l ns 0
  pub second : answer_in r.second ≡ answer_at bad f d l ns 13
  pub third : answer_in r.third ≡ answer_at bad f d l ns 26
