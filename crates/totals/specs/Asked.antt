-- What a total is asked with, once it is in its ranges, or the refusal's number; and the record of
-- what may be refused.
use Rattle.std.specs.Prelude.{◌≡◌, Bool, true, false, ℕ, ◌<◌, Result, Ok, Err}
use Rattle.totals_spec.specs.formats.Format.{Format, valid_format}
use Rattle.totals_spec.specs.formats.Settings.{Settings, valid_settings}
use Rattle.totals_spec.specs.sums.Totals.{Answer, refused}
use Rattle.format.specs.declared.layout.Layout.{Layout}
use Rattle.format.specs.declared.env.Env.{Env}
use Rattle.format.specs.Layouts.{layout_of, IsLayout}
use Rattle.format.specs.Environments.{env_of, IsEnv}
use Rattle.binary.specs.declared.summand.Summand.{Summand}
use Rattle.binary.specs.Summands.{summand_number}
use Rattle.reduction.specs.declared.total.Answer as code
use Rattle.reduction.specs.Answered.{answer_of}
use Rattle.totals.specs.declared.refusal.Refusal.{Refusal}
use Rattle.totals.specs.declared.refusal.Refusal.TheVariants.{NoSuchFormat, SettingOutOfRange}
use Rattle.totals.specs.declared.refusal.Asked.{Asked}
use Rattle.totals.specs.Refusal.{number_of, place_of}

abbrev pub RefusesIf : Bool → Refusal → Result (Unit {0}) Refusal → Type 0
RefusesIf holds r (Ok x) = holds ≡ false
RefusesIf holds r (Err e) = (holds ≡ true) × (e ≡ r)

abbrev pub LayoutFor : Format → Result Layout Refusal → Type 0
LayoutFor f (Ok l) = IsLayout f l
LayoutFor f (Err r) = (r ≡ NoSuchFormat) × (valid_format f ≡ false)

abbrev pub SetFor : Format → Settings → Result Env Refusal → Type 0
SetFor f c (Ok e) = IsEnv f c e
SetFor f c (Err r) = (r ≡ SettingOutOfRange) × (valid_settings f c ≡ false)

abbrev pub SummandFor : ℕ → Result Summand Refusal → Type 0
SummandFor u (Ok s) = summand_number s ≡ u
SummandFor u (Err r) = (r ≡ SettingOutOfRange) × (2 < u)

-- of a dot whose refusal has the number n, 0 where it is accepted; and of a sum
abbrev pub Asks : Format → Settings → ℕ → Result Asked Refusal → Type 0
Asks f c n (Ok a) = (layout_of a.layout ≡ f) × (env_of a.env ≡ c) × (n ≡ 0)
Asks f c n (Err r) = number_of r ≡ n

abbrev pub AsksSum : Format → Settings → (u n : ℕ) → Result (Asked × Summand) Refusal → Type 0
AsksSum f c u n (Ok a) =
    (layout_of a.0.layout ≡ f) × (env_of a.0.env ≡ c) × (summand_number a.1 ≡ u) × (n ≡ 0)
AsksSum f c u n (Err r) = number_of r ≡ n

-- the same of values of ten bytes, which have one format
abbrev pub AsksTens : Settings → ℕ → Result Env Refusal → Type 0
AsksTens c n (Ok e) = (env_of e ≡ c) × (n ≡ 0)
AsksTens c n (Err r) = number_of r ≡ n

abbrev pub AsksTenSum : Settings → (u n : ℕ) → Result (Env × Summand) Refusal → Type 0
AsksTenSum c u n (Ok a) = (env_of a.0 ≡ c) × (summand_number a.1 ≡ u) × (n ≡ 0)
AsksTenSum c u n (Err r) = number_of r ≡ n

-- the record of a total that may be refused
abbrev pub answer_in : Result code.Answer Refusal → Answer
answer_in (Ok a) = answer_of a
answer_in (Err r) = refused (number_of r) (place_of r)
