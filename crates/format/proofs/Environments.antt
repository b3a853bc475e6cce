-- The modes of an environment are in their ranges, and with the precision they are valid settings.
use Rattle.std.proofs.Common.{◌≡◌, refl, sym, subst, ℕ, ◌<◌, ◌≤◌, Bool, true, false, arith, Option, Some, None, true≢false}
use Rattle.std.specs.Option.{ForSome, unwrap_or}
use lib.Dec.{leb}
use borrow.Author.Tests.{le-leb, lt-leb}
use Rattle.totals_spec.specs.Basics.{is_set}
use Rattle.totals_spec.specs.formats.Format.{Format, digits}
use Rattle.totals_spec.specs.formats.Settings.{Settings, valid_settings, chosen}
use Rattle.format.specs.declared.modes.Rounding.{Rounding}
use Rattle.format.specs.declared.modes.Rounding.TheVariants.{TiesToEven, TiesToAway, TiesTowardZero}
use Rattle.format.specs.declared.modes.Rounding.TheVariants.{TowardPositive, TowardNegative, TowardZero, AwayFromZero, ToOdd}
use Rattle.format.specs.declared.modes.Tininess.{Tininess}
use Rattle.format.specs.declared.modes.Tininess.TheVariants.{BeforeRounding, AfterRounding}
use Rattle.format.specs.declared.modes.NanPropagation.{NanPropagation}
use Rattle.format.specs.declared.modes.NanPropagation.TheVariants.{SignalingFirst, FirstOperand, LargerSignificand, DefaultNan}
use Rattle.format.specs.declared.env.Env.{Env}
use Rattle.format.specs.Modes.{rounding_number, tininess_number, propagation_number, switch_number}
use Rattle.format.specs.Environments.{env_of, are_modes, precision_number}
use Rattle.format.proofs.Chosen.{chosen-some}

pub rounding_in : (r : Rounding) → leb (rounding_number r) 7 ≡ true
rounding_in TiesToEven = refl
rounding_in TiesToAway = refl
rounding_in TiesTowardZero = refl
rounding_in TowardPositive = refl
rounding_in TowardNegative = refl
rounding_in TowardZero = refl
rounding_in AwayFromZero = refl
rounding_in ToOdd = refl

tininess_in : (t : Tininess) → leb (tininess_number t) 1 ≡ true
tininess_in BeforeRounding = refl
tininess_in AfterRounding = refl

propagation_in : (p : NanPropagation) → leb (propagation_number p) 3 ≡ true
propagation_in SignalingFirst = refl
propagation_in FirstOperand = refl
propagation_in LargerSignificand = refl
propagation_in DefaultNan = refl

switch_in : (b : Bool) → leb (switch_number b) 1 ≡ true
switch_in false = refl
switch_in true = refl

modes_in : (e : Env) → are_modes (env_of e) ≡ true
modes_in e =
    rw (
      rounding_in e.rounding,
      tininess_in e.tininess,
      propagation_in e.nan_propagation,
      switch_in e.default_nan_negative,
      switch_in e.flush_to_zero,
      switch_in e.denormals_are_zero,
      switch_in e.saturate,
    ) refl

module _ (format : Format) (settings : Settings) where
  pub bad_modes : are_modes settings ≡ false → valid_settings format settings ≡ false
  unfolding valid_settings
  bad_modes h = rw h refl

  module _ (e : Env) (is : env_of e ≡ settings) where
    modes : are_modes settings ≡ true
    modes = subst (λ (x : Settings). are_modes x ≡ true) is (modes_in e)

    pub all_valid : settings.precision ≤ digits format → valid_settings format settings ≡ true
    unfolding valid_settings
    all_valid h = rw (modes, le-leb _ _ h) refl

    pub bad_precision : digits format < settings.precision → valid_settings format settings ≡ false
    unfolding valid_settings
    bad_precision h = rw (modes, lt-leb _ _ h) refl

pub digits_chosen : (o : Option ℕ) (p : ℕ) → ForSome o (λ q. 0 < q) → unwrap_or o p ≡ chosen (precision_number o) p
digits_chosen None p h = refl
digits_chosen (Some q) p h = sym (chosen-some q p (λ e. omega (arith, h q refl)))

-- a setting that is on, or off
pub switched_on : (b : Bool) → b ≡ true → switch_number b ≡ 0 → ⊥
switched_on true h e = omega (arith, e)
switched_on false h e = true≢false (sym h)

pub switched_off : (b : Bool) → b ≡ false → switch_number b ≡ 0
switched_off false h = refl
switched_off true h = absurd (true≢false h)

pub set_is : (b : Bool) → is_set (switch_number b) ≡ b
set_is false = refl
set_is true = refl
