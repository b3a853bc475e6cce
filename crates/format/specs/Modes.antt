-- The modes, and their numbers in the specification.
use Rattle.std.specs.Prelude.{◌≡◌, ℕ, ◌<◌, Bool, true, false, Result, MatchResult}
use Rattle.format.specs.declared.modes.Rounding.{Rounding}
use Rattle.format.specs.declared.modes.Rounding.TheVariants.{TiesToEven, TiesToAway, TiesTowardZero}
use Rattle.format.specs.declared.modes.Rounding.TheVariants.{TowardPositive, TowardNegative, TowardZero}
use Rattle.format.specs.declared.modes.Rounding.TheVariants.{AwayFromZero, ToOdd}
use Rattle.format.specs.declared.modes.Tininess.{Tininess}
use Rattle.format.specs.declared.modes.Tininess.TheVariants.{BeforeRounding, AfterRounding}
use Rattle.format.specs.declared.modes.NanPropagation.{NanPropagation}
use Rattle.format.specs.declared.modes.NanPropagation.TheVariants.{SignalingFirst, FirstOperand}
use Rattle.format.specs.declared.modes.NanPropagation.TheVariants.{LargerSignificand, DefaultNan}
use Rattle.format.specs.declared.modes.UnknownMode.{UnknownMode}

abbrev pub rounding_number : Rounding → ℕ
rounding_number TiesToEven = 0
rounding_number TiesToAway = 1
rounding_number TiesTowardZero = 2
rounding_number TowardPositive = 3
rounding_number TowardNegative = 4
rounding_number TowardZero = 5
rounding_number AwayFromZero = 6
rounding_number ToOdd = 7

abbrev pub tininess_number : Tininess → ℕ
tininess_number BeforeRounding = 0
tininess_number AfterRounding = 1

abbrev pub propagation_number : NanPropagation → ℕ
propagation_number SignalingFirst = 0
propagation_number FirstOperand = 1
propagation_number LargerSignificand = 2
propagation_number DefaultNan = 3

abbrev pub switch_number : Bool → ℕ
switch_number false = 0
switch_number true = 1

-- the mode with this number, or an error with a number above the last
abbrev pub Named : {A : Type 0} → (A → ℕ) → ℕ → ℕ → Result A UnknownMode → Type 0
Named number last n r = MatchResult r (λ mode. number mode ≡ n) (λ e. (e.0 ≡ n) × (last < n))

abbrev pub NamesRounding : ℕ → Result Rounding UnknownMode → Type 0
NamesRounding = Named rounding_number 7

abbrev pub NamesTininess : ℕ → Result Tininess UnknownMode → Type 0
NamesTininess = Named tininess_number 1

abbrev pub NamesPropagation : ℕ → Result NanPropagation UnknownMode → Type 0
NamesPropagation = Named propagation_number 3

abbrev pub NamesSwitch : ℕ → Result Bool UnknownMode → Type 0
NamesSwitch = Named switch_number 1
