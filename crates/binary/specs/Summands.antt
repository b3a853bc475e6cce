-- What the elements of a list are summed as, and the numbers of it.
use Rattle.std.specs.Prelude.{◌≡◌, ℕ, ◌<◌, Result, MatchResult}
use Rattle.totals_spec.specs.formats.Settings as env
use Rattle.binary.specs.declared.summand.Summand.{Summand}
use Rattle.binary.specs.declared.summand.Summand.TheVariants.{Value, Magnitude, Square}
use Rattle.binary.specs.declared.summand.UnknownSummand.{UnknownSummand}

abbrev pub summand_in : Summand → env.Summand
summand_in Value = env.value
summand_in Magnitude = env.magnitude
summand_in Square = env.square

-- the specification's number
abbrev pub summand_number : Summand → ℕ
summand_number Value = 0
summand_number Magnitude = 1
summand_number Square = 2

-- the summand with this number, or an error with a number that none has
abbrev pub NamesSummand : ℕ → Result Summand UnknownSummand → Type 0
NamesSummand n r = MatchResult r (λ u. summand_number u ≡ n) (λ e. (e.0 ≡ n) × (2 < n))
