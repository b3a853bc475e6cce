-- The kinds of encodings, and the numbers of a format.
use Rattle.std.specs.Prelude.{◌≡◌, ℕ, ◌+◌, ◌<◌, Bool, ◌&&◌, leb, ℤ, Option, Some, None, Result, MatchResult}
use Rattle.std.proofs.Math.Option as math
use Rattle.totals_spec.specs.formats.Format as spec
use Rattle.format.specs.declared.kind.Kind.{Kind}
use Rattle.format.specs.declared.kind.Kind.TheVariants.{Ieee, NoInf, Fnuz, Finite}
use Rattle.format.specs.declared.kind.UnknownKind.{UnknownKind}

-- the specification's number of a kind
abbrev pub number_of : Kind → ℕ
number_of Ieee = 0
number_of NoInf = 1
number_of Fnuz = 2
number_of Finite = 3

-- the kind with this number, or an error with a number that no kind has
abbrev pub Names : ℕ → Result Kind UnknownKind → Type 0
Names n r = MatchResult r (λ kind. number_of kind ≡ n) (λ e. (e.0 ≡ n) × (3 < n))

abbrev pub bias_in : Option ℤ → math.Option ℤ
bias_in None = math.none
bias_in (Some b) = math.some b

-- the format with these numbers
abbrev pub numbers : Kind → ℕ → ℕ → Option ℤ → spec.Format
numbers k e w b = record { kind = number_of k; E = e; W = w; named = bias_in b }

-- what the arithmetic asks of a format's numbers: at most 64 digits
abbrev pub test_range : ℕ → ℕ → math.Option ℤ → Bool
test_range e w b = leb 2 e && leb e 28 && leb (e + 2) w && leb w (e + 64) && spec.offered b

abbrev pub in_range : ℕ → ℕ → Option ℤ → Bool
in_range e w b = test_range e w (bias_in b)
