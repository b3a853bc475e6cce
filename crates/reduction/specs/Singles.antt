-- Which terms have one word: those of values and magnitudes.
use Rattle.std.specs.Prelude.{Bool, true, false}
use Rattle.binary.specs.declared.summand.Summand.{Summand}
use Rattle.binary.specs.declared.summand.Summand.TheVariants.{Value, Magnitude, Square}

abbrev pub is_single : Summand → Bool
is_single Value = true
is_single Magnitude = true
is_single Square = false
