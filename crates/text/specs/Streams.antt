-- How the program ends: what is left of its input, and what of the text is written, failures
-- included.
use Rattle.std.specs.Prelude.{◌≡◌, ◌≢◌, ◌<◌, ℕ, List, length, take, drop}
use Rattle.std.specs.Prelude.{Option, Some, Result, Ok, Err}
use Rattle.std.specs.Io.KnownBytes.{Appends, Consumes, Keeps}
use Rattle.std.specs.IoError.{error_kind}
use Rattle.std.specs.declared.io.ErrorKind.TheVariants.{Interrupted}
use Rattle.text.specs.declared.stream.Failure.{Failure}
use Rattle.text.specs.declared.stream.Failure.TheVariants.{Input, Output}

-- known bytes lose some from the front, fewer than a number
abbrev pub ConsumesFewer : Option (List ℕ) → Option (List ℕ) → ℕ → Type 0
ConsumesFewer old new most = (bytes : List ℕ) × (length bytes < most) × Consumes old new bytes

-- known bytes grow by the front of some bytes, and not by all of them
abbrev pub AppendsPart : Option (List ℕ) → Option (List ℕ) → List ℕ → Type 0
AppendsPart old new bytes = (n : ℕ) × (n < length bytes) × Appends old new (take n bytes)

-- what is left of an input: all behind the bytes that decide its text. Where it failed, some of
-- these are left too
abbrev pub IsLeft : {U : Type 0} → Result U Failure → (input : List ℕ) → (left : Option (List ℕ))
    → Type 0
IsLeft (Ok u) input left = left ≡ Some (drop 139265 input)
IsLeft (Err (Input e)) input left = ConsumesFewer (Some input) left 139265
IsLeft (Err (Output e)) input left = left ≡ Some (drop 139265 input)

-- what is written of a text: all of it. Where the input failed, nothing; where the output did, a
-- part
abbrev pub IsWritten : {U : Type 0} → Result U Failure → (text : List ℕ)
    → (before after : Option (List ℕ)) → Type 0
IsWritten (Ok u) text before after = Appends before after text
IsWritten (Err (Input e)) text before after = Keeps before after
IsWritten (Err (Output e)) text before after = AppendsPart before after text

-- no write fails because it was interrupted: such a one is tried again
abbrev pub IsTried : {U : Type 0} → Result U Failure → Type 0
IsTried (Ok u) = Unit {0}
IsTried (Err (Input e)) = Unit {0}
IsTried (Err (Output e)) = error_kind e ≢ Interrupted
