-- How much of its input the program has read.
use Rattle.std.specs.Prelude.{◌<◌, ℕ, List, length, take, Option}
use Rattle.std.specs.Io.KnownBytes.{Consumes, IsAtEnd}

-- known bytes lose those in the front of a buffer: as many as it has, or all that there are
abbrev pub ConsumesFront : Option (List ℕ) → Option (List ℕ) → List ℕ → Type 0
ConsumesFront old new buffer =
    (n : ℕ) × Consumes old new (take n buffer) × (n < length buffer → IsAtEnd new)
