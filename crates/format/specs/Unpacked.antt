-- The decoded value that the code's enum is.
use Rattle.totals_spec.specs.formats.Decode as dec
use Rattle.format.specs.declared.unpacked.Unpacked.{Unpacked}
use Rattle.format.specs.declared.unpacked.Unpacked.TheVariants.{Zero, Finite, Infinity, Nan}

abbrev pub unpacked_of : Unpacked → dec.Unpacked
unpacked_of (Zero s) = dec.zero_of s
unpacked_of (Finite s k m) = dec.finite s k m
unpacked_of (Infinity s) = dec.infinity s
unpacked_of (Nan s g m) = dec.nan s g m
