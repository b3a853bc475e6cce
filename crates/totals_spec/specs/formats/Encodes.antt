-- What can be encoded: a value whose fields fit the format's.
use Rattle.std.specs.Prelude.{◌+◌, ◌-◌, ◌^◌, ◌<◌}
use Rattle.totals_spec.specs.formats.Format.{Format, digits, fraction_bits}
use Rattle.totals_spec.specs.formats.Decode.{Unpacked, zero_of, finite, infinity, nan}

abbrev pub Encodes : Format → Unpacked → Type 0
Encodes f (zero_of s) = Unit
Encodes f (finite s k m) = (k + 1 < 2 ^ f.E) × (m < 2 ^ digits f)
Encodes f (infinity s) = Unit
Encodes f (nan s g m) = m < 2 ^ (fraction_bits f - 1)
