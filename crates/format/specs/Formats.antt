-- The format that the code's numbers of it are.
use Rattle.totals_spec.specs.formats.Format as spec
use Rattle.format.specs.declared.Format.{Format}
use Rattle.format.specs.Kinds.{bias_in}

abbrev pub format_of : Format → spec.Format
format_of format = record {
  kind = format.kind;
  E = format.exponent_bits;
  W = format.width;
  named = bias_in format.named;
}
