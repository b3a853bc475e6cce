use Rattle.std.proofs.Common.{◌∙◌, refl, sym}
use borrow.Author.Tests.{lt-leb}
use Rattle.totals_spec.specs.formats.Format.{valid_format}
use Rattle.format.specs.Formats.{format_of}
use Rattle.format.proofs.Shapes.{valid_range, valid_narrow}
use Rattle.format.proofs.layout.Layout.new.Goals as goal

pub returns-in_default : goal.returns-in_default
unfolding valid_format
returns-in_default c = rw (lt-leb _ _ c.in_default.ensures.1) refl

pub invariant_of-result : goal.invariant_of-result
invariant_of-result c = record { in_range = valid_range (format_of c.args.format) (sym c.valid_format.ensures ∙ c.if-not-valid_format.false) }

pub invariant_of-result-2 : goal.invariant_of-result-2
invariant_of-result-2 c = record { narrow = valid_narrow (format_of c.args.format) (sym c.valid_format.ensures ∙ c.if-not-valid_format.false) }
