-- The format that a shape is.
use Rattle.totals_spec.specs.formats.Format as spec
use Rattle.format.specs.declared.shape.Shape.{Shape}
use Rattle.format.specs.Kinds.{numbers}

abbrev pub shape_of : Shape → spec.Format
shape_of shape = numbers shape.kind shape.exponent_bits shape.width shape.bias
