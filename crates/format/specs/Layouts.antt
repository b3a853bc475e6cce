-- The format that a layout is.
use Rattle.std.specs.Prelude.{◌≡◌, true}
use Rattle.totals_spec.specs.formats.Format as spec
use Rattle.format.specs.declared.layout.Layout.{Layout}
use Rattle.format.specs.Shapes.{shape_of}

abbrev pub layout_of : Layout → spec.Format
layout_of layout = shape_of layout.shape

-- the layout of a format that is offered
pub record IsLayout (format : spec.Format) (layout : Layout) : Type 0 where
  pub is : layout_of layout ≡ format
  pub valid : spec.valid_format format ≡ true
