-- What a layout keeps to.
use Rattle.totals_spec.specs.formats.Bounds.{FormatBounds}
use Rattle.format.specs.declared.layout.Layout.{Layout}
use Rattle.format.specs.Layouts.{layout_of}
use Rattle.format.proofs.Shapes.{range_bounds}

pub layout_bounds : (l : Layout) → FormatBounds (layout_of l)
layout_bounds l = let b = range_bounds l.shape in record {
  kind-le = b.kind-le;
  e-ge = b.e-ge;
  e-le = b.e-le;
  w-ge = b.w-ge;
  w_le = l.narrow;
  named-le = b.named-le;
  range = b;
}
