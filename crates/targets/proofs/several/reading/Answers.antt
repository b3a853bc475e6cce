use Rattle.std.proofs.Common.{refl}
use Rattle.totals_spec.specs.rounding.IntoFormat.{reading_with}
use Rattle.targets.proofs.several.reading.Goals as goal

pub returns : goal.returns
unfolding reading_with
returns c =
    let e = c.default.ensures in
    rw (e.0, e.1.0, e.1.1.0, e.1.1.1.0, e.1.1.1.1.0, e.1.1.1.1.1.1.0, e.1.1.1.1.1.1.1) refl
