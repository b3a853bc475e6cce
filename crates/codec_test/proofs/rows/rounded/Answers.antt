-- The tests before a rounding say what it asks for.
use Rattle.std.proofs.Common.{sym, subst, arith}
use Rattle.std.proofs.lemmas.Grind.{common_steps}
use Rattle.totals_spec.specs.formats.Bounds.{SettingsBounds}
use Rattle.totals_spec.proofs.numbers.Bits.{T_of}
use Rattle.totals_spec.proofs.formats.Valid.{settings-bounds}
use Rattle.format.specs.Settings.{settings_of}
use Rattle.format.specs.Shapes.{shape_of}
use Rattle.format.proofs.Shapes.{range_bounds}
use Rattle.codec_test.proofs.rows.rounded.Goals as goal

pub round-rounding-requires : goal.round-rounding-requires
round-rounding-requires c =
    let f = shape_of c.args.layout.shape in
    let new = c.in_ok-env.ensures in
    record {
      format = range_bounds c.args.layout.shape;
      settings = subst (SettingsBounds f) (sym new.is) (settings-bounds f (settings_of c.args.settings) (T_of new.valid));
      some = grind (arith, common_steps);
      high = grind (arith, common_steps);
      low = grind (arith, common_steps);
      grid = omega arith;
      long = c.is_long.ensures c.if-is_long.true;
    }
