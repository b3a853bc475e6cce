-- The totals of the first i rows are filled in.
use Rattle.std.proofs.Common.{◌≡◌, map}
use Rattle.figures_spec.specs.tables.Table as spec
use Rattle.totals_spec.specs.entries.Words.{filled}
use Rattle.format.specs.Layouts.{layout_of}
use Rattle.format.specs.Environments.{env_of}
use Rattle.figures.proofs.table.fill_rows.Given as goal

abbrev pub invariant-loop-i : goal.invariant-loop-i
invariant-loop-i l = l.totals ≡ filled (map (spec.plain_total (layout_of l.layout) (env_of l.env)) (spec.rows_of l.i l.columns l.cells)) l.initial.totals
