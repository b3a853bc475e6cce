-- The totals of the first j columns are filled in.
use Rattle.std.proofs.Common.{◌≡◌, map}
use Rattle.figures_spec.specs.tables.Table as spec
use Rattle.totals_spec.specs.entries.Words.{filled}
use Rattle.format.specs.Layouts.{layout_of}
use Rattle.format.specs.Environments.{env_of}
use Rattle.figures.proofs.table.fill_columns.Given as goal

abbrev pub invariant-loop-j : goal.invariant-loop-j
invariant-loop-j l =
    l.totals ≡ filled (map (spec.plain_total (layout_of l.layout) (env_of l.env)) (spec.columns_from l.rows l.columns l.cells 0 l.j)) l.initial.totals
