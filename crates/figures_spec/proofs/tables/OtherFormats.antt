-- Tables in a format that names its kind's own bias, and in kind 4.
use Prim.Native.Nat.{◌-◌, ℕ}
use mathlib.Core.Path.{ap, fun_ext}
use mathlib.Core.List.{List, []}
use Rattle.totals_spec.specs.formats.Settings.{valid_settings}
use Rattle.totals_spec.specs.sums.Totals.{Answer}
use Rattle.totals_spec.proofs.ten_bytes.Calls.{not-offered}
use Rattle.totals_spec.proofs.formats.NamedBias.{valid-own, sum-own}
use Rattle.figures_spec.specs.tables.Table.{table_answer, table_refusal}
use Rattle.figures_spec.specs.tables.Promises.{Table-extended-elsewhere, Table-named-own}

pub table-extended-elsewhere : Table-extended-elsewhere
unfolding table_answer table_refusal
table-extended-elsewhere f h c rows columns cells old other = rw (not-offered f h)

pub table-named-own : Table-named-own
unfolding table_answer table_refusal valid_settings
table-named-own f c rows columns cells old other =
    cc (valid-own f, sum-own f c 0 cells, fun_ext (λ (l : List ℕ). ap (λ (a : Answer). a.result) (sum-own f c 0 l)))
