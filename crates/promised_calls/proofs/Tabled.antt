-- The totals of a table that are those of the definition.
use Rattle.std.proofs.Common.{◌≡◌, ℕ, List, sym, ap, ◌∙◌, subst}
use Rattle.totals_spec.specs.formats.Format.{Format}
use Rattle.totals_spec.specs.formats.Settings.{Settings}
use Rattle.figures_spec.specs.tables.Conditions.{table_conditions}
use Rattle.totals_spec.specs.refusals.Places.{StrayAt}
use Rattle.figures_spec.specs.tables.Table.{table_answer, table_refusal}
use Rattle.totals_spec.specs.sums.Totals.{Answer, refused}
use Rattle.figures_spec.proofs.tables.RefusedExactly.{table-refused-exactly}
use Rattle.figures_spec.proofs.tables.Tables.{table-refused, table-place, table-grand}
use Rattle.totals_spec.proofs.order.Order.{sum-order}
use Rattle.figures_spec.proofs.tables.Tables.{table-number}
use Rattle.figures.specs.Tables.{Tables}
use Rattle.promised_calls.specs.Order.{Rearranged, WithoutNan}
use Rattle.promised_calls.specs.Refusals.{RefusesExactly, TellsNothingElse, PlacedAt, WritesNothing}

module _ (f : Format) (c : Settings) (rows columns : ℕ) (cells old other : List ℕ) (a : Answer) (new new' : List ℕ)
    (is : Tables (table_answer f c rows columns cells old other) a new new') where
  number : a.refusal ≡ table_refusal f c rows columns cells old other
  number = ap (λ (x : Answer). x.refusal) is.grand-is ∙ table-number f c rows columns cells old other

  pub exactly : RefusesExactly (table_conditions f c rows columns cells old other) a.refusal
  exactly =
      subst (λ (x : Answer). RefusesExactly (table_conditions f c rows columns cells old other) x.refusal) (sym is.grand-is)
      (table-refused-exactly f c rows columns cells old other)

  pub nothing-else : TellsNothingElse a
  nothing-else h =
      is.grand-is
      ∙ ((table-refused f c rows columns cells old other (λ e. h (number ∙ e))).0
      ∙ (λ i. refused (sym number i) (sym (ap (λ (x : Answer). x.place) is.grand-is) i)))

  pub placed : PlacedAt (StrayAt f cells) a.refusal a.place
  placed =
      subst (λ (x : Answer). PlacedAt (StrayAt f cells) x.refusal x.place) (sym is.grand-is) (table-place f c rows columns cells old other)

  pub rows-kept : WritesNothing a.refusal old new
  rows-kept h = is.rows_are ∙ (table-refused f c rows columns cells old other (λ e. h (number ∙ e))).1

  pub columns-kept : WritesNothing a.refusal other new'
  columns-kept h = is.columns-are ∙ (table-refused f c rows columns cells old other (λ e. h (number ∙ e))).2

  pub alike : (rows' columns' : ℕ) (cells' old' other' : List ℕ) (b : Answer) (rows-after columns-after : List ℕ)
      → Tables (table_answer f c rows' columns' cells' old' other') b rows-after columns-after → Rearranged cells cells'
      → a.refusal ≡ 0 → b.refusal ≡ 0 → WithoutNan f cells → a ≡ b
  alike rows' columns' cells' old' other' b rows-after columns-after is' h r r' n =
      let g = table-grand f c rows columns cells old other (sym number ∙ r) in
      let number' = ap (λ (x : Answer). x.refusal) is'.grand-is ∙ table-number f c rows' columns' cells' old' other' in
      let g' = table-grand f c rows' columns' cells' old' other' (sym number' ∙ r') in
      is.grand-is ∙ (g.1 ∙ ((sum-order f c 0 cells cells' h g.0 n).1 ∙ (sym g'.1 ∙ sym is'.grand-is)))
