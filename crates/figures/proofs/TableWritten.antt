-- The entry of a table: what it leaves by its two tests and by the table.
use mathlib.Core.Path.{◌≡◌, refl, ap, ◌∙◌}
use mathlib.Core.Bool.{true, false}
use mathlib.Core.List.{List}
use Prim.Native.Nat.{ℕ, ◌<◌, ◌≤◌}
use lib.ListN.{length}
use borrow.Author.Tests.{lt-ltb, le-ltb}
use Rattle.totals_spec.specs.formats.Settings.{Settings}
use Rattle.totals_spec.specs.sums.Totals as totals
use Rattle.totals_spec.specs.entries.Bytes.{entered}
use Rattle.figures_spec.specs.tables.Table.{table_answer}
use Rattle.totals_spec.specs.entries.Words.{misnamed, format_by}
use Rattle.figures_spec.specs.tables.Entry.{table_entry}
use Rattle.totals.specs.declared.entry.NamedFormat.{NamedFormat}
use Rattle.totals.specs.Entered.{Enters}
use Rattle.figures.specs.Tables.{EntersTable}
use Rattle.figures.specs.Tables.{Tables}

module _ (named : NamedFormat) (c : Settings) (rows columns : ℕ) (cells old other buffer : List ℕ) where
  pub table-short : length buffer < 24 → EntersTable (table_entry named.kind named.exponent_bits named.width named.bias_named named.bias c rows columns cells old other buffer) 2 old other buffer
  unfolding table_entry
  table-short h = rw (lt-ltb (length buffer) 24 h) (record { code_is = refl; rows_are = refl; columns-are = refl; buffer-is = refl })

  module _ (room : 24 ≤ length buffer) where
    pub table-misnamed : misnamed named.bias_named named.bias ≡ true → EntersTable (table_entry named.kind named.exponent_bits named.width named.bias_named named.bias c rows columns cells old other buffer) 3 old other buffer
    unfolding table_entry
    table-misnamed m = rw (le-ltb (length buffer) 24 room, m) (record { code_is = refl; rows_are = refl; columns-are = refl; buffer-is = refl })

    pub table-enters : misnamed named.bias_named named.bias ≡ false → (a : totals.Answer) (row_totals column_totals : List ℕ)
        → Tables (table_answer (format_by named.kind named.exponent_bits named.width named.bias_named named.bias) c rows columns cells old other) a row_totals column_totals → (code : ℕ) (new : List ℕ)
        → Enters (entered a buffer) code new
        → EntersTable (table_entry named.kind named.exponent_bits named.width named.bias_named named.bias c rows columns cells old other buffer) code row_totals column_totals new
    unfolding table_entry
    table-enters m a r s t code new h =
        rw (le-ltb (length buffer) 24 room, m) (record {
          code_is = h.code_is ∙ ap (λ (x : totals.Answer). (entered x buffer).code) t.grand-is;
          rows_are = t.rows_are;
          columns-are = t.columns-are;
          buffer-is = h.buffer-is ∙ ap (λ (x : totals.Answer). (entered x buffer).buffer) t.grand-is;
        })
