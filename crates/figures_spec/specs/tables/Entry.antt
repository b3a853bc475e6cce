-- The entry of a table, and what it leaves: a number, the two lists of totals, and the answer
-- buffer with the total of all cells.
use Rattle.std.specs.Prelude.{List, [], ℕ, cond, ℤ}
use Rattle.totals_spec.specs.entries.Bytes.{entered, short}
use Rattle.totals_spec.specs.formats.Settings.{Settings}
use Rattle.totals_spec.specs.entries.Words.{misnamed, format_by}
use Rattle.figures_spec.specs.tables.Table.{Tabled, table_answer}

-- ---- what the entry of a table leaves behind: a number, the two lists of totals, and the answer
-- buffer with the total of all cells

pub record TableEntry : Type 0 where
  pub code : ℕ
  pub row_totals : List ℕ
  pub column_totals : List ℕ
  pub buffer : List ℕ

-- the total of all cells is written as that of a byte entry is; a refused table leaves the two
-- lists as they were
abbrev pub table_entered : Tabled → List ℕ → TableEntry
table_entered t old = record {
  code = (entered t.grand old).code;
  row_totals = t.row_totals;
  column_totals = t.column_totals;
  buffer = (entered t.grand old).buffer;
}

-- THE ENTRY of a table: refusal 2 first, then a format that is not named as a whole, then the
-- table's own
unfoldable pub table_entry :
    (kind exponent_bits width named : ℕ) (bias : ℤ) → Settings → (rows columns : ℕ)
    → (cells row_list column_list old : List ℕ) → TableEntry
table_entry k e w named b c rows columns cells row_list column_list old =
    cond (short old)
    (record { code = 2; row_totals = row_list; column_totals = column_list; buffer = old })
    (cond (misnamed named b)
    (record { code = 3; row_totals = row_list; column_totals = column_list; buffer = old })
    (table_entered
    (table_answer (format_by k e w named b) c rows columns cells row_list column_list) old))
