-- What a call for a table leaves behind: the record of all cells, and the two lists of totals.
use Rattle.std.specs.Prelude.{◌≡◌, List, ℕ}
use Rattle.figures_spec.specs.tables.Table.{Tabled}
use Rattle.totals_spec.specs.sums.Totals.{Answer}
use Rattle.figures_spec.specs.tables.Entry.{TableEntry}

pub record Tables (t : Tabled) (grand : Answer) (rows columns : List ℕ) : Type 0 where
  pub grand-is : grand ≡ t.grand
  pub rows_are : rows ≡ t.row_totals
  pub columns-are : columns ≡ t.column_totals

-- and of its entry, which lends a buffer beside them
pub record EntersTable (e : TableEntry) (code : ℕ) (rows columns buffer : List ℕ) : Type 0 where
  pub code_is : code ≡ e.code
  pub rows_are : rows ≡ e.row_totals
  pub columns-are : columns ≡ e.column_totals
  pub buffer-is : buffer ≡ e.buffer
