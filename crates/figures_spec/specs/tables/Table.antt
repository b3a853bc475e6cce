-- Tables: the totals of the rows and of the columns of a table, and of all its cells. The cells are
-- one list, row after row.
use Rattle.std.specs.Prelude.{ℕ, zero, suc, List, [], ◌∷◌, take, drop, get_or, ◌*◌, not, ◌||◌}
use Rattle.std.specs.Prelude.{length, ltb, eqb, cond, map}
use Rattle.totals_spec.specs.entries.Columns.{column_of}
use Rattle.totals_spec.specs.formats.Format.{Format, valid_format}
use Rattle.totals_spec.specs.formats.Settings.{Settings, valid_settings}
use Rattle.totals_spec.specs.sums.Totals.{sum_answer, Answer, stray, limit, refuse_if, first_index}
use Rattle.totals_spec.specs.sums.Totals.{answered}
use Rattle.totals_spec.specs.Basics.{any}
use Rattle.totals_spec.specs.entries.Words.{filled}

-- ---- the cells of a table of `columns` columns

-- the first n rows
abbrev pub rows_of : (n columns : ℕ) → List ℕ → List (List ℕ)
rows_of zero columns cells = []
rows_of (suc n) columns cells = take columns cells ∷ rows_of n columns (drop columns cells)

-- k columns of n cells each, from index j on
abbrev pub columns_from : (n columns : ℕ) → List ℕ → (j k : ℕ) → List (List ℕ)
columns_from n columns cells j zero = []
columns_from n columns cells j (suc k) = column_of n columns cells j
    ∷ columns_from n columns cells (suc j) k

-- ---- what a call leaves behind

-- what the plain sum gives for some cells, as an encoded result
abbrev pub plain_total : Format → Settings → List ℕ → ℕ
plain_total f c cells = (sum_answer f c 0 cells).result

pub record Tabled : Type 0 where
  pub grand : Answer
  pub row_totals : List ℕ
  pub column_totals : List ℕ

-- refusals 3, 4, 6, 9, 10 and 7, in this order. 9: rows times columns is not the number of cells;
-- 10: a list of totals is too short
unfoldable pub table_refusal : Format → Settings → (rows columns : ℕ)
    → (cells row_list column_list : List ℕ) → ℕ
table_refusal f c rows columns cells row_list column_list =
    refuse_if (not (valid_format f)) 3
    (refuse_if (not (valid_settings f c)) 4
    (refuse_if (ltb limit (length cells)) 6
    (refuse_if (not (eqb (rows * columns) (length cells))) 9
    (refuse_if (ltb (length row_list) rows || ltb (length column_list) columns) 10
    (refuse_if (any (stray f) cells) 7 0)))))

-- THE TOTALS of a table; `row_list` and `column_list` are the two lent lists before the call, and a
-- refused call leaves them as they are
unfoldable pub table_answer : Format → Settings → (rows columns : ℕ)
    → (cells row_list column_list : List ℕ) → Tabled
table_answer f c rows columns cells row_list column_list =
    let n = table_refusal f c rows columns cells row_list column_list in
    record {
      grand = answered n (first_index (stray f) cells) (sum_answer f c 0 cells);
      row_totals = cond (eqb n 0)
          (filled (map (plain_total f c) (rows_of rows columns cells)) row_list) row_list;
      column_totals = cond (eqb n 0)
          (filled (map (plain_total f c)
          (columns_from rows columns cells 0 columns)) column_list) column_list;
    }
