-- What is promised of tables: their refusals, their totals, each of its own row or column, and what
-- a refused call leaves.
use Rattle.std.specs.Prelude.{[], ◌-◌, T as Holds, ◌≡◌, ◌↔◌, List, ℕ, ◌%◌, ℤ, ◌≢◌, ◌*◌, ◌<◌, take}
use Rattle.std.specs.Prelude.{drop, get_or, ◌+◌, length}
use Rattle.totals_spec.specs.entries.Columns.{column_of}
use Rattle.totals_spec.specs.formats.Format.{Format}
use Rattle.totals_spec.specs.formats.Settings.{Settings}
use Rattle.totals_spec.specs.refusals.Conditions.{First}
use Rattle.totals_spec.specs.entries.Words.{format_by}
use Rattle.totals_spec.specs.sums.Totals.{refused, sum_answer, sum_refusal}
use Rattle.totals_spec.specs.refusals.Places.{StrayAt}
use Rattle.totals_spec.specs.entries.Promises.{ReadsBack}
use Rattle.totals_spec.specs.formats.Promises.{naming_own, naming_none}
use Rattle.figures_spec.specs.tables.Examples.{table_examples}
use Rattle.figures_spec.specs.tables.Conditions.{table_conditions, table_entry_conditions}
use Rattle.figures_spec.specs.tables.Table.{table_answer, table_refusal}
use Rattle.figures_spec.specs.tables.Entry.{table_entry}

-- tables: of both shapes of the same cells, without rows or columns, with NaNs and infinities, each
-- refusal but 6 and two at once, and their entry
abbrev pub Tables-agree : Type 0
Tables-agree = Holds table_examples

-- the number in the record of all cells is that of the first condition that holds, in the order 3,
-- 4, 6, 9, 10, 7; and 0 exactly where none holds
abbrev pub Table-refused-exactly : Type 0
Table-refused-exactly = (format : Format) (settings : Settings) (rows columns : ℕ)
    (cells old other : List ℕ)
    (number : ℕ)
    → (table_answer format settings rows columns cells old other).grand.refusal ≡ number
    ↔ First (table_conditions format settings rows columns cells old other) number

-- of its entry, in the lowest byte of the number that it returns, 2 and the naming of the bias
-- before these
abbrev pub Table-entry-refused-exactly : Type 0
Table-entry-refused-exactly =
    (kind exponent_bits width named : ℕ) (bias : ℤ) (settings : Settings) (rows columns : ℕ)
    (cells old other buffer : List ℕ)
    (number : ℕ)
    → (table_entry kind exponent_bits width named bias settings rows columns cells old other buffer).code % 256 ≡ number
    ↔ First (table_entry_conditions named bias buffer
    (table_conditions
    (format_by kind exponent_bits width named bias) settings rows columns cells old other)) number

-- a refused table leaves both lists as they were, and its record is 0 but for number and place
abbrev pub Table-refused : Type 0
Table-refused = (format : Format) (settings : Settings) (rows columns : ℕ)
    (cells old other : List ℕ)
    → table_refusal format settings rows columns cells old other ≢ 0
    → let t = table_answer format settings rows columns cells old other in
    (t.grand ≡ refused (table_refusal format settings rows columns cells old other) t.grand.place)
    × (t.row_totals ≡ old) × (t.column_totals ≡ other)

-- its place is 0 but for number 7, and there that of the first cell with a stray bit
abbrev pub Table-place : Type 0
Table-place = (format : Format) (settings : Settings) (rows columns : ℕ) (cells old other : List ℕ)
    → let r = (table_answer format settings rows columns cells old other).grand in
    (r.refusal ≢ 7 → r.place ≡ 0)
    × (r.refusal ≡ 7 → StrayAt format cells r.place)

-- a refused entry writes nothing
abbrev pub Table-entry-refused : Type 0
Table-entry-refused =
    (kind exponent_bits width named : ℕ) (bias : ℤ) (settings : Settings) (rows columns : ℕ)
    (cells old other buffer : List ℕ)
    → let t = table_entry kind exponent_bits width named bias settings rows columns cells old other buffer in
    t.code ≢ 0 → (t.row_totals ≡ old) × (t.column_totals ≡ other) × (t.buffer ≡ buffer)

-- where it returns 0, the buffer holds the record of the plain sum of all cells
abbrev pub Table-entry-read-back : Type 0
Table-entry-read-back =
    (kind exponent_bits width named : ℕ) (bias : ℤ) (settings : Settings) (rows columns : ℕ)
    (cells old other buffer : List ℕ)
    → let t = table_entry kind exponent_bits width named bias settings rows columns cells old other buffer in
    t.code ≡ 0
    → ReadsBack
    (sum_answer (format_by kind exponent_bits width named bias) settings 0 cells) buffer t.buffer

-- of an accepted table: all cells, each row and each column are accepted by the plain sum, and
-- their totals are what it gives
abbrev pub Table-grand : Type 0
Table-grand = (format : Format) (settings : Settings) (rows columns : ℕ) (cells old other : List ℕ)
    → table_refusal format settings rows columns cells old other ≡ 0
    → (sum_refusal format settings 0 cells ≡ 0)
    × ((table_answer format settings rows columns cells old other).grand
    ≡ sum_answer format settings 0 cells)

abbrev pub Table-row : Type 0
Table-row = (format : Format) (settings : Settings) (rows columns : ℕ) (cells old other : List ℕ)
    → table_refusal format settings rows columns cells old other ≡ 0
    → (i : ℕ) → i < rows → let row = take columns (drop (i * columns) cells) in
    (sum_refusal format settings 0 row ≡ 0)
    × (get_or (table_answer format settings rows columns cells old other).row_totals i 0
    ≡ (sum_answer format settings 0 row).result)

abbrev pub Table-column : Type 0
Table-column = (format : Format) (settings : Settings) (rows columns : ℕ) (cells old other : List ℕ)
    → table_refusal format settings rows columns cells old other ≡ 0
    → (j : ℕ) → j < columns → let column = column_of rows columns cells j in
    (sum_refusal format settings 0 column ≡ 0)
    × (get_or (table_answer format settings rows columns cells old other).column_totals j 0
    ≡ (sum_answer format settings 0 column).result)

-- the cell i of a column j stands at i × columns + j, and a column has as many cells as there are
-- rows
abbrev pub Column-cells : Type 0
Column-cells = (rows columns : ℕ) (cells : List ℕ) (j : ℕ)
    → (length (column_of rows columns cells j) ≡ rows)
    × ((i : ℕ) → i < rows → get_or (column_of rows columns cells j) i 0
    ≡ get_or cells (i * columns + j) 0)

-- each list keeps its length, and what lies beyond the totals; of refused calls too
abbrev pub Table-untouched : Type 0
Table-untouched = (format : Format) (settings : Settings) (rows columns : ℕ)
    (cells old other : List ℕ)
    → let t = table_answer format settings rows columns cells old other in
    (length t.row_totals ≡ length old) × (drop rows t.row_totals ≡ drop rows old)
    × (length t.column_totals ≡ length other) × (drop columns t.column_totals ≡ drop columns other)

-- and so do tables
abbrev pub Table-named-own : Type 0
Table-named-own = (format : Format) (settings : Settings) (rows columns : ℕ)
    (cells old other : List ℕ)
    → table_answer (naming_own format) settings rows columns cells old other
    ≡ table_answer (naming_none format) settings rows columns cells old other

-- a table gets 3 in kind 4
abbrev pub Table-extended-elsewhere : Type 0
Table-extended-elsewhere = (format : Format) → format.kind ≡ 4
    → (settings : Settings) (rows columns : ℕ) (cells old other : List ℕ)
    → (table_answer format settings rows columns cells old other).grand ≡ refused 3 0
