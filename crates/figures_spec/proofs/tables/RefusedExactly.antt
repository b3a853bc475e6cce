-- The refusal number of a table is that of the first condition that holds.
use mathlib.Core.Logic.{◌↔◌}
use mathlib.Core.Bool.{◌||◌, not, Bool, true, false}
use mathlib.Core.List.{List, []}
use Prim.Native.Nat.{ℕ, ◌*◌, ◌%◌, ◌<◌}
use lib.Dec.{T, ltb, ltb→lt, lt→ltb, eqb}
use lib.ListN.{length}
use mathlib.Core.Path.{◌≡◌, refl}
use Rattle.totals_spec.specs.Basics.{any}
use Rattle.totals_spec.specs.formats.Format.{Format, valid_format}
use Rattle.totals_spec.specs.formats.Settings.{Settings, valid_settings}
use Rattle.totals_spec.specs.sums.Totals.{stray, limit, refuse_if}
use Rattle.totals_spec.specs.entries.Bytes.{short}
use Rattle.totals_spec.specs.entries.Words.{misnamed, format_by}
use Rattle.totals_spec.proofs.refusals.Exactly.{either, Tests, last, test, different, format-fails}
use Rattle.totals_spec.proofs.refusals.Exactly.{settings-fail, many-found, stray-found, exactly}
use Rattle.totals_spec.proofs.refusals.Exactly.{short-found, misnamed-found}
use Rattle.totals_spec.proofs.entries.RefusedExactly.{entry-number}
use Rattle.figures_spec.specs.tables.Conditions.{NoRoom, table_conditions}
use Rattle.figures_spec.specs.tables.Table.{table_refusal, Tabled, table_answer}
use Rattle.figures_spec.specs.tables.Promises.{Table-refused-exactly, Table-entry-refused-exactly}
use Rattle.figures_spec.specs.tables.Entry.{table_entry}
use Rattle.figures_spec.proofs.tables.Tables.{table-number, table_tested, table-small}

-- ---- tables

room-found : (rows columns : ℕ) (old other : List ℕ) → T (ltb (length old) rows || ltb (length other) columns) ↔ NoRoom rows columns old other
room-found rows columns old other =
    either (ltb (length old) rows) (ltb (length other) columns) (ltb→lt (length old) rows, lt→ltb (length old) rows)
    (ltb→lt (length other) columns, lt→ltb (length other) columns)

table-tests : (f : Format) (c : Settings) (rows columns : ℕ) (cells old other : List ℕ)
    → Tests (table_conditions f c rows columns cells old other) (table_refusal f c rows columns cells old other)
unfolding table_refusal
table-tests f c rows columns cells old other =
    test (not (valid_format f)) (format-fails f)
    (test (not (valid_settings f c)) (settings-fail f c)
    (test (ltb limit (length cells)) (many-found cells)
    (test (not (eqb (rows * columns) (length cells))) (different (rows * columns) (length cells))
    (test (ltb (length old) rows || ltb (length other) columns) (room-found rows columns old other)
    (test (any (stray f) cells) (stray-found f cells) last)))))

pub table-refused-exactly : Table-refused-exactly
table-refused-exactly f c rows columns cells old other n =
    rw (table-number f c rows columns cells old other) (exactly (table-tests f c rows columns cells old other) n)

-- ---- and of their entry

table-entry-number : (a b : Bool) (t : Tabled) (old other buffer : List ℕ) → t.grand.refusal < 256
    → (table_tested a b t old other buffer).code % 256 ≡ refuse_if a 2 (refuse_if b 3 t.grand.refusal)
table-entry-number true b t old other buffer h = refl
table-entry-number false true t old other buffer h = refl
table-entry-number false false t old other buffer h = entry-number false false t.grand buffer h

pub table-entry-refused-exactly : Table-entry-refused-exactly
unfolding table_entry
table-entry-refused-exactly k e w named b c rows columns cells old other buffer n =
    let f = format_by k e w named b in
    let t = table_answer f c rows columns cells old other in
    rw (
      table-entry-number (short buffer) (misnamed named b) t old other buffer (table-small f c rows columns cells old other).number,
      table-number f c rows columns cells old other,
    )
    (exactly (test (short buffer) (short-found buffer)
    (test (misnamed named b) (misnamed-found named b) (table-tests f c rows columns cells old other))) n)
