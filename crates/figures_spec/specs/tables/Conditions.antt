-- The conditions of the refusals of tables.
use Rattle.std.specs.Prelude.{◌≢◌, List, [], ℕ, ◌*◌, length, ◌⊎◌, ◌<◌, ◌∷◌, ℤ}
use Rattle.totals_spec.specs.formats.Format.{Format}
use Rattle.totals_spec.specs.formats.Settings.{Settings}
use Rattle.totals_spec.specs.refusals.Conditions.{BadFormat, BadSettings, TooMany, Stray, Condition}
use Rattle.totals_spec.specs.refusals.Conditions.{Short, Misnamed}

-- ---- 9 and 10: rows times columns is not the number of cells, a list of totals too short for its
-- rows or columns

abbrev pub BadShape : (rows columns : ℕ) → List ℕ → Type 0
BadShape rows columns cells = rows * columns ≢ length cells

abbrev pub NoRoom : (rows columns : ℕ) → List ℕ → List ℕ → Type 0
NoRoom rows columns row_list column_list = (length row_list < rows) ⊎ (length column_list < columns)

abbrev pub table_conditions : Format → Settings → (rows columns : ℕ)
    → (cells row_list column_list : List ℕ) → List Condition
table_conditions f c rows columns cells row_list column_list =
    (3, BadFormat f)
    ∷ (4, BadSettings f c)
    ∷ (6, TooMany cells)
    ∷ (9, BadShape rows columns cells)
    ∷ (10, NoRoom rows columns row_list column_list)
    ∷ (7, Stray f cells)
    ∷ []

-- the entry's own, and then those of the table
abbrev pub table_entry_conditions : ℕ → ℤ → List ℕ → List Condition → List Condition
table_entry_conditions named b old table = (2, Short old) ∷ (3, Misnamed named b) ∷ table
