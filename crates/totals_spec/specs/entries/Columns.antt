-- A column of a list of cells that lie row after row.
use Rattle.std.specs.Prelude.{ℕ, zero, suc, List, [], ◌∷◌, drop, get_or}

-- of the first n rows, the cells at index j
abbrev pub column_of : (n columns : ℕ) → List ℕ → (j : ℕ) → List ℕ
column_of zero columns cells j = []
column_of (suc n) columns cells j = get_or cells j 0 ∷ column_of n columns (drop columns cells) j
