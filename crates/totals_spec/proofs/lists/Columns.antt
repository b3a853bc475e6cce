-- The cells of a column, and how many there are.
use mathlib.Core.Path.{◌≡◌, sym, ap, ◌∙◌, refl, subst}
use mathlib.Core.List.{List, [], ◌∷◌, ◌++◌, map, map-append}
use Prim.Native.Nat.{ℕ, ◌*◌, suc, ◌+◌, zero, ◌<◌, ◌^◌, ◌≤◌}
use native.Mathlib.Nat.{zero-mul, suc-mul, not-suc-le-zero, le_of_suc-le-suc, le_trans}
use native.Mathlib.Nat.{le-mul_of_pos_right}
use lib.ListN.{take, drop, length, get_or, length-map, set, length-take, length-drop}
use native.Mathlib.Omega.{arith}
use lib.Seq.{drop-drop, get_or-drop}
use mathlib.Core.Bool.{Bool, false, not, ◌&&◌, true, ◌||◌, cond}
use lib.Pow.{pow_pos}
use borrow.Author.Tests.{lt-leb, ltb-false, le-ltb, not-false, lt-ltb, eq-eqb, ne_eqb, eqb-true}
use borrow.Author.Tests.{eqb-false}
use lib.Dec.{leb, ltb, T, eqb, eqb→eq}
use mathlib.Core.Logic.{◌≢◌, inl, inr}
use Rattle.totals_spec.specs.entries.Columns.{column_of}

pub column-length : (n columns : ℕ) (cells : List ℕ) (j : ℕ) → length (column_of n columns cells j) ≡ n
column-length zero columns cells j = refl
column-length (suc n) columns cells j = ap suc (column-length n columns (drop columns cells) j)

pub column-cell : (n columns : ℕ) (cells : List ℕ) (j i : ℕ) → i < n → get_or (column_of n columns cells j) i 0 ≡ get_or cells (i * columns + j) 0
column-cell zero columns cells j i h = absurd (not-suc-le-zero h)
column-cell (suc n) columns cells j zero h = ap (λ (k : ℕ). get_or cells k 0) place
  where
    place : j ≡ 0 * columns + j
    place = omega (arith, zero-mul columns)
column-cell (suc n) columns cells j (suc i) h =
    column-cell n columns (drop columns cells) j i (le_of_suc-le-suc h) ∙ get_or-drop columns cells (i * columns + j) 0 ∙ ap (λ (k : ℕ). get_or cells k 0) place
  where
    place : columns + (i * columns + j) ≡ suc i * columns + j
    place = omega (arith, suc-mul i columns)
