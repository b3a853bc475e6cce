-- The cells of a column among those of its table.
use mathlib.Core.Path.{◌≡◌, sym, ap, ◌∙◌}
use mathlib.Core.List.{List}
use Prim.Native.Nat.{ℕ, zero, suc, ◌+◌, ◌*◌, ◌^◌, ◌<◌, ◌≤◌}
use native.Mathlib.Nat.{mul-le-mul_right, mul_comm}
use native.Mathlib.Numerals.{add-one-le}
use native.Mathlib.Omega.{arith}
use lib.ListN.{length, get_or, drop}
use lib.Seq.{get_or-drop}
use Rattle.totals_spec.specs.entries.Columns.{column_of}
use Rattle.totals_spec.proofs.lists.Columns.{column-length, column-cell}

module _ (count step first : ℕ) (cells : List ℕ) (i : ℕ) (h : i < length (column_of count step cells first)) where
  row : i < count
  row = rw (column-length count step cells first) at h

  -- it is there
  pub cell-there : (first < step) × (count * step ≤ length cells) → first + step * i < length cells
  cell-there (a, b) = omega (arith, mul-le-mul_right step (add-one-le row), mul_comm step i)

  pub cell-is : get_or cells (first + step * i) 0 ≡ get_or (column_of count step cells first) i 0
  cell-is =
      let place : first + step * i ≡ i * step + first = omega (arith, mul_comm step i) in
      ap (λ (k : ℕ). get_or cells k 0) place ∙ sym (column-cell count step cells first i row)

-- each fits a word, as those of the table do
pub cells-fit : (count step first : ℕ) (cells : List ℕ) → ((k : ℕ) → get_or cells k 0 < 2 ^ 64)
    → (i : ℕ) → get_or (column_of count step cells first) i 0 < 2 ^ 64
cells-fit zero step first cells h i = omega arith
cells-fit (suc n) step first cells h zero = h first
cells-fit (suc n) step first cells h (suc i) = cells-fit n step first (drop step cells) (λ k. rw (get_or-drop step cells k 0) (h (step + k))) i
