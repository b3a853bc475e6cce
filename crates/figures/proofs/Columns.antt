-- The rows and columns of a table, which have no more elements than the table.
use mathlib.Core.Path.{◌≡◌, refl}
use mathlib.Core.Bool.{Bool, true, false, not, ◌&&◌}
use Prim.Native.Nat.{ℕ, ◌≤◌}
use native.Mathlib.Omega.{arith}
use lib.Dec.{leb, ltb}
use borrow.Author.Tests.{ltb-false, le-ltb}
use Rattle.totals_spec.specs.formats.Format.{Format, valid_format}
use Rattle.totals_spec.specs.formats.Settings.{Settings, valid_settings}
use Rattle.totals_spec.specs.sums.Totals.{limit, refuse_if}
use Rattle.totals.specs.Refusal.{sum_numbers}

-- what passes the tests passes them with fewer elements

pub fewer-pass : (f : Format) (c : Settings) (u n m : ℕ) → n ≤ m → sum_numbers f c u m ≡ 0 → sum_numbers f c u n ≡ 0
unfolding sum_numbers
fewer-pass f c u n m h = go (not (valid_format f)) (not (valid_settings f c && leb u 2)) (ltb limit m) refl
  where
    go : (a b d : Bool) → ltb limit m ≡ d → refuse_if a 3 (refuse_if b 4 (refuse_if d 6 0)) ≡ 0
        → refuse_if a 3 (refuse_if b 4 (refuse_if (ltb limit n) 6 0)) ≡ 0
    go true b d q e = e
    go false true d q e = e
    go false false true q e = absurd (omega (arith, e))
    go false false false q e = rw (le-ltb limit n (omega (arith, h, ltb-false limit m q)))
