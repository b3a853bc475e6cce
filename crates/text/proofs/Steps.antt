-- Reading by pieces: the value of the line that some bytes begin with, and then the lines from 17 bytes on.
use mathlib.Core.Path.{◌≡◌, refl, sym, ap, ◌∙◌}
use mathlib.Core.Bool.{cond}
use mathlib.Core.List.{List, [], ◌∷◌}
use mathlib.Core.Option.{Option, none, some}
use Prim.Native.Nat.{ℕ, suc, ◌<◌}
use native.Mathlib.Omega.{arith}
use lib.Dec.{ltb}
use lib.ListN.{length, drop}
use Rattle.totals_spec.specs.program.Program.{lines, line_value, bad_line, taken, read_from}
use Rattle.text.specs.Reading.{first_line}
use Rattle.text.proofs.FirstLine.{later_lines, not-empty, first-value, later-lines}

abbrev pub value_of : List ℕ → Option ℕ
value_of l = line_value (first_line (lines l))

module _ (l : List ℕ) (v : Option ℕ) (e : value_of l ≡ v) (h : 0 < length l) (n : ℕ) where
  first-and-later : lines l ≡ first_line (lines l) ∷ later_lines (lines l)
  first-and-later = split l h
    where
      split : (s : List ℕ) → 0 < length s → lines s ≡ first_line (lines s) ∷ later_lines (lines s)
      split [] k = absurd (omega arith)
      split (b ∷ bs) k = not-empty b bs

  -- behind a bad line nothing is read, and behind a good one of 16 digits the lines go on
  goes_on : (w : Option ℕ) → value_of l ≡ w → taken w n (read_from (suc n) (later_lines (lines l))) ≡ taken w n (read_from (suc n) (lines (drop 17 l)))
  goes_on none q = refl
  goes_on (some y) q =
      ap (λ (ls : List (List ℕ)). taken (some y) n (read_from (suc n) ls)) (later-lines 16 l (some 0) y (sym (first-value 16 l (some 0)) ∙ q))

  pub read_step : read_from n (lines l) ≡ cond (ltb 8192 n) (bad_line n) (taken v n (read_from (suc n) (lines (drop 17 l))))
  unfolding read_from
  read_step =
      ap (read_from n) first-and-later
      ∙ ap (cond (ltb 8192 n) (bad_line n)) (ap (λ (w : Option ℕ). taken w n (read_from (suc n) (later_lines (lines l)))) e ∙ goes_on v e)
