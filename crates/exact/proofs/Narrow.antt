-- A window to round, in two words.
use mathlib.Core.Path.{◌≡◌, refl, sym, ap, ap₂, ◌∙◌}
use mathlib.Core.Bool.{Bool, not, ◌||◌}
use mathlib.Core.List.{List}
use Prim.Native.Nat.{ℕ, ◌+◌, ◌-◌, ◌*◌, ◌/◌, ◌%◌, ◌^◌, ◌≤◌, ◌<◌}
use native.Mathlib.Nat.{div-one, lt_of_lt_of_le}
use native.Mathlib.Omega.{arith}
use lib.Dec.{eqb}
use lib.ListN.{get_or}
use lib.Pow.{pow_mono, pow_pos, shr-shr, recompose}
use lib.Ieee.{size}
use lib.Ieee.Digits.{size-lt}
use Rattle.limbs.specs.Value.{value}
use Rattle.limbs.proofs.Digits.{word-digit}
use Rattle.totals_spec.proofs.numbers.Powers.{size_exact}
use Rattle.exact.specs.Unrounded.{Narrows}
use Rattle.exact.proofs.Standing.{stands-without}
use Rattle.exact.proofs.Once.{kept-lt, kept-ge}

module _ (w : List ℕ) (fit : (k : ℕ) → get_or w k 0 < 2 ^ 64) where
  -- a number below 2^128 is that of the first two words
  pub two-words : value w < 2 ^ 128 → get_or w 1 0 * 2 ^ 64 + get_or w 0 0 ≡ value w
  two-words h =
      ap₂ (λ (x y : ℕ). x * 2 ^ 64 + y) (word-digit w fit 1) (word-digit w fit 0 ∙ ap (λ (x : ℕ). x % 2 ^ 64) (div-one (value w)))
      ∙ recompose 64 64 h

  module _ (negative sticky : Bool) (position : ℕ) where
    pub all-narrowed : size (value w) ≤ 128
        → {m : ℕ} → m ≡ get_or w 1 0 * 2 ^ 64 + get_or w 0 0
        → Narrows negative sticky position w (record { negative = negative; sticky = sticky; position = position; significand = m })
    all-narrowed h {m} is =
        let e : m ≡ value w = is ∙ two-words (lt_of_lt_of_le (size-lt (value w)) (pow_mono h)) in
        record {
          sign = refl;
          stands = λ x st. rw e st;
          some = λ k. rw e k;
          low = omega arith;
          high = omega arith;
          few = λ _. refl;
          long = λ _. rw e (omega arith);
        }

    -- n bits, more than 128: those in the highest word that is not 0 and in the one under it are
    -- kept
    module _ {n : ℕ} (top : ℕ) (is : n ≡ size (value w)) (more : 128 < n) (low_end : 64 * top < n) (high_end : n ≤ 64 * top + 64) where
      abbrev under : ℕ
      under = 64 * (top - 1)

      abbrev kept : ℕ
      kept = value w / 2 ^ under

      left_over : n - (n - under) ≡ under
      left_over = omega arith

      below : kept < 2 ^ (n - under)
      below = rw left_over at (kept-lt (value w) (n - under) n (omega arith) (omega arith) (sym is))

      above : 2 ^ (n - under - 1) ≤ kept
      above = rw left_over at (kept-ge (value w) (n - under) n (omega arith) (omega arith) (sym is))

      words : get_or w top 0 * 2 ^ 64 + get_or w (top - 1) 0 ≡ kept
      words =
          let q : n - under ≤ 128 = omega arith in
          ap₂ (λ (x y : ℕ). x * 2 ^ 64 + y) (word-digit w fit top ∙ ap (λ (x : ℕ). x % 2 ^ 64) upper) (word-digit w fit (top - 1))
          ∙ recompose 64 64 (lt_of_lt_of_le below (pow_mono q))
        where
          upper : value w / 2 ^ (64 * top) ≡ kept / 2 ^ 64
          upper = ap (λ (x : ℕ). value w / 2 ^ x) (omega arith) ∙ sym (shr-shr (value w) under 64)

      pub top-narrowed : n ≤ 768 → {s : Bool} → s ≡ (sticky || not (eqb (value w % 2 ^ under) 0))
          → {m : ℕ} → m ≡ get_or w top 0 * 2 ^ 64 + get_or w (top - 1) 0
          → Narrows negative sticky position w (record { negative = negative; sticky = s; position = position + under; significand = m })
      top-narrowed most se {m} its =
          let e : m ≡ kept = its ∙ words in
          record {
            sign = refl;
            stands = λ x st. rw (e, se) (stands-without sticky (value w) position under x st);
            some = λ _. rw e (lt_of_lt_of_le (pow_pos (n - under - 1)) above);
            low = omega arith;
            high = omega arith;
            few = λ h. absurd (omega (arith, is, more));
            long = λ _. rw (e, size_exact kept (n - under) (omega arith) above below) (omega arith);
          }
