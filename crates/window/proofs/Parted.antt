-- A term x × 2^s at an edge w: its part at or above w and its lost bit, where it lies at w or
-- above, wholly below, and across.
use mathlib.Core.Path.{◌≡◌, refl, sym, ap, ap₂, ◌∙◌, subst}
use mathlib.Core.Bool.{Bool, true, false, not, cond}
use Prim.Native.Nat.{ℕ, zero, suc, ◌+◌, ◌-◌, ◌*◌, ◌/◌, ◌%◌, ◌^◌, ◌≤◌, ◌<◌}
use native.Mathlib.Nat.{lt_of_lt_of_le, mul-pos, mul_assoc, zero-mul, mul-one, add-zero, mul-mod_left, mul-le-mul_right}
use native.Mathlib.Nat.{mul-div_cancel, div-eq_of_lt, div-le_self}
use native.Mathlib.Omega.{arith}
use lib.Dec.{eqb}
use lib.Pow.{pow_pos, pow_mono, shl_lt, shl-shr, shr-shr, mod-pow-add}
use lib.Ieee.{size}
use lib.Ieee.Digits.{size-lt, size_reaches}
use Rattle.limbs.proofs.Length.{size_above, size-zero}
use Rattle.limbs.proofs.Below.{same-zero}
use borrow.Author.Tests.{lt-ltb, le-ltb}
use Rattle.totals_spec.proofs.numbers.Bits.{pow-split, multiple-mod, multiple-ge}
use Rattle.totals_spec.specs.chain.Chain.{lost_end}

-- what is no term loses nothing
pub lost-of-zero : (w : ℕ) → lost_end w 0 ≡ 0
unfolding lost_end
lost-of-zero w = rw (lt-ltb _ _ (pow_pos w)) size-zero

module _ (x s w : ℕ) where
  -- ---- at w or above
  pub above-part : w ≤ s → x * 2 ^ (s - w) ≡ x * 2 ^ s / 2 ^ w
  above-part h =
      sym (mul-div_cancel (x * 2 ^ (s - w)) (pow_pos w))
      ∙ ap (λ (n : ℕ). n / 2 ^ w) (mul_assoc x (2 ^ (s - w)) (2 ^ w) ∙ ap (λ (n : ℕ). x * n) (sym (pow-split w s h)))

  pub above-lost : w ≤ s → 0 ≡ lost_end w (x * 2 ^ s)
  unfolding lost_end
  above-lost h = go x refl
    where
      go : (y : ℕ) → x ≡ y → 0 ≡ lost_end w (x * 2 ^ s)
      go zero e = sym (ap (lost_end w) (ap (λ (n : ℕ). n * 2 ^ s) e ∙ zero-mul (2 ^ s)) ∙ lost-of-zero w)
      go (suc y) e =
          let pos : 0 < x = omega arith in
          rw (le-ltb _ _ (multiple-ge (x * 2 ^ s) x s w refl h (mul-pos pos (pow_pos s))), multiple-mod (x * 2 ^ s) x s w refl h)

  -- ---- wholly below
  under : s + size x ≤ w → x * 2 ^ s < 2 ^ w
  under h = lt_of_lt_of_le (shl_lt (size x) s (size-lt x)) (pow_mono (omega arith))

  pub below-part : s + size x ≤ w → 0 ≡ x * 2 ^ s / 2 ^ w
  below-part h = sym (div-eq_of_lt (under h))

  -- what is no term has no shift either
  pub below-lost : s + size x ≤ w → (x * 2 ^ s ≡ 0 → s ≡ 0) → s + size x ≡ lost_end w (x * 2 ^ s)
  unfolding lost_end
  below-lost h z = rw (lt-ltb _ _ (under h)) (go x refl)
    where
      go : (y : ℕ) → x ≡ y → s + size x ≡ size (x * 2 ^ s)
      go zero e =
          let m : x * 2 ^ s ≡ 0 = ap (λ (n : ℕ). n * 2 ^ s) e ∙ zero-mul (2 ^ s) in
          rw (m, z m, e) (ap (λ (n : ℕ). 0 + n) size-zero ∙ sym size-zero)
      go (suc y) e =
          let pos : 0 < x = omega arith in
          sym (ap size (sym (add-zero (x * 2 ^ s))) ∙ size_above x 0 s pos (pow_pos s))

  -- ---- across
  pub across-part : s ≤ w → x / 2 ^ (w - s) ≡ x * 2 ^ s / 2 ^ w
  across-part h =
      ap (λ (n : ℕ). n / 2 ^ (w - s)) (sym (shl-shr x s)) ∙ shr-shr (x * 2 ^ s) s (w - s)
      ∙ ap (λ (n : ℕ). x * 2 ^ s / 2 ^ n) (omega arith)

  reaches : s ≤ w → w < s + size x → 2 ^ w ≤ x * 2 ^ s
  reaches h k = subst (λ (n : ℕ). n ≤ x * 2 ^ s) (sym (pow-split s w h)) (mul-le-mul_right (2 ^ s) (size_reaches x (w - s) (omega arith)))

  rest : s ≤ w → x * 2 ^ s % 2 ^ w ≡ x % 2 ^ (w - s) * 2 ^ s
  rest h =
      ap (λ (n : ℕ). x * 2 ^ s % 2 ^ n) place ∙ mod-pow-add (x * 2 ^ s) (w - s) s
      ∙ ap₂ (λ (a b : ℕ). a % 2 ^ (w - s) * 2 ^ s + b) (shl-shr x s) (mul-mod_left x (2 ^ s)) ∙ add-zero (x % 2 ^ (w - s) * 2 ^ s)
    where
      place : w ≡ w - s + s
      place = omega arith

  across : s ≤ w → w < s + size x → (b : Bool) → eqb (x % 2 ^ (w - s)) 0 ≡ b → cond b 0 w ≡ lost_end w (x * 2 ^ s)
  unfolding lost_end
  across h k b e = rw (le-ltb _ _ (reaches h k), rest h) (ap (λ (z : Bool). cond z 0 w) (sym e ∙ same-zero (x % 2 ^ (w - s)) (2 ^ s) (pow_pos s)))

  pub across-lost : s ≤ w → w < s + size x → (a : Bool) → a ≡ not (eqb (x % 2 ^ (w - s)) 0) → cond a w 0 ≡ lost_end w (x * 2 ^ s)
  across-lost h k a e = go (eqb (x % 2 ^ (w - s)) 0) refl e
    where
      go : (b : Bool) → eqb (x % 2 ^ (w - s)) 0 ≡ b → a ≡ not b → cond a w 0 ≡ lost_end w (x * 2 ^ s)
      go true e f = ap (λ (z : Bool). cond z w 0) f ∙ across h k true e
      go false e f = ap (λ (z : Bool). cond z w 0) f ∙ across h k false e

pub unshifted : (y : ℕ) → y * 2 ^ 0 ≡ y
unshifted y = mul-one y

-- shifted down, one word stays one
pub one-word : (m d : ℕ) {k : ℕ} → k ≡ m / 2 ^ d → m < 2 ^ 64 → k < 2 ^ 64
one-word m d e h = omega (arith, div-le_self m (2 ^ d))
