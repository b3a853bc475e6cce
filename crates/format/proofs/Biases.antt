-- A named bias z, read from its 64 bits: its two parts, of which one is 0, and how large they are.
use mathlib.Core.Path.{◌≡◌, refl, sym, ap, ◌∙◌, subst}
use mathlib.Core.Bool.{true, false}
use mathlib.Core.Option.{some}
use Prim.Native.Nat.{ℕ, ◌^◌, ◌≤◌, ◌<◌}
use native.Mathlib.Omega.{arith}
use lib.Dec.{T, leb}
use lib.IntN.{ℤ, pos, negsuc, nat_abs}
use lib.Signed.{lt_z, mag}
use mir.Syntax.{w64}
use mir.Val.{to_z, of_z}
use borrow.Author.Tests.{ltb-true}
use Rattle.limbs.proofs.Signs.{read, test_read}
use Rattle.totals_spec.specs.formats.Bounds.{Offered}
use Rattle.totals_spec.specs.formats.Format.{offered, bias_part, lift_part}

-- ---- by its sign

bias-below : (z : ℤ) (own : ℕ) → lt_z z (pos 0) ≡ true → bias_part (some z) own ≡ 0
bias-below (pos n) own h = absurd (omega (arith, ltb-true n 0 h))
bias-below (negsuc n) own h = refl

bias-above : (z : ℤ) (own : ℕ) → lt_z z (pos 0) ≡ false → bias_part (some z) own ≡ nat_abs z
bias-above (pos n) own h = refl
bias-above (negsuc n) own h = absurd (subst T h tt)

lift-below : (z : ℤ) → lt_z z (pos 0) ≡ true → lift_part (some z) ≡ nat_abs z
lift-below (pos n) h = absurd (omega (arith, ltb-true n 0 h))
lift-below (negsuc n) h = refl

lift-above : (z : ℤ) → lt_z z (pos 0) ≡ false → lift_part (some z) ≡ 0
lift-above (pos n) h = refl
lift-above (negsuc n) h = absurd (subst T h tt)

-- ---- as the code reads it

module _ (z : ℤ) (small : mag z < 2 ^ 63) where
  -- r is its magnitude
  module _ (r : ℕ) (is : r ≡ nat_abs (to_z w64 (of_z w64 z))) where
    whole : r ≡ nat_abs z
    whole = is ∙ ap nat_abs (read z small)

    near : Offered (some z) → r ≤ 268435456
    near h = rw whole h

    pub offered-named : leb r 268435456 ≡ offered (some z)
    offered-named = ap (λ (n : ℕ). leb n 268435456) whole

    pub bias-named : (own : ℕ) → lt_z (to_z w64 (of_z w64 z)) (pos 0) ≡ false → Offered (some z) → (r ≡ bias_part (some z) own) × (r ≤ 268435456)
    bias-named own h k = (whole ∙ sym (bias-above z own (test_read z small h)), near k)

    pub lift-named : lt_z (to_z w64 (of_z w64 z)) (pos 0) ≡ true → Offered (some z) → (r ≡ lift_part (some z)) × (r ≤ 268435456)
    lift-named h k = (whole ∙ sym (lift-below z (test_read z small h)), near k)

  pub no-bias : (own : ℕ) → lt_z (to_z w64 (of_z w64 z)) (pos 0) ≡ true → 0 ≡ bias_part (some z) own
  no-bias own h = sym (bias-below z own (test_read z small h))

  pub no-lift : lt_z (to_z w64 (of_z w64 z)) (pos 0) ≡ false → 0 ≡ lift_part (some z)
  no-lift h = sym (lift-above z (test_read z small h))
