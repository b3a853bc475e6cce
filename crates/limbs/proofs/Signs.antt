-- Signed numbers of 64 bits: what is read from their bits, and their magnitude.
use Rattle.std.proofs.Common.{◌≡◌, ◌^◌, ◌<◌, ◌≤◌, Bool, ℤ, pos, negsuc, nat_abs, sym, ap, ◌∙◌, arith, w64, to_z, of_z}
use lib.Signed.{lt_z, mag}
use mir.ValLaws.{to_z-of_z}

abs-le : (z : ℤ) → mag z < 2 ^ 63 → nat_abs z ≤ 2 ^ 63
abs-le (pos n) h = omega (arith, h)
abs-le (negsuc n) h = h

-- a number z of 64 bits, read from its bits
module _ (z : ℤ) (small : mag z < 2 ^ 63) where
  pub read : to_z w64 (of_z w64 z) ≡ z
  read = to_z-of_z w64 z (record { sfits = small })

  pub test_read : {t : Bool} → lt_z (to_z w64 (of_z w64 z)) (pos 0) ≡ t → lt_z z (pos 0) ≡ t
  test_read h = ap (λ (y : ℤ). lt_z y (pos 0)) (sym read) ∙ h

  pub abs-fits : nat_abs z < 2 ^ 64
  abs-fits = let h : nat_abs z ≤ 9223372036854775808 = abs-le z small in omega (arith, h)
