-- The precision that is set, and whether a rounding goes toward negative.
use mathlib.Core.Path.{◌≡◌, refl, sym}
use Prim.Native.Nat.{ℕ, zero, suc}
use lib.Dec.{eqb}
use native.Mathlib.Omega.{arith}
use borrow.Author.Tests.{ne_eqb}
use Rattle.totals_spec.specs.formats.Settings.{chosen, rounding_of, is_toward_negative}

pub chosen-some : (q p : ℕ) → (q ≡ 0 → ⊥) → chosen q p ≡ q
chosen-some zero p h = absurd (h refl)
chosen-some (suc q) p h = refl

pub toward : (r : ℕ) → is_toward_negative (rounding_of r) ≡ eqb r 4
toward zero = refl
toward (suc zero) = refl
toward (suc (suc zero)) = refl
toward (suc (suc (suc zero))) = refl
toward (suc (suc (suc (suc zero)))) = refl
toward (suc (suc (suc (suc (suc zero))))) = refl
toward (suc (suc (suc (suc (suc (suc zero)))))) = refl
toward (suc (suc (suc (suc (suc (suc (suc r))))))) =
    sym (ne_eqb (suc (suc (suc (suc (suc (suc (suc r))))))) 4 (λ h. omega (arith, h)))
