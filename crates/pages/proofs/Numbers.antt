-- The lowest set bit of a value.
use mathlib.Core.Path.{◌≡◌, refl, sym, ap, ◌∙◌}
use mathlib.Core.Logic.{◌≢◌}
use mathlib.Core.List.{[], ◌∷◌}
use Prim.Native.Nat.{ℕ, ◌+◌, ◌*◌, ◌^◌, ◌<◌, min}
use native.Mathlib.Nat.{mul-one, zero-mul}
use native.Mathlib.Omega.{arith}
use lib.Count.{count_trailing_zeros}
use lib.Ieee.{size}
use lib.Ieee.Digits.{size-lt}
use Rattle.totals_spec.specs.Basics.{least}
use Rattle.totals_spec.specs.chain.Limit.{low_bit, low_of}
use Rattle.totals_spec.specs.terms.Terms.{Item, nan_item, invalid_item, infinite, zero_item, term, terms}
use Rattle.totals_spec.proofs.numbers.Bits.{zeros-same, low-raised}
use Rattle.binary.specs.declared.term.Term as code
use Rattle.binary.specs.Terms.{magnitude, StandsFor}

-- the lowest set bit of the term of an item, as a program has the term
module _ (t : code.Term) (low : ℕ) where
  whole : magnitude t ≡ t.significand * 2 ^ t.shift
  unfolding magnitude
  whole = refl

  pub no_lower : (i : Item) → StandsFor t i → t.significand ≡ 0 → least low low_of (terms (i ∷ [])) ≡ low
  no_lower nan_item h e = refl
  no_lower invalid_item h e = refl
  no_lower (infinite s) h e = refl
  no_lower (zero_item s) h e = refl
  no_lower (term s) h e = absurd (not-pos s.mag (sym h.0 ∙ whole ∙ ap (λ (x : ℕ). x * 2 ^ t.shift) e ∙ zero-mul (2 ^ t.shift)) h.3)
    where
      not-pos : (n : ℕ) → n ≡ 0 → 0 < n → ⊥
      not-pos n e h = omega (arith, e, h)

  pub lower-bit : (i : Item) → StandsFor t i → t.significand ≢ 0 → t.significand < 2 ^ 128
      → least low low_of (terms (i ∷ [])) ≡ min (count_trailing_zeros 128 t.significand + t.shift) low
  unfolding low_bit
  lower-bit nan_item h e k = absurd (e (some h))
    where
      some : (magnitude t ≡ 0) × (t.shift ≡ 0) → t.significand ≡ 0
      some h = sym (mul-one t.significand) ∙ ap (λ (n : ℕ). t.significand * 2 ^ n) (sym h.1) ∙ sym whole ∙ h.0
  lower-bit invalid_item h e k = absurd (e (some h))
    where
      some : (magnitude t ≡ 0) × (t.shift ≡ 0) → t.significand ≡ 0
      some h = sym (mul-one t.significand) ∙ ap (λ (n : ℕ). t.significand * 2 ^ n) (sym h.1) ∙ sym whole ∙ h.0
  lower-bit (infinite s) h e k = absurd (e (some h))
    where
      some : (magnitude t ≡ 0) × (t.shift ≡ 0) → t.significand ≡ 0
      some h = sym (mul-one t.significand) ∙ ap (λ (n : ℕ). t.significand * 2 ^ n) (sym h.1) ∙ sym whole ∙ h.0
  lower-bit (zero_item s) h e k = absurd (e (some h))
    where
      some : (magnitude t ≡ 0) × (t.shift ≡ 0) → t.significand ≡ 0
      some h = sym (mul-one t.significand) ∙ ap (λ (n : ℕ). t.significand * 2 ^ n) (sym h.1) ∙ sym whole ∙ h.0
  lower-bit (term s) h e k =
      ap (λ (x : ℕ). min x low)
      (ap low_bit (sym h.0 ∙ whole) ∙ low-raised t.significand t.shift some
      ∙ ap (λ (x : ℕ). x + t.shift) (zeros-same (size t.significand) 128 t.significand some (size-lt t.significand) k))
    where
      some : 0 < t.significand
      some = omega (arith, e)

pub shift-less : (t : code.Term) (i : Item) → StandsFor t i → t.shift < 1073741824
shift-less t nan_item h = omega (arith, h.1)
shift-less t invalid_item h = omega (arith, h.1)
shift-less t (infinite s) h = omega (arith, h.1)
shift-less t (zero_item s) h = omega (arith, h.1)
shift-less t (term s) h = h.2
