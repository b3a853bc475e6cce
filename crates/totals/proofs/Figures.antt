-- Laws of the pence figure: twice the figure cut to a whole number and halved, where it is too long, and the record by its refusals.
use mathlib.Core.Path.{◌≡◌, sym, ap, ap₂, ◌∙◌, subst}
use mathlib.Core.Bool.{true, false}
use Prim.Native.Nat.{ℕ, suc, ◌+◌, ◌-◌, ◌*◌, ◌/◌, ◌%◌, ◌^◌, ◌≤◌, ◌<◌, min}
use native.Mathlib.Nat.{zero-add, add-mul, suc-add, mul_assoc, sub-add_cancel, div-one, div-div-eq-div-mul, add-div_right, mul-div-mul_right, pow-suc}
use native.Mathlib.Nat.{mul-le-mul_right, le_trans, lt_of_lt_of_le, min-eq_right, mod-eq_of_lt}
use native.Mathlib.Omega.{arith}
use lib.Pow.{pow-add, pow_pos, pow_mono, shl_lt}
use lib.Ieee.{size}
use lib.Ieee.Digits.{size-lt, size_reaches}
use Rattle.totals_spec.specs.formats.Format.{Format, valid_format, depth, lift}
use Rattle.totals_spec.specs.formats.Decode.{Unpacked, decode, operand}
use Rattle.totals_spec.specs.formats.Bounds.{FormatBounds}
use Rattle.totals_spec.specs.sums.Totals.{stray}
use Rattle.totals_spec.specs.pence.Pence.{refused_pence, pence_of, figure_of, pence_answer}
use Rattle.totals_spec.proofs.numbers.Bits.{pow-split, size-pos}
use Rattle.binary.specs.Terms.{Bounded}
use Rattle.binary.proofs.Elements.{operand-bounded}
use Rattle.totals.specs.Entered.{settings_from}

-- ---- one rounding

-- x / 2^s cut to a whole number and halved upwards is x / 2^(s + 1) rounded once
halved-once : (x s : ℕ) → (x / 2 ^ s + 1) / 2 ≡ (x + 2 ^ s) / 2 ^ suc s
halved-once x s =
    ap (λ (n : ℕ). n / 2) (sym (add-div_right x (pow_pos s))) ∙ div-div-eq-div-mul (x + 2 ^ s) (2 ^ s) 2
    ∙ ap (λ (n : ℕ). (x + 2 ^ s) / n) (sym (pow-suc 2 s))

-- a common factor 2^e
cancelled : (x s e : ℕ) → (x * 2 ^ e + 2 ^ (s + e)) / 2 ^ suc (s + e) ≡ (x / 2 ^ s + 1) / 2
cancelled x s e = ap₂ ◌/◌ upper lower ∙ mul-div-mul_right (x + 2 ^ s) (2 ^ suc s) (pow_pos e) ∙ sym (halved-once x s)
  where
    upper : x * 2 ^ e + 2 ^ (s + e) ≡ (x + 2 ^ s) * 2 ^ e
    upper = ap (λ (n : ℕ). x * 2 ^ e + n) (pow-add 2 s e) ∙ sym (add-mul x (2 ^ s) (2 ^ e))

    lower : 2 ^ suc (s + e) ≡ 2 ^ suc s * 2 ^ e
    lower = ap (λ (n : ℕ). 2 ^ n) (sym (suc-add s e)) ∙ pow-add 2 (suc s) e

-- ---- the magnitude. x is twice the figure where the least number is 1

module _ (d k m x : ℕ) (twice : x ≡ 200 * m) where
  scaled-down : k ≤ d → (x / 2 ^ (d - k) + 1) / 2 ≡ pence_of d k m
  unfolding pence_of
  scaled-down h =
      sym (cancelled x (d - k) k) ∙ ap (λ (n : ℕ). (x * 2 ^ k + 2 ^ n) / 2 ^ suc n) (sub-add_cancel h)
      ∙ ap (λ (n : ℕ). (n * 2 ^ k + 2 ^ d) / 2 ^ suc d) twice

  scaled-up : d ≤ k → (x * 2 ^ (k - d) + 1) / 2 ≡ pence_of d k m
  unfolding pence_of
  scaled-up h =
      ap (λ (n : ℕ). (n + 1) / 2) (sym (div-one y)) ∙ sym (cancelled y 0 d) ∙ ap (λ (n : ℕ). (y * 2 ^ d + 2 ^ n) / 2 ^ suc n) (zero-add d)
      ∙ ap (λ (n : ℕ). (n + 2 ^ d) / 2 ^ suc d) (whole ∙ ap (λ (n : ℕ). n * 2 ^ k) twice)
    where
      y : ℕ
      y = x * 2 ^ (k - d)

      whole : y * 2 ^ d ≡ x * 2 ^ k
      whole = mul_assoc x (2 ^ (k - d)) (2 ^ d) ∙ ap (λ (n : ℕ). x * n) (sym (pow-split d k h))

  pub cut-gives : (y : ℕ) → k ≤ d → y ≡ x / 2 ^ (d - k) → min ((y + 1) / 2) (2 ^ 63) ≡ min (pence_of d k m) (2 ^ 63)
  cut-gives y h e = ap (λ (n : ℕ). min n (2 ^ 63)) (ap (λ (n : ℕ). (n + 1) / 2) e ∙ scaled-down h)

  -- more than 64 bits
  pub long-gives : d ≤ k → 0 < m → 64 < size x + (k - d) → 2 ^ 63 ≡ min (pence_of d k m) (2 ^ 63)
  long-gives h p l = sym (min-eq_right (subst (λ (n : ℕ). 2 ^ 63 ≤ n) (scaled-up h) half))
    where
      some : 0 < size x
      some = size-pos x (omega (arith, twice))

      below : size x - 1 < size x
      below = omega (arith, some)

      above : 64 ≤ size x - 1 + (k - d)
      above = omega (arith, some)

      long : 2 ^ 64 ≤ x * 2 ^ (k - d)
      long =
          le_trans (pow_mono above)
          (subst (λ (n : ℕ). n ≤ x * 2 ^ (k - d)) (sym (pow-add 2 (size x - 1) (k - d))) (mul-le-mul_right (2 ^ (k - d)) (size_reaches x (size x - 1) below)))

      half : 2 ^ 63 ≤ (x * 2 ^ (k - d) + 1) / 2
      half = omega (arith, long)

  -- at most 64 bits
  pub short-gives : (y : ℕ) → d ≤ k → size x + (k - d) ≤ 64 → y ≡ x * 2 ^ (k - d) % 2 ^ 128 → min ((y + 1) / 2) (2 ^ 63) ≡ min (pence_of d k m) (2 ^ 63)
  short-gives y h short e =
      ap (λ (n : ℕ). min n (2 ^ 63)) (ap (λ (n : ℕ). (n + 1) / 2) (e ∙ mod-eq_of_lt fits) ∙ scaled-up h)
    where
      fits : x * 2 ^ (k - d) < 2 ^ 128
      fits = lt_of_lt_of_le (shl_lt (size x) (k - d) (size-lt x)) (pow_mono {j = 128} (omega (arith, short)))

-- ---- the record

module _ (f : Format) (b : ℕ) where
  pub bad-format : valid_format f ≡ false → refused_pence 3 ≡ pence_answer f b
  unfolding pence_answer
  bad-format e = rw e

  module _ (valid : valid_format f ≡ true) where
    pub stray-bit : stray f b ≡ true → refused_pence 7 ≡ pence_answer f b
    unfolding pence_answer
    stray-bit e = rw (valid, e)

    pub no-stray-bit : stray f b ≡ false → figure_of (depth f) (lift f) (decode f b) ≡ pence_answer f b
    unfolding pence_answer
    no-stray-bit e = rw (valid, e)

  -- an operand under settings that are all 0 is what its encoding stands for
  pub decode-bounded : FormatBounds f → (x : Unpacked) → x ≡ decode f b → Bounded x
  unfolding operand
  decode-bounded h x e = operand-bounded f h (settings_from 0 0 0 0 0 0 0 0) b x (sym e)
