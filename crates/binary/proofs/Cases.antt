-- Encodings by cases: numbers by their exponent field, kinds by their number.
use Rattle.std.proofs.Common.{◌≡◌, ℕ, zero, suc, ◌+◌, ◌-◌, ◌*◌, ◌^◌, ◌<◌, ◌≤◌, Bool, true, false, ◌&&◌, eqb}
use Rattle.std.proofs.Common.{sym, refl, ap, ◌∙◌, lt_of_lt_of_le, arith, pow_mono, pow-add, ne_eqb}
use mathlib.Core.Bool.{and-false}
use lib.Arith.{digits_lt}
use Rattle.totals_spec.specs.formats.Format as spec
use Rattle.totals_spec.specs.formats.Decode.{Unpacked, zero_of, finite, number, decode_fields, is_finite}
use Rattle.totals_spec.specs.formats.Bounds.{FormatBounds}

-- ---- numbers: t fraction bits, the sign s, the exponent field x, the fraction m

module _ (t : ℕ) (s : Bool) (x m : ℕ) where
  number-field : (x ≡ 0 → ⊥) → finite s (x - 1) (2 ^ t + m) ≡ number t s x m
  number-field = go x
    where
      go : (x : ℕ) → (x ≡ 0 → ⊥) → finite s (x - 1) (2 ^ t + m) ≡ number t s x m
      go zero h = absurd (h refl)
      go (suc x) h = ap (λ (k : ℕ). finite s k (2 ^ t + m)) (omega arith)

  pub number-zero : x ≡ 0 → m ≡ 0 → zero_of s ≡ number t s x m
  number-zero h k = rw (h, k)

-- ---- plainly normal numbers, in every kind

pub decode-plain : (k : ℕ) (format : spec.Format) (s : Bool) (x m : ℕ) → (x ≡ 0 → ⊥) → (x ≡ 2 ^ format.E - 1 → ⊥)
    → decode_fields (spec.kind_of k) format s x m ≡ finite s (x - 1) (2 ^ spec.fraction_bits format + m)
decode-plain k format s x m h n = go k s ∙ sym (number-field (spec.fraction_bits format) s x m h)
  where
    go : (j : ℕ) (t : Bool) → decode_fields (spec.kind_of j) format t x m ≡ number (spec.fraction_bits format) t x m
    go zero t = rw (ne_eqb x (2 ^ format.E - 1) n)
    go (suc zero) t = rw (ne_eqb x (2 ^ format.E - 1) n)
    go (suc (suc zero)) true = rw (ne_eqb x 0 h)
    go (suc (suc zero)) false = refl
    go (suc (suc (suc j))) t = refl

pub positive : (x : ℕ) → (x ≡ 0 → ⊥) → 0 < x
positive zero h = absurd (h refl)
positive (suc x) h = omega arith

pub not-sub : (v : Unpacked) (x : ℕ) → (x ≡ 0 → ⊥) → (is_finite v && eqb x 0) ≡ false
not-sub v x h = ap (λ e. is_finite v && e) (ne_eqb x 0 h) ∙ and-false (is_finite v)

-- ---- encoding: the exponent field and the fraction leave room for the sign

pub room : (format : spec.Format) (x m : ℕ) → FormatBounds format → x < 2 ^ format.E → m < 2 ^ spec.fraction_bits format
    → x * 2 ^ spec.fraction_bits format + m < 9223372036854775808
room format x m v h k =
    let t = spec.fraction_bits format in
    let b : x * 2 ^ t + m < 2 ^ (format.E + t) = rw (pow-add 2 format.E t) (digits_lt h k) in
    lt_of_lt_of_le b (pow_mono {i = format.E + t} {j = 63} (omega (arith, v.w_le, v.w-ge)))

pub sign_le : (n : ℕ) → n ≤ 63 → 2 ^ n ≤ 9223372036854775808
sign_le n l = pow_mono {i = n} {j = 63} l
