-- Rounded numbers are stored as they are: K × 2^u of at most q digits, on the grid and below the
-- largest, and the largest number itself.
use mathlib.Core.Path.{◌≡◌, refl, sym, ap, ◌∙◌, ap₂, subst}
use mathlib.Core.Bool.{Bool, true, false, not, ◌&&◌, ◌||◌, true≢false}
use Prim.Native.Nat.{ℕ, suc, ◌+◌, ◌-◌, ◌*◌, ◌/◌, ◌%◌, ◌^◌, ◌≤◌, ◌<◌, zero}
use native.Mathlib.Nat.{le_antisymm, lt_of_le_of_lt, one-mul, div-add-mod', le_trans}
use native.Mathlib.Nat.{lt_of_lt_of_le, not-le_of_lt, mul-le-mul_right, mul-le-mul_left, mul_comm}
use native.Mathlib.Nat.{le_of_lt, mul_assoc, mul-one, zero-mul, lt_of_mul-lt-mul_right}
use native.Mathlib.Omega.{arith}
use lib.Dec.{T, leb, leb→le, nleb→lt, eqb}
use lib.Pow.{pow-add, pow-lt, pow_pos, pow_mono, shl-shr, shr_lt, shr_mono}
use lib.Ieee.{size}
use lib.Ieee.Digits.{size-le, size_reaches, size-lt}
use borrow.Author.Tests.{eq-eqb, ne_eqb}
use Rattle.totals_spec.specs.formats.Bounds.{RangeBounds}
use Rattle.totals_spec.specs.formats.Format.{Format, no_inf, kind_of, digits, fraction_bits}
use Rattle.totals_spec.specs.formats.Format.{exponent_range, emax_at}
use Rattle.totals_spec.specs.rounding.Round.{is_no_inf, overflows, number_of}
use Rattle.totals_spec.specs.formats.Decode.{Unpacked, zero_of, finite, decode}
use Rattle.totals_spec.specs.formats.Encode.{encode}
use Rattle.totals_spec.proofs.numbers.Bits.{multiple-mod, pow-split}
use Rattle.totals_spec.proofs.numbers.Powers.{size-scaled, pow-next, pow-join}
use Rattle.totals_spec.proofs.formats.ExponentRange.{range-fits, range-ieee, range-noinf}
use Rattle.totals_spec.proofs.formats.DecodedBack.{Storable, back-finite, back-zero}

-- ---- v = K × 2^j, of at most p digits with zeros behind them: its first p digits are all of it

module _ (p K j : ℕ) (p0 : 1 ≤ p) (K0 : 0 < K) (few : K ≤ 2 ^ p) where
  whole-digits : K * 2 ^ j / 2 ^ (size (K * 2 ^ j) - p) * 2 ^ (size (K * 2 ^ j) - p) ≡ K * 2 ^ j
  whole-digits = rests (size (K * 2 ^ j) - p) none
    where
      rests : (k : ℕ) → K * 2 ^ j % 2 ^ k ≡ 0 → K * 2 ^ j / 2 ^ k * 2 ^ k ≡ K * 2 ^ j
      rests k z = omega (arith, div-add-mod' (K * 2 ^ j) (2 ^ k), z)

      long : size (K * 2 ^ j) ≡ j + size K
      long = size-scaled K j K0

      none : K * 2 ^ j % 2 ^ (size (K * 2 ^ j) - p) ≡ 0
      none = go (leb (size K) p) (leb→le (size K) p) (nleb→lt (size K) p)
        where
          go : (t : Bool) → (T t → size K ≤ p) → (T (not t) → p < size K) → K * 2 ^ j % 2 ^ (size (K * 2 ^ j) - p) ≡ 0
          go true h g = multiple-mod (K * 2 ^ j) K j (size (K * 2 ^ j) - p) refl (omega (arith, long, h tt))
          go false h g = multiple-mod (K * 2 ^ j) 1 (p + j) (size (K * 2 ^ j) - p) power (omega (arith, long, most, p0))
            where
              full : K ≡ 2 ^ p
              full = le_antisymm few (size_reaches K p (g tt))

              most : size K ≤ suc p
              most = size-le K (suc p) (lt_of_le_of_lt few (pow-lt {i = p} {j = suc p} (omega arith)))

              power : K * 2 ^ j ≡ 1 * 2 ^ (p + j)
              power = ap (λ (x : ℕ). x * 2 ^ j) full ∙ sym (pow-add 2 p j) ∙ sym (one-mul (2 ^ (p + j)))

-- ---- a rounded magnitude K × 2^u on the grid g

module _ (f : Format) (b : RangeBounds f) (g q K u : ℕ) (q0 : 1 ≤ q) (qp : q ≤ digits f) (K0 : 0 < K) (few : K ≤ 2 ^ q) (hg : g ≤ u) where
  abbrev pub least-units : ℕ
  least-units = K * 2 ^ (u - g)

  abbrev pub shift_of : ℕ
  shift_of = size least-units - digits f

  abbrev pub digits_of : ℕ
  digits_of = least-units / 2 ^ shift_of

  p-is : digits f ≡ suc (fraction_bits f)
  p-is = omega (arith, b.w-ge)

  grid-parts : K * 2 ^ u ≡ least-units * 2 ^ g
  grid-parts = ap (λ (x : ℕ). K * x) (pow-split g u hg) ∙ sym (mul_assoc K (2 ^ (u - g)) (2 ^ g))

  pub grid-kept : K * 2 ^ u / 2 ^ g ≡ least-units
  grid-kept = ap (λ (x : ℕ). x / 2 ^ g) grid-parts ∙ shl-shr least-units g

  kept_whole : digits_of * 2 ^ shift_of ≡ least-units
  kept_whole = whole-digits (digits f) K (u - g) (omega (arith, q0, qp)) K0 (le_trans few (pow_mono qp))

  -- the number is the magnitude
  pub stored_is : digits_of * 2 ^ (shift_of + g) ≡ K * 2 ^ u
  stored_is =
      ap (λ (x : ℕ). digits_of * x) (pow-add 2 shift_of g) ∙ sym (mul_assoc digits_of (2 ^ shift_of) (2 ^ g)) ∙ ap (λ (x : ℕ). x * 2 ^ g) kept_whole
      ∙ sym grid-parts

  units-pos : 0 < least-units
  units-pos = lt_of_lt_of_le (pow_pos (u - g)) (subst (λ (x : ℕ). x ≤ least-units) (one-mul (2 ^ (u - g))) (mul-le-mul_right (2 ^ (u - g)) K0))

  digits-some : 0 < digits_of
  digits-some = go digits_of kept_whole
    where
      go : (d : ℕ) → d * 2 ^ shift_of ≡ least-units → 0 < d
      go zero e = absurd (let z : ⊥ = omega (arith, e, zero-mul (2 ^ shift_of), units-pos) in z)
      go (suc d) e = omega arith

  digits-few : digits_of < 2 ^ digits f
  digits-few = shr_lt (digits f) shift_of (lt_of_lt_of_le (size-lt least-units) (pow_mono {i = size least-units} {j = digits f + shift_of} (omega arith)))

  digits-least : digits_of < 2 ^ fraction_bits f → shift_of ≡ 0
  digits-least h = go (leb (size least-units) (digits f)) (leb→le (size least-units) (digits f)) (nleb→lt (size least-units) (digits f))
    where
      go : (t : Bool) → (T t → size least-units ≤ digits f) → (T (not t) → digits f < size least-units) → shift_of ≡ 0
      go true l n = omega (arith, l tt)
      go false l n = absurd (not-le_of_lt h (subst (λ (x : ℕ). x ≤ digits_of) (shl-shr (2 ^ fraction_bits f) shift_of) (shr_mono shift_of high)))
        where
          high : 2 ^ fraction_bits f * 2 ^ shift_of ≤ least-units
          high =
              subst (λ (x : ℕ). x ≤ least-units) (sym (pow-join (fraction_bits f) shift_of (fraction_bits f + shift_of) refl))
              (size_reaches least-units (fraction_bits f + shift_of) (omega (arith, n tt, p-is)))

  module _ (no : overflows f q g (K * 2 ^ u) ≡ false) where
    or-false : (a c : Bool) → (a || c) ≡ false → (a ≡ false) × (c ≡ false)
    or-false true c e = absurd (true≢false e)
    or-false false c e = (refl, e)

    not-above : K * 2 ^ u < 2 ^ suc (emax_at f g)
    unfolding overflows
    not-above =
        nleb→lt (2 ^ suc (emax_at f g)) (K * 2 ^ u) (subst (λ (x : Bool). T (not x)) (sym (or-false (leb (2 ^ suc (emax_at f g)) (K * 2 ^ u)) _ no).0) tt)

    shift_le : shift_of ≤ exponent_range f
    shift_le = omega (arith, short)
      where
        top : suc (emax_at f g) ≡ digits f + exponent_range f + g
        top = omega (arith, q0, qp)

        units_lt : least-units < 2 ^ (digits f + exponent_range f)
        units_lt =
            lt_of_mul-lt-mul_right (2 ^ g)
            (subst (λ (x : ℕ). x < 2 ^ (digits f + exponent_range f) * 2 ^ g) grid-parts
            (subst (λ (x : ℕ). K * 2 ^ u < x) (ap (λ (x : ℕ). 2 ^ x) top ∙ pow-add 2 (digits f + exponent_range f) g) not-above))

        short : size least-units ≤ digits f + exponent_range f
        short = size-le least-units (digits f + exponent_range f) units_lt

    -- the pattern of all ones
    not-ones : kind_of f.kind ≡ no_inf → shift_of ≡ exponent_range f → digits_of ≡ 2 ^ digits f - 1 → ⊥
    unfolding overflows
    not-ones k e m = go (eqb q (digits f)) refl
      where
        place : suc (emax_at f g) - digits f ≡ exponent_range f + g
        place = omega (arith, q0, qp)

        ones : K * 2 ^ u ≡ (2 ^ digits f - 1) * 2 ^ (suc (emax_at f g) - digits f)
        ones = sym stored_is ∙ ap₂ (λ (x y : ℕ). x * 2 ^ (y + g)) m e ∙ ap (λ (x : ℕ). (2 ^ digits f - 1) * 2 ^ x) (sym place)

        second : (is_no_inf (kind_of f.kind) && eqb q (digits f) && eqb (K * 2 ^ u) ((2 ^ digits f - 1) * 2 ^ (suc (emax_at f g) - digits f))) ≡ false
        second = (or-false (leb (2 ^ suc (emax_at f g)) (K * 2 ^ u)) _ no).1

        two : 2 ≤ digits f
        two = omega (arith, b.w-ge)

        -- fewer digits: K is at least as large as the ones, or the ones are even
        fewer : suc q ≤ digits f → ⊥
        fewer h = by (leb u (shift_of + g)) (leb→le u (shift_of + g)) (nleb→lt u (shift_of + g))
          where
            half : 2 ^ digits f ≡ 2 * 2 ^ (digits f - 1)
            half = pow-next (digits f) (omega (arith, two))

            less : K ≤ 2 ^ (digits f - 1)
            less = le_trans few (pow_mono {i = q} {j = digits f - 1} (omega (arith, h)))

            more : 2 ≤ 2 ^ (digits f - 1)
            more = pow_mono {i = 1} {j = digits f - 1} (omega (arith, two))

            by : (t : Bool) → (T t → u ≤ shift_of + g) → (T (not t) → shift_of + g < u) → ⊥
            by true l n = let z : ⊥ = omega (arith, big, m, half, less, more) in z
              where
                back : digits_of * 2 ^ (shift_of + g - u) ≡ K
                back =
                    sym (shl-shr (digits_of * 2 ^ (shift_of + g - u)) u)
                    ∙ ap (λ (x : ℕ). x / 2 ^ u)
                    (mul_assoc digits_of (2 ^ (shift_of + g - u)) (2 ^ u) ∙ ap (λ (x : ℕ). digits_of * x) (sym (pow-split u (shift_of + g) (l tt))) ∙ stored_is)
                    ∙ shl-shr K u

                big : digits_of ≤ K
                big =
                    subst (λ (x : ℕ). digits_of ≤ x) back
                    (subst (λ (x : ℕ). x ≤ digits_of * 2 ^ (shift_of + g - u)) (mul-one digits_of)
                    (mul-le-mul_left {m = 1} {n = 2 ^ (shift_of + g - u)} digits_of (pow_pos (shift_of + g - u))))
            by false l n = let z : ⊥ = omega (arith, even, m, half, more) in z
              where
                back : K * 2 ^ (u - (shift_of + g)) ≡ digits_of
                back =
                    sym (shl-shr (K * 2 ^ (u - (shift_of + g))) (shift_of + g))
                    ∙ ap (λ (x : ℕ). x / 2 ^ (shift_of + g))
                    (mul_assoc K (2 ^ (u - (shift_of + g))) (2 ^ (shift_of + g)) ∙ ap (λ (x : ℕ). K * x) (sym (pow-split (shift_of + g) u (le_of_lt (n tt))))
                    ∙ sym stored_is) ∙ shl-shr digits_of (shift_of + g)

                even : digits_of ≡ K * 2 ^ (u - (shift_of + g) - 1) * 2
                even =
                    sym back ∙ ap (λ (x : ℕ). K * x) (pow-next (u - (shift_of + g)) (omega (arith, n tt)) ∙ mul_comm 2 (2 ^ (u - (shift_of + g) - 1)))
                    ∙ sym (mul_assoc K (2 ^ (u - (shift_of + g) - 1)) 2)

        go : (t : Bool) → eqb q (digits f) ≡ t → ⊥
        go true e = true≢false (sym (rw (k, e, eq-eqb (K * 2 ^ u) ((2 ^ digits f - 1) * 2 ^ (suc (emax_at f g) - digits f)) ones) refl) ∙ second)
        go false e = fewer (lt_of_ne (λ z. true≢false (sym (eq-eqb q (digits f) z) ∙ e)))
          where
            lt_of_ne : (q ≡ digits f → ⊥) → suc q ≤ digits f
            lt_of_ne h = omega (arith, h, qp)

    pub storable : Storable f shift_of digits_of
    storable = record {
      some = digits-some;
      short = subst (λ (x : ℕ). digits_of < 2 ^ x) p-is digits-few;
      least = digits-least;
      field = omega (arith, shift_le, range-fits f b);
      below = λ k e. omega (arith, e, shift_le, range-ieee f b k);
      other = λ k e m. not-ones k (omega (arith, e, range-noinf f b k)) (m ∙ ap (λ (x : ℕ). 2 ^ x - 1) (sym p-is));
    }

-- ---- so what a rounding gives is decoded again: a zero of some sign, or the number itself

pub number-back : (f : Format) (b : RangeBounds f) (g q : ℕ) (s : Bool) (K u : ℕ) → 1 ≤ q → q ≤ digits f → K ≤ 2 ^ q → g ≤ u
    → overflows f q g (K * 2 ^ u) ≡ false
    → (P : (given back : Unpacked) → Type 0)
    → (K ≡ 0 → (t : Bool) → P (zero_of s) (zero_of t))
    → ((k m : ℕ) → Storable f k m → m * 2 ^ (k + g) ≡ K * 2 ^ u → P (finite s k m) (finite s k m))
    → P (number_of f g s (K * 2 ^ u)) (decode f (encode f (number_of f g s (K * 2 ^ u))))
unfolding number_of
number-back f b g q s zero u q0 qp few hg below P at_zero at-number =
    rw (eq-eqb (0 * 2 ^ u) 0 (zero-mul (2 ^ u))) (back-zero f b (λ (v : Unpacked). P (zero_of s) v) (at_zero refl) s)
number-back f b g q s (suc K) u q0 qp few hg below P at_zero at-number =
    rw (ne_eqb (suc K * 2 ^ u) 0 some, grid-kept f b g q (suc K) u q0 qp K0 few hg, back-finite f b s k m holds)
    (at-number k m holds (stored_is f b g q (suc K) u q0 qp K0 few hg))
  where
    K0 : 0 < suc K
    K0 = omega arith

    k : ℕ
    k = shift_of f b g q (suc K) u q0 qp K0 few hg

    m : ℕ
    m = digits_of f b g q (suc K) u q0 qp K0 few hg

    holds : Storable f k m
    holds = storable f b g q (suc K) u q0 qp K0 few hg below

    pos : 1 * 2 ^ u ≤ suc K * 2 ^ u
    pos = mul-le-mul_right (2 ^ u) K0

    some : suc K * 2 ^ u ≡ 0 → ⊥
    some y = omega (arith, y, pos, pow_pos u)
