-- The largest number: it is stored as it is, and what overflows is above it.
use mathlib.Core.Path.{◌≡◌, refl, sym, ap, ◌∙◌, subst}
use mathlib.Core.Bool.{Bool, true, false, ◌&&◌, cond, true≢false}
use Prim.Native.Nat.{ℕ, suc, ◌+◌, ◌-◌, ◌*◌, ◌^◌, ◌≤◌, ◌<◌, max}
use native.Mathlib.Nat.{lt_of_lt_of_le, lt_of_le_of_lt, not-le_of_lt, lt_of_not-le}
use native.Mathlib.Nat.{mul-le-mul_right, mul-lt-mul_of_pos_right, mul_assoc, suc-mul}
use native.Mathlib.Nat.{lt_of_mul-lt-mul_right, le_of_suc-le-suc}
use native.Mathlib.Omega.{arith}
use lib.Dec.{T, eqb, eqb→eq}
use lib.Pow.{pow-add, pow_pos, pow_mono}
use lib.Ieee.{size}
use lib.Ieee.Digits.{size-le}
use borrow.Author.Tests.{eq-eqb, ne_eqb, lt-leb}
use Rattle.totals_spec.specs.formats.Bounds.{RangeBounds}
use Rattle.totals_spec.specs.formats.Format.{Format, no_inf, kind_of, digits, fraction_bits}
use Rattle.totals_spec.specs.formats.Format.{exponent_range, emin_at, emax_at}
use Rattle.totals_spec.specs.formats.Decode.{Unpacked, finite, decode}
use Rattle.totals_spec.specs.formats.Encode.{encode}
use Rattle.totals_spec.specs.rounding.Round.{is_no_inf, overflows, largest, last_place}
use Rattle.totals_spec.proofs.numbers.Bits.{pow-split}
use Rattle.totals_spec.proofs.numbers.Powers.{pow-next, pow-join, scaled-lt}
use Rattle.totals_spec.proofs.formats.DecodedBack.{Storable, back-finite}
use Rattle.totals_spec.proofs.formats.ExponentRange.{range-fits, range-ieee}

module _ (f : Format) (b : RangeBounds f) (q : ℕ) (q0 : 1 ≤ q) (qp : q ≤ digits f) where
  -- its significand: by whether the pattern of all ones is the NaN
  abbrev pub greatest-of : Bool → ℕ
  greatest-of t = cond t (2 ^ digits f - 2) ((2 ^ q - 1) * 2 ^ (digits f - q))

  abbrev pub is_nan : Bool
  is_nan = is_no_inf (kind_of f.kind) && eqb q (digits f)

  pub largest-is : (s : Bool) → largest f q s ≡ finite s (exponent_range f) (greatest-of is_nan)
  unfolding largest
  largest-is s = refl

  two : 2 ≤ digits f
  two = omega (arith, b.w-ge)

  p-is : digits f ≡ suc (fraction_bits f)
  p-is = omega (arith, b.w-ge)

  half : 2 ^ digits f ≡ 2 * 2 ^ (digits f - 1)
  half = pow-next (digits f) (omega (arith, two))

  more : 2 ≤ 2 ^ (digits f - 1)
  more = pow_mono {i = 1} {j = digits f - 1} (omega (arith, two))

  -- q ones, and zeros behind them
  ones-parts : (2 ^ q - 1) * 2 ^ (digits f - q) + 2 ^ (digits f - q) ≡ 2 ^ digits f
  ones-parts =
      sym (suc-mul (2 ^ q - 1) (2 ^ (digits f - q))) ∙ ap (λ (x : ℕ). x * 2 ^ (digits f - q)) full ∙ pow-join q (digits f - q) (digits f) (omega (arith, qp))
    where
      full : suc (2 ^ q - 1) ≡ 2 ^ q
      full = omega (arith, pow_pos q)

  rest_le : 2 ^ (digits f - q) ≤ 2 ^ (digits f - 1)
  rest_le = pow_mono {i = digits f - q} {j = digits f - 1} (omega (arith, q0))

  greatest-lt : (t : Bool) → greatest-of t < 2 ^ digits f
  greatest-lt true = omega (arith, half, more)
  greatest-lt false = omega (arith, ones-parts, pow_pos (digits f - q))

  greatest-ge : (t : Bool) → 2 ^ (digits f - 1) ≤ greatest-of t
  greatest-ge true = omega (arith, half, more)
  greatest-ge false = omega (arith, ones-parts, half, rest_le)

  is-nan-digits : is_nan ≡ true → q ≡ digits f
  is-nan-digits e = eqb→eq q (digits f) (right (is_no_inf (kind_of f.kind)) (eqb q (digits f)) e)
    where
      right : (a c : Bool) → (a && c) ≡ true → T c
      right true true e = tt
      right true false e = absurd (true≢false (sym e))
      right false c e = absurd (true≢false (sym e))

  not-ones : kind_of f.kind ≡ no_inf → (t : Bool) → is_nan ≡ t → greatest-of t ≡ 2 ^ suc (fraction_bits f) - 1 → ⊥
  not-ones k true e z = omega (arith, z, ap (λ (x : ℕ). 2 ^ x) p-is, half, more)
  not-ones k false e z = omega (arith, z, ap (λ (x : ℕ). 2 ^ x) p-is, ones-parts, at_least, half, more)
    where
      fewer : q ≡ digits f → ⊥
      fewer d = true≢false (sym (rw (k, eq-eqb q (digits f) d) refl) ∙ e)

      at_least : 2 ^ 1 ≤ 2 ^ (digits f - q)
      at_least = pow_mono {i = 1} {j = digits f - q} (omega (arith, fewer, qp))

  pub largest-stored : Storable f (exponent_range f) (greatest-of is_nan)
  largest-stored = record {
    some = lt_of_lt_of_le (pow_pos (digits f - 1)) (greatest-ge is_nan);
    short = subst (λ (x : ℕ). greatest-of is_nan < 2 ^ x) p-is (greatest-lt is_nan);
    least = λ h. absurd (not-le_of_lt h (subst (λ (x : ℕ). 2 ^ x ≤ greatest-of is_nan) one_less (greatest-ge is_nan)));
    field = omega (arith, range-fits f b);
    below = λ k e. omega (arith, e, range-ieee f b k);
    other = λ k e m. not-ones k is_nan refl m;
  }
    where
      one_less : digits f - 1 ≡ fraction_bits f
      one_less = omega (arith, p-is)

  pub largest-back : (s : Bool) → decode f (encode f (largest f q s)) ≡ finite s (exponent_range f) (greatest-of is_nan)
  largest-back s = ap (λ (v : Unpacked). decode f (encode f v)) (largest-is s) ∙ back-finite f b s (exponent_range f) (greatest-of is_nan) largest-stored

  -- ---- what overflows

  module _ (g : ℕ) where
    top : suc (emax_at f g) ≡ digits f + (exponent_range f + g)
    top = omega (arith, two)

    largest-lt : greatest-of is_nan * 2 ^ (exponent_range f + g) < 2 ^ suc (emax_at f g)
    largest-lt =
        subst (λ (x : ℕ). greatest-of is_nan * 2 ^ (exponent_range f + g) < 2 ^ x) (sym top)
        (scaled-lt (greatest-of is_nan) (exponent_range f + g) (digits f) (digits f + (exponent_range f + g)) (greatest-lt is_nan) (omega arith))

    -- no more than the largest number does not overflow
    inside : (y : ℕ) → y ≤ greatest-of is_nan * 2 ^ (exponent_range f + g) → overflows f q g y ≡ false
    unfolding overflows
    inside y h = rw (lt-leb (2 ^ suc (emax_at f g)) y (lt_of_le_of_lt h largest-lt)) (go is_nan refl)
      where
        place : suc (emax_at f g) - digits f ≡ exponent_range f + g
        place = omega (arith, two)

        and-all : (a c d : Bool) → (a && c) ≡ false → (a && c && d) ≡ false
        and-all a c d e = rw e

        go : (t : Bool) → is_nan ≡ t
            → (is_no_inf (kind_of f.kind) && eqb q (digits f) && eqb y ((2 ^ digits f - 1) * 2 ^ (suc (emax_at f g) - digits f))) ≡ false
        go false e = and-all (is_no_inf (kind_of f.kind)) (eqb q (digits f)) _ e
        go true e = rw (e, ne_eqb y ((2 ^ digits f - 1) * 2 ^ (suc (emax_at f g) - digits f)) off)
          where
            less : (2 ^ digits f - 2) * 2 ^ (exponent_range f + g) < (2 ^ digits f - 1) * 2 ^ (exponent_range f + g)
            less = mul-lt-mul_of_pos_right (omega (arith, half, more)) (pow_pos (exponent_range f + g))

            off : y ≡ (2 ^ digits f - 1) * 2 ^ (suc (emax_at f g) - digits f) → ⊥
            off z =
                not-le_of_lt (subst (λ (x : ℕ). (2 ^ digits f - 2) * 2 ^ (exponent_range f + g) < (2 ^ digits f - 1) * 2 ^ x) (sym place) less)
                (subst (λ (x : ℕ). x ≤ (2 ^ digits f - 2) * 2 ^ (exponent_range f + g)) z
                (subst (λ (t : Bool). y ≤ greatest-of t * 2 ^ (exponent_range f + g)) e h))

    -- it is a multiple of each unit that a magnitude below it rounds to
    record Multiple (u : ℕ) : Type 0 where
      units : ℕ
      is : greatest-of is_nan * 2 ^ (exponent_range f + g) ≡ units * 2 ^ u

    multiple : (u : ℕ) → u + q ≤ digits f + (exponent_range f + g) → Multiple u
    multiple u h = go is_nan refl
      where
        lower : (a e : ℕ) → u ≤ e → a * 2 ^ e ≡ a * 2 ^ (e - u) * 2 ^ u
        lower a e l = ap (λ (x : ℕ). a * x) (pow-split u e l) ∙ sym (mul_assoc a (2 ^ (e - u)) (2 ^ u))

        go : (t : Bool) → is_nan ≡ t → Multiple u
        go true e = record {
          units = greatest-of is_nan * 2 ^ (exponent_range f + g - u);
          is = lower (greatest-of is_nan) (exponent_range f + g) (omega (arith, h, is-nan-digits e));
        }
        go false e = record {
          units = (2 ^ q - 1) * 2 ^ (digits f - q + (exponent_range f + g) - u);
          is =
              ap (λ (t : Bool). greatest-of t * 2 ^ (exponent_range f + g)) e ∙ mul_assoc (2 ^ q - 1) (2 ^ (digits f - q)) (2 ^ (exponent_range f + g))
              ∙ ap (λ (x : ℕ). (2 ^ q - 1) * x) (sym (pow-add 2 (digits f - q) (exponent_range f + g)))
              ∙ lower (2 ^ q - 1) (digits f - q + (exponent_range f + g)) (omega (arith, h, qp));
        }

    -- a magnitude x that rounds to y = Y × 2^u, less than a unit above it
    pub overflow-above : (x Y : ℕ) → (let u = last_place (emin_at f g) q (size x) in
        Y * 2 ^ u < x + 2 ^ u → overflows f q g (Y * 2 ^ u) ≡ true → greatest-of is_nan * 2 ^ (exponent_range f + g) < x)
    overflow-above x Y near over = lt_of_not-le no
      where
        u : ℕ
        u = last_place (emin_at f g) q (size x)

        no : x ≤ greatest-of is_nan * 2 ^ (exponent_range f + g) → ⊥
        no h = true≢false (sym over ∙ inside (Y * 2 ^ last_place (emin_at f g) q (size x)) below)
          where
            short : size x ≤ suc (emax_at f g)
            short = size-le x (suc (emax_at f g)) (lt_of_le_of_lt h largest-lt)

            low : last_place (emin_at f g) q (size x) + q ≤ digits f + (exponent_range f + g)
            low = fits (digits f) (exponent_range f) g q (size x) qp q0 (subst (λ (z : ℕ). size x ≤ z) top short)
              where
                fits : (p r g q n : ℕ) → q ≤ p → 1 ≤ q → n ≤ p + (r + g) → max (g + (p - 1)) (n - 1) + 1 - q + q ≤ p + (r + g)
                fits p r g q n a c d = omega arith

            m : Multiple (last_place (emin_at f g) q (size x))
            m = multiple (last_place (emin_at f g) q (size x)) low

            few : Y * 2 ^ last_place (emin_at f g) q (size x) < suc m.units * 2 ^ last_place (emin_at f g) q (size x)
            few = omega (arith, near, h, m.is, suc-mul m.units (2 ^ last_place (emin_at f g) q (size x)))

            below : Y * 2 ^ last_place (emin_at f g) q (size x) ≤ greatest-of is_nan * 2 ^ (exponent_range f + g)
            below =
                subst (λ (z : ℕ). Y * 2 ^ last_place (emin_at f g) q (size x) ≤ z) (sym m.is)
                (mul-le-mul_right (2 ^ last_place (emin_at f g) q (size x))
                (le_of_suc-le-suc (lt_of_mul-lt-mul_right (2 ^ last_place (emin_at f g) q (size x)) few)))
