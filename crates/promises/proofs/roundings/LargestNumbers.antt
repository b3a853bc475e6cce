-- The largest number of a format at a precision, and that a rounded number overflows exactly where
-- it is above it.
use mathlib.Core.Path.{◌≡◌, refl, sym, ap, ap₂, ◌∙◌, subst}
use mathlib.Core.Logic.{◌≢◌}
use mathlib.Core.Bool.{Bool, true, false, ◌&&◌, ◌||◌, true≢false}
use Prim.Native.Nat.{ℕ, suc, ◌+◌, ◌-◌, ◌*◌, ◌^◌, ◌≤◌, ◌<◌}
use native.Mathlib.Nat.{le_refl, le_trans, mul_assoc, mul-le-mul_right, mul-le-mul_left, suc-mul, pow-succ'}
use native.Mathlib.Nat.{lt_of_mul-lt-mul_right}
use native.Mathlib.Omega.{arith}
use lib.Dec.{eqb, leb}
use lib.Pow.{pow_pos, pow_mono, pow-lt}
use borrow.Author.Tests.{eqb-true, eqb-false, eq-eqb, leb-true, leb-false}
use Rattle.totals_spec.specs.formats.Bounds.{RangeBounds}
use Rattle.totals_spec.specs.formats.Format.{Format, Kind, ieee, no_inf, fnuz, finite_only, kind_of}
use Rattle.totals_spec.specs.formats.Format.{digits, exponent_range, emax_at}
use Rattle.totals_spec.specs.rounding.Round.{is_no_inf, overflows}
use Rattle.totals_spec.proofs.numbers.Bits.{pow-split}
use Rattle.totals_spec.proofs.numbers.Powers.{pow-join}
use Rattle.totals_spec.proofs.rounding.LargestNumber.{greatest-of, is_nan}
use Rattle.promises.specs.Numbers.{Number}
use Rattle.promises.specs.Rounding.{grid_of, Finite, Largest}

-- y in units of Z, of which a number has fewer than Q at the greatest exponent: either a whole
-- number of them, or at most half of Q - 1
data At (Q Z y : ℕ) : Type 0 where
  whole : (n : ℕ) → n < Q → y ≡ n * Z → At Q Z y
  half : y + y + Z ≤ Q * Z → At Q Z y

module _ (q m e top y : ℕ) (short : m < 2 ^ q) (is : y ≡ m * 2 ^ e) where
  -- below the top exponent
  at-half : e < top → At (2 ^ q) (2 ^ top) y
  at-half h = half (le_trans twice most)
    where
      double : y + y ≡ m * 2 ^ suc e
      double = omega (arith, is, ap (λ (n : ℕ). m * n) (pow-succ' 2 e), swap m (2 ^ e))
        where
          swap : (a b : ℕ) → a * (2 * b) ≡ a * b + a * b
          swap a b = omega arith

      step : m * 2 ^ suc e ≤ m * 2 ^ top
      step = mul-le-mul_left m (pow_mono {i = suc e} {j = top} h)

      twice : y + y + 2 ^ top ≤ m * 2 ^ top + 2 ^ top
      twice = omega (arith, double, step)

      most : m * 2 ^ top + 2 ^ top ≤ 2 ^ q * 2 ^ top
      most = subst (λ (n : ℕ). n ≤ 2 ^ q * 2 ^ top) (suc-mul m (2 ^ top)) (mul-le-mul_right (2 ^ top) short)

  at-top : e ≡ top → At (2 ^ q) (2 ^ top) y
  at-top h = whole m short (is ∙ ap (λ (n : ℕ). m * 2 ^ n) h)

  at-above : top ≤ e → y < 2 ^ q * 2 ^ top → At (2 ^ q) (2 ^ top) y
  at-above h l = whole (m * 2 ^ (e - top)) (lt_of_mul-lt-mul_right (2 ^ top) (subst (λ (n : ℕ). n < 2 ^ q * 2 ^ top) parts l)) parts
    where
      parts : y ≡ m * 2 ^ (e - top) * 2 ^ top
      parts = is ∙ ap (λ (n : ℕ). m * n) (pow-split top e h) ∙ sym (mul_assoc m (2 ^ (e - top)) (2 ^ top))

-- so it is at most Q - 1 units, and where it is not Q - 1, and Q at least 3, at most Q - 2
module _ (Q Z y : ℕ) (some : 0 < Z) where
  at-most : At Q Z y → y + Z ≤ Q * Z
  at-most (whole n h e) = subst (λ (x : ℕ). x + Z ≤ Q * Z) (sym e) (subst (λ (x : ℕ). x ≤ Q * Z) (suc-mul n Z) (mul-le-mul_right Z h))
  at-most (half h) = omega (arith, h)

  at-other : 4 ≤ Q → At Q Z y → y + Z ≢ Q * Z → y + Z + Z ≤ Q * Z
  at-other four (whole n h e) d = go (eqb (suc n) Q) refl
    where
      go : (b : Bool) → eqb (suc n) Q ≡ b → y + Z + Z ≤ Q * Z
      go true t = absurd (d (ap (λ (x : ℕ). x + Z) e ∙ sym (suc-mul n Z) ∙ ap (λ (x : ℕ). x * Z) (eqb-true (suc n) Q t)))
      go false t = le_trans (omega (arith, e, suc-mul n Z, suc-mul (suc n) Z)) (mul-le-mul_right {m = suc (suc n)} {n = Q} Z (omega (arith, h, eqb-false (suc n) Q t)))
  at-other four (half h) d = omega (arith, h, mul-le-mul_right {m = 4} {n = Q} Z four)

module _ (f : Format) (b : RangeBounds f) (q : ℕ) (q0 : 1 ≤ q) (qp : q ≤ digits f) (g : ℕ) where
  two : 2 ≤ digits f
  two = omega (arith, b.w-ge)

  abbrev pub top_number : ℕ
  top_number = greatest-of f b q q0 qp (is_nan f b q q0 qp) * 2 ^ (exponent_range f + g)

  -- the unit of the largest
  abbrev e₀ : ℕ
  e₀ = exponent_range f + grid_of f q g

  place : e₀ ≡ digits f - q + (exponent_range f + g)
  place = omega (arith, qp)

  above-all : 2 ^ q * 2 ^ e₀ ≡ 2 ^ suc (emax_at f g)
  above-all = pow-join q e₀ (suc (emax_at f g)) (omega (arith, qp, two))

  -- the pattern of all ones, one unit of 2^(range + g) below it
  abbrev pattern : ℕ
  pattern = (2 ^ digits f - 1) * 2 ^ (exponent_range f + g)

  pattern-is : pattern + 2 ^ (exponent_range f + g) ≡ 2 ^ suc (emax_at f g)
  pattern-is =
      sym (suc-mul (2 ^ digits f - 1) (2 ^ (exponent_range f + g)))
      ∙ ap (λ (n : ℕ). n * 2 ^ (exponent_range f + g)) (let o : suc (2 ^ digits f - 1) ≡ 2 ^ digits f = omega (arith, pow_pos (digits f)) in o)
      ∙ pow-join (digits f) (exponent_range f + g) (suc (emax_at f g)) (omega (arith, two))

  -- the largest by its two cases: one unit below, or with all digits and a NaN there two
  data Case : Type 0 where
    ones : is_nan f b q q0 qp ≡ false → top_number + 2 ^ e₀ ≡ 2 ^ suc (emax_at f g) → Case
    kept : is_nan f b q q0 qp ≡ true → q ≡ digits f → kind_of f.kind ≡ no_inf → top_number + 2 ^ e₀ + 2 ^ e₀ ≡ 2 ^ suc (emax_at f g) → Case

  nan-kind : (k : Kind) → is_no_inf k ≡ true → k ≡ no_inf
  nan-kind ieee e = absurd (true≢false (sym e))
  nan-kind no_inf e = refl
  nan-kind fnuz e = absurd (true≢false (sym e))
  nan-kind finite_only e = absurd (true≢false (sym e))

  both : (x y : Bool) → (x && y) ≡ true → (x ≡ true) × (y ≡ true)
  both true true e = (refl, refl)
  both true false e = absurd (true≢false (sym e))
  both false y e = absurd (true≢false (sym e))

  case : Case
  case = go (is_nan f b q q0 qp) refl
    where
      go : (t : Bool) → is_nan f b q q0 qp ≡ t → Case
      go false e = ones e (ap (λ (n : ℕ). n + 2 ^ e₀) value ∙ sym (suc-mul (2 ^ q - 1) (2 ^ e₀)) ∙ ap (λ (n : ℕ). n * 2 ^ e₀) full ∙ above-all)
        where
          full : suc (2 ^ q - 1) ≡ 2 ^ q
          full = omega (arith, pow_pos q)

          value : top_number ≡ (2 ^ q - 1) * 2 ^ e₀
          value =
              ap (λ (x : Bool). greatest-of f b q q0 qp x * 2 ^ (exponent_range f + g)) e
              ∙ mul_assoc (2 ^ q - 1) (2 ^ (digits f - q)) (2 ^ (exponent_range f + g))
              ∙ ap (λ (n : ℕ). (2 ^ q - 1) * n) (pow-join (digits f - q) (exponent_range f + g) e₀ (sym place))
      go true e = kept e same (nan-kind (kind_of f.kind) (both (is_no_inf (kind_of f.kind)) (eqb q (digits f)) e).0)
          (ap (λ (n : ℕ). n + 2 ^ e₀ + 2 ^ e₀) value ∙ twice ∙ above-all)
        where
          same : q ≡ digits f
          same = eqb-true q (digits f) (both (is_no_inf (kind_of f.kind)) (eqb q (digits f)) e).1

          at : exponent_range f + g ≡ e₀
          at = omega (arith, place, same)

          value : top_number ≡ (2 ^ q - 2) * 2 ^ e₀
          value =
              ap (λ (x : Bool). greatest-of f b q q0 qp x * 2 ^ (exponent_range f + g)) e
              ∙ ap₂ (λ (n k : ℕ). (2 ^ n - 2) * 2 ^ k) (sym same) at

          full : suc (suc (2 ^ q - 2)) ≡ 2 ^ q
          full = let h : 2 ^ 1 ≤ 2 ^ q = pow_mono {i = 1} {j = q} q0 in omega (arith, h)

          twice : (2 ^ q - 2) * 2 ^ e₀ + 2 ^ e₀ + 2 ^ e₀ ≡ 2 ^ q * 2 ^ e₀
          twice = omega (arith, suc-mul (2 ^ q - 2) (2 ^ e₀), suc-mul (suc (2 ^ q - 2)) (2 ^ e₀), ap (λ (n : ℕ). n * 2 ^ e₀) full)

  pos : 0 < 2 ^ e₀
  pos = pow_pos e₀

  -- what is a number there is at most the largest
  number-le : (y : ℕ) → At (2 ^ q) (2 ^ e₀) y → (kind_of f.kind ≡ no_inf → q ≡ digits f → y ≢ pattern) → y ≤ top_number
  number-le y a o = go case
    where
      go : Case → y ≤ top_number
      go (ones e h) = omega (arith, h, above-all, at-most (2 ^ q) (2 ^ e₀) y pos a)
      go (kept e same k h) = omega (arith, h, above-all, at-other (2 ^ q) (2 ^ e₀) y pos four a (λ z. o k same (omega (arith, z, above-all, pattern-is, at))))
        where
          four : 2 ^ 2 ≤ 2 ^ q
          four = pow_mono {i = 2} {j = q} (omega (arith, same, two))

          at : 2 ^ (exponent_range f + g) ≡ 2 ^ e₀
          at = ap (λ (n : ℕ). 2 ^ n) (let z : exponent_range f + g ≡ e₀ = omega (arith, place, same) in z)

  -- ---- THE LARGEST

  finite-le : (y : ℕ) → Finite f q g y → y ≤ top_number
  finite-le y n = number-le y (go (eqb n.exponent (exponent_range f)) refl) (λ k s. n.other k)
    where
      go : (t : Bool) → eqb n.exponent (exponent_range f) ≡ t → At (2 ^ q) (2 ^ e₀) y
      go true e = at-top q n.significand (n.exponent + grid_of f q g) e₀ y n.short n.is (ap (λ (k : ℕ). k + grid_of f q g) (eqb-true n.exponent (exponent_range f) e))
      go false e =
          let r : n.exponent ≤ exponent_range f = n.range in
          at-half q n.significand (n.exponent + grid_of f q g) e₀ y n.short n.is (omega (arith, r, eqb-false n.exponent (exponent_range f) e))

  top-finite : Finite f q g top_number
  top-finite = go case
    where
      go : Case → Finite f q g top_number
      go (ones e h) = record {
        significand = 2 ^ q - 1;
        exponent = exponent_range f;
        short = omega (arith, pow_pos q);
        range = le_refl (exponent_range f);
        is = omega (arith, h, above-all, suc-mul (2 ^ q - 1) (2 ^ e₀), ap (λ (n : ℕ). n * 2 ^ e₀) full);
        other = λ k z. fewer k (omega (arith, z, h, pattern-is));
      }
        where
          full : suc (2 ^ q - 1) ≡ 2 ^ q
          full = omega (arith, pow_pos q)

          -- with all its digits NoInf would have its NaN there
          fewer : kind_of f.kind ≡ no_inf → 2 ^ e₀ ≡ 2 ^ (exponent_range f + g) → ⊥
          fewer k z = by (eqb q (digits f)) refl
            where
              by : (t : Bool) → eqb q (digits f) ≡ t → ⊥
              by true t = true≢false (sym (rw (k, t)) ∙ e)
              by false t = omega (arith, z, more, pow_pos (exponent_range f + g), pow-succ' 2 (exponent_range f + g))
                where
                  more : 2 ^ suc (exponent_range f + g) ≤ 2 ^ e₀
                  more = pow_mono {i = suc (exponent_range f + g)} {j = e₀} (omega (arith, qp, eqb-false q (digits f) t))
      go (kept e same k h) = record {
        significand = 2 ^ q - 2;
        exponent = exponent_range f;
        short = omega (arith, pow_pos q);
        range = le_refl (exponent_range f);
        is = omega (arith, h, above-all, suc-mul (2 ^ q - 2) (2 ^ e₀), suc-mul (suc (2 ^ q - 2)) (2 ^ e₀), ap (λ (n : ℕ). n * 2 ^ e₀) full);
        other = λ _ z. omega (arith, z, h, pattern-is, at, pos);
      }
        where
          at : 2 ^ (exponent_range f + g) ≡ 2 ^ e₀
          at = ap (λ (n : ℕ). 2 ^ n) (let z : exponent_range f + g ≡ e₀ = omega (arith, place, same) in z)

          full : suc (suc (2 ^ q - 2)) ≡ 2 ^ q
          full = let h : 2 ^ 1 ≤ 2 ^ q = pow_mono {i = 1} {j = q} q0 in omega (arith, h)

  pub top-largest : Largest f q g top_number
  top-largest = record { number = top-finite; most = finite-le }

  pub top-pos : 0 < top_number
  top-pos = go case
    where
      digit : 2 ^ 1 ≤ 2 ^ q
      digit = pow_mono {i = 1} {j = q} q0

      go : Case → 0 < top_number
      go (ones e h) = omega (arith, h, above-all, pos, mul-le-mul_right {m = 2 ^ 1} {n = 2 ^ q} (2 ^ e₀) digit)
      go (kept e same k h) = omega (arith, h, above-all, pos, mul-le-mul_right {m = 2 ^ 2} {n = 2 ^ q} (2 ^ e₀) four)
        where
          four : 2 ^ 2 ≤ 2 ^ q
          four = pow_mono {i = 2} {j = q} (omega (arith, same, two))

  -- ---- below the power of two above all exponents

  pub above-number : Number q (grid_of f q g) (2 ^ suc (emax_at f g))
  above-number = record {
    significand = 2 ^ (q - 1);
    exponent = suc e₀;
    short = pow-lt {i = q - 1} {j = q} (omega (arith, q0));
    above = omega arith;
    is = sym (pow-join (q - 1) (suc e₀) (suc (emax_at f g)) (omega (arith, q0, qp, two)));
  }

  pub under-top : (y : ℕ) → Number q (grid_of f q g) y → y < 2 ^ suc (emax_at f g) → y + 2 ^ e₀ ≤ 2 ^ suc (emax_at f g)
  under-top y n h = omega (arith, above-all, at-most (2 ^ q) (2 ^ e₀) y pos (go (leb e₀ n.exponent) refl))
    where
      below : y < 2 ^ q * 2 ^ e₀
      below = omega (arith, h, above-all)

      go : (t : Bool) → leb e₀ n.exponent ≡ t → At (2 ^ q) (2 ^ e₀) y
      go true t = at-above q n.significand n.exponent e₀ y n.short n.is (leb-true e₀ n.exponent t) below
      go false t = at-half q n.significand n.exponent e₀ y n.short n.is (leb-false e₀ n.exponent t)

  pub top-plus : ¬ (kind_of f.kind ≡ no_inf) → top_number + 2 ^ e₀ ≡ 2 ^ suc (emax_at f g)
  top-plus n = go case
    where
      go : Case → top_number + 2 ^ e₀ ≡ 2 ^ suc (emax_at f g)
      go (ones e h) = h
      go (kept e s k h) = absurd (n k)

  pub power-is : 2 ^ q * 2 ^ e₀ ≡ 2 ^ suc (emax_at f g)
  power-is = above-all

  -- ---- what overflows

  or-parts : (x y : Bool) → (x || y) ≡ false → (x ≡ false) × (y ≡ false)
  or-parts true y e = absurd (true≢false e)
  or-parts false y e = (refl, e)

  pattern-place : (2 ^ digits f - 1) * 2 ^ (suc (emax_at f g) - digits f) ≡ pattern
  pattern-place = ap (λ (n : ℕ). (2 ^ digits f - 1) * 2 ^ n) (let z : suc (emax_at f g) - digits f ≡ exponent_range f + g = omega (arith, two) in z)

  pub within : (y : ℕ) → Number q (grid_of f q g) y → overflows f q g y ≡ false → y ≤ top_number
  unfolding overflows
  within y n e = number-le y (go (leb e₀ n.exponent) refl) other
    where
      apart : (leb (2 ^ suc (emax_at f g)) y ≡ false)
          × ((is_no_inf (kind_of f.kind) && eqb q (digits f) && eqb y ((2 ^ digits f - 1) * 2 ^ (suc (emax_at f g) - digits f))) ≡ false)
      apart = or-parts _ _ e

      below : y < 2 ^ q * 2 ^ e₀
      below = omega (arith, leb-false (2 ^ suc (emax_at f g)) y apart.0, above-all)

      go : (t : Bool) → leb e₀ n.exponent ≡ t → At (2 ^ q) (2 ^ e₀) y
      go true t = at-above q n.significand n.exponent e₀ y n.short n.is (leb-true e₀ n.exponent t) below
      go false t = at-half q n.significand n.exponent e₀ y n.short n.is (leb-false e₀ n.exponent t)

      other : kind_of f.kind ≡ no_inf → q ≡ digits f → y ≢ pattern
      other k s z = true≢false (sym (rw (k, eq-eqb q (digits f) s, eq-eqb y _ (z ∙ sym pattern-place)) refl) ∙ apart.1)

  abbrev nan-rest : ℕ → Bool
  nan-rest y = is_no_inf (kind_of f.kind) && eqb q (digits f) && eqb y ((2 ^ digits f - 1) * 2 ^ (suc (emax_at f g) - digits f))

  nan-pair : (x y z : Bool) → (x && y && z) ≡ true → ((x && y) ≡ true) × (z ≡ true)
  nan-pair x y z e = both (x && y) z e

  pub beyond-top : (y : ℕ) → overflows f q g y ≡ true → top_number < y
  unfolding overflows
  beyond-top y e = go (leb (2 ^ suc (emax_at f g)) y) refl e
    where
      under : Case → 2 ^ suc (emax_at f g) ≤ y → top_number < y
      under (ones i h) l = omega (arith, h, l, pos)
      under (kept i s k h) l = omega (arith, h, l, pos)

      nan : Case → nan-rest y ≡ true → top_number < y
      nan (ones i h) t = absurd (true≢false (sym (nan-pair (is_no_inf (kind_of f.kind)) (eqb q (digits f)) _ t).0 ∙ i))
      nan (kept i s k h) t =
          omega (arith, h, pattern-is, pattern-place, eqb-true y _ (nan-pair (is_no_inf (kind_of f.kind)) (eqb q (digits f)) _ t).1, at, pos)
        where
          at : 2 ^ (exponent_range f + g) ≡ 2 ^ e₀
          at = ap (λ (n : ℕ). 2 ^ n) (let z : exponent_range f + g ≡ e₀ = omega (arith, place, s) in z)

      go : (t : Bool) → leb (2 ^ suc (emax_at f g)) y ≡ t → (t || nan-rest y) ≡ true → top_number < y
      go true t i = under case (leb-true (2 ^ suc (emax_at f g)) y t)
      go false t i = nan case i
