-- Overflow: numbers above the largest, the largest number, and what an overflow gives.
use mathlib.Core.Logic.{◌⊎◌, inl, inr}
use mathlib.Core.Path.{◌≡◌, refl, sym, ap, ap₂, ◌∙◌, subst}
use mathlib.Core.Bool.{Bool, true, false, not, ◌&&◌, cond, and-false, true≢false}
use Prim.Native.Nat.{ℕ, suc, ◌+◌, ◌-◌, ◌*◌, ◌^◌, ◌≤◌, ◌<◌}
use native.Mathlib.Nat.{le_trans, le_of_lt, lt_of_lt_of_le, not-le_of_lt, lt_of_not-le, sub_self, mul-one, one-mul, mul-le-mul_right}
use native.Mathlib.Omega.{arith}
use lib.Dec.{T, leb, ltb, eqb, ltb→lt, nltb→le}
use lib.Pow.{pow_pos, pow_mono}
use lib.Ieee.{size}
use borrow.Author.Tests.{eqb-true, eqb-false, eq-eqb, le-leb, lt-leb, ne_eqb}
use Rattle.totals_spec.specs.formats.Format.{Format, kind_of, digits, emax_at, exponent_range}
use Rattle.totals_spec.specs.formats.Settings.{Settings, rounding_of}
use Rattle.totals_spec.specs.formats.Decode.{Unpacked, finite, infinity, nan}
use Rattle.totals_spec.specs.rounding.Round.{is_no_inf, overflows, overflow, Rounded, largest, to_infinity, beyond}
use Rattle.totals_spec.proofs.numbers.Powers.{pow-next, pow-join, eqb-scaled, scaled-lt, digits_lt, digits-ge}
use Rattle.format.specs.declared.kind.Kind.{Kind}
use Rattle.format.specs.declared.kind.Kind.TheVariants.{NoInf, Fnuz}
use Rattle.format.specs.Kinds.{number_of}
use Rattle.exact.proofs.Rules.{set_on}

-- ---- the pattern of all ones at emax

module _ (f : Format) (g : ℕ) (p0 : 1 ≤ digits f) where
  abbrev pub all_ones : ℕ
  all_ones = (2 ^ digits f - 1) * 2 ^ (suc (emax_at f g) - digits f)

  pub ones-ge : 2 ^ emax_at f g ≤ all_ones
  ones-ge = subst (λ (n : ℕ). n ≤ all_ones) same (mul-le-mul_right (2 ^ (suc (emax_at f g) - digits f)) half)
    where
      half : 2 ^ (digits f - 1) ≤ 2 ^ digits f - 1
      half = omega (arith, pow-next (digits f) p0, pow_pos (digits f - 1))

      same : 2 ^ (digits f - 1) * 2 ^ (suc (emax_at f g) - digits f) ≡ 2 ^ emax_at f g
      same = pow-join (digits f - 1) (suc (emax_at f g) - digits f) (emax_at f g) (omega (arith, p0))

-- ---- k of q digits, its highest bit at top = l + (q − 1)

module _ (f : Format) (q g k l : ℕ) (q0 : 1 ≤ q) (p0 : 1 ≤ digits f) (sz : size k ≡ q) where
  y-lt : (n : ℕ) → l + q ≤ n → k * 2 ^ l < 2 ^ n
  y-lt n h = scaled-lt k l q n (digits_lt k q q0 sz) (omega arith)

  y-ge : 2 ^ (l + (q - 1)) ≤ k * 2 ^ l
  y-ge =
      subst (λ (x : ℕ). x ≤ k * 2 ^ l) (pow-join (q - 1) l (l + (q - 1)) (omega arith)) (mul-le-mul_right (2 ^ l) (digits-ge k q q0 sz))

  pub over-above : emax_at f g < l + (q - 1) → overflows f q g (k * 2 ^ l) ≡ true
  unfolding overflows
  over-above h = rw (le-leb _ _ (le_trans (pow_mono h) y-ge))

  inside : l + (q - 1) ≤ emax_at f g → leb (2 ^ suc (emax_at f g)) (k * 2 ^ l) ≡ false
  inside h = lt-leb _ _ (y-lt (suc (emax_at f g)) (omega arith))

  pub over-kind : l + (q - 1) ≤ emax_at f g → is_no_inf (kind_of f.kind) ≡ false → overflows f q g (k * 2 ^ l) ≡ false
  unfolding overflows
  over-kind h n = rw (inside h, n)

  pub over-digits : l + (q - 1) ≤ emax_at f g → is_no_inf (kind_of f.kind) ≡ true → (q ≡ digits f → ⊥) → overflows f q g (k * 2 ^ l) ≡ false
  unfolding overflows
  over-digits h n d = rw (inside h, n, ne_eqb q (digits f) d)

  pub over-lower : l + (q - 1) < emax_at f g → is_no_inf (kind_of f.kind) ≡ true → q ≡ digits f → overflows f q g (k * 2 ^ l) ≡ false
  unfolding overflows
  over-lower h n d = rw (inside (le_of_lt h), n, eq-eqb q (digits f) d, ne_eqb (k * 2 ^ l) (all_ones f g p0) off)
    where
      off : k * 2 ^ l ≡ all_ones f g p0 → ⊥
      off e = not-le_of_lt (y-lt (emax_at f g) (omega arith)) (subst (λ (x : ℕ). 2 ^ emax_at f g ≤ x) (sym e) (ones-ge f g p0))

  pub over-at : l + (q - 1) ≡ emax_at f g → is_no_inf (kind_of f.kind) ≡ true → q ≡ digits f → eqb k (2 ^ q - 1) ≡ overflows f q g (k * 2 ^ l)
  unfolding overflows
  over-at h n d = rw (inside (omega arith), n, eq-eqb q (digits f) d) (eqb-scaled k (2 ^ q - 1) l ∙ ap (eqb (k * 2 ^ l)) same)
    where
      place : l ≡ suc (emax_at f g) - digits f
      place = omega arith

      same : (2 ^ q - 1) * 2 ^ l ≡ all_ones f g p0
      same = ap₂ (λ (a b : ℕ). (2 ^ a - 1) * 2 ^ b) d place

  -- at emax: NoInf's pattern of all ones
  pub over-top : l + (q - 1) ≡ emax_at f g
      → cond (is_no_inf (kind_of f.kind) && eqb q (digits f)) (eqb k (2 ^ q - 1)) false ≡ overflows f q g (k * 2 ^ l)
  over-top h = go (is_no_inf (kind_of f.kind)) refl (eqb q (digits f)) refl
    where
      go : (n : Bool) → is_no_inf (kind_of f.kind) ≡ n → (d : Bool) → eqb q (digits f) ≡ d
          → cond (n && d) (eqb k (2 ^ q - 1)) false ≡ overflows f q g (k * 2 ^ l)
      go true n true d = over-at h n (eqb-true q (digits f) d)
      go true n false d = sym (over-digits (omega arith) n (eqb-false q (digits f) d))
      go false n d e = sym (over-kind (omega arith) n)

  -- where its highest bit is not at emax, that alone tells
  pub over-off : (l + (q - 1) ≡ emax_at f g → ⊥) → ltb (emax_at f g) (l + (q - 1)) ≡ overflows f q g (k * 2 ^ l)
  over-off h = go (ltb (emax_at f g) (l + (q - 1))) (ltb→lt (emax_at f g) (l + (q - 1))) (nltb→le (emax_at f g) (l + (q - 1)))
    where
      below : l + (q - 1) < emax_at f g → (b : Bool) → is_no_inf (kind_of f.kind) ≡ b → (d : Bool) → eqb q (digits f) ≡ d
          → false ≡ overflows f q g (k * 2 ^ l)
      below u false n d e = sym (over-kind (le_of_lt u) n)
      below u true n true e = sym (over-lower u n (eqb-true q (digits f) e))
      below u true n false e = sym (over-digits (le_of_lt u) n (eqb-false q (digits f) e))

      go : (b : Bool) → (T b → emax_at f g < l + (q - 1)) → (T (not b) → l + (q - 1) ≤ emax_at f g) → b ≡ overflows f q g (k * 2 ^ l)
      go true a n = sym (over-above (a tt))
      go false a n = let m = n tt in below (omega arith) (is_no_inf (kind_of f.kind)) refl (eqb q (digits f)) refl

  -- where it does not overflow, its exponent is at most emax
  pub over-not : overflows f q g (k * 2 ^ l) ≡ false → l + q ≤ suc (emax_at f g)
  over-not h = omega (arith, lt_of_not-le {n = suc (suc (emax_at f g))} {m = l + q} no)
    where
      no : suc (suc (emax_at f g)) ≤ l + q → ⊥
      no k = true≢false (sym (over-above (omega arith)) ∙ h)

-- ---- the largest number

pub largest-plain : (f : Format) (q : ℕ) (s : Bool) → (is_no_inf (kind_of f.kind) && eqb q (digits f)) ≡ false
    → largest f q s ≡ finite s (exponent_range f) ((2 ^ q - 1) * 2 ^ (digits f - q))
unfolding largest
largest-plain f q s h = rw h

pub largest-noinf : (f : Format) (q : ℕ) (s : Bool) → is_no_inf (kind_of f.kind) ≡ true → q ≡ digits f
    → largest f q s ≡ finite s (exponent_range f) (2 ^ digits f - 2)
unfolding largest
largest-noinf f q s k h = rw (k, eq-eqb q (digits f) h)

-- q ones at the top of p digits
module _ (q p : ℕ) (q0 : 1 ≤ q) (qp : q ≤ p) where
  pub ones_lt : (2 ^ q - 1) * 2 ^ (p - q) < 2 ^ p
  ones_lt = scaled-lt (2 ^ q - 1) (p - q) q p (omega (arith, pow_pos q)) (omega arith)

  pub ones-fit : p ≤ 64 → (2 ^ q - 1) * 2 ^ (p - q) < 18446744073709551616
  ones-fit h = lt_of_lt_of_le ones_lt (pow_mono {i = p} {j = 64} h)

  pub ones_pos : 1 ≤ (2 ^ q - 1) * 2 ^ (p - q)
  ones_pos = omega (arith, mul-le-mul_right (2 ^ (p - q)) one, one-mul (2 ^ (p - q)), pow_pos (p - q))
    where
      one : 1 ≤ 2 ^ q - 1
      one = omega (arith, pow-next q q0, pow_pos (q - 1))

pub ones-full : (q p : ℕ) → q ≡ p → (2 ^ q - 1) * 2 ^ (p - q) - 1 ≡ 2 ^ p - 2
ones-full q p e = rw (e, sub_self p, mul-one (2 ^ p - 1)) two
  where
    two : 2 ^ p - 1 - 1 ≡ 2 ^ p - 2
    two = omega arith

-- ---- what an overflow gives

abbrev pub made : Unpacked → ℕ → Rounded
made v n = record { value = v; flags = n }

module _ (f : Format) (c : Settings) (q : ℕ) (s : Bool) where
  pub overflow-saturated : (v : Unpacked) → v ≡ largest f q s → (c.saturate ≡ 0 → ⊥) → made v 20 ≡ overflow f c q s
  unfolding overflow
  overflow-saturated v e h = rw (e, set_on c.saturate h, and-false (to_infinity (rounding_of c.rounding) s))

  pub overflow-most : (v : Unpacked) → v ≡ largest f q s → to_infinity (rounding_of c.rounding) s ≡ false → made v 20 ≡ overflow f c q s
  unfolding overflow
  overflow-most v e h = rw (e, h)

  module _ (h : to_infinity (rounding_of c.rounding) s ≡ true) (z : c.saturate ≡ 0) where
    overflow-beyond : overflow f c q s ≡ beyond (kind_of f.kind) (largest f q s) s
    unfolding overflow
    overflow-beyond = rw (h, z)

    pub overflow-ieee : f.kind ≡ 0 → made (infinity s) 84 ≡ overflow f c q s
    overflow-ieee k = sym (overflow-beyond ∙ ap (λ (n : ℕ). beyond (kind_of n) (largest f q s) s) k)

    pub overflow-only : (v : Unpacked) → v ≡ largest f q s → f.kind ≡ 3 → made v 20 ≡ overflow f c q s
    overflow-only v e k =
        sym (overflow-beyond ∙ ap (λ (n : ℕ). beyond (kind_of n) (largest f q s) s) k ∙ ap (λ (w : Unpacked). made w 20) (sym e))

    pub overflow-nan : beyond (kind_of f.kind) (largest f q s) s ≡ made (nan s false 0) 20 → made (nan s false 0) 20 ≡ overflow f c q s
    overflow-nan h = sym (overflow-beyond ∙ h)

-- the kinds that have a NaN and no infinity
pub nan-kind : (v : Unpacked) (s : Bool) (k : Kind) → (k ≡ NoInf) ⊎ (k ≡ Fnuz) → beyond (kind_of (number_of k)) v s ≡ made (nan s false 0) 20
nan-kind v s k (inl e) = rw e refl
nan-kind v s k (inr e) = rw e refl
