-- Clause 4.3.1's own threshold of an overflow: half a unit below the power of two above the largest
-- number.
use mathlib.Core.Path.{◌≡◌, refl, sym, ap, ◌∙◌, subst}
use mathlib.Core.Logic.{◌≢◌, ◌⊎◌, inl, inr}
use mathlib.Core.Bool.{Bool, true, false}
use Prim.Native.Nat.{ℕ, suc, ◌+◌, ◌-◌, ◌*◌, ◌^◌, ◌≤◌, ◌<◌}
use native.Mathlib.Nat.{mul_assoc, lt_of_lt_of_le, mul-le-mul_right, mul-le-mul_left, mul-lt-mul_of_pos_right, suc-mul, eq_of_mul-eq-mul_right}
use native.Mathlib.Omega.{arith}
use lib.Dec.{leb, ltb}
use lib.Pow.{pow_pos, pow_mono}
use borrow.Author.Tests.{leb-true, leb-false, ltb-true, ltb-false}
use Rattle.totals_spec.specs.formats.Bounds.{RangeBounds}
use Rattle.totals_spec.specs.formats.Format.{Format, no_inf, kind_of, digits, exponent_range}
use Rattle.totals_spec.specs.formats.Format.{emax_at}
use Rattle.totals_spec.specs.formats.Settings.{Rounding}
use Rattle.totals_spec.proofs.numbers.Bits.{pow-split}
use Rattle.totals_spec.proofs.numbers.Powers.{pow-next}
use Rattle.promises.specs.Numbers.{Number, Even, distance, Nearest, EvenWins, LargerWins, RoundsTo}
use Rattle.promises.specs.Rounding.{grid_of, Largest}
use Rattle.promises.specs.Statements.{Nearest-overflows}
use Rattle.promises.proofs.roundings.OneAnswer.{largest-one}
use Rattle.promises.proofs.roundings.LargestNumbers.{top-largest, above-number, under-top, top-plus, power-is}

-- (2^q - 1) × 2^e has no even significand
ones-odd : (q e grid L : ℕ) → 1 ≤ q → L + 2 ^ e ≡ 2 ^ q * 2 ^ e → ¬ Even q grid L
ones-odd q e grid L q0 h v = go (leb e v.exponent) refl
  where
    twice : 2 ^ q ≡ 2 * 2 ^ (q - 1)
    twice = pow-next q q0

    coarse : e ≤ v.exponent → ⊥
    coarse c = omega (arith, twice, whole)
      where
        i : ℕ
        i = v.exponent - e

        parts : L ≡ 2 * (v.h * 2 ^ i) * 2 ^ e
        parts =
            v.is ∙ ap (λ (n : ℕ). 2 * v.h * n) (pow-split e v.exponent c) ∙ sym (mul_assoc (2 * v.h) (2 ^ i) (2 ^ e))
            ∙ ap (λ (n : ℕ). n * 2 ^ e) (mul_assoc 2 v.h (2 ^ i))

        whole : suc (2 * (v.h * 2 ^ i)) ≡ 2 ^ q
        whole = eq_of_mul-eq-mul_right (2 ^ e) (pow_pos e) (suc (2 * (v.h * 2 ^ i))) (2 ^ q) (suc-mul (2 * (v.h * 2 ^ i)) (2 ^ e) ∙ ap (λ (n : ℕ). n + 2 ^ e) (sym parts) ∙ h)

    fine : v.exponent < e → ⊥
    fine c = omega (arith, small, h, digit, pow_pos e, half)
      where
        small : L < 2 ^ q * 2 ^ (e - 1)
        small =
            subst (λ (n : ℕ). n < 2 ^ q * 2 ^ (e - 1)) (sym v.is)
            (lt_of_lt_of_le (mul-lt-mul_of_pos_right v.short (pow_pos v.exponent)) (mul-le-mul_left (2 ^ q) (pow_mono {i = v.exponent} {j = e - 1} (omega (arith, c)))))

        half : 2 ^ q * 2 ^ e ≡ 2 ^ q * 2 ^ (e - 1) + 2 ^ q * 2 ^ (e - 1)
        half = ap (λ (n : ℕ). 2 ^ q * n) (pow-next e (omega (arith, c))) ∙ double (2 ^ q) (2 ^ (e - 1))
          where
            double : (a b : ℕ) → a * (2 * b) ≡ a * b + a * b
            double a b = omega arith

        digit : 2 ^ e + 2 ^ e ≤ 2 ^ q * 2 ^ e
        digit = subst (λ (n : ℕ). n ≤ 2 ^ q * 2 ^ e) (two (2 ^ e)) (mul-le-mul_right (2 ^ e) (pow_mono {i = 1} {j = q} q0))
          where
            two : (n : ℕ) → 2 ^ 1 * n ≡ n + n
            two n = omega arith

    go : (t : Bool) → leb e v.exponent ≡ t → ⊥
    go true t = coarse (leb-true e v.exponent t)
    go false t = fine (leb-false e v.exponent t)

-- the largest is a unit below the power of two above it
level : (f : Format) (q g : ℕ) (b : RangeBounds f) (q0 : 1 ≤ q) (qp : q ≤ digits f) → ¬ (kind_of f.kind ≡ no_inf) → (most : ℕ) → Largest f q g most
    → most + 2 ^ (exponent_range f + grid_of f q g) ≡ 2 ^ suc (emax_at f g)
level f q g b q0 qp other most l =
    ap (λ (i : ℕ). i + 2 ^ (exponent_range f + grid_of f q g)) (largest-one f q g most _ l (top-largest f b q q0 qp g)) ∙ top-plus f b q q0 qp g other

module _ (f : Format) (q g : ℕ) (b : RangeBounds f) (q0 : 1 ≤ q) (qp : q ≤ digits f) (other : ¬ (kind_of f.kind ≡ no_inf))
    (Wins : ℕ → ℕ → Type 0) (x y most : ℕ) (n : Nearest q (grid_of f q g) Wins x y) (l : Largest f q g most)
    (lose : (y ≡ most) → ¬ Wins y (2 ^ suc (emax_at f g))) where
  abbrev Z : ℕ
  Z = 2 ^ (exponent_range f + grid_of f q g)

  abbrev A : ℕ
  A = 2 ^ suc (emax_at f g)

  gap : most + Z ≡ A
  gap = level f q g b q0 qp other most l

  some : 0 < Z
  some = pow_pos (exponent_range f + grid_of f q g)

  most-number : Number q (grid_of f q g) most
  most-number = record {
    significand = l.number.significand;
    exponent = l.number.exponent + grid_of f q g;
    short = l.number.short;
    above = omega arith;
    is = l.number.is;
  }

  -- to the largest number or lower, or to the power of two or higher
  sides : (y ≤ most) ⊎ (A ≤ y)
  sides = go (ltb y A) refl
    where
      go : (t : Bool) → ltb y A ≡ t → (y ≤ most) ⊎ (A ≤ y)
      go true t = inl (let u : y + Z ≤ A = under-top f b q q0 qp g y n.number (ltb-true y A t) in omega (arith, u, gap))
      go false t = inr (ltb-false y A t)

  upward : most < y → 2 * A ≤ 2 * x + Z
  upward h = go sides
    where
      go : (y ≤ most) ⊎ (A ≤ y) → 2 * A ≤ 2 * x + Z
      go (inl a) = absurd (let z : ⊥ = omega (arith, a, h) in z)
      go (inr a) = omega (arith, a, gap, some, n.nearest most most-number)

  downward : 2 * A ≤ 2 * x + Z → most < y
  downward h = go sides
    where
      near : distance x y ≤ distance x A
      near = n.nearest A (above-number f b q q0 qp g)

      go : (y ≤ most) ⊎ (A ≤ y) → most < y
      go (inr a) = omega (arith, a, gap, some)
      go (inl a) = absurd (lose same (n.tie A (above-number f b q q0 qp g) apart equal))
        where
          same : y ≡ most
          same = omega (arith, a, h, gap, some, near)

          apart : A ≢ y
          apart z = omega (arith, z, a, gap, some)

          equal : distance x A ≡ distance x y
          equal = omega (arith, a, h, gap, some, near)

pub nearest-overflows : Nearest-overflows
nearest-overflows f q g m s x y most b q0 qp o (inl e) r l =
    let n = subst (λ (m : Rounding). RoundsTo m q (grid_of f q g) s x y) e r in
    (upward f q g b q0 qp o (EvenWins q (grid_of f q g)) x y most n l lose, downward f q g b q0 qp o (EvenWins q (grid_of f q g)) x y most n l lose)
  where
    lose : (y ≡ most) → ¬ EvenWins q (grid_of f q g) y (2 ^ suc (emax_at f g))
    lose e (inl w) =
        ones-odd q (exponent_range f + grid_of f q g) (grid_of f q g) y q0
        (ap (λ (i : ℕ). i + 2 ^ (exponent_range f + grid_of f q g)) e ∙ level f q g b q0 qp o most l ∙ sym (power-is f b q q0 qp g)) w.0
    lose e (inr w) = omega (arith, e, w.1, level f q g b q0 qp o most l)
nearest-overflows f q g m s x y most b q0 qp o (inr e) r l =
    let n = subst (λ (m : Rounding). RoundsTo m q (grid_of f q g) s x y) e r in
    (upward f q g b q0 qp o LargerWins x y most n l lose, downward f q g b q0 qp o LargerWins x y most n l lose)
  where
    lose : (y ≡ most) → ¬ LargerWins y (2 ^ suc (emax_at f g))
    lose e w = omega (arith, e, w, level f q g b q0 qp o most l)
