-- A pass with no boundary ends at what rounds as the exact sum does, or goes on within the
-- invariant.
use mathlib.Core.Path.{◌≡◌, refl, sym, ap, ◌∙◌, subst}
use mathlib.Core.Logic.{◌⊎◌, inl, inr}
use mathlib.Core.Bool.{Bool, true, false, not, ◌&&◌, cond}
use Prim.Native.Nat.{ℕ, zero, suc, ◌+◌, ◌-◌, ◌*◌, ◌/◌, ◌%◌, ◌^◌, ◌≤◌, ◌<◌}
use native.Mathlib.Nat.{mul-le-mul_right, suc-mul, add-zero, le_trans, pow-succ', le-div_iff_mul-le}
use native.Mathlib.Nat.{not-le_of_lt, mul-pos, pos_of_ne-zero, mod-lt}
use native.Mathlib.Omega.{arith}
use lib.Dec.{T, leb, ltb, eqb, leb→le, nleb→lt, ltb→lt, nltb→le, eqb→eq}
use lib.Pow.{pow-add, pow_pos, pow_mono}
use lib.Ieee.{size}
use lib.Ieee.Digits.{size-lt, size_reaches}
use borrow.Author.Tests.{eqb-false}
use Rattle.totals_spec.specs.Basics.{difference}
use Rattle.totals_spec.specs.formats.Format.{room}
use Rattle.totals_spec.specs.chain.Chain.{no_boundary, boundary, zero_sum, exactly, nearly, done}
use Rattle.totals_spec.specs.chain.Chain.{next, next_edge, final_or_boundary, decide}
use Rattle.totals_spec.specs.chain.Settled.{settled}
use Rattle.totals_spec.proofs.chain.AlikeNumbers.{diff-plus, oriented-is}
use Rattle.totals_spec.proofs.chain.Margin.{Close, terms-max, parts, unit-parts, Inside, final}
use Rattle.totals_spec.proofs.chain.Margin.{near-low, near-high, next-close}
use Rattle.totals_spec.proofs.chain.Invariant.{Right, oriented-sum, sides, rests-oriented}
use Rattle.totals_spec.proofs.chain.Invariant.{close-oriented, eq-oriented, bound-oriented}
use Rattle.totals_spec.proofs.chain.Invariant.{close-mono, between-of, rests-unit}

-- ---- a pass with no boundary

module _ (p w P N a c Ra RC : ℕ) (hp : p ≤ 64) (e_p : P ≡ a * 2 ^ w + Ra) (e_n : N ≡ c * 2 ^ w + RC) (s : Bool) (k : ℕ) (sum : cond s c a ≡ cond s a c + k) where
  sided : cond s N P + cond s Ra RC ≡ cond s P N + k * 2 ^ w + cond s RC Ra
  sided = sides s w a c k P N Ra RC e_p e_n sum

  -- exact
  free-exact : Ra + RC ≤ 0 → Right p P N (decide p no_boundary w 0 (record { neg = s; mag = k }) (size k))
  unfolding decide settled
  free-exact R = go (eqb k 0) (eqb→eq k 0) refl
    where
      RO : cond s RC Ra + cond s Ra RC ≤ 0
      RO = rests-oriented s Ra RC 0 R

      plain : cond s N P ≡ cond s P N + k * 2 ^ w
      plain = omega (arith, sided, RO)

      level : k ≡ 0 → cond s N P ≡ cond s P N
      level h = omega (arith, plain, ap (λ (x : ℕ). x * 2 ^ w) h)

      go : (b : Bool) → (T b → k ≡ 0) → eqb k 0 ≡ b → Right p P N (cond b (done zero_sum) (done (exactly s k w)))
      go true h g = inl (sym (diff-plus P N 0 (eq-oriented s P N (level (h tt)) ∙ sym (add-zero N))))
      go false h g = inl (sym (oriented-is s (cond s N P) (cond s P N) (k * 2 ^ w) plain some) ∙ oriented-sum s P N)
        where
          some : 0 < k * 2 ^ w
          some = mul-pos (pos_of_ne-zero (eqb-false k 0 g)) (pow_pos w)

  -- inexact and far from a boundary
  module _ (R : Ra + RC ≤ terms-max * 2 ^ w) (hw : room < w) (n : ℕ) (kn : size k ≡ n) (big : p + 70 ≤ n) where
    RO : cond s RC Ra + cond s Ra RC ≤ terms-max * 2 ^ w
    RO = rests-oriented s Ra RC (terms-max * 2 ^ w) R

    -- M / 2^r has p + 1 bits
    quotient-big : 2 ^ p ≤ k / 2 ^ (n - p - 1)
    quotient-big = (le-div_iff_mul-le (pow_pos (n - p - 1))).1
        (subst (λ (x : ℕ). x ≤ k) e (size_reaches k (n - 1) (subst (λ (x : ℕ). n - 1 < x) (sym kn) less)))
      where
        less : n - 1 < n
        less = omega arith

        place : n - 1 ≡ p + (n - p - 1)
        place = omega arith

        e : 2 ^ (n - 1) ≡ 2 ^ p * 2 ^ (n - p - 1)
        e = ap (λ (x : ℕ). 2 ^ x) place ∙ pow-add 2 p (n - p - 1)

    half-unit : 2 ^ w ≡ 2 * 2 ^ (w - 1)
    half-unit = ap (λ (x : ℕ). 2 ^ x) place ∙ pow-succ' 2 (w - 1)
      where
        place : w ≡ suc (w - 1)
        place = omega arith

    free-final : 2 ^ 65 ≤ k % 2 ^ (n - p - 1) → k % 2 ^ (n - p - 1) ≤ 2 ^ (n - p - 1) - 2 ^ 65 → Right p P N (done (nearly s k w))
    unfolding settled
    free-final l u =
        inr (between-of p _ (record { neg = s; mag = k / 2 ^ (n - p - 1) * 2 ^ (w + (n - p - 1)) + i.e }) (difference P N)
        (sym (oriented-is s (cond s N P) (cond s P N) _ i.sum some) ∙ oriented-sum s P N)
        (record {
          sign = refl;
          j = k / 2 ^ (n - p - 1);
          t = w + (n - p - 1);
          a = k % 2 ^ (n - p - 1) * 2 ^ w + 2 ^ (w - 1);
          b = i.e;
          big = quotient-big;
          a-pos = omega (arith, pow_pos (w - 1));
          a_lt = inside;
          b-pos = i.pos;
          b_lt = i.small;
          x-is = whole;
          y-is = refl;
        }))
      where
        i : Inside (cond s N P) (cond s P N) (k / 2 ^ (n - p - 1)) (2 ^ (w + (n - p - 1)))
        i = final w k (cond s N P) (cond s P N) (cond s RC Ra) (cond s Ra RC) sided (n - p - 1) RO l u

        some : 0 < k / 2 ^ (n - p - 1) * 2 ^ (w + (n - p - 1)) + i.e
        some = omega (arith, i.pos)

        fit : suc (k % 2 ^ (n - p - 1)) * 2 ^ w ≤ 2 ^ (w + (n - p - 1))
        fit = subst (λ (x : ℕ). suc (k % 2 ^ (n - p - 1)) * 2 ^ w ≤ x) (unit-parts w (n - p - 1)) (mul-le-mul_right (2 ^ w) (mod-lt k (pow_pos (n - p - 1))))

        inside : k % 2 ^ (n - p - 1) * 2 ^ w + 2 ^ (w - 1) < 2 ^ (w + (n - p - 1))
        inside = omega (arith, fit, half-unit, pow_pos (w - 1), suc-mul (k % 2 ^ (n - p - 1)) (2 ^ w))

        whole : k * 2 ^ w + 2 ^ (w - 1) ≡ k / 2 ^ (n - p - 1) * 2 ^ (w + (n - p - 1)) + (k % 2 ^ (n - p - 1) * 2 ^ w + 2 ^ (w - 1))
        whole = omega (arith, parts w k (n - p - 1))

    -- near a boundary q × 2^(w + r)
    free-near : (q : ℕ) → 2 ^ p ≤ q → Close (cond s N P) (cond s P N + q * 2 ^ (w + (n - p - 1))) (3 * (2 ^ 64 * 2 ^ w))
        → Right p P N (next (boundary s q (w + (n - p - 1))) (w - 701))
    free-near q qp h = record {
      within = bound-oriented s P N q (w + (n - p - 1)) (3 * 2 ^ (w - 701 + 765))
          (subst (λ (x : ℕ). Close (cond s N P) (cond s P N + q * 2 ^ (w + (n - p - 1))) (3 * x)) step h);
      placed = record {
        far = omega arith;
        deep = omega arith;
        many = qp;
        close = bound-oriented s P N q (w + (n - p - 1)) (2 ^ (w + (n - p - 1) - 1)) (close-mono _ _ (3 * (2 ^ 64 * 2 ^ w)) _ far h);
      };
    }
      where
        step : 2 ^ 64 * 2 ^ w ≡ 2 ^ (w - 701 + 765)
        step = unit-parts w 64 ∙ ap (λ (x : ℕ). 2 ^ x) place
          where
            place : w + 64 ≡ w - 701 + 765
            place = omega arith

        far : 3 * (2 ^ 64 * 2 ^ w) ≤ 2 ^ (w + (n - p - 1) - 1)
        far = le_trans up (pow_mono high)
          where
            up : 3 * (2 ^ 64 * 2 ^ w) ≤ 2 ^ (w + 68)
            up = omega (arith, unit-parts w 68)

            high : w + 68 ≤ w + (n - p - 1) - 1
            high = omega arith

    free-settle : Right p P N (final_or_boundary w (record { neg = s; mag = k }) (n - p - 1) (k % 2 ^ (n - p - 1)))
    free-settle =
        go (leb (2 ^ 65) d) (leb d (2 ^ (n - p - 1) - 2 ^ 65)) (leb→le (2 ^ 65) d) (nleb→lt (2 ^ 65) d) (leb→le d (2 ^ (n - p - 1) - 2 ^ 65))
        (nleb→lt d (2 ^ (n - p - 1) - 2 ^ 65))
      where
        d : ℕ
        d = k % 2 ^ (n - p - 1)

        near-which : k % 2 ^ (n - p - 1) < 2 ^ 65 ⊎ (2 ^ (n - p - 1) - 2 ^ 65 < k % 2 ^ (n - p - 1))
            → Right p P N
            (next (boundary s (cond (ltb (2 ^ (n - p - 1) - 2 ^ 65) (k % 2 ^ (n - p - 1))) (suc (k / 2 ^ (n - p - 1))) (k / 2 ^ (n - p - 1)))
            (w + (n - p - 1))) (w - 701))
        near-which o = pick (ltb (2 ^ (n - p - 1) - 2 ^ 65) (k % 2 ^ (n - p - 1))) (ltb→lt _ _) (nltb→le _ _) o
          where
            at_low : k % 2 ^ (n - p - 1) < 2 ^ 65 → Right p P N (next (boundary s (k / 2 ^ (n - p - 1)) (w + (n - p - 1))) (w - 701))
            at_low l =
                free-near (k / 2 ^ (n - p - 1)) quotient-big (near-low w k (cond s N P) (cond s P N) (cond s RC Ra) (cond s Ra RC) sided (n - p - 1) RO l)

            at_high : 2 ^ (n - p - 1) - 2 ^ 65 < k % 2 ^ (n - p - 1) → Right p P N (next (boundary s (suc (k / 2 ^ (n - p - 1))) (w + (n - p - 1))) (w - 701))
            at_high l =
                free-near (suc (k / 2 ^ (n - p - 1))) (omega (arith, quotient-big))
                (near-high w k (cond s N P) (cond s P N) (cond s RC Ra) (cond s Ra RC) sided (n - p - 1) RO l)

            pick : (b : Bool) → (T b → 2 ^ (n - p - 1) - 2 ^ 65 < k % 2 ^ (n - p - 1)) → (T (not b) → k % 2 ^ (n - p - 1) ≤ 2 ^ (n - p - 1) - 2 ^ 65)
                → k % 2 ^ (n - p - 1) < 2 ^ 65 ⊎ (2 ^ (n - p - 1) - 2 ^ 65 < k % 2 ^ (n - p - 1))
                → Right p P N (next (boundary s (cond b (suc (k / 2 ^ (n - p - 1))) (k / 2 ^ (n - p - 1))) (w + (n - p - 1))) (w - 701))
            pick true h g o = at_high (h tt)
            pick false h g (inl l) = at_low l
            pick false h g (inr l) = absurd (not-le_of_lt l (g tt))

        go : (x y : Bool) → (T x → 2 ^ 65 ≤ k % 2 ^ (n - p - 1)) → (T (not x) → k % 2 ^ (n - p - 1) < 2 ^ 65)
            → (T y → k % 2 ^ (n - p - 1) ≤ 2 ^ (n - p - 1) - 2 ^ 65) → (T (not y) → 2 ^ (n - p - 1) - 2 ^ 65 < k % 2 ^ (n - p - 1))
            → Right p P N
            (cond (x && y) (done (nearly s k w))
            (next (boundary s (cond (ltb (2 ^ (n - p - 1) - 2 ^ 65) (k % 2 ^ (n - p - 1))) (suc (k / 2 ^ (n - p - 1))) (k / 2 ^ (n - p - 1)))
            (w + (n - p - 1))) (w - 701)))
        go true true h1 h2 h3 h4 = free-final (h1 tt) (h3 tt)
        go true false h1 h2 h3 h4 = near-which (inr (h4 tt))
        go false y h1 h2 h3 h4 = near-which (inl (h2 tt))

  pub free-right : (lost : ℕ) → Ra + RC ≤ terms-max * (2 ^ lost - 1) → lost ≤ w → (0 < lost → room < w)
      → Right p P N (decide p no_boundary w lost (record { neg = s; mag = k }) (size k))
  unfolding decide
  free-right zero R l h = free-exact R
  free-right (suc lost) R l h = go (leb (p + 70) (size k)) (leb→le (p + 70) (size k))
    where
      go : (b : Bool) → (T b → p + 70 ≤ size k)
          → Right p P N
          (cond b (final_or_boundary w (record { neg = s; mag = k }) (size k - p - 1) (k % 2 ^ (size k - p - 1)))
          (next no_boundary (next_edge w (size k) (suc lost))))
      go true g = free-settle (rests-unit w (suc lost) (Ra + RC) l R) (h (omega arith)) (size k) refl (g tt)
      go false g = record {
        within = close-oriented s P N (3 * 2 ^ (next_edge w (size k) (suc lost) + 765))
            (next-close w k (cond s N P) (cond s P N) (cond s RC Ra) (cond s Ra RC) sided (size k) (suc lost) (next_edge w (size k) (suc lost) + 765)
            (size-lt k)
            (rests-oriented s Ra RC _ R) (omega arith) (omega arith));
        placed = tt;
      }
