-- A pass with a boundary ends at the side on which the exact sum lies, or goes on within the
-- invariant.
use mathlib.Core.Path.{◌≡◌, refl, sym, ap, ◌∙◌, subst}
use mathlib.Core.Logic.{inl, inr}
use mathlib.Core.Bool.{Bool, true, false, beq, cond, not}
use Prim.Native.Nat.{ℕ, zero, suc, ◌+◌, ◌-◌, ◌*◌, ◌^◌, ◌≤◌, ◌<◌}
use native.Mathlib.Nat.{le_refl, lt_of_lt_of_le, pow-succ', not-le_of_lt, mul-pos}
use native.Mathlib.Omega.{arith}
use lib.Pow.{pow-add, pow_pos}
use lib.Dec.{eqb-suc-zero, T, leb, leb→le, nleb→lt}
use lib.Ieee.{size}
use lib.Ieee.Digits.{size-lt, size_reaches}
use Rattle.totals_spec.specs.chain.Chain.{boundary, below, on, above, beside, side_of, done, next}
use Rattle.totals_spec.specs.chain.Chain.{next_edge, decide}
use Rattle.totals_spec.specs.Basics.{difference}
use Rattle.totals_spec.specs.chain.Settled.{settled, beside_mag}
use Rattle.totals_spec.specs.formats.Format.{room}
use Rattle.totals_spec.proofs.chain.AlikeNumbers.{Alike, oriented, oriented-is}
use Rattle.totals_spec.proofs.chain.Invariant.{between-of, with_plus, with_minus, Right, Near}
use Rattle.totals_spec.proofs.chain.Invariant.{sides, rests-oriented, close-oriented, eq-oriented}
use Rattle.totals_spec.proofs.chain.Invariant.{rests-unit}
use Rattle.totals_spec.proofs.chain.Margin.{Close, terms-max, next-close, sign-exact, sign-large}

-- ---- a pass with a boundary m × 2^e of the sign z

-- beside the boundary, without signs: k is the boundary and a bit more, or a bit less
module _ (p m e hi lo : ℕ) (s : Bool) (deep : 4 ≤ e) (many : 2 ^ p ≤ m) where
  halves : 2 ^ e ≡ 2 * 2 ^ (e - 1)
  halves = ap (λ (x : ℕ). 2 ^ x) place ∙ pow-succ' 2 (e - 1)
    where
      place : e ≡ suc (e - 1)
      place = omega arith

  eighths : 2 ^ (e - 1) ≡ 4 * 2 ^ (e - 3)
  eighths = ap (λ (x : ℕ). 2 ^ x) place ∙ pow-add 2 2 (e - 3)
    where
      place : e - 1 ≡ 2 + (e - 3)
      place = omega arith

  on-right : hi ≡ lo + m * 2 ^ e → Alike p (record { neg = s; mag = m * 2 ^ e }) (oriented s hi lo)
  on-right h = inl (sym (oriented-is s hi lo (m * 2 ^ e) h (mul-pos (lt_of_lt_of_le (pow_pos p) many) (pow_pos e))))

  above-right : lo + m * 2 ^ e < hi → hi < lo + m * 2 ^ e + 2 ^ (e - 1) → Alike p (record { neg = s; mag = m * 2 ^ e + 2 ^ (e - 3) }) (oriented s hi lo)
  above-right l u =
      inr (between-of p _ (record { neg = s; mag = m * 2 ^ e + (hi - (lo + m * 2 ^ e)) }) _
      (sym (oriented-is s hi lo (m * 2 ^ e + (hi - (lo + m * 2 ^ e))) (omega arith) (omega arith)))
      (record {
        sign = refl;
        j = m;
        t = e;
        a = 2 ^ (e - 3);
        b = hi - (lo + m * 2 ^ e);
        big = many;
        a-pos = pow_pos (e - 3);
        a_lt = omega (arith, halves, eighths, pow_pos (e - 3));
        b-pos = omega arith;
        b_lt = omega (arith, halves);
        x-is = refl;
        y-is = refl;
      }))

  below_right : hi < lo + m * 2 ^ e → lo + m * 2 ^ e < hi + 2 ^ (e - 1) → Alike p (record { neg = s; mag = m * 2 ^ e - 2 ^ (e - 3) }) (oriented s hi lo)
  below_right u l =
      inr (between-of p _ (record { neg = s; mag = (m + m - 1) * 2 ^ (e - 1) + (2 ^ (e - 1) - (lo + m * 2 ^ e - hi)) }) _
      (sym (oriented-is s hi lo _ total-is (omega (arith, gap))))
      (record {
        sign = refl;
        j = m + m - 1;
        t = e - 1;
        a = 2 ^ (e - 1) - 2 ^ (e - 3);
        b = 2 ^ (e - 1) - (lo + m * 2 ^ e - hi);
        big = omega (arith, many, pow_pos p);
        a-pos = omega (arith, eighths, pow_pos (e - 3));
        a_lt = omega (arith, eighths, pow_pos (e - 3));
        b-pos = gap;
        b_lt = omega (arith, eighths, pow_pos (e - 3));
        x-is = omega (arith, twice, eighths);
        y-is = refl;
      }))
    where
      gap : 0 < 2 ^ (e - 1) - (lo + m * 2 ^ e - hi)
      gap = omega arith

      one : 0 < m
      one = lt_of_lt_of_le (pow_pos p) many

      -- the boundary is one more than (2m − 1) halves of its unit
      twice : m * 2 ^ e ≡ (m + m - 1) * 2 ^ (e - 1) + 2 ^ (e - 1)
      twice = ap (λ (x : ℕ). m * x) halves ∙ double m (2 ^ (e - 1)) one
        where
          double : (m h : ℕ) → 0 < m → m * (2 * h) ≡ (m + m - 1) * h + h
          double zero h k = absurd (not-le_of_lt k (le_refl 0))
          double (suc m) h k = go
            where
              place : suc m + suc m - 1 ≡ m + m + 1
              place = omega arith

              go : suc m * (2 * h) ≡ (suc m + suc m - 1) * h + h
              go = subst (λ (x : ℕ). suc m * (2 * h) ≡ x * h + h) (sym place) (omega arith)

      total-is : hi ≡ lo + ((m + m - 1) * 2 ^ (e - 1) + (2 ^ (e - 1) - (lo + m * 2 ^ e - hi)))
      total-is = omega (arith, twice)

-- by the boundary's sign and S's
module _ (p m e P N : ℕ) (deep : 4 ≤ e) (many : 2 ^ p ≤ m) where
  side_right : (z s : Bool) (k : ℕ) → Close (with_plus (boundary z m e) P) (with_minus (boundary z m e) N) (2 ^ (e - 1))
      → (k ≡ 0 → with_plus (boundary z m e) P ≡ with_minus (boundary z m e) N)
      → (0 < k → cond s (with_plus (boundary z m e) P) (with_minus (boundary z m e) N) < cond s (with_minus (boundary z m e) N) (with_plus (boundary z m e) P))
      → Right p P N (done (beside (side_of z (record { neg = s; mag = k })) z m e))
  unfolding settled
  side_right z s zero near-it same apart = at_zero z near-it (same refl)
    where
      at_zero : (z : Bool) → Close (with_plus (boundary z m e) P) (with_minus (boundary z m e) N) (2 ^ (e - 1))
          → with_plus (boundary z m e) P ≡ with_minus (boundary z m e) N
          → Alike p (record { neg = z; mag = m * 2 ^ e }) (difference P N)
      at_zero true h q = on-right p m e N P true deep many (sym q)
      at_zero false h q = on-right p m e P N false deep many q
  side_right z s (suc k) near-it same apart =
      subst (λ (b : Bool). Alike p (record { neg = z; mag = beside_mag (cond b on (cond (beq s z) above below)) m e }) (difference P N))
      (sym (eqb-suc-zero k)) (at_some z s near-it (apart (omega arith)))
    where
      at_some : (z s : Bool) → Close (with_plus (boundary z m e) P) (with_minus (boundary z m e) N) (2 ^ (e - 1))
          → cond s (with_plus (boundary z m e) P) (with_minus (boundary z m e) N) < cond s (with_minus (boundary z m e) N) (with_plus (boundary z m e) P)
          → Alike p (record { neg = z; mag = beside_mag (cond (beq s z) above below) m e }) (difference P N)
      at_some true true h l = above-right p m e N P true deep many l h.1
      at_some true false h l = below_right p m e N P true deep many l h.0
      at_some false true h l = below_right p m e P N false deep many l h.1
      at_some false false h l = above-right p m e P N false deep many l h.0

module _ (p w P N a c Ra RC : ℕ) (z : Bool) (m e : ℕ) (hn : Near p w m e (with_plus (boundary z m e) P) (with_minus (boundary z m e) N))
    (e_p : with_plus (boundary z m e) P ≡ a * 2 ^ w + Ra) (e_n : with_minus (boundary z m e) N ≡ c * 2 ^ w + RC) (s : Bool) (k : ℕ)
    (sum : cond s c a ≡ cond s a c + k) where
  near-sided : cond s (with_minus (boundary z m e) N) (with_plus (boundary z m e) P) + cond s Ra RC
      ≡ cond s (with_plus (boundary z m e) P) (with_minus (boundary z m e) N) + k * 2 ^ w + cond s RC Ra
  near-sided = sides s w a c k (with_plus (boundary z m e) P) (with_minus (boundary z m e) N) Ra RC e_p e_n sum

  pub near-right : (lost : ℕ) → Ra + RC ≤ terms-max * (2 ^ lost - 1) → lost ≤ w → (0 < lost → room < w)
      → Right p P N (decide p (boundary z m e) w lost (record { neg = s; mag = k }) (size k))
  unfolding decide
  near-right zero R l h = side_right p m e P N hn.deep hn.many z s k hn.close level apart
    where
      RO : cond s RC Ra + cond s Ra RC ≤ 0
      RO = rests-oriented s Ra RC 0 R

      flat : k ≡ 0 → cond s (with_minus (boundary z m e) N) (with_plus (boundary z m e) P)
          ≡ cond s (with_plus (boundary z m e) P) (with_minus (boundary z m e) N)
      flat q = omega (arith, near-sided, RO, ap (λ (x : ℕ). x * 2 ^ w) q)

      level : k ≡ 0 → with_plus (boundary z m e) P ≡ with_minus (boundary z m e) N
      level q = eq-oriented s (with_plus (boundary z m e) P) (with_minus (boundary z m e) N) (flat q)

      apart : 0 < k → cond s (with_plus (boundary z m e) P) (with_minus (boundary z m e) N)
          < cond s (with_minus (boundary z m e) N) (with_plus (boundary z m e) P)
      apart q = sign-exact w k _ _ (cond s RC Ra) (cond s Ra RC) near-sided q RO
  near-right (suc lost) R l h = go (leb 66 (size k)) (leb→le 66 (size k)) (nleb→lt 66 (size k))
    where
      RU : cond s RC Ra + cond s Ra RC ≤ terms-max * 2 ^ w
      RU = rests-oriented s Ra RC (terms-max * 2 ^ w) (rests-unit w (suc lost) (Ra + RC) l R)

      ending : 66 ≤ size k → Right p P N (done (beside (side_of z (record { neg = s; mag = k })) z m e))
      ending q =
          side_right p m e P N hn.deep hn.many z s k hn.close (λ v. absurd (nought v))
          (λ v. sign-large w k _ _ (cond s RC Ra) (cond s Ra RC) near-sided big RU)
        where
          big : 2 ^ 65 ≤ k
          big = size_reaches k 65 q

          nought : k ≡ 0 → ⊥
          nought v = omega (arith, big)

      going : size k < 66 → Right p P N (next (boundary z m e) (next_edge w (size k) (suc lost)))
      going q = record {
        within = close-oriented s (with_plus (boundary z m e) P) (with_minus (boundary z m e) N) (3 * 2 ^ (next_edge w (size k) (suc lost) + 765))
            (next-close w k _ _ (cond s RC Ra) (cond s Ra RC) near-sided (size k) (suc lost) (next_edge w (size k) (suc lost) + 765) (size-lt k)
            (rests-oriented s Ra RC _ R) (omega arith) (omega arith));
        placed = record { far = omega (arith, falls, hn.far); deep = hn.deep; many = hn.many; close = hn.close };
      }
        where
          high : room < w
          high = h (omega arith)

          falls : next_edge w (size k) (suc lost) ≤ w
          falls = omega (arith, high, l, q)

      go : (b : Bool) → (T b → 66 ≤ size k) → (T (not b) → size k < 66)
          → Right p P N (cond b (done (beside (side_of z (record { neg = s; mag = k })) z m e)) (next (boundary z m e) (next_edge w (size k) (suc lost))))
      go true g f = ending (g tt)
      go false g f = going (f tt)
