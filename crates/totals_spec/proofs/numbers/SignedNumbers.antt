-- Signed numbers as differences of two whole numbers.
use mathlib.Core.Path.{◌≡◌, refl, subst, sym, ap, ◌∙◌}
use mathlib.Core.Bool.{Bool, true, false}
use Prim.Native.Nat.{ℕ, ◌+◌, ◌-◌, ◌≤◌, ◌<◌, ◌*◌, ◌^◌}
use native.Mathlib.Omega.{arith}
use lib.Dec.{ltb}
use borrow.Author.Tests.{ltb-true, ltb-false}
use native.Mathlib.Nat.{add-mul, mul-pos, mul-one, mul_assoc}
use lib.Pow.{pow_pos, pow-add}
use Rattle.totals_spec.specs.Basics.{Signed, difference, plus_of, minus_of, raised}
use Rattle.totals_spec.proofs.chain.AlikeNumbers.{diff-plus, diff-minus}

-- plus − minus by its sign, and by how much the one exceeds the other
pub difference-cases : (Q : (plus minus : ℕ) → Signed → Type 0)
    → ((low k : ℕ) → Q (low + k) low (record { neg = false; mag = k }))
    → ((low k : ℕ) → 0 < k → Q low (low + k) (record { neg = true; mag = k }))
    → (plus minus : ℕ) → Q plus minus (difference plus minus)
difference-cases Q more less plus minus = go (ltb plus minus) refl
  where
    go : (b : Bool) → ltb plus minus ≡ b → Q plus minus (difference plus minus)
    go false e =
        subst (λ (n : ℕ). Q n minus (difference n minus)) whole (rw (diff-plus (minus + (plus - minus)) minus (plus - minus) refl) (more minus (plus - minus)))
      where
        h : minus ≤ plus
        h = ltb-false plus minus e

        whole : minus + (plus - minus) ≡ plus
        whole = omega (arith, h)
    go true e =
        subst (λ (n : ℕ). Q plus n (difference plus n)) whole
        (rw (diff-minus (plus + (minus - plus)) plus (minus - plus) refl (omega (arith, h))) (less plus (minus - plus) (omega (arith, h))))
      where
        h : plus < minus
        h = ltb-true plus minus e

        whole : plus + (minus - plus) ≡ minus
        whole = omega (arith, h)

-- its parts differ as plus and minus do
pub difference-parts : (plus minus : ℕ) → plus_of (difference plus minus) + minus ≡ minus_of (difference plus minus) + plus
difference-parts =
    difference-cases (λ (a b : ℕ) (x : Signed). plus_of x + b ≡ minus_of x + a)
    (λ low k. let e : k + low ≡ 0 + (low + k) = omega arith in e) (λ low k h. let e : 0 + (low + k) ≡ k + low = omega arith in e)

-- in units n positions lower
pub difference-raised : (n plus minus : ℕ) → difference (plus * 2 ^ n) (minus * 2 ^ n) ≡ raised n (difference plus minus)
unfolding raised
difference-raised n =
    difference-cases (λ (a b : ℕ) (x : Signed). difference (a * 2 ^ n) (b * 2 ^ n) ≡ record { neg = x.neg; mag = x.mag * 2 ^ n })
    (λ low k. diff-plus ((low + k) * 2 ^ n) (low * 2 ^ n) (k * 2 ^ n) (add-mul low k (2 ^ n)))
    (λ low k i. diff-minus ((low + k) * 2 ^ n) (low * 2 ^ n) (k * 2 ^ n) (add-mul low k (2 ^ n)) (mul-pos i (pow_pos n)))

-- and no lower
pub raised-none : (x : Signed) → raised 0 x ≡ x
unfolding raised
raised-none x = λ i. record { neg = x.neg; mag = mul-one x.mag i }

-- and lower again
pub raised-twice : (m n : ℕ) (x : Signed) → raised m (raised n x) ≡ raised (n + m) x
unfolding raised
raised-twice m n x = λ i. record { neg = x.neg; mag = (mul_assoc x.mag (2 ^ n) (2 ^ m) ∙ ap (λ (k : ℕ). x.mag * k) (sym (pow-add 2 n m))) i }
