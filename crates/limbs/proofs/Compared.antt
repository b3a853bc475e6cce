-- How two numbers compare, and two windows from their highest words on.
use Rattle.std.proofs.Common.{◌≡◌, ℕ, ◌-◌, ◌<◌, ◌≤◌, Bool, List, get_or, ltb, ap, ap₂, subst, refl, le_of_lt, le_of_eq, lt_of_not-le, sym, ◌∙◌, arith}
use Rattle.std.proofs.Common.{lt-ltb, le-ltb}
use native.Mathlib.Decide.{dec_le}
use lib.ListN.{get_or-eq_default}
use Rattle.std.specs.declared.cmp.Ordering.{Ordering}
use Rattle.std.specs.declared.cmp.Ordering.TheVariants.{Less, Equal, Greater}
use Rattle.limbs.specs.Value.{Words}
use Rattle.limbs.specs.Compared.{compared, order_of}

pub decided : (o : Ordering) (m n : ℕ) → (o ≡ Less → m < n) → (o ≡ Equal → m ≡ n) → (o ≡ Greater → n < m) → o ≡ compared m n
decided Less m n l e g = sym (ap (λ (t : Bool). order_of t (ltb n m)) (lt-ltb m n (l refl)))
decided Equal m n l e g = sym (ap₂ order_of (le-ltb m n (le_of_eq (sym (e refl)))) (le-ltb n m (le_of_eq (e refl))))
decided Greater m n l e g = sym (ap₂ order_of (le-ltb m n (le_of_lt (g refl))) (lt-ltb n m (g refl)))

-- the first i words from above are alike
pub alike_above : {a b : List ℕ} → Words 12 a → Words 12 b → (i : ℕ) → ((k : ℕ) → k < i → get_or a (11 - k) 0 ≡ get_or b (11 - k) 0)
    → (k : ℕ) → 11 - i < k → get_or a k 0 ≡ get_or b k 0
alike_above {a} {b} v w i e k h = go (dec_le 12 k)
  where
    go : Dec (12 ≤ k) → get_or a k 0 ≡ get_or b k 0
    go (yes p) = get_or-eq_default a 0 (omega (arith, v.long)) ∙ sym (get_or-eq_default b 0 (omega (arith, w.long)))
    go (no p) = subst (λ (j : ℕ). get_or a j 0 ≡ get_or b j 0) (omega (arith, lt_of_not-le p)) (e (11 - k) (omega (arith, lt_of_not-le p)))
