-- The best bound of a sum (`BestBounds`) holds whatever the sum's own bound holds, and no bound of
-- that sum is better.
use mathlib.Core.Path.{◌≡◌, subst, sym, ◌∙◌}
use native.Mathlib.Nat.{one-mul, mul-le-mul_left, mul-zero}
use Prim.Native.Nat.{◌+◌, ◌≤◌, ℕ, ◌*◌, ◌^◌, ◌<◌, zero-le}
use lib.Dec.{T, leb→le, le→leb}
use mathlib.Core.Bool.{Bool, true, false, not, cond, true≢false}
use native.Mathlib.Omega.{arith}
use lib.Pow.{pow_pos}
use Rattle.totals_spec.specs.Basics.{Signed, plus_of, minus_of}
use Rattle.totals_spec.specs.formats.Ordered.{parts, at_most, NotAbove, NotBelow, Ordered}
use Rattle.totals_spec.specs.formats.Format.{Format, digits}
use Rattle.totals_spec.specs.formats.Decode.{Unpacked, zero_of, finite, infinity, nan}
use Rattle.totals_spec.proofs.rounding.BestBounds.{Fits, Reach, Best, FitsIn}

-- at one part
pub one-part : (v : Signed) → parts 1 v ≡ v
one-part v = λ i. record { neg = v.neg; mag = one-mul v.mag i }

at_most_one : (v z : Signed) → T (at_most (parts 1 v) z) → plus_of v + minus_of z ≤ plus_of z + minus_of v
at_most_one v z h = leb→le _ _ (subst (λ (u : Signed). T (at_most u z)) (one-part v) h)

one_at_most : (v z : Signed) → plus_of v + minus_of z ≤ plus_of z + minus_of v → T (at_most (parts 1 v) z)
one_at_most v z h = subst (λ (u : Signed). T (at_most u z)) (sym (one-part v)) (le→leb _ _ h)

at_least_one : (v z : Signed) → T (at_most z (parts 1 v)) → plus_of z + minus_of v ≤ plus_of v + minus_of z
at_least_one v z h = leb→le _ _ (subst (λ (u : Signed). T (at_most z u)) (one-part v) h)

module _ (f : Format) (x : ℕ) where
  -- ---- of a sum (s, x) the lower bound is (s, y) with y cut where s is plus; the upper one with y
  -- cut where s is minus

  low-holds : (s : Bool) (y d A B : ℕ) → Reach f x s y → d * cond s 0 x + B ≤ A + d * cond s x 0 → cond s 0 (d * y) + B ≤ A + cond s (d * y) 0
  low-holds false y d A B r h = omega (arith, h, mul-zero d, mul-le-mul_left d r.0)
  low-holds true y d A B r h = omega (arith, h, mul-zero d, mul-le-mul_left d r.0)

  high-holds : (s : Bool) (y d A B : ℕ) → Reach f x (not s) y → A + d * cond s x 0 ≤ d * cond s 0 x + B → A + cond s (d * y) 0 ≤ cond s 0 (d * y) + B
  high-holds false y d A B r h = omega (arith, h, mul-zero d, mul-le-mul_left d r.0)
  high-holds true y d A B r h = omega (arith, h, mul-zero d, mul-le-mul_left d r.0)

  module _ (t : Bool) (k m : ℕ) (fit : Fits f k m) where
    abbrev n : ℕ
    n = m * 2 ^ k

    low-best : (s : Bool) (y : ℕ) → Reach f x s y → cond t 0 n + cond s x 0 ≤ cond s 0 x + cond t n 0 → cond t 0 n + cond s y 0 ≤ cond s 0 y + cond t n 0
    low-best s y r h = go t s r h
      where
        go : (t s : Bool) → Reach f x s y → cond t 0 n + cond s x 0 ≤ cond s 0 x + cond t n 0 → cond t 0 n + cond s y 0 ≤ cond s 0 y + cond t n 0
        go false false r h = omega (arith, r.1 k m fit (omega (arith, h)))
        go true false r h = omega arith
        go false true r h = omega (arith, h, r.1 k m fit (omega (arith, h)))
        go true true r h = omega (arith, r.1 k m fit (omega (arith, h)))

    high-best : (s : Bool) (y : ℕ) → Reach f x (not s) y → cond s 0 x + cond t n 0 ≤ cond t 0 n + cond s x 0 → cond s 0 y + cond t n 0 ≤ cond t 0 n + cond s y 0
    high-best s y r h = go t s r h
      where
        go : (t s : Bool) → Reach f x (not s) y → cond s 0 x + cond t n 0 ≤ cond t 0 n + cond s x 0 → cond s 0 y + cond t n 0 ≤ cond t 0 n + cond s y 0
        go false false r h = omega (arith, r.1 k m fit (omega (arith, h)))
        go true false r h = omega (arith, h, r.1 k m fit (omega (arith, h)))
        go false true r h = omega arith
        go true true r h = omega (arith, r.1 k m fit (omega (arith, h)))

  abbrev value : Bool → (k m : ℕ) → Signed
  value t k m = record { neg = t; mag = m * 2 ^ k }

  abbrev X : Bool → Signed
  X s = record { neg = s; mag = x }

  -- 0 is a number of the format
  none : Fits f 0 0
  none = record { short = pow_pos (digits f); range = zero-le }

  -- ---- what is at most the sum is at most its lower bound, and what is at least the sum at least
  -- its upper bound

  low-number : (s : Bool) (y : ℕ) → Reach f x s y → (w : Unpacked) → FitsIn f w → NotAbove 1 w (X s) → NotAbove 1 w (record { neg = s; mag = y })
  low-number s y r (zero_of t) i l = le→leb _ _ (low-best false 0 0 none s y r (leb→le _ _ l))
  low-number s y r (finite t k m) i l = one_at_most (value t k m) (record { neg = s; mag = y }) (low-best t k m i s y r (at_most_one (value t k m) (X s) l))
  low-number s y r (infinity t) i l = l
  low-number s y r (nan t g m) i l = l

  low-infinity : ((k m : ℕ) → Fits f k m → m * 2 ^ k < x) → (w : Unpacked) → FitsIn f w → NotAbove 1 w (X true) → Ordered w (infinity true)
  low-infinity u (zero_of z) i l = let n : ⊥ = omega (arith, leb→le (0 + x) (0 + 0) l, u 0 0 none) in n
  low-infinity u (finite false k m) i l = let n : ⊥ = omega (arith, at_most_one (value false k m) (X true) l, u 0 0 none) in n
  low-infinity u (finite true k m) i l = let n : ⊥ = omega (arith, at_most_one (value true k m) (X true) l, u k m i) in n
  low-infinity u (infinity z) i l = l
  low-infinity u (nan z g m) i l = l

  high-number : (s : Bool) (v : Unpacked) → Best f s x (not s) v → (t : Bool) (k m : ℕ) → Fits f k m
      → plus_of (X s) + minus_of (value t k m) ≤ plus_of (value t k m) + minus_of (X s) → NotAbove 1 v (value t k m)
  high-number s (zero_of u) h t k m i l = le→leb _ _ (go s (high-best t k m i s 0 h l))
    where
      go : (s : Bool) → cond s 0 0 + cond t (m * 2 ^ k) 0 ≤ cond t 0 (m * 2 ^ k) + cond s 0 0 → 0 + cond t (m * 2 ^ k) 0 ≤ cond t 0 (m * 2 ^ k) + 0
      go true l = l
      go false l = l
  high-number s (finite u j n) h t k m i l =
      subst (λ (b : Bool). NotAbove 1 (finite b j n) (value t k m)) (sym h.0)
      (one_at_most (value s j n) (value t k m) (high-best t k m i s (n * 2 ^ j) h.1 l))
  high-number s (infinity u) h t k m i l = absurd (go s t h.1 l)
    where
      go : (s t : Bool) → not s ≡ true → plus_of (X s) + minus_of (value t k m) ≤ plus_of (value t k m) + minus_of (X s) → ⊥
      go true t e l = true≢false (sym e)
      go false true e l = omega (arith, l, h.2 k m i)
      go false false e l = omega (arith, l, h.2 k m i)
  high-number s (nan u g n) h t k m i l = absurd h

  -- ---- THE FOUR LAWS

  pub lower-holds : (s : Bool) (v : Unpacked) → Best f s x s v
      → (d : ℕ) (z : Signed) → d * plus_of (X s) + minus_of z ≤ plus_of z + d * minus_of (X s) → NotAbove d v z
  lower-holds s (zero_of t) h d z l = le→leb _ _ (go s (low-holds s 0 d (plus_of z) (minus_of z) h l))
    where
      go : (s : Bool) → cond s 0 (d * 0) + minus_of z ≤ plus_of z + cond s (d * 0) 0 → 0 + minus_of z ≤ plus_of z + 0
      go true l = omega (arith, l, mul-zero d)
      go false l = omega (arith, l, mul-zero d)
  lower-holds s (finite t k m) h d z l =
      subst (λ (u : Bool). NotAbove d (finite u k m) z) (sym h.0) (le→leb _ _ (low-holds s (m * 2 ^ k) d (plus_of z) (minus_of z) h.1 l))
  lower-holds s (infinity t) h d z l = subst T (sym (h.0 ∙ h.1)) tt
  lower-holds s (nan t g m) h d z l = absurd h

  pub upper-holds : (s : Bool) (v : Unpacked) → Best f s x (not s) v
      → (d : ℕ) (z : Signed) → plus_of z + d * minus_of (X s) ≤ d * plus_of (X s) + minus_of z → NotBelow d v z
  upper-holds s (zero_of t) h d z l = le→leb _ _ (go s (high-holds s 0 d (plus_of z) (minus_of z) h l))
    where
      go : (s : Bool) → plus_of z + cond s (d * 0) 0 ≤ cond s 0 (d * 0) + minus_of z → plus_of z + 0 ≤ 0 + minus_of z
      go true l = omega (arith, l, mul-zero d)
      go false l = omega (arith, l, mul-zero d)
  upper-holds s (finite t k m) h d z l =
      subst (λ (u : Bool). NotBelow d (finite u k m) z) (sym h.0) (le→leb _ _ (high-holds s (m * 2 ^ k) d (plus_of z) (minus_of z) h.1 l))
  upper-holds s (infinity t) h d z l = go t s h.0 h.1
    where
      go : (t s : Bool) → t ≡ s → not s ≡ true → NotBelow d (infinity t) z
      go false s e i = tt
      go true true e i = absurd (true≢false (sym i))
      go true false e i = absurd (true≢false e)
  upper-holds s (nan t g m) h d z l = absurd h

  pub lower-best : (s : Bool) (v : Unpacked) → Best f s x s v → (w : Unpacked) → FitsIn f w → NotAbove 1 w (X s) → Ordered w v
  lower-best s (zero_of t) h w i l = unsigned s w (low-number s 0 h w i l)
    where
      unsigned : (s : Bool) (w : Unpacked) → NotAbove 1 w (record { neg = s; mag = 0 }) → NotAbove 1 w (record { neg = false; mag = 0 })
      unsigned false w l = l
      unsigned true (zero_of t) l = l
      unsigned true (finite t k m) l = l
      unsigned true (infinity t) l = l
      unsigned true (nan t g m) l = l
  lower-best s (finite t k m) h w i l =
      subst (λ (u : Bool). NotAbove 1 w (record { neg = u; mag = m * 2 ^ k })) (sym h.0) (low-number s (m * 2 ^ k) h.1 w i l)
  lower-best s (infinity t) h w i l = go t s h.0 h.1 l
    where
      go : (t s : Bool) → t ≡ s → s ≡ true → NotAbove 1 w (X s) → Ordered w (infinity t)
      go true true e a l = low-infinity h.2 w i l
      go false true e a l = absurd (true≢false (sym e))
      go t false e a l = absurd (true≢false (sym a))
  lower-best s (nan t g m) h w i l = absurd h

  pub upper-best : (s : Bool) (v : Unpacked) → Best f s x (not s) v → (w : Unpacked) → FitsIn f w → NotBelow 1 w (X s) → Ordered v w
  upper-best s v h (zero_of t) i l = high-number s v h false 0 0 none (leb→le _ _ l)
  upper-best s v h (finite t k m) i l = high-number s v h t k m i (at_least_one (value t k m) (X s) l)
  upper-best s v h (infinity true) i l = absurd l
  upper-best s (zero_of u) h (infinity false) i l = tt
  upper-best s (finite u j n) h (infinity false) i l = tt
  upper-best s (infinity u) h (infinity false) i l = tt
  upper-best s (nan u g n) h (infinity false) i l = absurd h
  upper-best s v h (nan t g m) i l = absurd l
