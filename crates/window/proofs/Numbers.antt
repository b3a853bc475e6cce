-- Laws over plain numbers: the window as a signed number, differences and quotients in it, how two
-- numbers compare, and the value a quarter of a unit off a boundary.
use mathlib.Core.Path.{◌≡◌, refl, sym, ap, ◌∙◌}
use mathlib.Core.Bool.{Bool, true, false, not, cond}
use Prim.Native.Nat.{ℕ, suc, ◌+◌, ◌-◌, ◌*◌, ◌/◌, ◌%◌, ◌^◌, ◌≤◌, ◌<◌}
use native.Mathlib.Nat.{div-eq_of_lt, div-eq_of_lt-le, mod-eq_of_lt, add-mod_right, lt_of_lt_of_le, lt_of_le_of_lt, le_of_lt, one-mul, mul_comm, suc-mul}
use native.Mathlib.Omega.{arith}
use lib.Dec.{T, ltb, eqb, ltb→lt, nltb→le, lit<, lit≤}
use lib.Pow.{pow-add, pow_pos, pow_mono, pow-lt, shr_lt}
use borrow.Author.Tests.{ltb-true, le-ltb}
use Rattle.std.specs.Ordering.{is_lt, is_gt}
use Rattle.limbs.specs.Compared.{order_of, compared}
use Rattle.totals_spec.specs.Basics.{Signed}
use Rattle.totals_spec.specs.chain.Chain.{half, signed_from}

-- ---- the window's numbers, its size a variable, H or 2h: `omega` reads no number so large

pub window : half + half ≡ 2 ^ 768
unfolding half
window = refl

pub taken-off : (a b H : ℕ) → b ≤ a → a < H → (a + (H - b % H)) % H ≡ a - b
taken-off a b H l u = ap (λ (n : ℕ). (a + (H - n)) % H) (mod-eq_of_lt under) ∙ ap (λ (n : ℕ). n % H) e ∙ add-mod_right (a - b) H ∙ mod-eq_of_lt less
  where
    under : b < H
    under = omega arith

    e : a + (H - b) ≡ a - b + H
    e = omega arith

    less : a - b < H
    less = omega arith

-- the highest bit of 2h says that x is h or more
top_bit : (h x : ℕ) → 0 < h → x < h + h → eqb (x / h % 2) 1 ≡ not (ltb x h)
top_bit h x h0 u = go (ltb x h) (ltb→lt x h) (nltb→le x h)
  where
    go : (b : Bool) → (T b → x < h) → (T (not b) → h ≤ x) → eqb (x / h % 2) 1 ≡ not b
    go true k g = rw (div-eq_of_lt (k tt))
    go false k g = rw (div-eq_of_lt-le {k = 1} h {m = x} (rw one-mul (g tt)) (omega arith))

-- S by its highest bit: itself, or the complement
pub signed_is : (h x m : ℕ) (b : Bool) → 0 < h → x < h + h → b ≡ eqb (x / h % 2) 1 → m ≡ cond b ((h + h - x) % (h + h)) x
    → ◌≡◌ {A = Signed} (record { neg = b; mag = m }) (signed_from h x)
unfolding signed_from
signed_is h x m b h0 u e f = go (ltb x h) (ltb→lt x h) (nltb→le x h) (e ∙ top_bit h x h0 u)
  where
    back : h ≤ x → (h + h - x) % (h + h) ≡ h + h - x
    back g = mod-eq_of_lt less
      where
        less : h + h - x < h + h
        less = omega arith

    go : (t : Bool) → (T t → x < h) → (T (not t) → h ≤ x) → b ≡ not t
        → ◌≡◌ {A = Signed} (record { neg = b; mag = m }) (cond t (record { neg = false; mag = x }) (record { neg = true; mag = h + h - x }))
    go true k g q = λ i. record { neg = q i; mag = (f ∙ ap (λ (c : Bool). cond c ((h + h - x) % (h + h)) x) q) i }
    go false k g q = λ i. record { neg = q i; mag = (f ∙ ap (λ (c : Bool). cond c ((h + h - x) % (h + h)) x) q ∙ back (g tt)) i }

pub signed-at : (x m : ℕ) (b : Bool) → x < 2 ^ 768 → b ≡ eqb (x / 2 ^ 767 % 2) 1 → m ≡ cond b ((2 ^ 768 - x) % 2 ^ 768) x
    → ◌≡◌ {A = Signed} (record { neg = b; mag = m }) (signed_from half x)
unfolding half
signed-at x m b u e f = signed_is (2 ^ 767) x m b (pow_pos 767) u e f

-- one more than a quotient by 2^r
pub one_more : (x r : ℕ) → 0 < r → x < 2 ^ 768 → (x / 2 ^ r + 1) % 2 ^ 768 ≡ x / 2 ^ r + 1
one_more x r h u = mod-eq_of_lt (lt_of_le_of_lt up (pow-lt {i = 767} {j = 768} (lit< tt)))
  where
    place : 768 ≤ 767 + r
    place = omega arith

    small : x / 2 ^ r < 2 ^ 767
    small = shr_lt 767 r (lt_of_lt_of_le u (pow_mono place))

    next : (a b : ℕ) → a < b → a + 1 ≤ b
    next a b h = omega arith

    up : x / 2 ^ r + 1 ≤ 2 ^ 767
    up = next _ _ small

-- 2^r − 2^65
pub ceiling-is : (r a b c : ℕ) → 66 < r → r < 768 → a ≡ 2 ^ r % 2 ^ 768 → b ≡ 2 ^ 65 % 2 ^ 768 → c ≡ (a + (2 ^ 768 - b % 2 ^ 768)) % 2 ^ 768
    → c ≡ 2 ^ r - 2 ^ 65
ceiling-is r a b c l u ea eb ec =
    ec ∙ rw (ea ∙ mod-eq_of_lt (pow-lt u), eb) (taken-off (2 ^ r) (2 ^ 65) (2 ^ 768) (pow_mono high) (pow-lt u))
  where
    high : 65 ≤ r
    high = omega arith

-- ---- how two numbers compare

pub compared-less : (a b : ℕ) → is_lt (compared a b) ≡ ltb a b
compared-less a b = go (ltb a b) (ltb b a)
  where
    go : (s t : Bool) → is_lt (order_of s t) ≡ s
    go true t = refl
    go false true = refl
    go false false = refl

pub compared-greater : (a b : ℕ) → is_gt (compared a b) ≡ ltb b a
compared-greater a b = go (ltb a b) (ltb b a) (λ q. le-ltb b a (le_of_lt (ltb-true a b q)))
  where
    go : (s t : Bool) → (s ≡ true → t ≡ false) → is_gt (order_of s t) ≡ t
    go true t k = sym (k refl)
    go false true k = refl
    go false false k = refl

-- ---- a quarter of a unit off a boundary m × 2^e

module _ (m : ℕ) (pos : 0 < m) (small : m ≤ 2 ^ 65) where
  under : 4 * m < 2 ^ 68
  under = omega arith

  fourfold-fits : m * 2 ^ 2 < 2 ^ 768
  fourfold-fits = lt_of_lt_of_le (omega (arith, under)) (pow_mono {i = 68} {j = 768} (lit≤ tt))

  pub fourfold : (x : ℕ) → x ≡ m * 2 ^ 2 % 2 ^ 768 → x ≡ 4 * m
  fourfold x e = e ∙ mod-eq_of_lt fourfold-fits ∙ mul_comm m 4

  pub one_less : (x y z : ℕ) → x ≡ m * 2 ^ 2 % 2 ^ 768 → y ≡ 2 ^ 0 % 2 ^ 768 → z ≡ (x + (2 ^ 768 - y % 2 ^ 768)) % 2 ^ 768 → z + 1 ≡ 4 * m
  one_less x y z ex ey ez = back m z pos (ez ∙ rw (ex ∙ mod-eq_of_lt fourfold-fits, ey) (taken-off (m * 2 ^ 2) 1 (2 ^ 768) some fourfold-fits))
    where
      some : 1 ≤ m * 2 ^ 2
      some = omega arith

      back : (m z : ℕ) → 0 < m → z ≡ m * 2 ^ 2 - 1 → z + 1 ≡ 4 * m
      back m z h e = omega arith

module _ (m e : ℕ) (low : 3 ≤ e) where
  quarters : 2 ^ e ≡ 4 * 2 ^ (e - 2)
  quarters = ap (λ (x : ℕ). 2 ^ x) place ∙ pow-add 2 2 (e - 2)
    where
      place : e ≡ 2 + (e - 2)
      place = omega arith

  eighths : 2 ^ (e - 2) ≡ 2 * 2 ^ (e - 3)
  eighths = ap (λ (x : ℕ). 2 ^ x) place ∙ pow-add 2 1 (e - 3)
    where
      place : e - 2 ≡ 1 + (e - 3)
      place = omega arith

  half_of : 2 ^ (e - 2 - 1) ≡ 2 ^ (e - 3)
  half_of = ap (λ (x : ℕ). 2 ^ x) place
    where
      place : e - 2 - 1 ≡ e - 3
      place = omega arith

  pub above-is : (v : ℕ) → v ≡ 4 * m → v * 2 ^ (e - 2) + 2 ^ (e - 2 - 1) ≡ m * 2 ^ e + 2 ^ (e - 3)
  above-is v h = rw (h, half_of, quarters) (omega arith)

  pub below-is : (v : ℕ) → v + 1 ≡ 4 * m → v * 2 ^ (e - 2) + 2 ^ (e - 2 - 1) ≡ m * 2 ^ e - 2 ^ (e - 3)
  below-is v h = rw (half_of, quarters) (omega (arith, ap (λ (x : ℕ). x * 2 ^ (e - 2)) h, eighths))

-- half a unit more than m units lies between m and m + 1 units
pub midway : (m e : ℕ) → 0 < e → (m * 2 ^ e < m * 2 ^ e + 2 ^ (e - 1)) × (m * 2 ^ e + 2 ^ (e - 1) < suc m * 2 ^ e)
midway m e h = (omega (arith, pow_pos (e - 1)), omega (arith, pow_pos (e - 1), halves, suc-mul m (2 ^ e)))
  where
    place : e ≡ 1 + (e - 1)
    place = omega arith

    halves : 2 ^ e ≡ 2 * 2 ^ (e - 1)
    halves = ap (λ (x : ℕ). 2 ^ x) place ∙ pow-add 2 1 (e - 1)
