-- A magnitude cut where the digits that are kept end, and moved up by the mode's rule, is the
-- magnitude rounded.
use mathlib.Core.Path.{◌≡◌, refl, sym, ap, ◌∙◌, subst}
use mathlib.Core.Logic.{◌≢◌, ◌⊎◌, inl, inr}
use mathlib.Core.Bool.{Bool, true, false, not, ◌&&◌, ◌||◌, cond, true≢false}
use Prim.Native.Nat.{ℕ, suc, ◌+◌, ◌-◌, ◌*◌, ◌/◌, ◌%◌, ◌^◌, ◌≤◌, ◌<◌, max}
use native.Mathlib.Nat.{not-le_of_lt, le_of_lt, le_refl, lt_of_lt_of_le, mul_assoc, mul-le-mul_right, add-zero, suc-mul}
use native.Mathlib.Nat.{div-add-mod', mod-lt, mul-lt-mul_of_pos_right, pow-succ', le-div_iff_mul-le, eq_of_mul-eq-mul_right, mul_comm, one-mul, zero-mul}
use native.Mathlib.Numerals.{add-one}
use native.Mathlib.Omega.{arith}
use lib.Dec.{eqb, ltb, leb}
use lib.Pow.{pow-add, pow_pos, pow_mono, shr_lt}
use lib.Ieee.{size}
use lib.Ieee.Digits.{size-lt, size_reaches}
use borrow.Author.Tests.{eqb-true, eqb-false, ltb-true, ltb-false, leb-true, leb-false}
use Rattle.totals_spec.specs.Basics.{flag}
use Rattle.totals_spec.specs.formats.Settings.{Rounding, ties_to_even, ties_to_away}
use Rattle.totals_spec.specs.formats.Settings.{ties_toward_zero, toward_positive, toward_negative}
use Rattle.totals_spec.specs.formats.Settings.{toward_zero, away_from_zero, to_odd}
use Rattle.totals_spec.specs.rounding.Round.{Dropped, nothing, below_half, at_half, above_half}
use Rattle.totals_spec.specs.rounding.Round.{compared, dropped, inexact, is_half, is_above, odd}
use Rattle.totals_spec.specs.rounding.Round.{rounds_up, rounded_at}
use Rattle.totals_spec.proofs.numbers.Bits.{pow-split}
use Rattle.totals_spec.proofs.numbers.Powers.{pow-next}
use Rattle.totals_spec.proofs.rounding.DirectedIsBest.{directed, Bounds, directed-best}
use Rattle.promises.specs.Numbers.{Number, Even, distance, Nearest, EvenWins, LargerWins, SmallerWins, Floor, Ceiling, OddWins, Neighbour, ToOdd, RoundsTo}
use Rattle.promises.specs.Statements.{Cut-rounds}
use Rattle.promises.proofs.roundings.OneAnswer.{floor-one, ceiling-one}

-- ---- the part r that is dropped, of a unit w

pub data Part (r w : ℕ) : Dropped → Type 0 where
  none : r ≡ 0 → Part r w nothing
  less : 0 < r → r + r < w → Part r w below_half
  half : 0 < r → r + r ≡ w → Part r w at_half
  more : 0 < r → w < r + r → Part r w above_half

pub part : (r w : ℕ) → Part r w (compared r w)
part r w = go (eqb r 0) (ltb (r + r) w) (eqb (r + r) w) refl refl refl
  where
    some : eqb r 0 ≡ false → 0 < r
    some e = omega (arith, eqb-false r 0 e)

    go : (a b c : Bool) → eqb r 0 ≡ a → ltb (r + r) w ≡ b → eqb (r + r) w ≡ c
        → Part r w (cond a nothing (cond b below_half (cond c at_half above_half)))
    go true b c i j k = none (eqb-true r 0 i)
    go false true c i j k = less (some i) (ltb-true (r + r) w j)
    go false false true i j k = half (some i) (eqb-true (r + r) w k)
    go false false false i j k = more (some i) (omega (arith, ltb-false (r + r) w j, eqb-false (r + r) w k))

-- ---- what is odd

odd-half : (n : ℕ) → odd n ≡ true → n ≡ 2 * (n / 2) + 1
odd-half n e = omega (arith, eqb-true (n % 2) 1 e)

even-half : (n : ℕ) → odd n ≡ false → n ≡ 2 * (n / 2)
even-half n e = omega (arith, eqb-false (n % 2) 1 e)

module _ (q grid x : ℕ) (q0 : 0 < q) where
  abbrev pub u : ℕ
  u = max grid (size x - q)

  abbrev pub K : ℕ
  K = x / 2 ^ u

  abbrev pub r : ℕ
  r = x % 2 ^ u

  pub parts : K * 2 ^ u + r ≡ x
  parts = div-add-mod' x (2 ^ u)

  pub rest-lt : r < 2 ^ u
  rest-lt = mod-lt x (pow_pos u)

  kept-lt : K < 2 ^ q
  kept-lt = shr_lt q u (lt_of_lt_of_le (size-lt x) (pow_mono (place (size x))))
    where
      place : (n : ℕ) → n ≤ q + max grid (n - q)
      place n = omega arith

  up-grid : grid ≤ u
  up-grid = omega arith

  -- the number that is cut, and the one a unit above it
  abbrev pub F : ℕ
  F = K * 2 ^ u

  abbrev pub C : ℕ
  C = suc K * 2 ^ u

  pub next : C ≡ F + 2 ^ u
  next = suc-mul K (2 ^ u)

  -- K + 1 of the unit: where it has a digit more, that is a one and zeros behind it
  full : suc K ≡ 2 ^ q → C ≡ 2 ^ (q - 1) * 2 ^ suc u
  full e = ap (λ (n : ℕ). n * 2 ^ u) (e ∙ pow-split (q - 1) q (omega arith)) ∙ rw one (twice (2 ^ (q - 1)) (2 ^ u) ∙ ap (λ (n : ℕ). 2 ^ (q - 1) * n) (sym (pow-succ' 2 u)))
    where
      one : q - (q - 1) ≡ 1
      one = omega arith

      twice : (a b : ℕ) → 2 ^ 1 * a * b ≡ a * (2 * b)
      twice a b = ap (λ (n : ℕ). n * b) (mul_comm 2 a) ∙ mul_assoc a 2 b

  pub floor-number : Number q grid F
  floor-number = record { significand = K; exponent = u; short = kept-lt; above = up-grid; is = refl }

  half-lt : 2 ^ (q - 1) < 2 ^ q
  half-lt = omega (arith, pow-split (q - 1) q (omega arith), ap (λ (n : ℕ). 2 ^ n) one, pow_pos (q - 1), twice)
    where
      one : q - (q - 1) ≡ 1
      one = omega arith

      twice : 2 ^ (q - (q - 1)) * 2 ^ (q - 1) ≡ 2 * 2 ^ (q - 1)
      twice = ap (λ (n : ℕ). 2 ^ n * 2 ^ (q - 1)) one

  pub ceiling-number : Number q grid C
  ceiling-number = go (eqb (suc K) (2 ^ q)) refl
    where
      go : (b : Bool) → eqb (suc K) (2 ^ q) ≡ b → Number q grid C
      go true e = record { significand = 2 ^ (q - 1); exponent = suc u; short = half-lt; above = omega (arith, up-grid); is = full (eqb-true (suc K) (2 ^ q) e) }
      go false e = record {
        significand = suc K;
        exponent = u;
        short = omega (arith, kept-lt, eqb-false (suc K) (2 ^ q) e);
        above = up-grid;
        is = refl;
      }

  -- ---- no number lies between the two

  down : Bounds q grid x false F
  down = subst (Bounds q grid x false) cut (directed-best q grid x q0 false)
    where
      never : (b : Bool) → (b && false) ≡ false
      never true = refl
      never false = refl

      cut : directed q grid x false ≡ F
      cut = ap (λ (t : Bool). (K + flag 1 t) * 2 ^ u) (never (not (eqb r 0))) ∙ ap (λ (n : ℕ). n * 2 ^ u) (add-zero K)

  up : 0 < r → Bounds q grid x true C
  up h = subst (Bounds q grid x true) cut (directed-best q grid x q0 true)
    where
      some : eqb r 0 ≡ false
      some = ne (eqb r 0) refl
        where
          ne : (b : Bool) → eqb r 0 ≡ b → eqb r 0 ≡ false
          ne true e = absurd (let z : ⊥ = omega (arith, eqb-true r 0 e, h) in z)
          ne false e = e

      cut : directed q grid x true ≡ C
      cut = ap (λ (t : Bool). (K + flag 1 (not t && true)) * 2 ^ u) some ∙ ap (λ (n : ℕ). n * 2 ^ u) (add-one K)

  -- each number is the one or lower, or the other or higher
  sides : 0 < r → (z : ℕ) → Number q grid z → (z ≤ F) ⊎ (C ≤ z)
  sides h z n = go (leb z x) refl
    where
      at : (P : ℕ → ℕ → Type 0) → ((m k : ℕ) → m < 2 ^ q → grid ≤ k → P (m * 2 ^ k) 0) → P z 0
      at P f = subst (λ (y : ℕ). P y 0) (sym n.is) (f n.significand n.exponent n.short n.above)

      go : (b : Bool) → leb z x ≡ b → (z ≤ F) ⊎ (C ≤ z)
      go true e = inl (at (λ y _. y ≤ x → y ≤ F) down.1 (leb-true z x e))
      go false e = inr (at (λ y _. x ≤ y → C ≤ y) (up h).1 (le_of_lt (leb-false z x e)))

  pub floor-is : Floor q grid x F
  floor-is = record {
    number = floor-number;
    below = down.0;
    greatest = λ z n. subst (λ (y : ℕ). y ≤ x → y ≤ F) (sym n.is) (down.1 n.significand n.exponent n.short n.above);
  }

  pub ceiling-is : 0 < r → Ceiling q grid x C
  ceiling-is h = record {
    number = ceiling-number;
    above = (up h).0;
    least = λ z n. subst (λ (y : ℕ). x ≤ y → C ≤ y) (sym n.is) ((up h).1 n.significand n.exponent n.short n.above);
  }

  -- nothing is cut: x is the number
  pub exact : r ≡ 0 → F ≡ x
  exact e = omega (arith, e, parts)

  ceiling-exact : r ≡ 0 → Ceiling q grid x F
  ceiling-exact e = record { number = floor-number; above = omega (arith, exact e); least = λ z n h. omega (arith, exact e, h) }

  -- ---- the nearest

  module _ (Wins : ℕ → ℕ → Type 0) where
    near-exact : r ≡ 0 → Nearest q grid Wins x F
    near-exact e = record {
      number = floor-number;
      nearest = λ z n. omega (arith, exact e);
      tie = λ z n d t. absurd (let k : ⊥ = omega (arith, exact e, d, t) in k);
    }

    near-down : 0 < r → r + r < 2 ^ u → Nearest q grid Wins x F
    near-down h l = record {
      number = floor-number;
      nearest = λ z n. nearer z (sides h z n);
      tie = λ z n d t. absurd (apart z (sides h z n) d t);
    }
      where
        nearer : (z : ℕ) → (z ≤ F) ⊎ (C ≤ z) → distance x F ≤ distance x z
        nearer z (inl a) = omega (arith, a, parts)
        nearer z (inr a) = omega (arith, a, parts, next, l)

        apart : (z : ℕ) → (z ≤ F) ⊎ (C ≤ z) → z ≢ F → distance x z ≡ distance x F → ⊥
        apart z (inl a) d t = omega (arith, a, parts, d, t)
        apart z (inr a) d t = omega (arith, a, parts, next, l, d, t)

    near-up : 2 ^ u < r + r → Nearest q grid Wins x C
    near-up l = record {
      number = ceiling-number;
      nearest = λ z n. nearer z (sides h z n);
      tie = λ z n d t. absurd (apart z (sides h z n) d t);
    }
      where
        h : 0 < r
        h = omega (arith, l)

        nearer : (z : ℕ) → (z ≤ F) ⊎ (C ≤ z) → distance x C ≤ distance x z
        nearer z (inl a) = omega (arith, a, parts, next, l, rest-lt)
        nearer z (inr a) = omega (arith, a, parts, next, rest-lt)

        apart : (z : ℕ) → (z ≤ F) ⊎ (C ≤ z) → z ≢ C → distance x z ≡ distance x C → ⊥
        apart z (inl a) d t = omega (arith, a, parts, next, l, d, t, rest-lt)
        apart z (inr a) d t = omega (arith, a, parts, next, d, t, rest-lt)

    module _ (h : 0 < r) (e : r + r ≡ 2 ^ u) where
      as-near : (z : ℕ) → (z ≤ F) ⊎ (C ≤ z) → (distance x F ≤ distance x z) × (distance x C ≤ distance x z)
      as-near z (inl a) = (omega (arith, a, parts), omega (arith, a, parts, next, e))
      as-near z (inr a) = (omega (arith, a, parts, next, e), omega (arith, a, parts, next, e))

      tie-down : Wins F C → Nearest q grid Wins x F
      tie-down w = record {
        number = floor-number;
        nearest = λ z n. (as-near z (sides h z n)).0;
        tie = λ z n d t. subst (λ (y : ℕ). Wins F y) (other z (sides h z n) d t) w;
      }
        where
          other : (z : ℕ) → (z ≤ F) ⊎ (C ≤ z) → z ≢ F → distance x z ≡ distance x F → C ≡ z
          other z (inl a) d t = absurd (let k : ⊥ = omega (arith, a, parts, d, t) in k)
          other z (inr a) d t = omega (arith, a, parts, next, e, t)

      tie-up : Wins C F → Nearest q grid Wins x C
      tie-up w = record {
        number = ceiling-number;
        nearest = λ z n. (as-near z (sides h z n)).1;
        tie = λ z n d t. subst (λ (y : ℕ). Wins C y) (other z (sides h z n) d t) w;
      }
        where
          other : (z : ℕ) → (z ≤ F) ⊎ (C ≤ z) → z ≢ C → distance x z ≡ distance x C → F ≡ z
          other z (inl a) d t = omega (arith, a, parts, next, e, t)
          other z (inr a) d t = absurd (let k : ⊥ = omega (arith, a, parts, next, e, d, t) in k)

  -- ---- even and odd

  -- an odd n of the unit has no even significand, where n fills q digits or the unit is the grid's
  odd-not-even : (n : ℕ) → odd n ≡ true → (u ≡ grid) ⊎ (2 ^ (q - 1) ≤ n) → ¬ Even q grid (n * 2 ^ u)
  odd-not-even n o w e = go (leb u e.exponent) refl
    where
      coarse : u ≤ e.exponent → ⊥
      coarse c = omega (arith, odd-half n o, whole)
        where
          i : ℕ
          i = e.exponent - u

          whole : n ≡ 2 * (e.h * 2 ^ i)
          whole =
              eq_of_mul-eq-mul_right (2 ^ u) (pow_pos u) n (2 * (e.h * 2 ^ i))
              (e.is ∙ ap (λ (m : ℕ). 2 * e.h * m) (pow-split u e.exponent c) ∙ sym (mul_assoc (2 * e.h) (2 ^ i) (2 ^ u))
              ∙ ap (λ (m : ℕ). m * 2 ^ u) (mul_assoc 2 e.h (2 ^ i)))

      fine : e.exponent < u → (u ≡ grid) ⊎ (2 ^ (q - 1) ≤ n) → ⊥
      fine c (inl a) = let g : grid ≤ e.exponent = e.above in omega (arith, c, a, g)
      fine c (inr a) = not-le_of_lt small high
        where
          small : 2 * e.h * 2 ^ e.exponent < 2 ^ (q - 1 + u)
          small =
              lt_of_lt_of_le (mul-lt-mul_of_pos_right e.short (pow_pos e.exponent))
              (subst (λ (m : ℕ). m ≤ 2 ^ (q - 1 + u)) (pow-add 2 q e.exponent) (pow_mono {i = q + e.exponent} {j = q - 1 + u} (omega (arith, c, q0))))

          high : 2 ^ (q - 1 + u) ≤ 2 * e.h * 2 ^ e.exponent
          high = subst (λ (m : ℕ). 2 ^ (q - 1 + u) ≤ m) e.is (rw (pow-add 2 (q - 1) u) (mul-le-mul_right (2 ^ u) a))

      go : (b : Bool) → leb u e.exponent ≡ b → ⊥
      go true t = coarse (leb-true u e.exponent t)
      go false t = fine (leb-false u e.exponent t) w

  -- K fills q digits, or the unit is the grid's
  filled : (u ≡ grid) ⊎ (2 ^ (q - 1) ≤ K)
  filled = go (leb (size x - q) grid) refl
    where
      go : (b : Bool) → leb (size x - q) grid ≡ b → (u ≡ grid) ⊎ (2 ^ (q - 1) ≤ K)
      go true t = inl (let a : size x - q ≤ grid = leb-true (size x - q) grid t in omega (arith, a))
      go false t = inr ((le-div_iff_mul-le (pow_pos u)).1 (rw (← (pow-add 2 (q - 1) u)) (size_reaches x (q - 1 + u) deep)))
        where
          deep : q - 1 + u < size x
          deep = let a : grid < size x - q = leb-false (size x - q) grid t in omega (arith, a, q0)

  filled-next : (u ≡ grid) ⊎ (2 ^ (q - 1) ≤ suc K)
  filled-next = go filled
    where
      go : (u ≡ grid) ⊎ (2 ^ (q - 1) ≤ K) → (u ≡ grid) ⊎ (2 ^ (q - 1) ≤ suc K)
      go (inl a) = inl a
      go (inr a) = inr (omega (arith, a))

  floor-even : odd K ≡ false → Even q grid F
  floor-even e = record {
    h = K / 2;
    exponent = u;
    short = subst (λ (n : ℕ). n < 2 ^ q) (even-half K e) kept-lt;
    above = up-grid;
    is = ap (λ (n : ℕ). n * 2 ^ u) (even-half K e);
  }

  floor-odd : odd K ≡ true → ¬ Even q grid F
  floor-odd e = odd-not-even K e filled

  next-odd : odd K ≡ false → odd (suc K) ≡ true
  next-odd e = go (eqb (suc K % 2) 1) refl
    where
      go : (b : Bool) → eqb (suc K % 2) 1 ≡ b → eqb (suc K % 2) 1 ≡ true
      go true t = t
      go false t = absurd (let z : ⊥ = omega (arith, eqb-false (suc K % 2) 1 t, eqb-false (K % 2) 1 e) in z)

  ceiling-odd : odd K ≡ false → ¬ Even q grid C
  ceiling-odd e = odd-not-even (suc K) (next-odd e) filled-next

  -- above an odd K it is even, but where a significand has one digit
  ceiling-even : odd K ≡ true → Even q grid C ⊎ ((q ≡ 1) × (K ≡ 1))
  ceiling-even e = go (eqb (suc K) (2 ^ q)) (leb q 1) refl refl
    where
      go : (a b : Bool) → eqb (suc K) (2 ^ q) ≡ a → leb q 1 ≡ b → Even q grid C ⊎ ((q ≡ 1) × (K ≡ 1))
      go false b i j = inl (record {
        h = suc K / 2;
        exponent = u;
        short = subst (λ (n : ℕ). n < 2 ^ q) twice (omega (arith, kept-lt, eqb-false (suc K) (2 ^ q) i));
        above = up-grid;
        is = ap (λ (n : ℕ). n * 2 ^ u) twice;
      })
        where
          twice : suc K ≡ 2 * (suc K / 2)
          twice = omega (arith, odd-half K e)
      go true true i j = inr (one, omega (arith, eqb-true (suc K) (2 ^ q) i, ap (λ (n : ℕ). 2 ^ n) one))
        where
          one : q ≡ 1
          one = omega (arith, leb-true q 1 j, q0)
      go true false i j = inl (record {
        h = 2 ^ (q - 1 - 1);
        exponent = suc u;
        short = subst (λ (n : ℕ). n < 2 ^ q) twice half-lt;
        above = omega (arith, up-grid);
        is = full (eqb-true (suc K) (2 ^ q) i) ∙ ap (λ (n : ℕ). n * 2 ^ suc u) twice;
      })
        where
          two : 1 < q
          two = leb-false q 1 j

          twice : 2 ^ (q - 1) ≡ 2 * 2 ^ (q - 1 - 1)
          twice = pow-next (q - 1) (omega (arith, two))

  one-digit : (q ≡ 1) × (K ≡ 1) → ¬ Even q grid C
  one-digit h e = omega (arith, none, value, pow_pos u, next, floor)
    where
      none : e.h ≡ 0
      none = let s : 2 * e.h < 2 ^ q = e.short in omega (arith, s, ap (λ (n : ℕ). 2 ^ n) h.0)

      value : C ≡ 0
      value = e.is ∙ ap (λ (n : ℕ). 2 * n * 2 ^ e.exponent) none ∙ zero-mul (2 ^ e.exponent)

      floor : F ≡ 2 ^ u
      floor = ap (λ (n : ℕ). n * 2 ^ u) h.1 ∙ one-mul (2 ^ u)

  below-next : F < C
  below-next = omega (arith, next, pow_pos u)

  even-up : odd K ≡ true → EvenWins q grid C F
  even-up e = go (ceiling-even e)
    where
      go : Even q grid C ⊎ ((q ≡ 1) × (K ≡ 1)) → EvenWins q grid C F
      go (inl a) = inl (a, floor-odd e)
      go (inr a) = inr ((one-digit a, floor-odd e), below-next)

  even-down : odd K ≡ false → EvenWins q grid F C
  even-down e = inl (floor-even e, ceiling-odd e)

  -- ---- to odd

  not-number : 0 < r → ¬ Number q grid x
  not-number h n = omega (arith, h, parts, floor-is.greatest x n (le_refl x))

  neighbours : 0 < r → (P : ℕ → Type 0) → P F → P C → (z : ℕ) → Neighbour q grid x z → P z
  neighbours h P f c z (inl a) = subst P (floor-one q grid x F z floor-is a) f
  neighbours h P f c z (inr a) = subst P (ceiling-one q grid x C z (ceiling-is h) a) c

  odd-exact : r ≡ 0 → ToOdd q grid x F
  odd-exact e = record { exact = λ n. exact e; neighbour = inl floor-is; wins = λ n. absurd (n (subst (Number q grid) (exact e) floor-number)) }

  odd-down : 0 < r → odd K ≡ true → ToOdd q grid x F
  odd-down h e = record {
    exact = λ n. absurd (not-number h n);
    neighbour = inl floor-is;
    wins = λ n. neighbours h (λ z. z ≢ F → OddWins q grid F z) (λ d. absurd (d refl)) (λ d. go (ceiling-even e));
  }
    where
      go : Even q grid C ⊎ ((q ≡ 1) × (K ≡ 1)) → OddWins q grid F C
      go (inl a) = inl (floor-odd e, a)
      go (inr a) = inr ((floor-odd e, one-digit a), below-next)

  odd-up : 0 < r → odd K ≡ false → ToOdd q grid x C
  odd-up h e = record {
    exact = λ n. absurd (not-number h n);
    neighbour = inr (ceiling-is h);
    wins = λ n. neighbours h (λ z. z ≢ C → OddWins q grid C z) (λ d. inl (ceiling-odd e, floor-even e)) (λ d. absurd (d refl));
  }

  -- ---- the modes: the number that is cut, or a unit more

  abbrev moved : Bool → ℕ
  moved t = (K + flag 1 t) * 2 ^ u

  stays : moved false ≡ F
  stays = ap (λ (n : ℕ). n * 2 ^ u) (add-zero K)

  goes : moved true ≡ C
  goes = ap (λ (n : ℕ). n * 2 ^ u) (add-one K)

  -- nearest, by the rule at a tie
  by-nearest : (Wins : ℕ → ℕ → Type 0) (t : Bool) → (t ≡ true → Wins C F) → (t ≡ false → Wins F C) → (d : Dropped) → Part r (2 ^ u) d
      → Nearest q grid Wins x (moved (is_above d || (is_half d && t)))
  by-nearest Wins t i j nothing (none e) = rw stays (near-exact Wins e)
  by-nearest Wins t i j below_half (less h l) = rw stays (near-down Wins h l)
  by-nearest Wins true i j at_half (half h e) = rw goes (tie-up Wins h e (i refl))
  by-nearest Wins false i j at_half (half h e) = rw stays (tie-down Wins h e (j refl))
  by-nearest Wins t i j above_half (more h l) = rw goes (near-up Wins l)

  by-floor : Floor q grid x (moved false)
  by-floor = rw stays floor-is

  by-ceiling : (d : Dropped) → Part r (2 ^ u) d → Ceiling q grid x (moved (inexact d))
  by-ceiling nothing (none e) = rw stays (ceiling-exact e)
  by-ceiling below_half (less h l) = rw goes (ceiling-is h)
  by-ceiling at_half (half h l) = rw goes (ceiling-is h)
  by-ceiling above_half (more h l) = rw goes (ceiling-is h)

  and-true : (b : Bool) → (b && true) ≡ b
  and-true true = refl
  and-true false = refl

  and-false : (b : Bool) → (b && false) ≡ false
  and-false true = refl
  and-false false = refl

  or-false : (b : Bool) → (b || false) ≡ b
  or-false true = refl
  or-false false = refl

  by-odd : (d : Dropped) → Part r (2 ^ u) d → (o : Bool) → odd K ≡ o → ToOdd q grid x (moved (inexact d && not o))
  by-odd nothing (none e) o k = rw stays (odd-exact e)
  by-odd below_half (less h l) true k = rw stays (odd-down h k)
  by-odd below_half (less h l) false k = rw goes (odd-up h k)
  by-odd at_half (half h l) true k = rw stays (odd-down h k)
  by-odd at_half (half h l) false k = rw goes (odd-up h k)
  by-odd above_half (more h l) true k = rw stays (odd-down h k)
  by-odd above_half (more h l) false k = rw goes (odd-up h k)

  by-mode : (m : Rounding) (s : Bool) (d : Dropped) → Part r (2 ^ u) d → RoundsTo m q grid s x (moved (rounds_up m s K d))
  by-mode ties_to_even s d p = by-nearest (EvenWins q grid) (odd K) even-up even-down d p
  by-mode ties_to_away s d p =
      subst (λ (t : Bool). Nearest q grid LargerWins x (moved (is_above d || t))) (and-true (is_half d))
      (by-nearest LargerWins true (λ e. below-next) (λ e. absurd (true≢false e)) d p)
  by-mode ties_toward_zero s d p =
      subst (λ (t : Bool). Nearest q grid SmallerWins x (moved t)) (ap (λ (t : Bool). is_above d || t) (and-false (is_half d)) ∙ or-false (is_above d))
      (by-nearest SmallerWins false (λ e. absurd (true≢false (sym e))) (λ e. below-next) d p)
  by-mode toward_positive true d p = rw (and-false (inexact d)) by-floor
  by-mode toward_positive false d p = rw (and-true (inexact d)) (by-ceiling d p)
  by-mode toward_negative true d p = rw (and-true (inexact d)) (by-ceiling d p)
  by-mode toward_negative false d p = rw (and-false (inexact d)) by-floor
  by-mode toward_zero s d p = by-floor
  by-mode away_from_zero s d p = by-ceiling d p
  by-mode to_odd s d p = by-odd d p (odd K) refl

pub cut-rounds : Cut-rounds
unfolding rounded_at dropped
cut-rounds m q grid s x q0 = by-mode q grid x q0 m s (compared (x % 2 ^ max grid (size x - q)) (2 ^ max grid (size x - q))) (part _ _)
