-- At most one number is x rounded.
use mathlib.Core.Path.{◌≡◌, refl, sym, ap, ◌∙◌, subst}
use mathlib.Core.Logic.{◌≢◌, ◌↔◌, ◌⊎◌, inl, inr}
use mathlib.Core.Bool.{Bool, true, false, ◌&&◌}
use Prim.Native.Nat.{ℕ, suc, ◌+◌, ◌-◌, ◌*◌, ◌^◌, ◌≤◌, ◌<◌}
use native.Mathlib.Nat.{le_antisymm, le_of_lt, mul-pos, eq_of_mul-eq-mul_right, mul_assoc, pow-succ', mul-le-mul_left}
use native.Mathlib.Omega.{arith}
use lib.Dec.{eqb, ltb}
use lib.Pow.{pow-add, pow_pos, pow_mono}
use borrow.Author.Tests.{eqb-true, eqb-false, ltb-true, ltb-false}
use Rattle.totals_spec.specs.Basics.{flag}
use Rattle.totals_spec.specs.formats.Format.{Format, Kind, ieee, no_inf, fnuz, finite_only, kind_of}
use Rattle.totals_spec.specs.formats.Format.{digits}
use Rattle.totals_spec.specs.formats.Settings.{Settings}
use Rattle.totals_spec.specs.formats.Decode.{Unpacked, zero_of, finite, infinity, nan}
use Rattle.totals_spec.proofs.numbers.Bits.{pow-split}
use Rattle.totals_spec.specs.formats.Settings.{ties_to_even, ties_to_away, ties_toward_zero}
use Rattle.totals_spec.specs.formats.Settings.{toward_positive, toward_negative}
use Rattle.totals_spec.specs.formats.Settings.{toward_zero, away_from_zero, to_odd}
use Rattle.promises.specs.Numbers.{Number, distance, Nearest, EvenWins, LargerWins, SmallerWins, Floor, Ceiling, OddWins, ToOdd}
use Rattle.promises.specs.Rounding.{Largest, Canonical, Worth, Tiny, Carried, Overflow, to_infinity, to_nan, to_largest}
use Rattle.promises.specs.Rounding.{Once, flushed, overflowed, number}
use Rattle.promises.specs.Statements.{Rounds-to-one, Once-pins}

-- two that are not different are one
pub same : (y z : ℕ) → ((y ≢ z) → ⊥) → y ≡ z
same y z h = go (eqb y z) refl
  where
    go : (b : Bool) → eqb y z ≡ b → y ≡ z
    go true e = eqb-true y z e
    go false e = absurd (h (eqb-false y z e))

module _ (q grid x : ℕ) where
  nearest-one : (Wins : ℕ → ℕ → Type 0) → ((y z : ℕ) → Wins y z → Wins z y → ⊥) → (y z : ℕ) → Nearest q grid Wins x y → Nearest q grid Wins x z → y ≡ z
  nearest-one Wins never y z a b =
      same y z (λ d. never y z (a.tie z b.number (λ e. d (sym e)) (sym equal)) (b.tie y a.number d equal))
    where
      equal : distance x y ≡ distance x z
      equal = le_antisymm (a.nearest z b.number) (b.nearest y a.number)

  even-not-both : (y z : ℕ) → EvenWins q grid y z → EvenWins q grid z y → ⊥
  even-not-both y z (inl a) (inl b) = a.1 b.0
  even-not-both y z (inl a) (inr b) = b.0.1 a.0
  even-not-both y z (inr a) (inl b) = a.0.1 b.0
  even-not-both y z (inr a) (inr b) = omega (arith, a.1, b.1)

  odd-not-both : (y z : ℕ) → OddWins q grid y z → OddWins q grid z y → ⊥
  odd-not-both y z (inl a) (inl b) = b.0 a.1
  odd-not-both y z (inl a) (inr b) = b.0.0 a.1
  odd-not-both y z (inr a) (inl b) = a.0.0 b.1
  odd-not-both y z (inr a) (inr b) = omega (arith, a.1, b.1)

  pub floor-one : (y z : ℕ) → Floor q grid x y → Floor q grid x z → y ≡ z
  floor-one y z a b = le_antisymm (b.greatest y a.number a.below) (a.greatest z b.number b.below)

  pub ceiling-one : (y z : ℕ) → Ceiling q grid x y → Ceiling q grid x z → y ≡ z
  ceiling-one y z a b = le_antisymm (a.least z b.number b.above) (b.least y a.number a.above)

  odd-one : (y z : ℕ) → ToOdd q grid x y → ToOdd q grid x z → y ≡ z
  odd-one y z a b = same y z (λ d. let n : ¬ Number q grid x = λ h. d (a.exact h ∙ sym (b.exact h)) in
      odd-not-both y z (a.wins n z b.neighbour (λ e. d (sym e))) (b.wins n y a.neighbour d))

pub rounds-to-one : Rounds-to-one
rounds-to-one ties_to_even q g s x y z a b = nearest-one q g x (EvenWins q g) (even-not-both q g x) y z a b
rounds-to-one ties_to_away q g s x y z a b = nearest-one q g x LargerWins (λ y z a b. omega (arith, a, b)) y z a b
rounds-to-one ties_toward_zero q g s x y z a b = nearest-one q g x SmallerWins (λ y z a b. omega (arith, a, b)) y z a b
rounds-to-one toward_positive q g true x y z a b = floor-one q g x y z a b
rounds-to-one toward_positive q g false x y z a b = ceiling-one q g x y z a b
rounds-to-one toward_negative q g true x y z a b = ceiling-one q g x y z a b
rounds-to-one toward_negative q g false x y z a b = floor-one q g x y z a b
rounds-to-one toward_zero q g s x y z a b = floor-one q g x y z a b
rounds-to-one away_from_zero q g s x y z a b = ceiling-one q g x y z a b
rounds-to-one to_odd q g s x y z a b = odd-one q g x y z a b

-- ---- at most one value and flags

pub largest-one : (f : Format) (q g y z : ℕ) → Largest f q g y → Largest f q g z → y ≡ z
largest-one f q g y z a b = le_antisymm (b.most y a.number) (a.most z b.number)

module _ (f : Format) where
  -- a number is written in one way: more digits dropped would leave fewer
  shorter : (k m j n : ℕ) → m * 2 ^ k ≡ n * 2 ^ j → Canonical f k m → Canonical f j n → k < j → ⊥
  shorter k m j n e a b h = go (ltb n (2 ^ (digits f - 1))) refl
    where
      i : ℕ
      i = j - k

      parts : m ≡ n * 2 ^ i
      parts =
          eq_of_mul-eq-mul_right (2 ^ k) (pow_pos k) m (n * 2 ^ i)
          (e ∙ ap (λ (x : ℕ). n * x) (pow-split k j (le_of_lt h)) ∙ sym (mul_assoc n (2 ^ i) (2 ^ k)))

      twice : n * 2 ≤ n * 2 ^ i
      twice = mul-le-mul_left n (pow_mono {i = 1} {j = j - k} (omega (arith, h)))

      some : 0 < 2 ^ (digits f - 1)
      some = pow_pos (digits f - 1)

      go : (t : Bool) → ltb n (2 ^ (digits f - 1)) ≡ t → ⊥
      go true t = let z : j ≡ 0 = b.full (ltb-true n (2 ^ (digits f - 1)) t) in omega (arith, z, h)
      go false t =
          let l : m < 2 ^ digits f = a.short in
          let r : 0 < m = a.some in
          omega (arith, l, parts, twice, ltb-false n (2 ^ (digits f - 1)) t, most)
        where
          most : 2 ^ digits f ≤ 2 * 2 ^ (digits f - 1)
          most = subst (λ (x : ℕ). 2 ^ digits f ≤ x) (double (digits f - 1)) (pow_mono {i = digits f} {j = suc (digits f - 1)} (omega arith))
            where
              double : (d : ℕ) → 2 ^ suc d ≡ 2 * 2 ^ d
              double d = pow-succ' 2 d

  canonical-one : (k m j n : ℕ) → m * 2 ^ k ≡ n * 2 ^ j → Canonical f k m → Canonical f j n → (k ≡ j) × (m ≡ n)
  canonical-one k m j n e a b = go (ltb k j) (ltb j k) refl refl
    where
      go : (t z : Bool) → ltb k j ≡ t → ltb j k ≡ z → (k ≡ j) × (m ≡ n)
      go true z p q = absurd (shorter k m j n e a b (ltb-true k j p))
      go false true p q = absurd (shorter j n k m (sym e) b a (ltb-true j k q))
      go false false p q = (level, eq_of_mul-eq-mul_right (2 ^ k) (pow_pos k) m n (e ∙ ap (λ (x : ℕ). n * 2 ^ x) (sym level)))
        where
          level : k ≡ j
          level = le_antisymm (ltb-false j k q) (ltb-false k j p)

  module _ (g : ℕ) where
    some-units : (k m y : ℕ) → m * 2 ^ (k + g) ≡ y → Canonical f k m → 0 < y
    some-units k m y e a = subst (λ (x : ℕ). 0 < x) e (mul-pos a.some (pow_pos (k + g)))

    pub worth-one : (s : Bool) (y : ℕ) (v w : Unpacked) → Worth f g v s y → Worth f g w s y → v ≡ w
    worth-one s y (zero_of t) (zero_of z) a b = ap zero_of (a.0 ∙ sym b.0)
    worth-one s y (zero_of t) (finite z j n) a b = absurd (let p : 0 < y = some-units j n y b.1 b.2 in let k : ⊥ = omega (arith, a.1, p) in k)
    worth-one s y (zero_of t) (infinity z) a b = absurd b
    worth-one s y (zero_of t) (nan z h n) a b = absurd b
    worth-one s y (finite t k m) (zero_of z) a b = absurd (let p : 0 < y = some-units k m y a.1 a.2 in let k : ⊥ = omega (arith, b.1, p) in k)
    worth-one s y (finite t k m) (finite z j n) a b = λ i. finite ((a.0 ∙ sym b.0) i) (both.0 i) (both.1 i)
      where
        off : (m k : ℕ) → m * 2 ^ (k + g) ≡ m * 2 ^ k * 2 ^ g
        off m k = ap (λ (x : ℕ). m * x) (pow-add 2 k g) ∙ sym (mul_assoc m (2 ^ k) (2 ^ g))

        both : (k ≡ j) × (m ≡ n)
        both =
            canonical-one k m j n
            (eq_of_mul-eq-mul_right (2 ^ g) (pow_pos g) (m * 2 ^ k) (n * 2 ^ j) (sym (off m k) ∙ a.1 ∙ sym b.1 ∙ off n j)) a.2 b.2
    worth-one s y (finite t k m) (infinity z) a b = absurd b
    worth-one s y (finite t k m) (nan z h n) a b = absurd b
    worth-one s y (infinity t) w a b = absurd a
    worth-one s y (nan t h m) w a b = absurd a

-- two tests of one thing
test-one : (P : Type 0) (t z : Bool) → ((t ≡ true) ↔ P) → ((z ≡ true) ↔ P) → t ≡ z
test-one P true true a b = refl
test-one P true false a b = sym (b.1 (a.0 refl))
test-one P false true a b = a.1 (b.0 refl)
test-one P false false a b = refl

abbrev kind-number : Kind → ℕ
kind-number ieee = 0
kind-number no_inf = 1
kind-number fnuz = 2
kind-number finite_only = 3

both-kinds : {k a b : Kind} → k ≡ a → k ≡ b → kind-number a ≡ kind-number b
both-kinds e h = ap kind-number (sym e ∙ h)

module _ (f : Format) (c : Settings) (g : ℕ) (s : Bool) where
  infinity-or-nan : kind_of f.kind ≡ ieee → (kind_of f.kind ≡ no_inf) ⊎ (kind_of f.kind ≡ fnuz) → ⊥
  infinity-or-nan e (inl a) = omega (arith, both-kinds e a)
  infinity-or-nan e (inr a) = omega (arith, both-kinds e a)

  infinity-or-most : kind_of f.kind ≡ ieee → Carried c s → (kind_of f.kind ≡ finite_only) ⊎ (¬ Carried c s) → ⊥
  infinity-or-most e h (inl a) = omega (arith, both-kinds e a)
  infinity-or-most e h (inr a) = a h

  nan-or-most : (kind_of f.kind ≡ no_inf) ⊎ (kind_of f.kind ≡ fnuz) → Carried c s → (kind_of f.kind ≡ finite_only) ⊎ (¬ Carried c s) → ⊥
  nan-or-most (inl e) h (inl a) = omega (arith, both-kinds e a)
  nan-or-most (inr e) h (inl a) = omega (arith, both-kinds e a)
  nan-or-most e h (inr a) = a h

  overflow-one : (most : ℕ) {v w : Unpacked} {n k : ℕ} → Overflow f c g s most v n → Overflow f c g s most w k → (v ≡ w) × (n ≡ k)
  overflow-one most (to_infinity e h) (to_infinity e' h') = (refl, refl)
  overflow-one most (to_infinity e h) (to_nan e' h') = absurd (infinity-or-nan e e')
  overflow-one most (to_infinity e h) (to_largest w a b) = absurd (infinity-or-most e h a)
  overflow-one most (to_nan e h) (to_infinity e' h') = absurd (infinity-or-nan e' e)
  overflow-one most (to_nan e h) (to_nan e' h') = (refl, refl)
  overflow-one most (to_nan e h) (to_largest w a b) = absurd (nan-or-most e h a)
  overflow-one most (to_largest v a b) (to_infinity e h) = absurd (infinity-or-most e h a)
  overflow-one most (to_largest v a b) (to_nan e h) = absurd (nan-or-most e h a)
  overflow-one most (to_largest v a b) (to_largest w a' b') = (worth-one f g s most v w b b', refl)

  module _ (x : ℕ) where
    above-most : (y z m k : ℕ) → y ≡ z → m ≡ k → m < y → z ≤ k → ⊥
    above-most y z m k e h l r = omega (arith, e, h, l, r)

    once-one : {v w : Unpacked} {n k : ℕ} → Once f c g s x v n → Once f c g s x w k → (v ≡ w) × (n ≡ k)
    once-one (flushed h) (flushed h') = (refl, refl)
    once-one (flushed h) (overflowed y m v n nf r l o p) = absurd (nf h)
    once-one (flushed h) (number y m v t i u nf r l o p a b d) = absurd (nf h)
    once-one (overflowed y m v n nf r l o p) (flushed h) = absurd (nf h)
    once-one (overflowed y m v n nf r l o p) (overflowed y' m' v' n' nf' r' l' o' p') =
        overflow-one m p (subst (λ (x : ℕ). Overflow f c g s x v' n') (largest-one f _ g m' m l' l) p')
    once-one (overflowed y m v n nf r l o p) (number y' m' v' t i u nf' r' l' o' p' a b d) =
        absurd (above-most y y' m m' (rounds-to-one _ _ _ s x y y' r r') (largest-one f _ g m m' l l') o o')
    once-one (number y m v t i u nf r l o p a b d) (flushed h) = absurd (nf h)
    once-one (number y m v t i u nf r l o p a b d) (overflowed y' m' v' n' nf' r' l' o' p') =
        absurd (above-most y' y m' m (rounds-to-one _ _ _ s x y' y r' r) (largest-one f _ g m' m l' l) o' o)
    once-one (number y m v t i u nf r l o p a b d) (number y' m' v' t' i' u' nf' r' l' o' p' a' b' d') = (
      worth-one f g s y v v' p (subst (Worth f g v' s) (sym e) p'),
      λ j. flag 32 (tt' j) + flag 16 (ii j) + flag 8 (tt' j && ii j) + flag 64 (uu j),
    )
      where
        e : y ≡ y'
        e = rounds-to-one _ _ _ s x y y' r r'

        tt' : t ≡ t'
        tt' = test-one (Tiny f c g s x) t t' a a'

        ii : i ≡ i'
        ii = test-one (y ≢ x) i i' b (subst (λ (z : ℕ). (i' ≡ true) ↔ (z ≢ x)) (sym e) b')

        uu : u ≡ u'
        uu = test-one (x < y) u u' d (subst (λ (z : ℕ). (u' ≡ true) ↔ (x < z)) (sym e) d')

pub once-pins : Once-pins
once-pins f c g s x v w n k a b = once-one f c g s x a b
