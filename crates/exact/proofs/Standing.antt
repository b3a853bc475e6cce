-- Cutting a value at a position: the digits kept and the part dropped are those of every number
-- that the value stands for.
use mathlib.Core.Path.{◌≡◌, refl, sym, ap, ap₂, ◌∙◌}
use mathlib.Core.Bool.{Bool, true, false, not, ◌||◌, cond}
use Prim.Native.Nat.{ℕ, zero, suc, ◌+◌, ◌-◌, ◌*◌, ◌/◌, ◌%◌, ◌^◌, ◌≤◌, ◌<◌}
use native.Mathlib.Nat.{lt_of_lt_of_le, mul-le-mul_right, mul_assoc, suc-mul, mul_comm, mod-lt, mod-eq_of_lt, add-zero}
use native.Mathlib.Omega.{arith}
use lib.Dec.{eqb}
use lib.Arith.{digits_lt, digits_div, digits_mod}
use lib.Pow.{pow-add, pow_pos, pow_mono, shr-shr, shl-shr, shr_lt, mod-pow-add, split}
use lib.Ieee.{size}
use lib.Ieee.Digits.{size-lt}
use borrow.Author.Tests.{eq-eqb, lt-ltb, le-ltb, ne_eqb}
use Rattle.totals_spec.proofs.numbers.Bits.{size-pos, pow-split, multiple-mod}
use Rattle.totals_spec.specs.rounding.Round.{nothing, compared, dropped}
use Rattle.exact.specs.Unrounded.{dropped_by, StandsAt}
use Rattle.totals_spec.proofs.numbers.Powers.{size-over, scaled-lt}

-- ---- the dropped part: b is the first dropped bit, t what lies below it

compared-by : (b h t : ℕ) → b < 2 → t < h → compared (b * h + t) (2 * h) ≡ dropped_by (eqb b 1) (not (eqb t 0))
compared-by zero h zero k l = rw (eq-eqb (0 * h + 0) 0 (omega arith))
compared-by zero h (suc t) k l =
    rw (
      ne_eqb (0 * h + suc t) 0 (λ e. omega (arith, e)),
      lt-ltb ((0 * h + suc t) + (0 * h + suc t)) (2 * h) (omega arith),
      ne_eqb (suc t) 0 (λ e. omega (arith, e)),
    )
compared-by (suc zero) h zero k l =
    rw (ne_eqb (1 * h + 0) 0 (λ e. omega (arith, e)), le-ltb ((1 * h + 0) + (1 * h + 0)) (2 * h) (omega arith), even) refl
  where
    even : eqb ((1 * h + 0) + (1 * h + 0)) (2 * h) ≡ true
    even = eq-eqb ((1 * h + 0) + (1 * h + 0)) (2 * h) (omega arith)
compared-by (suc zero) h (suc t) k l =
    rw (
      ne_eqb (1 * h + suc t) 0 (λ e. omega (arith, e)),
      le-ltb ((1 * h + suc t) + (1 * h + suc t)) (2 * h) (omega arith),
      ne_eqb ((1 * h + suc t) + (1 * h + suc t)) (2 * h) (λ e. omega (arith, e)),
      ne_eqb (suc t) 0 (λ e. omega (arith, e)),
    )
compared-by (suc (suc b)) h t k l = absurd (omega (arith, k))

-- x = v × 2^a + e with e below 2^a, cut at u = a + j
module _ (v a e : ℕ) (e1 : e < 2 ^ a) where
  kept_at : (j u : ℕ) → a + j ≡ u → (v * 2 ^ a + e) / 2 ^ u ≡ v / 2 ^ j
  kept_at j u h =
      ap (λ (k : ℕ). (v * 2 ^ a + e) / 2 ^ k) (sym h) ∙ sym (shr-shr (v * 2 ^ a + e) a j) ∙ ap (λ (k : ℕ). k / 2 ^ j) (digits_div v e1)

  rest_at : (j : ℕ) → (v * 2 ^ a + e) % 2 ^ (j + a) ≡ v % 2 ^ j * 2 ^ a + e
  rest_at j =
      mod-pow-add (v * 2 ^ a + e) j a ∙ ap₂ (λ (x y : ℕ). x % 2 ^ j * 2 ^ a + y) (digits_div v e1) (digits_mod v e1)

  -- the first dropped bit of v is at i = j − 1
  dropped-at : (i u : ℕ) → a + suc i ≡ u
      → dropped (v * 2 ^ a + e) u ≡ dropped_by (eqb (v / 2 ^ i % 2) 1) (not (eqb (v % 2 ^ i * 2 ^ a + e) 0))
  unfolding dropped
  dropped-at i u h =
      ap₂ compared rest whole
      ∙ compared-by (v / 2 ^ i % 2) (2 ^ i * 2 ^ a) (v % 2 ^ i * 2 ^ a + e) (mod-lt (v / 2 ^ i) {m = 2} (omega arith)) below
    where
      place : u ≡ (1 + i) + a
      place = omega (arith, h)

      whole : 2 ^ u ≡ 2 * (2 ^ i * 2 ^ a)
      whole =
          ap (λ (k : ℕ). 2 ^ k) place ∙ pow-add 2 (1 + i) a ∙ ap (λ (k : ℕ). k * 2 ^ a) (pow-add 2 1 i) ∙ mul_assoc 2 (2 ^ i) (2 ^ a)

      low : v % 2 ^ (1 + i) ≡ v / 2 ^ i % 2 * 2 ^ i + v % 2 ^ i
      low = mod-pow-add v 1 i

      rest : (v * 2 ^ a + e) % 2 ^ u ≡ v / 2 ^ i % 2 * (2 ^ i * 2 ^ a) + (v % 2 ^ i * 2 ^ a + e)
      rest =
          ap (λ (k : ℕ). (v * 2 ^ a + e) % 2 ^ k) place ∙ rest_at (1 + i) ∙ omega (arith, ap (λ (k : ℕ). k * 2 ^ a) low)

      fit : suc (v % 2 ^ i) * 2 ^ a ≤ 2 ^ i * 2 ^ a
      fit = mul-le-mul_right (2 ^ a) (mod-lt v {m = 2 ^ i} (pow_pos i))

      below : v % 2 ^ i * 2 ^ a + e < 2 ^ i * 2 ^ a
      below = omega (arith, fit, e1, suc-mul (v % 2 ^ i) (2 ^ a))

-- ---- a number that v units of 2^a stand for: v × 2^a, and with a sticky bit less than 2^a more

record Over (s : Bool) (v a x : ℕ) : Type 0 where
  more : ℕ
  is : x ≡ v * 2 ^ a + more
  small : more < 2 ^ a
  some : (l : ℕ) → not (eqb (l * 2 ^ a + more) 0) ≡ (s || not (eqb l 0))

over : (s : Bool) (v a x : ℕ) → StandsAt s v (2 ^ a) x → Over s v a x
over true v a x h = record {
  more = x - v * 2 ^ a;
  is = omega (arith, h.0);
  small = omega (arith, h.1, suc-mul v (2 ^ a));
  some = λ l. rw (ne_eqb (l * 2 ^ a + (x - v * 2 ^ a)) 0 (λ e. omega (arith, e, h.0)));
}
over false v a x h = record { more = 0; is = h ∙ sym (add-zero (v * 2 ^ a)); small = pow_pos a; some = nought }
  where
    nought : (l : ℕ) → not (eqb (l * 2 ^ a + 0) 0) ≡ not (eqb l 0)
    nought zero = rw (eq-eqb (0 * 2 ^ a + 0) 0 (omega arith))
    nought (suc l) =
        rw
        (ne_eqb (suc l * 2 ^ a + 0) 0 (λ e. omega (arith, e, pow_pos a, suc-mul l (2 ^ a))), ne_eqb (suc l) 0 (λ e. omega (arith, e)))

module _ (s : Bool) (v a x : ℕ) (st : StandsAt s v (2 ^ a) x) where
  pub stands-size : 0 < v → size x ≡ a + size v
  stands-size h = let o = over s v a x st in ap size o.is ∙ size-over v a o.more o.small h

  -- cut above its position
  pub stands-kept : (j u : ℕ) → a + j ≡ u → x / 2 ^ u ≡ v / 2 ^ j
  stands-kept j u at = let o = over s v a x st in ap (λ (y : ℕ). y / 2 ^ u) o.is ∙ kept_at v a o.more o.small j u at

  pub stands-dropped : (i u : ℕ) → a + suc i ≡ u → dropped x u ≡ dropped_by (eqb (v / 2 ^ i % 2) 1) (s || not (eqb (v % 2 ^ i) 0))
  stands-dropped i u at =
      let o = over s v a x st in
      ap (λ (y : ℕ). dropped y u) o.is ∙ dropped-at v a o.more o.small i u at
      ∙ ap (dropped_by (eqb (v / 2 ^ i % 2) 1)) (o.some (v % 2 ^ i))

-- and the other way round: such a number, with a sticky bit just where it is not v × 2^a
stands-over : (v a e x : ℕ) → x ≡ v * 2 ^ a + e → e < 2 ^ a → StandsAt (not (eqb e 0)) v (2 ^ a) x
stands-over v a zero x is h = is ∙ add-zero (v * 2 ^ a)
stands-over v a (suc e) x is h = rw (ne_eqb (suc e) 0 (λ z. omega (arith, z))) (omega arith, omega (arith, suc-mul v (2 ^ a)))

-- without its lowest d bits, and with a sticky bit where one of them is set, it stands for the same
-- numbers
pub stands-without : (s : Bool) (v a d x : ℕ) → StandsAt s v (2 ^ a) x → StandsAt (s || not (eqb (v % 2 ^ d) 0)) (v / 2 ^ d) (2 ^ (a + d)) x
stands-without s v a d x st =
    let o = over s v a x st in
    rw (← o.some (v % 2 ^ d)) (stands-over (v / 2 ^ d) (a + d) (v % 2 ^ d * 2 ^ a + o.more) x (o.is ∙ whole o.more) (below o.more o.small))
  where
    unit : 2 ^ (a + d) ≡ 2 ^ d * 2 ^ a
    unit = pow-add 2 a d ∙ mul_comm (2 ^ a) (2 ^ d)

    whole : (e : ℕ) → v * 2 ^ a + e ≡ v / 2 ^ d * 2 ^ (a + d) + (v % 2 ^ d * 2 ^ a + e)
    whole e = rw unit (omega (arith, ap (λ (n : ℕ). n * 2 ^ a) (split v d)))

    below : (e : ℕ) → e < 2 ^ a → v % 2 ^ d * 2 ^ a + e < 2 ^ (a + d)
    below e h = rw unit (digits_lt {m = 2 ^ d} (mod-lt v (pow_pos d)) h)

-- there is such a number
abbrev pub some_number : Bool → ℕ → ℕ → ℕ
some_number s v a = cond s (v * 2 ^ a + 1) (v * 2 ^ a)

pub stands-some : (s : Bool) (v a : ℕ) → 1 ≤ a → StandsAt s v (2 ^ a) (some_number s v a)
stands-some true v a h =
    let two : 2 ^ 1 ≤ 2 ^ a = pow_mono h in
    (omega arith, omega (arith, two, suc-mul v (2 ^ a)))
stands-some false v a h = refl

-- ---- the digits in a word

-- cut at or below its position: nothing is dropped, and the digits are shifted up
pub record CutUp (s : Bool) (v a u : ℕ) : Type 0 where
  pub near : a - u < 64
  pub few : v < 18446744073709551616
  pub fits : v * 2 ^ (a - u) < 18446744073709551616
  pub each : (x : ℕ) → StandsAt s v (2 ^ a) x → (v * 2 ^ (a - u) ≡ x / 2 ^ u) × (nothing ≡ dropped x u)

module _ (v a u : ℕ) (le : u ≤ a) where
  whole_is : v * 2 ^ a ≡ v * 2 ^ (a - u) * 2 ^ u
  whole_is = ap (λ (x : ℕ). v * x) (pow-split u a le) ∙ sym (mul_assoc v (2 ^ (a - u)) (2 ^ u))

  pub exact-kept : v * 2 ^ a / 2 ^ u ≡ v * 2 ^ (a - u)
  exact-kept = ap (λ (x : ℕ). x / 2 ^ u) whole_is ∙ shl-shr (v * 2 ^ (a - u)) u

  exact-dropped : dropped (v * 2 ^ a) u ≡ nothing
  unfolding dropped
  exact-dropped = rw (eq-eqb (v * 2 ^ a % 2 ^ u) 0 (multiple-mod (v * 2 ^ a) v a u refl le))

pub cut_up : (s : Bool) (v a u : ℕ) → (s ≡ true → a < u) → u ≤ a → 0 < v → a + size v ≤ u + 64 → CutUp s v a u
cut_up true v a u h le pos end = absurd (omega (arith, h refl, le))
cut_up false v a u h le pos end = record {
  near = omega (arith, size-pos v pos);
  few = lt_of_lt_of_le (size-lt v) (pow_mono {i = size v} {j = 64} (omega arith));
  fits = scaled-lt v (a - u) (size v) 64 (size-lt v) (omega arith);
  each = λ x st. (sym (ap (λ (y : ℕ). y / 2 ^ u) st ∙ exact-kept v a u le), sym (ap (λ (y : ℕ). dropped y u) st ∙ exact-dropped v a u le));
}

-- cut above its position
pub cut_down : (v a j u : ℕ) → a + j ≡ u → a + size v ≤ u + 64 → v / 2 ^ j < 2 ^ 64
cut_down v a j u at end = shr_lt 64 j (lt_of_lt_of_le (size-lt v) (pow_mono {i = size v} {j = 64 + j} (omega arith)))

-- and the digits from the bit i + 1 of a number that is v / 2^i
pub half_digits : (v i : ℕ) {one : ℕ} → one ≡ v / 2 ^ i → v / 2 ^ (i + 1) < 2 ^ 64 → one / 2 ^ 1 % 2 ^ 64 ≡ v / 2 ^ (i + 1)
half_digits v i e h = ap (λ (x : ℕ). x / 2 ^ 1 % 2 ^ 64) e ∙ ap (λ (x : ℕ). x % 2 ^ 64) (shr-shr v i 1) ∙ mod-eq_of_lt h
