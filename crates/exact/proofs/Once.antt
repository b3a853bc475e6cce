-- One rounding, opened: a magnitude x of n digits at or above emin, and one below it.
use mathlib.Core.Path.{◌≡◌, refl, sym, ap, ◌∙◌, subst}
use mathlib.Core.Bool.{Bool, true, false, ◌&&◌, ◌||◌, cond}
use Prim.Native.Nat.{ℕ, zero, suc, ◌+◌, ◌-◌, ◌*◌, ◌/◌, ◌^◌, ◌≤◌, ◌<◌, max}
use native.Mathlib.Nat.{lt_of_lt_of_le, lt_of_le_of_lt, mul-le-mul_right, suc-mul, div-one}
use native.Mathlib.Omega.{arith}
use lib.Dec.{ltb, leb, eqb}
use lib.Pow.{pow_pos, pow_mono, pow-lt, shl-shr, shr_lt, shr_mono}
use lib.Ieee.{size}
use lib.Ieee.Digits.{size-lt, size_reaches, size-le}
use borrow.Author.Tests.{eq-eqb, lt-ltb, le-ltb, lt-leb, ne_eqb}
use Rattle.totals_spec.proofs.rounding.BetweenNeighbours.{ltb-size}
use Rattle.totals_spec.specs.Basics.{flag, is_set}
use Rattle.totals_spec.specs.formats.Bounds.{RangeBounds}
use Rattle.totals_spec.specs.formats.Format.{Format, kind_of, digits, emin_at, emax_at}
use Rattle.totals_spec.specs.formats.Settings.{Settings, rounding_of, precision_of}
use Rattle.totals_spec.specs.formats.Decode.{zero_of, finite}
use Rattle.totals_spec.specs.rounding.Round.{dropped, inexact, is_no_inf, overflows, overflow, number_of, finished, tiny_sum, rounded_at, round_to, round, rounds_up}
use Rattle.exact.specs.Unrounded.{small_of}
use Rattle.exact.proofs.Rules.{flag-le}
use Rattle.totals_spec.proofs.numbers.Powers.{pow-join, size-scaled, scaled-lt, digits-pos}
use Rattle.exact.proofs.Standing.{exact-kept}
use Rattle.totals_spec.proofs.formats.ExponentRange.{range-pos}
use Rattle.exact.proofs.Beyond.{ones-ge, all_ones, made}

-- ---- the first q of n digits

module _ (x q n : ℕ) (q0 : 1 ≤ q) (qn : q ≤ n) (sz : size x ≡ n) where
  pub kept-lt : x / 2 ^ (n - q) < 2 ^ q
  kept-lt = shr_lt q (n - q) (subst (λ (k : ℕ). x < 2 ^ k) (sz ∙ sum) (size-lt x))
    where
      sum : n ≡ q + (n - q)
      sum = omega arith

  pub kept-ge : 2 ^ (q - 1) ≤ x / 2 ^ (n - q)
  kept-ge = subst (λ (k : ℕ). k ≤ x / 2 ^ (n - q)) whole (shr_mono (n - q) (size_reaches x (n - 1) (rw sz (omega arith))))
    where
      whole : 2 ^ (n - 1) / 2 ^ (n - q) ≡ 2 ^ (q - 1)
      whole =
          ap (λ (k : ℕ). k / 2 ^ (n - q)) (sym (pow-join (q - 1) (n - q) (n - 1) (omega arith))) ∙ shl-shr (2 ^ (q - 1)) (n - q)

-- ---- x rounded to q digits, as if the exponent had no limit, is k × 2^l

module _ (f : Format) (c : Settings) (g : ℕ) (s : Bool) (x q n k l : ℕ) (q0 : 1 ≤ q) (sz : size x ≡ n) (kz : size k ≡ q) (lo : n ≤ l + q)
    (y : k * 2 ^ l ≡ rounded_at (rounding_of c.rounding) s x (n - q)) where
  long : size (k * 2 ^ l) ≡ l + q
  long = size-scaled k l (digits-pos k q q0 kz) ∙ ap (λ (z : ℕ). l + z) kz

  -- whether it is tiny
  tiny-not : emin_at f g < n → tiny_sum f c q g s x ≡ false
  unfolding tiny_sum
  tiny-not h = rw (sz, ← y) (go (is_set c.tininess))
    where
      after : ltb (k * 2 ^ l) (2 ^ emin_at f g) ≡ false
      after = le-ltb _ _ (size_reaches (k * 2 ^ l) (emin_at f g) (rw long (omega arith)))

      before : ltb x (2 ^ emin_at f g) ≡ false
      before = le-ltb _ _ (size_reaches x (emin_at f g) (rw sz h))

      go : (b : Bool) → cond b (ltb (k * 2 ^ l) (2 ^ emin_at f g)) (ltb x (2 ^ emin_at f g)) ≡ false
      go true = after
      go false = before

  pub tiny-is : n ≤ emin_at f g → cond (is_set c.tininess) (leb (l + q) (emin_at f g)) true ≡ tiny_sum f c q g s x
  unfolding tiny_sum
  tiny-is h = rw (sz, ← y) (go (is_set c.tininess))
    where
      after : leb (l + q) (emin_at f g) ≡ ltb (k * 2 ^ l) (2 ^ emin_at f g)
      after = sym (ltb-size (k * 2 ^ l) (emin_at f g) ∙ ap (λ (z : ℕ). leb z (emin_at f g)) long)

      before : true ≡ ltb x (2 ^ emin_at f g)
      before = sym (lt-ltb _ _ (lt_of_lt_of_le (size-lt x) (pow_mono (subst (λ (z : ℕ). z ≤ emin_at f g) (sym sz) h))))

      go : (b : Bool) → cond b (leb (l + q) (emin_at f g)) true ≡ cond b (ltb (k * 2 ^ l) (2 ^ emin_at f g)) (ltb x (2 ^ emin_at f g))
      go true = after
      go false = before

  -- at or above emin
  pub normal-is : emin_at f g < n → precision_of f c ≡ q → round f c g s x
      ≡ cond (overflows f q g (k * 2 ^ l)) (overflow f c q s)
      (made (number_of f g s (k * 2 ^ l))
      (flag 16 (inexact (dropped x (n - q))) + flag 64 (rounds_up (rounding_of c.rounding) s (x / 2 ^ (n - q)) (dropped x (n - q)))))
  unfolding round round_to finished
  normal-is h qe =
      rw (
        qe,
        sz,
        place (emin_at f g) n q h,
        tiny-not h,
        ← y,
        flags-plain (flag 16 (inexact (dropped x (n - q)))) (flag 64 (rounds_up (rounding_of c.rounding) s (x / 2 ^ (n - q)) (dropped x (n - q)))),
      )
    where
      place : (low n q : ℕ) → low < n → max low (n - 1) + 1 - q ≡ n - q
      place low n q h = omega arith

      flags-plain : (a b : ℕ) → 0 + a + 0 + b ≡ a + b
      flags-plain a b = omega arith

-- the number that q digits are
pub number-normal : (f : Format) (g : ℕ) (s : Bool) (k q l : ℕ) → 1 ≤ q → q ≤ digits f → size k ≡ q → g + digits f ≤ l + q
    → number_of f g s (k * 2 ^ l) ≡ finite s (l + q - (g + digits f)) (k * 2 ^ (digits f - q))
unfolding number_of
number-normal f g s k q l q0 qp sz h =
    rw
    (ne_eqb (k * 2 ^ l) 0 some, exact-kept k l g (omega arith), long, shift, exact-kept k (l - g) (l + q - (g + digits f)) (omega arith), rest)
  where
    pos : 1 * 2 ^ l ≤ k * 2 ^ l
    pos = mul-le-mul_right (2 ^ l) (digits-pos k q q0 sz)

    some : k * 2 ^ l ≡ 0 → ⊥
    some z = omega (arith, z, pos, pow_pos l)

    long : size (k * 2 ^ (l - g)) ≡ l - g + q
    long = size-scaled k (l - g) (digits-pos k q q0 sz) ∙ ap (λ (z : ℕ). l - g + z) sz

    shift : l - g + q - digits f ≡ l + q - (g + digits f)
    shift = omega arith

    rest : l - g - (l + q - (g + digits f)) ≡ digits f - q
    rest = omega arith

-- ---- below emin: the digits down to u = g + (p − q)

over-small : (f : Format) (q g y : ℕ) → RangeBounds f → y ≤ 2 ^ emin_at f g → overflows f q g y ≡ false
unfolding overflows
over-small f q g y b h =
    rw
    (lt-leb _ _ (lt_of_le_of_lt h (pow-lt {i = emin_at f g} {j = suc (emax_at f g)} (omega arith))), ne_eqb y (all_ones f g p0) off)
    (last (is_no_inf (kind_of f.kind)) (eqb q (digits f)))
  where
    p0 : 1 ≤ digits f
    p0 = omega (arith, b.w-ge)

    less : 2 ^ emin_at f g < 2 ^ emax_at f g
    less = pow-lt {i = emin_at f g} {j = emax_at f g} (omega (arith, range-pos f b))

    off : y ≡ all_ones f g p0 → ⊥
    off e = omega (arith, e, ones-ge f g p0, less)

    last : (a b : Bool) → (false || (a && b && false)) ≡ false
    last true true = refl
    last true false = refl
    last false true = refl
    last false false = refl

number_small : (f : Format) (g : ℕ) (s : Bool) (k q : ℕ) → 1 ≤ q → q ≤ digits f → k ≤ 2 ^ (q - 1)
    → number_of f g s (k * 2 ^ (g + (digits f - q))) ≡ small_of s k (digits f - q)
unfolding number_of
number_small f g s zero q q0 qp h = rw (eq-eqb (0 * 2 ^ (g + (digits f - q))) 0 (omega arith))
number_small f g s (suc k) q q0 qp h =
    rw (
      ne_eqb (suc k * 2 ^ (g + (digits f - q))) 0 some,
      exact-kept (suc k) (g + (digits f - q)) g (omega arith),
      there,
      short,
      div-one (suc k * 2 ^ (digits f - q)),
      ne_eqb (suc k) 0 (λ (z : suc k ≡ 0). omega (arith, z)),
    )
  where
    some : suc k * 2 ^ (g + (digits f - q)) ≡ 0 → ⊥
    some z = omega (arith, z, suc-mul k (2 ^ (g + (digits f - q))), pow_pos (g + (digits f - q)))

    there : g + (digits f - q) - g ≡ digits f - q
    there = omega arith

    most : suc k * 2 ^ (digits f - q) < 2 ^ digits f
    most = scaled-lt (suc k) (digits f - q) q (digits f) (lt_of_le_of_lt h (pow-lt {i = q - 1} {j = q} (omega arith))) (omega arith)

    short : size (suc k * 2 ^ (digits f - q)) - digits f ≡ 0
    short = omega (arith, size-le (suc k * 2 ^ (digits f - q)) (digits f) most)

place-small : (g p n q : ℕ) → n ≤ g + (p - 1) → 1 ≤ q → q ≤ p → max (g + (p - 1)) (n - 1) + 1 - q ≡ g + (p - q)
place-small g p n q h q0 qp = omega arith

module _ (f : Format) (c : Settings) (g : ℕ) (s : Bool) (x q n : ℕ) (b : RangeBounds f) (q0 : 1 ≤ q) (qp : q ≤ digits f) (sz : size x ≡ n)
    (low : n ≤ emin_at f g) where
  pub kept_small : x / 2 ^ (g + (digits f - q)) < 2 ^ (q - 1)
  kept_small =
      shr_lt (q - 1) (g + (digits f - q))
      (lt_of_lt_of_le (size-lt x) (pow_mono (subst (λ (z : ℕ). z ≤ q - 1 + (g + (digits f - q))) (sym sz) sum)))
    where
      sum : n ≤ q - 1 + (g + (digits f - q))
      sum = omega arith

  module _ (up : Bool) (ue : up ≡ rounds_up (rounding_of c.rounding) s (x / 2 ^ (g + (digits f - q))) (dropped x (g + (digits f - q))))
      (tiny : Bool) (te : tiny ≡ tiny_sum f c q g s x) (qe : precision_of f c ≡ q) where
    few : x / 2 ^ (g + (digits f - q)) + flag 1 up ≤ 2 ^ (q - 1)
    few = omega (arith, kept_small, flag-le 1 up)

    under : (x / 2 ^ (g + (digits f - q)) + flag 1 up) * 2 ^ (g + (digits f - q)) ≤ 2 ^ emin_at f g
    under =
        subst (λ (z : ℕ). (x / 2 ^ (g + (digits f - q)) + flag 1 up) * 2 ^ (g + (digits f - q)) ≤ z)
        (pow-join (q - 1) (g + (digits f - q)) (emin_at f g) (omega arith)) (mul-le-mul_right (2 ^ (g + (digits f - q))) few)

    pub small_is : round f c g s x
        ≡ cond (tiny && is_set c.flush_to_zero) (made (zero_of s) 56)
        (made (small_of s (x / 2 ^ (g + (digits f - q)) + flag 1 up) (digits f - q))
        (flag 32 tiny + flag 16 (inexact (dropped x (g + (digits f - q)))) + flag 8 (tiny && inexact (dropped x (g + (digits f - q)))) + flag 64 up))
    unfolding round round_to finished rounded_at
    small_is =
        rw (
          qe,
          sz,
          place-small g (digits f) n q low q0 qp,
          ← te,
          ← ue,
          over-small f q g ((x / 2 ^ (g + (digits f - q)) + flag 1 up) * 2 ^ (g + (digits f - q))) b under,
          number_small f g s (x / 2 ^ (g + (digits f - q)) + flag 1 up) q q0 qp few,
        )
