-- A rounding does not depend on the unit in which the number and the grid are counted: 2^j times as
-- many units, and the grid j higher, give the same.
use mathlib.Core.Path.{◌≡◌, sym, ap, ◌∙◌, ap₂, refl, subst}
use mathlib.Core.Bool.{Bool, true, false, not, ◌&&◌, ◌||◌, cond}
use Prim.Native.Nat.{ℕ, ◌-◌, ◌*◌, ◌^◌, ◌≤◌, ◌<◌, ◌+◌, ◌/◌, ◌%◌, zero, suc}
use native.Mathlib.Nat.{mul-lt-mul_of_pos_right, mul-le-mul_right, zero-mul, add-mul, mul_assoc}
use native.Mathlib.Nat.{mul-div-mul_right, add_comm, add-zero, mul-mod_left, mul-div_cancel}
use native.Mathlib.Nat.{mul-one}
use lib.Dec.{T, ltb, leb, ltb→lt, nltb→le, leb→le, nleb→lt, eqb, eqb→eq}
use lib.Pow.{pow_pos, pow-add, mod-pow-add, shl-shr}
use borrow.Author.Tests.{lt-ltb, le-ltb, le-leb, lt-leb, eq-eqb}
use lib.Ieee.{size}
use native.Mathlib.Omega.{arith}
use Rattle.totals_spec.specs.rounding.Round.{compared, dropped, rounds_up, rounded_at, last_place}
use Rattle.totals_spec.specs.rounding.Round.{Dropped, is_no_inf, overflows, number_of, finished}
use Rattle.totals_spec.specs.rounding.Round.{tiny_sum, Rounded, round_to, round}
use Rattle.totals_spec.specs.Basics.{flag, Signed, raised, is_set}
use Rattle.totals_spec.specs.formats.Settings.{Rounding, Settings, rounding_of, precision_of}
use Rattle.totals_spec.specs.formats.Bounds.{RangeBounds}
use Rattle.totals_spec.specs.formats.Format.{Format, kind_of, digits, emin_at, emax_at}
use Rattle.totals_spec.specs.formats.Decode.{zero_of}
use Rattle.totals_spec.specs.sums.Totals.{sum_rounded}
use Rattle.totals_spec.proofs.numbers.Powers.{eqb-scaled, size-scaled}
use Rattle.totals_spec.proofs.rounding.BesideTheSum.{nothing-stays}
use Rattle.totals_spec.proofs.numbers.Bits.{pow-split, size-pos}

-- ---- tests of numbers that are 2^n times as large

module _ (a b n : ℕ) where
  ltb-scaled : ltb (a * 2 ^ n) (b * 2 ^ n) ≡ ltb a b
  ltb-scaled = go (ltb a b) (ltb→lt a b) (nltb→le a b)
    where
      go : (t : Bool) → (T t → a < b) → (T (not t) → b ≤ a) → ltb (a * 2 ^ n) (b * 2 ^ n) ≡ t
      go true l g = lt-ltb (a * 2 ^ n) (b * 2 ^ n) (mul-lt-mul_of_pos_right (l tt) (pow_pos n))
      go false l g = le-ltb (a * 2 ^ n) (b * 2 ^ n) (mul-le-mul_right (2 ^ n) (g tt))

  leb-scaled : leb (a * 2 ^ n) (b * 2 ^ n) ≡ leb a b
  leb-scaled = go (leb a b) (leb→le a b) (nleb→lt a b)
    where
      go : (t : Bool) → (T t → a ≤ b) → (T (not t) → b < a) → leb (a * 2 ^ n) (b * 2 ^ n) ≡ t
      go true l g = le-leb (a * 2 ^ n) (b * 2 ^ n) (mul-le-mul_right (2 ^ n) (l tt))
      go false l g = lt-leb (a * 2 ^ n) (b * 2 ^ n) (mul-lt-mul_of_pos_right (g tt) (pow_pos n))

none-scaled : (m n : ℕ) → eqb (m * 2 ^ n) 0 ≡ eqb m 0
none-scaled m n = ap (eqb (m * 2 ^ n)) (sym (zero-mul (2 ^ n))) ∙ sym (eqb-scaled m 0 n)

compared-scaled : (d w n : ℕ) → compared (d * 2 ^ n) (w * 2 ^ n) ≡ compared d w
compared-scaled d w n = rw (none-scaled d n, ← (add-mul d d (2 ^ n)), ltb-scaled (d + d) w n, ← (eqb-scaled (d + d) w n))

-- ---- a magnitude x in finer units

module _ (x j : ℕ) where
  kept-finer : (u : ℕ) → x * 2 ^ j / 2 ^ (u + j) ≡ x / 2 ^ u
  kept-finer u = ap (λ (n : ℕ). x * 2 ^ j / n) (pow-add 2 u j) ∙ mul-div-mul_right x (2 ^ u) (pow_pos j)

  rest-finer : (u : ℕ) → x * 2 ^ j % 2 ^ (u + j) ≡ x % 2 ^ u * 2 ^ j
  rest-finer u =
      mod-pow-add (x * 2 ^ j) u j ∙ ap₂ (λ (m n : ℕ). m % 2 ^ u * 2 ^ j + n) (shl-shr x j) (mul-mod_left x (2 ^ j)) ∙ add-zero (x % 2 ^ u * 2 ^ j)

  dropped-finer : (u : ℕ) → dropped (x * 2 ^ j) (u + j) ≡ dropped x u
  unfolding dropped
  dropped-finer u = ap₂ compared (rest-finer u) (pow-add 2 u j) ∙ compared-scaled (x % 2 ^ u) (2 ^ u) j

  rounded-finer : (m : Rounding) (s : Bool) (u : ℕ) → rounded_at m s (x * 2 ^ j) (u + j) ≡ rounded_at m s x u * 2 ^ j
  unfolding rounded_at
  rounded-finer m s u =
      rw (kept-finer u, dropped-finer u, pow-add 2 u j)
      (sym (mul_assoc (x / 2 ^ u + flag 1 (rounds_up m s (x / 2 ^ u) (dropped x u))) (2 ^ u) (2 ^ j)))

  size-finer : 0 < x → size (x * 2 ^ j) ≡ size x + j
  size-finer h = size-scaled x j h ∙ add_comm j (size x)

-- nothing is dropped at a place that divides the number
exact-at : (m : Rounding) (s : Bool) (x u : ℕ) → rounded_at m s (x * 2 ^ u) u ≡ x * 2 ^ u
unfolding rounded_at dropped
exact-at m s x u = rw (mul-mod_left x (2 ^ u), nothing-stays m s (x * 2 ^ u / 2 ^ u), mul-div_cancel x (pow_pos u), add-zero x)

-- the digits without limit on the exponent; where there are no more than q, nothing is dropped
unlimited-finer : (j : ℕ) (m : Rounding) (s : Bool) (x q : ℕ) → 0 < x
    → rounded_at m s (x * 2 ^ j) (size (x * 2 ^ j) - q) ≡ rounded_at m s x (size x - q) * 2 ^ j
unlimited-finer j m s x q h =
    ap (λ (n : ℕ). rounded_at m s (x * 2 ^ j) (n - q)) (size-finer x j h) ∙ go (leb q (size x)) (leb→le q (size x)) (nleb→lt q (size x))
  where
    many : q ≤ size x → size x + j - q ≡ size x - q + j
    many k = omega arith

    go : (t : Bool) → (T t → q ≤ size x) → (T (not t) → size x < q) → rounded_at m s (x * 2 ^ j) (size x + j - q) ≡ rounded_at m s x (size x - q) * 2 ^ j
    go true k l = ap (rounded_at m s (x * 2 ^ j)) (many (k tt)) ∙ rounded-finer x j m s (size x - q)
    go false k l =
        ap (λ (n : ℕ). rounded_at m s n v) split ∙ exact-at m s (x * 2 ^ (j - v)) v ∙ sym split
        ∙ ap (λ (n : ℕ). n * 2 ^ j) (sym (mul-one x) ∙ sym (exact-at m s x 0) ∙ ap₂ (rounded_at m s) (mul-one x) (sym short))
      where
        v : ℕ
        v = size x + j - q

        short : size x - q ≡ 0
        short = omega (arith, l tt)

        low : size x + j - q ≤ j
        low = omega (arith, l tt)

        split : x * 2 ^ j ≡ x * 2 ^ (j - v) * 2 ^ v
        split = ap (λ (n : ℕ). x * n) (pow-split v j low) ∙ sym (mul_assoc x (2 ^ (j - v)) (2 ^ v))

-- ---- the rounding

place-finer : (low q n j : ℕ) → q ≤ low + 1 → 0 < n → last_place (low + j) q (n + j) ≡ last_place low q n + j
place-finer low q n j h k = omega arith

module _ (f : Format) (c : Settings) (b : RangeBounds f) (most : precision_of f c ≤ digits f) (g j : ℕ) where
  emin-finer : emin_at f (g + j) ≡ emin_at f g + j
  emin-finer = omega arith

  emax-finer : suc (emax_at f (g + j)) ≡ suc (emax_at f g) + j
  emax-finer = omega arith

  number-finer : (s : Bool) (y : ℕ) → number_of f (g + j) s (y * 2 ^ j) ≡ number_of f g s y
  unfolding number_of
  number-finer s y = rw (none-scaled y j, kept-finer y j g)

  overflows-finer : (q y : ℕ) → overflows f q (g + j) (y * 2 ^ j) ≡ overflows f q g y
  unfolding overflows
  overflows-finer q y = ap₂ (λ (a b : Bool). a || (is_no_inf (kind_of f.kind) && eqb q (digits f) && b)) high ones
    where
      high : leb (2 ^ suc (emax_at f (g + j))) (y * 2 ^ j) ≡ leb (2 ^ suc (emax_at f g)) y
      high =
          ap (λ (n : ℕ). leb n (y * 2 ^ j)) (ap (λ (n : ℕ). 2 ^ n) emax-finer ∙ pow-add 2 (suc (emax_at f g)) j)
          ∙ leb-scaled (2 ^ suc (emax_at f g)) y j

      last : ℕ
      last = suc (emax_at f g) - digits f

      place : suc (emax_at f (g + j)) - digits f ≡ suc (emax_at f g) - digits f + j
      place = omega (arith, b.w-ge)

      top : (2 ^ digits f - 1) * 2 ^ (suc (emax_at f (g + j)) - digits f) ≡ (2 ^ digits f - 1) * 2 ^ last * 2 ^ j
      top =
          ap (λ (n : ℕ). (2 ^ digits f - 1) * n) (ap (λ (n : ℕ). 2 ^ n) place ∙ pow-add 2 last j)
          ∙ sym (mul_assoc (2 ^ digits f - 1) (2 ^ last) (2 ^ j))

      ones : eqb (y * 2 ^ j) ((2 ^ digits f - 1) * 2 ^ (suc (emax_at f (g + j)) - digits f)) ≡ eqb y ((2 ^ digits f - 1) * 2 ^ (suc (emax_at f g) - digits f))
      ones = ap (eqb (y * 2 ^ j)) top ∙ sym (eqb-scaled y ((2 ^ digits f - 1) * 2 ^ last) j)

  finished-finer : (q : ℕ) (s tiny : Bool) (d : Dropped) (up : Bool) (y : ℕ)
      → finished f c q (g + j) s tiny d up (y * 2 ^ j) ≡ finished f c q g s tiny d up y
  unfolding finished
  finished-finer q s tiny d up y = rw (overflows-finer q y, number-finer s y)

  tiny-finer : (q : ℕ) (s : Bool) (x : ℕ) → 0 < x → tiny_sum f c q (g + j) s (x * 2 ^ j) ≡ tiny_sum f c q g s x
  unfolding tiny_sum
  tiny-finer q s x h = ap₂ (λ (a b : Bool). cond (is_set c.tininess) a b) late early
    where
      m : Rounding
      m = rounding_of c.rounding

      least : 2 ^ emin_at f (g + j) ≡ 2 ^ emin_at f g * 2 ^ j
      least = ap (λ (n : ℕ). 2 ^ n) emin-finer ∙ pow-add 2 (emin_at f g) j

      early : ltb (x * 2 ^ j) (2 ^ emin_at f (g + j)) ≡ ltb x (2 ^ emin_at f g)
      early = ap (ltb (x * 2 ^ j)) least ∙ ltb-scaled x (2 ^ emin_at f g) j

      late : ltb (rounded_at m s (x * 2 ^ j) (size (x * 2 ^ j) - q)) (2 ^ emin_at f (g + j)) ≡ ltb (rounded_at m s x (size x - q)) (2 ^ emin_at f g)
      late = ap₂ ltb (unlimited-finer j m s x q h) least ∙ ltb-scaled (rounded_at m s x (size x - q)) (2 ^ emin_at f g) j

  round-finer : (s : Bool) (x : ℕ) → 0 < x → round f c (g + j) s (x * 2 ^ j) ≡ round f c g s x
  unfolding round round_to
  round-finer s x h =
      rw (place, tiny-finer q s x h, dropped-finer x j u, kept-finer x j u, rounded-finer x j m s u)
      (finished-finer q s (tiny_sum f c q g s x) (dropped x u) (rounds_up m s (x / 2 ^ u) (dropped x u)) (rounded_at m s x u))
    where
      q : ℕ
      q = precision_of f c

      m : Rounding
      m = rounding_of c.rounding

      u : ℕ
      u = last_place (emin_at f g) (precision_of f c) (size x)

      wide : precision_of f c ≤ emin_at f g + 1
      wide = omega (arith, most, b.w-ge)

      place : last_place (emin_at f (g + j)) (precision_of f c) (size (x * 2 ^ j)) ≡ u + j
      place =
          ap₂ (λ (a b : ℕ). last_place a (precision_of f c) b) emin-finer (size-finer x j h)
          ∙ place-finer (emin_at f g) (precision_of f c) (size x) j wide (size-pos x h)

  -- of a sum, a zero too
  pub sum-finer : (towards : Bool) (x : Signed) → sum_rounded f c (g + j) towards (raised j x) ≡ sum_rounded f c g towards x
  unfolding sum_rounded raised
  sum-finer towards x = rw (none-scaled x.mag j) (go x.mag (eqb x.mag 0) (eqb→eq x.mag 0) (λ e. subst T (sym (eq-eqb x.mag 0 e)) tt))
    where
      zero-of : Rounded
      zero-of = record { value = zero_of towards; flags = 0 }

      go : (n : ℕ) (z : Bool) → (T z → n ≡ 0) → (n ≡ 0 → T z)
          → cond z zero-of (round f c (g + j) x.neg (n * 2 ^ j)) ≡ cond z zero-of (round f c g x.neg n)
      go n true e k = refl
      go zero false e k = absurd (k refl)
      go (suc n) false e k = round-finer x.neg (suc n) (omega arith)
