-- A rounding into an Ieee format, without flush to zero, rises with the sum: in every mode, at
-- every precision, and past the largest number.
use mathlib.Core.Path.{◌≡◌, refl, sym, ap, ◌∙◌, subst}
use mathlib.Core.Bool.{Bool, false, cond, true, not, ◌&&◌, ◌||◌}
use Prim.Native.Nat.{◌-◌, ℕ, suc, ◌+◌, ◌*◌, ◌/◌, ◌^◌, ◌≤◌, ◌<◌, zero-le}
use native.Mathlib.Nat.{le_refl, le_trans, le_of_eq, not-le_of_lt, mul-le-mul_left}
use native.Mathlib.Nat.{mul-le-mul_right, mul_assoc, zero-mul, le_of_mul-le-mul_right}
use native.Mathlib.Omega.{arith}
use lib.Dec.{T, leb, eqb, le→leb, leb→le}
use lib.Pow.{pow-add, pow_pos, pow_mono}
use lib.Ieee.{size}
use lib.Ieee.Digits.{size_reaches}
use borrow.Author.Tests.{leb-true, leb-false, eqb-true, eqb-false, eq-eqb}
use Rattle.totals_spec.specs.Basics.{plus_of, minus_of, Signed, is_set}
use Rattle.totals_spec.specs.formats.Format.{Format, ieee, kind_of, digits, exponent_range, emin_at}
use Rattle.totals_spec.specs.formats.Format.{emax_at}
use Rattle.totals_spec.specs.formats.Decode.{Unpacked, is_nan, zero_of, finite, infinity}
use Rattle.totals_spec.specs.formats.Bounds.{RangeBounds}
use Rattle.totals_spec.specs.formats.Settings.{Settings, rounding_of, precision_of}
use Rattle.totals_spec.specs.rounding.Round.{rounded_at, to_infinity, overflows, largest, beyond}
use Rattle.totals_spec.specs.rounding.Round.{overflow, number_of, stored_as, finished, tiny_sum}
use Rattle.totals_spec.specs.rounding.Round.{round_to, round}
use Rattle.totals_spec.specs.sums.Totals.{sum_rounded}
use Rattle.totals_spec.specs.formats.Ordered.{at_most}
use Rattle.totals_spec.proofs.numbers.Powers.{pow-next, pow-join}
use Rattle.totals_spec.proofs.formats.ExponentRange.{range-pos}
use Rattle.totals_spec.proofs.rounding.StoredNumbers.{number-back}
use Rattle.totals_spec.proofs.rounding.LargestNumber.{largest-is}
use Rattle.totals_spec.proofs.rounding.BestBounds.{off-grid}
use Rattle.totals_spec.proofs.rounding.Cases.{place, kept, place-grid, kept-few}
use Rattle.totals_spec.proofs.rounding.RoundedNumbers.{sum-held}
use Rattle.totals_spec.proofs.formats.Valid.{format-bounds, settings-bounds, precision-most}
use Rattle.totals_spec.proofs.formats.Valid.{precision-least}
use Rattle.targets_spec.specs.contribution.Promises.{Rounding-rises}
use Rattle.targets_spec.proofs.contribution.Ranks.{extent, above_all, Extends, ordered-is}
use Rattle.targets_spec.proofs.contribution.Ranks.{held-extends}
use Rattle.targets_spec.proofs.contribution.MagnitudesRise.{from-power, places-rise}

-- a value of the sign s
pub record Signs (f : Format) (s : Bool) (v : Unpacked) : Type 0 where
  pub plus : plus_of (extent f v) ≡ cond s 0 (extent f v).mag
  pub minus : minus_of (extent f v) ≡ cond s (extent f v).mag 0
  pub whole : is_nan v ≡ false

signs-zero : (f : Format) (s t : Bool) → Signs f s (zero_of t)
signs-zero f true t = record { plus = refl; minus = refl; whole = refl }
signs-zero f false t = record { plus = refl; minus = refl; whole = refl }

signs-finite : (f : Format) (s : Bool) (k m : ℕ) → Signs f s (finite s k m)
signs-finite f s k m = record { plus = refl; minus = refl; whole = refl }

signs-infinity : (f : Format) (s : Bool) → Signs f s (infinity s)
signs-infinity f s = record { plus = refl; minus = refl; whole = refl }

module _ (f : Format) (b : RangeBounds f) (kind : kind_of f.kind ≡ ieee) (c : Settings) (fl : c.flush_to_zero ≡ 0)
    (q0 : 1 ≤ precision_of f c) (qp : precision_of f c ≤ digits f) where
  abbrev q : ℕ
  q = precision_of f c

  two : 2 ≤ digits f
  two = omega (arith, b.w-ge)

  -- q ones and zeros behind them, at the largest exponent: the largest number that a rounding gives
  abbrev most : ℕ
  most = (2 ^ q - 1) * 2 ^ (digits f - q) * 2 ^ exponent_range f

  most-lt : most ≤ above_all f
  most-lt = rw (← whole) (mul-le-mul_right (2 ^ exponent_range f) (mul-le-mul_right (2 ^ (digits f - q)) less))
    where
      less : 2 ^ q - 1 ≤ 2 ^ q
      less = omega arith

      place_is : q + (digits f - q) + exponent_range f ≡ digits f + exponent_range f
      place_is = omega (arith, qp)

      whole : 2 ^ q * 2 ^ (digits f - q) * 2 ^ exponent_range f ≡ above_all f
      whole =
          ap (λ (n : ℕ). n * 2 ^ exponent_range f) (sym (pow-add 2 q (digits f - q)))
          ∙ pow-join (q + (digits f - q)) (exponent_range f) (digits f + exponent_range f) place_is

  -- ---- one magnitude x of the sign s, on the grid g

  module _ (g : ℕ) (s : Bool) where
    -- rounded, before an overflow
    abbrev rounded : ℕ → ℕ
    rounded x = kept f c g q s x * 2 ^ place f g q x

    wide : q ≤ emin_at f g + 1
    wide = omega (arith, qp, two)

    rounded-rises : (x y : ℕ) → x ≤ y → rounded x ≤ rounded y
    rounded-rises x y h = unfold rounded_at in places-rise (rounding_of c.rounding) s (emin_at f g) q q0 wide x y h

    most-is : most * 2 ^ g ≡ (2 ^ q - 1) * 2 ^ (suc (emax_at f g) - q)
    most-is =
        mul_assoc ((2 ^ q - 1) * 2 ^ (digits f - q)) (2 ^ exponent_range f) (2 ^ g) ∙ mul_assoc (2 ^ q - 1) (2 ^ (digits f - q)) (2 ^ exponent_range f * 2 ^ g)
        ∙ ap (λ (n : ℕ). (2 ^ q - 1) * n)
        (ap (λ (n : ℕ). 2 ^ (digits f - q) * n) (sym (pow-add 2 (exponent_range f) g))
        ∙ pow-join (digits f - q) (exponent_range f + g) (suc (emax_at f g) - q) place_is)
      where
        place_is : digits f - q + (exponent_range f + g) ≡ suc (emax_at f g) - q
        place_is = omega (arith, qp, two)

    -- what does not overflow is at most that
    below-most : (x : ℕ) → rounded x < 2 ^ suc (emax_at f g) → rounded x ≤ most * 2 ^ g
    below-most x h = rw most-is (go (leb (place f g q x + q) (suc (emax_at f g))) (leb (kept f c g q s x) (2 ^ q - 1)) refl refl)
      where
        -- 2^q is one digit more
        carried : (k u : ℕ) → 2 ^ q ≤ k → k ≤ 2 ^ q → k * 2 ^ u < 2 ^ suc (emax_at f g) → k * 2 ^ u ≤ (2 ^ q - 1) * 2 ^ (suc (emax_at f g) - q)
        carried k u lo hi l = le_trans (le_of_eq (ap (λ (n : ℕ). n * 2 ^ u) k-is ∙ sym (pow-add 2 q u))) (le_trans (pow_mono fewer) last)
          where
            k-is : k ≡ 2 ^ q
            k-is = omega (arith, lo, hi)

            fewer : q + u ≤ emax_at f g
            fewer = pick (leb (suc (emax_at f g)) (q + u)) refl
              where
                pick : (t : Bool) → leb (suc (emax_at f g)) (q + u) ≡ t → q + u ≤ emax_at f g
                pick true e =
                    absurd (not-le_of_lt l (le_trans (pow_mono (leb-true (suc (emax_at f g)) (q + u) e))
                    (le_of_eq (pow-add 2 q u ∙ ap (λ (n : ℕ). n * 2 ^ u) (sym k-is)))))
                pick false e = omega (arith, leb-false (suc (emax_at f g)) (q + u) e)

            half : 2 ^ (q - 1) ≤ 2 ^ q - 1
            half = omega (arith, pow-next q q0, pow_pos (q - 1))

            place_is : q - 1 + (suc (emax_at f g) - q) ≡ emax_at f g
            place_is = omega (arith, q0, qp, two)

            last : 2 ^ emax_at f g ≤ (2 ^ q - 1) * 2 ^ (suc (emax_at f g) - q)
            last = rw (← (pow-join (q - 1) (suc (emax_at f g) - q) (emax_at f g) place_is)) (mul-le-mul_right (2 ^ (suc (emax_at f g) - q)) half)

        -- the place is not above that of q digits at emax
        deep : suc (emax_at f g) < place f g q x + q → ⊥
        deep l = not-le_of_lt h (le_trans (pow_mono {i = suc (emax_at f g)} {j = size x - 1} (omega (arith, long))) reached)
          where
            long : suc (suc (emax_at f g)) ≤ size x
            long = omega (arith, l, q0, wide, range-pos f b)

            last : size x ≡ suc (size x - 1)
            last = omega (arith, long)

            reached : 2 ^ (size x - 1) ≤ rounded x
            reached = unfold rounded_at in
                from-power (rounding_of c.rounding) s (emin_at f g) q q0 wide x (size x - 1) (size_reaches x (size x - 1) (omega (arith, last)))
                (omega (arith, long, range-pos f b)) last

        go : (a d : Bool) → leb (place f g q x + q) (suc (emax_at f g)) ≡ a → leb (kept f c g q s x) (2 ^ q - 1) ≡ d
            → rounded x ≤ (2 ^ q - 1) * 2 ^ (suc (emax_at f g) - q)
        go true true i j =
            le_trans (mul-le-mul_right (2 ^ place f g q x) (leb-true _ _ j))
            (mul-le-mul_left (2 ^ q - 1) (pow_mono {i = place f g q x} (omega (arith, leb-true (place f g q x + q) (suc (emax_at f g)) i))))
        go true false i j =
            carried (kept f c g q s x) (place f g q x) (omega (arith, leb-false (kept f c g q s x) (2 ^ q - 1) j, pow_pos q)) (kept-few f b c g q s x q0 qp) h
        go false d i j = absurd (deep (leb-false (place f g q x + q) (suc (emax_at f g)) i))

    -- ---- a number, or what an overflow gives

    overflows-is : (y : ℕ) → overflows f q g y ≡ leb (2 ^ suc (emax_at f g)) y
    unfolding overflows
    overflows-is y = rw kind (or-false (leb (2 ^ suc (emax_at f g)) y))
      where
        or-false : (t : Bool) → (t || false) ≡ t
        or-false true = refl
        or-false false = refl

    round_is : (x : ℕ) → (round f c g s x).value ≡ cond (leb (2 ^ suc (emax_at f g)) (rounded x)) (overflow f c q s).value (number_of f g s (rounded x))
    unfolding round round_to finished rounded_at
    round_is x = rw (ap is_set fl, overflows-is (rounded x)) (go (tiny_sum f c q g s x) (leb (2 ^ suc (emax_at f g)) (rounded x)) _)
      where
        go : (t o : Bool) (n : ℕ)
            → (cond (t && false) (record { value = zero_of s; flags = 8 + 16 + 32 })
            (cond o (overflow f c q s) (record { value = number_of f g s (rounded x); flags = n }))).value
            ≡ cond o (overflow f c q s).value (number_of f g s (rounded x))
        go true true n = refl
        go true false n = refl
        go false true n = refl
        go false false n = refl

    number_size : (x : ℕ) → leb (2 ^ suc (emax_at f g)) (rounded x) ≡ false → (extent f (number_of f g s (rounded x))).mag * 2 ^ g ≡ rounded x
    number_size x e =
        number-back f b g q s (kept f c g q s x) (place f g q x) q0 qp (kept-few f b c g q s x q0 qp) (place-grid f b c g q s x q0 qp)
        (overflows-is (rounded x) ∙ e) (λ (v w : Unpacked). (extent f v).mag * 2 ^ g ≡ rounded x)
        (λ k t. zero-mul (2 ^ g) ∙ sym (ap (λ (n : ℕ). n * 2 ^ place f g q x) k ∙ zero-mul (2 ^ place f g q x)))
        (λ k m h i. sym (off-grid m k g) ∙ i)

    largest_size : (extent f (largest f q s)).mag ≡ most
    largest_size = ap (λ (v : Unpacked). (extent f v).mag) (largest-is f b q q0 qp s) ∙ rw kind

    overflow-size : most ≤ (extent f (overflow f c q s).value).mag
    unfolding overflow
    overflow-size = rw kind (go (to_infinity (rounding_of c.rounding) s && not (is_set c.saturate)))
      where
        go : (t : Bool) → most ≤ (extent f (cond t (beyond ieee (largest f q s) s) (record { value = largest f q s; flags = 4 + 16 })).value).mag
        go true = most-lt
        go false = le_of_eq (sym largest_size)

    -- THE MAGNITUDES rise
    pub size-rises : (x y : ℕ) → x ≤ y → (extent f (round f c g s x).value).mag ≤ (extent f (round f c g s y).value).mag
    size-rises x y h = rw (round_is x, round_is y) (go (leb (2 ^ suc (emax_at f g)) (rounded x)) (leb (2 ^ suc (emax_at f g)) (rounded y)) refl refl)
      where
        unscaled : (m n : ℕ) → m * 2 ^ g ≤ n * 2 ^ g → m ≤ n
        unscaled m n l = le_of_mul-le-mul_right l (pow_pos g)

        go : (i j : Bool) → leb (2 ^ suc (emax_at f g)) (rounded x) ≡ i → leb (2 ^ suc (emax_at f g)) (rounded y) ≡ j
            → (extent f (cond i (overflow f c q s).value (number_of f g s (rounded x)))).mag
            ≤ (extent f (cond j (overflow f c q s).value (number_of f g s (rounded y)))).mag
        go true true a d = le_refl _
        go true false a d = absurd (not-le_of_lt (leb-false _ _ d) (le_trans (leb-true _ _ a) (rounded-rises x y h)))
        go false true a d =
            le_trans (unscaled _ most (rw (number_size x a) (below-most x (leb-false _ _ a)))) overflow-size
        go false false a d = unscaled _ _ (rw (number_size x a, number_size y d) (rounded-rises x y h))

    overflow-signs : Signs f s (overflow f c q s).value
    unfolding overflow
    overflow-signs = rw kind (go (to_infinity (rounding_of c.rounding) s && not (is_set c.saturate)))
      where
        largest-signs : Signs f s (largest f q s)
        largest-signs = subst (Signs f s) (sym (largest-is f b q q0 qp s)) (signs-finite f s _ _)

        go : (t : Bool) → Signs f s (cond t (beyond ieee (largest f q s) s) (record { value = largest f q s; flags = 4 + 16 })).value
        go true = signs-infinity f s
        go false = largest-signs

    pub round-signs : (x : ℕ) → Signs f s (round f c g s x).value
    round-signs x = rw (round_is x) (go (leb (2 ^ suc (emax_at f g)) (rounded x)))
      where
        number-signs : (y : ℕ) → Signs f s (number_of f g s y)
        number-signs y = unfold number_of in pick (eqb y 0)
          where
            pick : (z : Bool) → Signs f s (cond z (zero_of s) (stored_as s (y / 2 ^ g) (size (y / 2 ^ g) - digits f)))
            pick true = signs-zero f s s
            pick false = signs-finite f s _ _

        go : (o : Bool) → Signs f s (cond o (overflow f c q s).value (number_of f g s (rounded x)))
        go true = overflow-signs
        go false = number-signs (rounded x)

  -- ---- a sum, zeros too

  module _ (g : ℕ) (towards : Bool) where
    abbrev size_at : Bool → ℕ → ℕ
    size_at s n = cond (eqb n 0) 0 (extent f (round f c g s n).value).mag

    size-at-rises : (s : Bool) (m n : ℕ) → m ≤ n → size_at s m ≤ size_at s n
    size-at-rises s m n h = go (eqb m 0) (eqb n 0) refl refl
      where
        go : (i j : Bool) → eqb m 0 ≡ i → eqb n 0 ≡ j
            → cond i 0 (extent f (round f c g s m).value).mag ≤ cond j 0 (extent f (round f c g s n).value).mag
        go true j a d = zero-le
        go false true a d = absurd (eqb-false m 0 a (omega (arith, h, eqb-true n 0 d)))
        go false false a d = size-rises g s m n h

    record SumSigns (x : Signed) : Type 0 where
      plus : plus_of (extent f (sum_rounded f c g towards x).value) ≡ cond x.neg 0 (size_at x.neg x.mag)
      minus : minus_of (extent f (sum_rounded f c g towards x).value) ≡ cond x.neg (size_at x.neg x.mag) 0
      whole : is_nan (sum_rounded f c g towards x).value ≡ false

    sum-signs : (x : Signed) → SumSigns x
    sum-signs x = record { plus = parts.0; minus = parts.1; whole = parts.2 }
      where
        parts : (plus_of (extent f (sum_rounded f c g towards x).value) ≡ cond x.neg 0 (size_at x.neg x.mag))
            × (minus_of (extent f (sum_rounded f c g towards x).value) ≡ cond x.neg (size_at x.neg x.mag) 0)
            × (is_nan (sum_rounded f c g towards x).value ≡ false)
        parts = unfold sum_rounded in go (eqb x.mag 0)
          where
            none : (s : Bool) → ◌≡◌ {A = ℕ} 0 (cond s 0 0)
            none true = refl
            none false = refl

            go : (z : Bool) → let v = (cond z (record { value = zero_of towards; flags = 0 }) (round f c g x.neg x.mag)).value in
                let n = cond z 0 (extent f (round f c g x.neg x.mag).value).mag in
                (plus_of (extent f v) ≡ cond x.neg 0 n) × (minus_of (extent f v) ≡ cond x.neg n 0) × (is_nan v ≡ false)
            go true = (none x.neg, none x.neg, refl)
            go false = let h = round-signs g x.neg x.mag in (h.plus, h.minus, h.whole)

    pub sum-whole : (x : Signed) → is_nan (sum_rounded f c g towards x).value ≡ false
    sum-whole x = (sum-signs x).whole

    -- THE SUM rises
    pub sum-rises : (x y : Signed) → plus_of x + minus_of y ≤ plus_of y + minus_of x
        → T (at_most (extent f (sum_rounded f c g towards x).value) (extent f (sum_rounded f c g towards y).value))
    sum-rises x y h = rw ((sum-signs x).plus, (sum-signs x).minus, (sum-signs y).plus, (sum-signs y).minus) (le→leb _ _ (go x.neg y.neg x.mag y.mag h))
      where
        nought : (s : Bool) (n : ℕ) → n ≡ 0 → size_at s n ≡ 0
        nought s n e = rw (eq-eqb n 0 e)

        go : (s t : Bool) (m n : ℕ) → cond s 0 m + cond t n 0 ≤ cond t 0 n + cond s m 0
            → cond s 0 (size_at s m) + cond t (size_at t n) 0 ≤ cond t 0 (size_at t n) + cond s (size_at s m) 0
        go true true m n l = add (size-at-rises true n m (omega (arith, l)))
          where
            add : {i j : ℕ} → i ≤ j → 0 + i ≤ 0 + j
            add k = omega arith
        go true false m n l = zero-le
        go false true m n l = sum (nought false m (omega (arith, l))) (nought true n (omega (arith, l)))
          where
            sum : {i j : ℕ} → i ≡ 0 → j ≡ 0 → i + j ≤ 0 + 0
            sum k e = omega arith
        go false false m n l = add (size-at-rises false m n (omega (arith, l)))
          where
            add : {i j : ℕ} → i ≤ j → i + 0 ≤ j + 0
            add k = omega arith

-- the promise
pub rounding-rises : Rounding-rises
rounding-rises f c g towards x y v ki w fl h =
    let b = (format-bounds f v).range in
    let kind = ap kind_of ki in
    let q0 = precision-least f c b in
    let qp = precision-most f c (settings-bounds f c w) in
    let value : Signed → Unpacked = λ z. (sum_rounded f c g towards z).value in
    let inside : (z : Signed) → Extends f (sum_rounded f c g towards z).value =
    λ z. held-extends f b kind (value z) (sum-held f b c q0 qp g towards z) (sum-whole f b kind c fl q0 qp g towards z) in
    (ordered-is f (value x) (value y) (inside x) (inside y)).1 (sum-rises f b kind c fl q0 qp g towards x y (leb→le _ _ h))
