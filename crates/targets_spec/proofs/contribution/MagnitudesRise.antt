-- A rounded magnitude rises with the magnitude: in every mode, to any number of digits, and on the
-- subnormal grid.
use Prim.Native.Nat.{ℕ, ◌-◌, ◌+◌, ◌≤◌, ◌<◌, zero-le, suc, ◌*◌, ◌/◌, ◌%◌, ◌^◌}
use mathlib.Core.Bool.{Bool, not, cond, true, false, ◌&&◌, ◌||◌}
use mathlib.Core.Path.{◌≡◌, refl, sym, ap, subst}
use lib.Dec.{leb, ltb, eqb}
use native.Mathlib.Nat.{le_refl, le_of_lt, lt_of_lt_of_le, le_trans, lt_of_le_of_lt, le_antisymm}
use native.Mathlib.Nat.{le-add_right, mul-le-mul_right, le-div_iff_mul-le, div-add-mod'}
use native.Mathlib.Omega.{arith}
use lib.Arith.{lt_of_le-ne}
use borrow.Author.Tests.{ltb-false, eqb-false, le-ltb, ne_eqb, leb-true, le-leb, ltb-true}
use borrow.Author.Tests.{leb-false}
use lib.Pow.{pow_pos, pow_mono, shr_mono, shr_lt}
use lib.Ieee.{size}
use lib.Ieee.Digits.{size-lt, size_reaches, size-le}
use Rattle.totals_spec.specs.rounding.Round.{Dropped, nothing, below_half, at_half, above_half, odd}
use Rattle.totals_spec.specs.rounding.Round.{is_half, is_above, inexact, rounds_up, compared}
use Rattle.totals_spec.specs.rounding.Round.{dropped, rounded_at, last_place}
use Rattle.totals_spec.specs.formats.Settings.{Rounding, ties_to_even, ties_to_away}
use Rattle.totals_spec.specs.formats.Settings.{ties_toward_zero, toward_positive, toward_negative}
use Rattle.totals_spec.specs.formats.Settings.{toward_zero, away_from_zero, to_odd}
use Rattle.totals_spec.specs.Basics.{flag}
use Rattle.totals_spec.proofs.numbers.Bits.{pow-split}

-- ---- each mode goes up from a level of the dropped part on: 1 below a half, 2 a half, 3 above it,
-- 4 never

abbrev level : Dropped → ℕ
level nothing = 0
level below_half = 1
level at_half = 2
level above_half = 3

abbrev threshold : Rounding → Bool → ℕ → ℕ
threshold ties_to_even s kept = cond (odd kept) 2 3
threshold ties_to_away s kept = 2
threshold ties_toward_zero s kept = 3
threshold toward_positive s kept = cond (not s) 1 4
threshold toward_negative s kept = cond s 1 4
threshold toward_zero s kept = 4
threshold away_from_zero s kept = 1
threshold to_odd s kept = cond (not (odd kept)) 1 4

by-half : (o : Bool) (d : Dropped) → (is_above d || (is_half d && o)) ≡ leb (cond o 2 3) (level d)
by-half true nothing = refl
by-half true below_half = refl
by-half true at_half = refl
by-half true above_half = refl
by-half false nothing = refl
by-half false below_half = refl
by-half false at_half = refl
by-half false above_half = refl

by_all : (o : Bool) (d : Dropped) → (inexact d && o) ≡ leb (cond o 1 4) (level d)
by_all true nothing = refl
by_all true below_half = refl
by_all true at_half = refl
by_all true above_half = refl
by_all false nothing = refl
by_all false below_half = refl
by_all false at_half = refl
by_all false above_half = refl

up_is : (m : Rounding) (s : Bool) (kept : ℕ) (d : Dropped) → rounds_up m s kept d ≡ leb (threshold m s kept) (level d)
up_is ties_to_even s kept d = by-half (odd kept) d
up_is ties_to_away s kept nothing = refl
up_is ties_to_away s kept below_half = refl
up_is ties_to_away s kept at_half = refl
up_is ties_to_away s kept above_half = refl
up_is ties_toward_zero s kept nothing = refl
up_is ties_toward_zero s kept below_half = refl
up_is ties_toward_zero s kept at_half = refl
up_is ties_toward_zero s kept above_half = refl
up_is toward_positive s kept d = by_all (not s) d
up_is toward_negative s kept d = by_all s d
up_is toward_zero s kept nothing = refl
up_is toward_zero s kept below_half = refl
up_is toward_zero s kept at_half = refl
up_is toward_zero s kept above_half = refl
up_is away_from_zero s kept nothing = refl
up_is away_from_zero s kept below_half = refl
up_is away_from_zero s kept at_half = refl
up_is away_from_zero s kept above_half = refl
up_is to_odd s kept d = by_all (not (odd kept)) d

-- a larger part dropped has a level as high
level-rises : (d e w : ℕ) → d ≤ e → level (compared d w) ≤ level (compared e w)
level-rises d e w h = go (eqb d 0) (ltb (d + d) w) (eqb (d + d) w) refl refl refl
  where
    some : eqb d 0 ≡ false → 0 < e
    some z = omega (arith, eqb-false d 0 z, h)

    one : 0 < e → 1 ≤ level (compared e w)
    one p = rw (ne_eqb e 0 (λ z. omega (arith, z, p))) (pick (ltb (e + e) w) (eqb (e + e) w))
      where
        pick : (a b : Bool) → 1 ≤ level (cond a below_half (cond b at_half above_half))
        pick true b = le_refl 1
        pick false true = omega arith
        pick false false = omega arith

    two : 0 < e → w ≤ e + e → 2 ≤ level (compared e w)
    two p k = rw (ne_eqb e 0 (λ z. omega (arith, z, p)), le-ltb (e + e) w k) (pick (eqb (e + e) w))
      where
        pick : (b : Bool) → 2 ≤ level (cond b at_half above_half)
        pick true = le_refl 2
        pick false = omega arith

    three : 0 < e → w < e + e → 3 ≤ level (compared e w)
    three p k = rw (ne_eqb e 0 (λ z. omega (arith, z, p)), le-ltb (e + e) w (le_of_lt k), ne_eqb (e + e) w (λ z. omega (arith, z, k))) (le_refl 3)

    go : (z a b : Bool) → eqb d 0 ≡ z → ltb (d + d) w ≡ a → eqb (d + d) w ≡ b
        → level (cond z nothing (cond a below_half (cond b at_half above_half))) ≤ level (compared e w)
    go true a b i j k = zero-le
    go false true b i j k = one (some i)
    go false false true i j k = two (some i) (omega (arith, ltb-false (d + d) w j, h))
    go false false false i j k = three (some i) (lt_of_lt_of_le (lt_of_le-ne (ltb-false (d + d) w j) (λ z. eqb-false (d + d) w k (sym z))) twice)
      where
        twice : d + d ≤ e + e
        twice = omega (arith, h)

-- ---- rounding at one place

flag-le : (b : Bool) → flag 1 b ≤ 1
flag-le true = le_refl 1
flag-le false = zero-le

flag-rises : (t i j : ℕ) → i ≤ j → flag 1 (leb t i) ≤ flag 1 (leb t j)
flag-rises t i j h = go (leb t i) refl
  where
    go : (b : Bool) → leb t i ≡ b → flag 1 b ≤ flag 1 (leb t j)
    go true e = rw (le-leb t j (le_trans (leb-true t i e) h)) (le_refl 1)
    go false e = zero-le

module _ (m : Rounding) (s : Bool) where
  rounded-low : (x u : ℕ) → x / 2 ^ u * 2 ^ u ≤ rounded_at m s x u
  unfolding rounded_at
  rounded-low x u = mul-le-mul_right (2 ^ u) (le-add_right (x / 2 ^ u) (flag 1 (rounds_up m s (x / 2 ^ u) (dropped x u))))

  rounded-high : (x u : ℕ) → rounded_at m s x u ≤ suc (x / 2 ^ u) * 2 ^ u
  unfolding rounded_at
  rounded-high x u = mul-le-mul_right (2 ^ u) (omega (arith, flag-le (rounds_up m s (x / 2 ^ u) (dropped x u))))

  -- of one quotient the larger remainder
  same-quotient : (q d e w : ℕ) → d ≤ e → q + flag 1 (rounds_up m s q (compared d w)) ≤ q + flag 1 (rounds_up m s q (compared e w))
  same-quotient q d e w h =
      rw (up_is m s q (compared d w), up_is m s q (compared e w)) (add (flag-rises (threshold m s q) _ _ (level-rises d e w h)))
    where
      add : {i j : ℕ} → i ≤ j → q + i ≤ q + j
      add h = omega arith

  rounded-rises : (x y u : ℕ) → x ≤ y → rounded_at m s x u ≤ rounded_at m s y u
  rounded-rises x y u h = go (ltb (x / 2 ^ u) (y / 2 ^ u)) refl
    where
      same : x / 2 ^ u ≡ y / 2 ^ u → rounded_at m s x u ≤ rounded_at m s y u
      same e = unfold rounded_at dropped in rw (← e) (mul-le-mul_right (2 ^ u) (same-quotient (x / 2 ^ u) (x % 2 ^ u) (y % 2 ^ u) (2 ^ u) rest))
        where
          rest : x % 2 ^ u ≤ y % 2 ^ u
          rest = omega (arith, div-add-mod' x (2 ^ u), div-add-mod' y (2 ^ u), ap (λ (n : ℕ). n * 2 ^ u) e)

      go : (b : Bool) → ltb (x / 2 ^ u) (y / 2 ^ u) ≡ b → rounded_at m s x u ≤ rounded_at m s y u
      go true e = le_trans (rounded-high x u) (le_trans (mul-le-mul_right (2 ^ u) (ltb-true (x / 2 ^ u) (y / 2 ^ u) e)) (rounded-low y u))
      go false e = same (le_antisymm (shr_mono u h) (ltb-false (x / 2 ^ u) (y / 2 ^ u) e))

  -- ---- at the places of a format: q digits, and none below the subnormal grid

  module _ (low q : ℕ) (q1 : 1 ≤ q) (ql : q ≤ low + 1) where
    abbrev rounded : ℕ → ℕ
    rounded x = rounded_at m s x (last_place low q (size x))

    -- below a power of two that lies above the grid's, and from one on
    pub under-power : (x j : ℕ) → x < 2 ^ j → low < j → rounded x ≤ 2 ^ j
    under-power x j h l = le_trans (rounded-high x u) (rw (pow-split u j place) (mul-le-mul_right (2 ^ u) less))
      where
        u : ℕ
        u = last_place low q (size x)

        place : last_place low q (size x) ≤ j
        place = omega (arith, size-le x j h)

        back : j - last_place low q (size x) + last_place low q (size x) ≡ j
        back = omega (arith, place)

        less : x / 2 ^ u < 2 ^ (j - u)
        less = shr_lt (j - u) u (subst (λ (n : ℕ). x < 2 ^ n) (sym back) h)

    pub from-power : (x j : ℕ) → 2 ^ j ≤ x → low ≤ j → size x ≡ suc j → 2 ^ j ≤ rounded x
    from-power x j h l e = le_trans (rw (pow-split u j place) (mul-le-mul_right (2 ^ u) more)) (rounded-low x u)
      where
        u : ℕ
        u = last_place low q (size x)

        place : last_place low q (size x) ≤ j
        place = omega (arith, e)

        more : 2 ^ (j - u) ≤ x / 2 ^ u
        more = (le-div_iff_mul-le (pow_pos u)).1 (subst (λ (n : ℕ). n ≤ x) (pow-split u j place) h)

    -- THE LAW
    pub places-rise : (x y : ℕ) → x ≤ y → rounded x ≤ rounded y
    places-rise x y h = go (leb (size y) (suc low)) (leb (size y) (size x)) refl refl
      where
        sizes : size x ≤ size y
        sizes = size-le x (size y) (lt_of_le_of_lt h (size-lt y))

        at_one : last_place low q (size x) ≡ last_place low q (size y) → rounded x ≤ rounded y
        at_one e = rw e (rounded-rises x y (last_place low q (size y)) h)

        apart : suc low < size y → size x < size y → rounded x ≤ rounded y
        apart k l =
            le_trans (under-power x (size y - 1) (lt_of_lt_of_le (size-lt x) (pow_mono shorter)) deep)
            (from-power y (size y - 1) (size_reaches y (size y - 1) last) (le_of_lt deep) whole)
          where
            shorter : size x ≤ size y - 1
            shorter = omega (arith, l)

            deep : low < size y - 1
            deep = omega (arith, k)

            last : size y - 1 < size y
            last = omega (arith, k)

            whole : size y ≡ suc (size y - 1)
            whole = omega (arith, k)

        small : size y ≤ suc low → last_place low q (size x) ≡ last_place low q (size y)
        small k = omega (arith, sizes, k)

        go : (a b : Bool) → leb (size y) (suc low) ≡ a → leb (size y) (size x) ≡ b → rounded x ≤ rounded y
        go true b i j = at_one (small (leb-true (size y) (suc low) i))
        go false true i j = at_one (ap (last_place low q) (le_antisymm sizes (leb-true (size y) (size x) j)))
        go false false i j = apart (leb-false (size y) (suc low) i) (leb-false (size y) (size x) j)
