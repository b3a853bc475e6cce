-- What follows of every rounding: a number stays, how far off it is, that it rises, and that what a
-- format holds comes as it is.
use mathlib.Core.Path.{◌≡◌, refl, sym, subst}
use mathlib.Core.Logic.{◌↔◌, inl, inr}
use mathlib.Core.Bool.{Bool, true, false, ◌&&◌, true≢false}
use Prim.Native.Nat.{ℕ, ◌+◌, ◌-◌, ◌*◌, ◌≤◌, ◌<◌, max}
use native.Mathlib.Nat.{le_antisymm, le_refl}
use native.Mathlib.Omega.{arith}
use lib.Dec.{eqb}
use lib.Ieee.{size}
use borrow.Author.Tests.{eqb-true, eqb-false}
use Rattle.totals_spec.specs.Basics.{flag}
use Rattle.totals_spec.specs.formats.Settings.{rounding_of, precision_of}
use Rattle.totals_spec.specs.formats.Settings.{ties_to_even, ties_to_away, ties_toward_zero}
use Rattle.totals_spec.specs.formats.Settings.{toward_positive, toward_negative}
use Rattle.totals_spec.specs.formats.Settings.{toward_zero, away_from_zero, to_odd}
use Rattle.totals_spec.specs.formats.Decode.{Unpacked}
use Rattle.totals_spec.specs.rounding.Round.{last_place}
use Rattle.totals_spec.proofs.formats.Valid.{precision-least}
use Rattle.targets_spec.proofs.contribution.MagnitudesRise.{places-rise}
use Rattle.promises.specs.Numbers.{Number, distance, is_nearest, Nearest, Floor, Ceiling, Neighbour, RoundsTo}
use Rattle.promises.specs.Rounding.{grid_of, Worth, Tiny, Once, flushed, overflowed, number}
use Rattle.promises.specs.Statements.{Number-stays, unit, Within-unit, Half-unit, Rises, Held-exactly, Once-near}
use Rattle.promises.proofs.roundings.OneAnswer.{rounds-to-one, largest-one}
use Rattle.promises.proofs.roundings.CutsByRule.{u, r, F, C, parts, rest-lt, next, floor-number, ceiling-number, floor-is, ceiling-is, exact, cut-rounds}

-- ---- a number stays

module _ (q grid x y : ℕ) (n : Number q grid x) where
  near-stays : {Wins : ℕ → ℕ → Type 0} → Nearest q grid Wins x y → y ≡ x
  near-stays a = omega (arith, a.nearest x n)

  floor-stays : Floor q grid x y → y ≡ x
  floor-stays a = le_antisymm a.below (a.greatest x n (le_refl x))

  ceiling-stays : Ceiling q grid x y → y ≡ x
  ceiling-stays a = le_antisymm (a.least x n (le_refl x)) a.above

pub number-stays : Number-stays
number-stays ties_to_even q g s x y n a = near-stays q g x y n a
number-stays ties_to_away q g s x y n a = near-stays q g x y n a
number-stays ties_toward_zero q g s x y n a = near-stays q g x y n a
number-stays toward_positive q g true x y n a = floor-stays q g x y n a
number-stays toward_positive q g false x y n a = ceiling-stays q g x y n a
number-stays toward_negative q g true x y n a = ceiling-stays q g x y n a
number-stays toward_negative q g false x y n a = floor-stays q g x y n a
number-stays toward_zero q g s x y n a = floor-stays q g x y n a
number-stays away_from_zero q g s x y n a = ceiling-stays q g x y n a
number-stays to_odd q g s x y n a = a.exact n

-- ---- how far off

module _ (q grid x y : ℕ) (q0 : 0 < q) where
  rest : ℕ
  rest = r q grid x q0

  pub half : {Wins : ℕ → ℕ → Type 0} → Nearest q grid Wins x y → 2 * distance x y ≤ unit q grid x
  half a =
      omega (
        arith,
        a.nearest (F q grid x q0) (floor-number q grid x q0),
        a.nearest (C q grid x q0) (ceiling-number q grid x q0),
        parts q grid x q0,
        rest-lt q grid x q0,
        next q grid x q0,
      )

  below-unit : Floor q grid x y → distance x y < unit q grid x
  below-unit a =
      omega (arith, a.below, a.greatest (F q grid x q0) (floor-number q grid x q0) (floor-is q grid x q0).below, parts q grid x q0, rest-lt q grid x q0)

  above-unit : Ceiling q grid x y → distance x y < unit q grid x
  above-unit a = go (eqb (r q grid x q0) 0) refl
    where
      go : (t : Bool) → eqb (r q grid x q0) 0 ≡ t → distance x y < unit q grid x
      go true t =
          let z : F q grid x q0 ≡ x = exact q grid x q0 (eqb-true (r q grid x q0) 0 t) in
          let w : y ≤ F q grid x q0 = a.least (F q grid x q0) (floor-number q grid x q0) (let k : x ≤ F q grid x q0 = omega (arith, z) in k) in
          omega (arith, a.above, z, w, rest-lt q grid x q0)
      go false t =
          let p : 0 < r q grid x q0 = omega (arith, eqb-false (r q grid x q0) 0 t) in
          let w : y ≤ C q grid x q0 = a.least (C q grid x q0) (ceiling-number q grid x q0) (ceiling-is q grid x q0 p).above in
          omega (arith, a.above, w, next q grid x q0, parts q grid x q0, p)

  near-unit : {Wins : ℕ → ℕ → Type 0} → Nearest q grid Wins x y → distance x y < unit q grid x
  near-unit a = omega (arith, half a, rest-lt q grid x q0)

pub half-unit : Half-unit
half-unit ties_to_even q g s x y e n a = half q g x y n a
half-unit ties_to_away q g s x y e n a = half q g x y n a
half-unit ties_toward_zero q g s x y e n a = half q g x y n a
half-unit toward_positive q g s x y e n a = absurd (true≢false (sym e))
half-unit toward_negative q g s x y e n a = absurd (true≢false (sym e))
half-unit toward_zero q g s x y e n a = absurd (true≢false (sym e))
half-unit away_from_zero q g s x y e n a = absurd (true≢false (sym e))
half-unit to_odd q g s x y e n a = absurd (true≢false (sym e))

pub within-unit : Within-unit
within-unit ties_to_even q g s x y n a = near-unit q g x y n a
within-unit ties_to_away q g s x y n a = near-unit q g x y n a
within-unit ties_toward_zero q g s x y n a = near-unit q g x y n a
within-unit toward_positive q g true x y n a = below-unit q g x y n a
within-unit toward_positive q g false x y n a = above-unit q g x y n a
within-unit toward_negative q g true x y n a = above-unit q g x y n a
within-unit toward_negative q g false x y n a = below-unit q g x y n a
within-unit toward_zero q g s x y n a = below-unit q g x y n a
within-unit away_from_zero q g s x y n a = above-unit q g x y n a
within-unit to_odd q g s x y n a = by a.neighbour
  where
    by : Neighbour q g x y → distance x y < unit q g x
    by (inl f) = below-unit q g x y n f
    by (inr c) = above-unit q g x y n c

-- ---- a larger magnitude

pub rises : Rises
rises m q grid s x x' y y' q0 h a b =
    rw (
      rounds-to-one m q grid s x y _ a (cut-rounds m q grid s x q0),
      rounds-to-one m q grid s x' y' _ b (cut-rounds m q grid s x' q0),
      ← (place (size x)),
      ← (place (size x')),
    ) (places-rise m s (grid + (q - 1)) q q0 low x x' h)
  where
    low : q ≤ grid + (q - 1) + 1
    low = omega (arith, q0)

    place : (n : ℕ) → last_place (grid + (q - 1)) q n ≡ max grid (n - q)
    place n = go n
      where
        go : (n : ℕ) → max (grid + (q - 1)) (n - 1) + 1 - q ≡ max grid (n - q)
        go n = omega (arith, q0)

-- ---- what the format holds

pub held-exactly : Held-exactly
held-exactly f c g s x v n h nf o = go o
  where
    holds : Number (precision_of f c) (grid_of f (precision_of f c) g) x
    holds = record {
      significand = h.significand;
      exponent = h.exponent + grid_of f (precision_of f c) g;
      short = h.short;
      above = omega arith;
      is = h.is;
    }

    none : (i : Bool) → ((i ≡ true) → ⊥) → i ≡ false
    none true e = absurd (e refl)
    none false e = refl

    go : {v : Unpacked} {n : ℕ} → Once f c g s x v n → Worth f g v s x × ((t : Bool) × ((t ≡ true) ↔ Tiny f c g s x) × (n ≡ flag 32 t))
    go (flushed e) = absurd (nf e)
    go (overflowed y m v k nf r l o p) =
        absurd (let e : y ≡ x = number-stays _ _ _ s x y holds r in let z : ⊥ = omega (arith, e, o, l.most x h) in z)
    go (number y m v t i u nf r l o p a b d) = (subst (Worth f g v s) e p, (t, a, same))
      where
        e : y ≡ x
        e = number-stays _ _ _ s x y holds r

        i0 : i ≡ false
        i0 = none i (λ z. b.0 z e)

        u0 : u ≡ false
        u0 = none u (λ z. let w : ⊥ = omega (arith, d.0 z, e) in w)

        and-false : (t : Bool) → (t && false) ≡ false
        and-false true = refl
        and-false false = refl

        same : flag 32 t + flag 16 i + flag 8 (t && i) + flag 64 u ≡ flag 32 t
        same = rw (i0, u0, and-false t) (omega arith)

-- ---- how far off a total is

pub once-near : Once-near
once-near f c g s x most v n b w top h nf o = go o
  where
    q : ℕ
    q = precision_of f c

    q0 : 0 < precision_of f c
    q0 = precision-least f c b

    grid : ℕ
    grid = grid_of f (precision_of f c) g

    top-number : Number (precision_of f c) (grid_of f (precision_of f c) g) most
    top-number = record {
      significand = top.number.significand;
      exponent = top.number.exponent + grid_of f (precision_of f c) g;
      short = top.number.short;
      above = omega arith;
      is = top.number.is;
    }

    -- what is not above the largest is rounded to what is not
    below : (y : ℕ) → RoundsTo (rounding_of c.rounding) (precision_of f c) (grid_of f (precision_of f c) g) s x y → y ≤ most
    below y r =
        let z = cut-rounds (rounding_of c.rounding) (precision_of f c) (grid_of f (precision_of f c) g) s most q0 in
        subst (λ (i : ℕ). y ≤ i) (number-stays _ _ _ s most _ top-number z) (rises _ _ _ s x most y _ q0 h r z)

    go : {v : Unpacked} {n : ℕ} → Once f c g s x v n
        → (y : ℕ) × Worth f g v s y × (distance x y < unit (precision_of f c) (grid_of f (precision_of f c) g) x)
        × (is_nearest (rounding_of c.rounding) ≡ true → 2 * distance x y ≤ unit (precision_of f c) (grid_of f (precision_of f c) g) x)
    go (flushed e) = absurd (nf e)
    go (overflowed y m v k nf r l o p) = absurd (let e : m ≡ most = largest-one f _ g m most l top in let z : ⊥ = omega (arith, below y r, e, o) in z)
    go (number y m v t i u nf r l o p a b d) = (y, p, within-unit _ _ _ s x y q0 r, λ e. half-unit _ _ _ s x y e q0 r)
