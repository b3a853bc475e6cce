-- A rounding by the definitions is the rounding by its properties, of every sum that is not zero.
use mathlib.Core.Path.{◌≡◌, refl, sym, ap, ◌∙◌, subst}
use mathlib.Core.Logic.{◌≢◌, ◌↔◌, inl, inr}
use mathlib.Core.Bool.{Bool, true, false, not, ◌&&◌, cond, true≢false}
use Prim.Native.Nat.{ℕ, suc, ◌+◌, ◌-◌, ◌*◌, ◌/◌, ◌^◌, ◌≤◌, ◌<◌, max}
use native.Mathlib.Nat.{zero-mul}
use native.Mathlib.Omega.{arith}
use lib.Dec.{ltb}
use lib.Ieee.{size}
use borrow.Author.Tests.{ltb-true, lt-ltb}
use Rattle.totals_spec.specs.Basics.{flag, is_set}
use Rattle.totals_spec.specs.formats.Bounds.{RangeBounds}
use Rattle.totals_spec.specs.formats.Format.{Format, Kind, ieee, no_inf, fnuz, finite_only, kind_of}
use Rattle.totals_spec.specs.formats.Format.{digits, fraction_bits, emin_at}
use Rattle.totals_spec.specs.formats.Settings.{Settings, rounding_of, precision_of}
use Rattle.totals_spec.specs.formats.Settings.{Rounding, ties_to_even, ties_to_away}
use Rattle.totals_spec.specs.formats.Settings.{ties_toward_zero, toward_positive, toward_negative}
use Rattle.totals_spec.specs.formats.Settings.{toward_zero, away_from_zero, to_odd}
use Rattle.totals_spec.specs.formats.Decode.{zero_of}
use Rattle.totals_spec.specs.rounding.Round.{dropped, inexact, rounds_up, rounded_at, to_infinity}
use Rattle.totals_spec.specs.rounding.Round.{overflows, largest, beyond, overflow, Rounded}
use Rattle.totals_spec.specs.rounding.Round.{number_of, tiny_sum}
use Rattle.totals_spec.specs.rounding.Round.{round_to, finished, round}
use Rattle.totals_spec.proofs.formats.DecodedBack.{Storable}
use Rattle.totals_spec.proofs.rounding.BesideTheSum.{Beside, same, over, under, beside}
use Rattle.totals_spec.proofs.rounding.Cases.{place, kept, place-grid, kept-few}
use Rattle.totals_spec.proofs.rounding.LargestNumber.{largest-is, largest-stored}
use Rattle.totals_spec.proofs.rounding.StoredNumbers.{number-back}
use Rattle.totals_spec.proofs.formats.Valid.{precision-most, precision-least}
use Rattle.promises.specs.Numbers.{Number, RoundsTo, Neighbour}
use Rattle.promises.specs.Rounding.{grid_of, Finite, Largest, Canonical, Worth, Tiny, before_rounding, after_rounding, Flushed, CarriesOn, Carried}
use Rattle.promises.specs.Rounding.{Overflow, to_nan, to_largest, Once, flushed, overflowed, number}
use Rattle.promises.specs.Rounding as rounding
use Rattle.promises.specs.Statements.{Round-once}
use Rattle.promises.proofs.roundings.OneAnswer.{rounds-to-one}
use Rattle.promises.proofs.roundings.CutsByRule.{cut-rounds}
use Rattle.promises.proofs.roundings.LargestNumbers.{top_number, top-largest, within, beyond-top}

-- what is rounded is a number
pub rounded-number : (m : Rounding) (q grid : ℕ) (s : Bool) (x y : ℕ) → RoundsTo m q grid s x y → Number q grid y
rounded-number ties_to_even q g s x y r = r.number
rounded-number ties_to_away q g s x y r = r.number
rounded-number ties_toward_zero q g s x y r = r.number
rounded-number toward_positive q g true x y r = r.number
rounded-number toward_positive q g false x y r = r.number
rounded-number toward_negative q g true x y r = r.number
rounded-number toward_negative q g false x y r = r.number
rounded-number toward_zero q g s x y r = r.number
rounded-number away_from_zero q g s x y r = r.number
rounded-number to_odd q g s x y r = of r.neighbour
  where
    of : Neighbour q g x y → Number q g y
    of (inl a) = a.number
    of (inr a) = a.number

-- ---- what the modes do with an overflow

carries : (m : Rounding) (s : Bool) → to_infinity m s ≡ true → CarriesOn m s
carries ties_to_even s e = tt
carries ties_to_away s e = tt
carries ties_toward_zero s e = tt
carries toward_positive true e = absurd (true≢false (sym e))
carries toward_positive false e = refl
carries toward_negative true e = refl
carries toward_negative false e = absurd (true≢false (sym e))
carries toward_zero s e = true≢false (sym e)
carries away_from_zero s e = tt
carries to_odd s e = true≢false (sym e)

carries-not : (m : Rounding) (s : Bool) → to_infinity m s ≡ false → ¬ CarriesOn m s
carries-not ties_to_even s e h = true≢false e
carries-not ties_to_away s e h = true≢false e
carries-not ties_toward_zero s e h = true≢false e
carries-not toward_positive true e h = true≢false h
carries-not toward_positive false e h = true≢false e
carries-not toward_negative true e h = true≢false e
carries-not toward_negative false e h = true≢false (sym h)
carries-not toward_zero s e h = h
carries-not away_from_zero s e h = true≢false e
carries-not to_odd s e h = h

module _ (f : Format) (b : RangeBounds f) (c : Settings) (g : ℕ) (s : Bool) (x : ℕ) (q0 : 1 ≤ precision_of f c) (qp : precision_of f c ≤ digits f) where
  abbrev q : ℕ
  q = precision_of f c

  abbrev m : Rounding
  m = rounding_of c.rounding

  abbrev grid : ℕ
  grid = grid_of f q g

  abbrev u : ℕ
  u = place f g q x

  -- x rounded, before an overflow
  abbrev y : ℕ
  y = rounded_at m s x u

  abbrev top : ℕ
  top = top_number f b q q0 qp g

  place-is : u ≡ max grid (size x - q)
  place-is = go (digits f) q (size x) q0 qp
    where
      go : (p q n : ℕ) → 1 ≤ q → q ≤ p → max (g + (p - 1)) (n - 1) + 1 - q ≡ max (g + (p - q)) (n - q)
      go p q n h k = omega arith

  rounds : RoundsTo m q grid s x y
  rounds = subst (λ (n : ℕ). RoundsTo m q grid s x (rounded_at m s x n)) (sym place-is) (cut-rounds m q grid s x q0)

  rounded : Number q grid y
  rounded = rounded-number m q grid s x y rounds

  -- ---- tiny

  freely : RoundsTo m q 0 s x (rounded_at m s x (size x - q))
  freely = subst (λ (n : ℕ). RoundsTo m q 0 s x (rounded_at m s x n)) (none (size x - q)) (cut-rounds m q 0 s x q0)
    where
      none : (n : ℕ) → max 0 n ≡ n
      none n = omega arith

  tiny : tiny_sum f c q g s x ≡ true → Tiny f c g s x
  unfolding tiny_sum
  tiny = go (is_set c.tininess) refl
    where
      go : (t : Bool) → is_set c.tininess ≡ t → cond t (ltb (rounded_at m s x (size x - q)) (2 ^ emin_at f g)) (ltb x (2 ^ emin_at f g)) ≡ true → Tiny f c g s x
      go true e h = after_rounding e (rounded_at m s x (size x - q)) freely (ltb-true _ _ h)
      go false e h = before_rounding e (ltb-true _ _ h)

  tiny-only : Tiny f c g s x → tiny_sum f c q g s x ≡ true
  unfolding tiny_sum
  tiny-only (before_rounding e h) = rw e (lt-ltb _ _ h)
  tiny-only (after_rounding e z r h) = rw e (lt-ltb _ _ (subst (λ (n : ℕ). n < 2 ^ emin_at f g) (rounds-to-one m q 0 s x z _ r freely) h))

  -- ---- inexact, and up

  abbrev near : Bool → Bool → Type 0
  near i t = ((i ≡ true) ↔ (y ≢ x)) × ((t ≡ true) ↔ (x < y))

  turned : near (inexact (dropped x u)) (rounds_up m s (x / 2 ^ u) (dropped x u))
  turned = go (beside m s x u)
    where
      go : {i t : Bool} → Beside (2 ^ u) x y i t → near i t
      go (same e) = ((λ h. absurd (true≢false (sym h)), λ h. absurd (h (sym e))), (λ h. absurd (true≢false (sym h)), λ h. absurd (let z : ⊥ = omega (arith, h, e) in z)))
      go (over h k) = ((λ _ z. let w : ⊥ = omega (arith, h, z) in w, λ _. refl), (λ _. h, λ _. refl))
      go (under h) = ((λ _ z. let w : ⊥ = omega (arith, h, z) in w, λ _. refl), (λ i. absurd (true≢false (sym i)), λ i. absurd (let w : ⊥ = omega (arith, h, i) in w)))

  -- ---- the value

  p-is : digits f ≡ suc (fraction_bits f)
  p-is = omega (arith, b.w-ge)

  canonical : (k n : ℕ) → Storable f k n → Canonical f k n
  canonical k n h = record {
    some = h.some;
    short = subst (λ (i : ℕ). n < 2 ^ i) (sym p-is) h.short;
    full = λ l. h.least (subst (λ (i : ℕ). n < 2 ^ i) less l);
  }
    where
      less : digits f - 1 ≡ fraction_bits f
      less = omega (arith, p-is)

  worth : overflows f q g y ≡ false → Worth f g (number_of f g s y) s y
  unfolding rounded_at
  worth e =
      number-back f b g q s (kept f c g q s x) u q0 qp (kept-few f b c g q s x q0 qp) (place-grid f b c g q s x q0 qp) e (λ v w. Worth f g v s y)
      (λ e t. (refl, ap (λ (n : ℕ). n * 2 ^ u) e ∙ zero-mul (2 ^ u))) (λ k n h e. (refl, e, canonical k n h))

  most : Worth f g (largest f q s) s top
  most = rw (largest-is f b q q0 qp s) (refl, refl, canonical _ _ (largest-stored f b q q0 qp))

  -- ---- an overflow

  overflow-is : Overflow f c g s top (overflow f c q s).value (overflow f c q s).flags
  unfolding overflow
  overflow-is = go (to_infinity m s) (is_set c.saturate) refl refl
    where
      by-kind : Carried c s → (k : Kind) → kind_of f.kind ≡ k → Overflow f c g s top (beyond k (largest f q s) s).value (beyond k (largest f q s) s).flags
      by-kind h ieee e = rounding.to_infinity e h
      by-kind h no_inf e = to_nan (inl e) h
      by-kind h fnuz e = to_nan (inr e) h
      by-kind h finite_only e = to_largest (largest f q s) (inl e) most

      go : (t z : Bool) → to_infinity m s ≡ t → is_set c.saturate ≡ z
          → (let r = cond (t && not z) (beyond (kind_of f.kind) (largest f q s) s) (record { value = largest f q s; flags = 4 + 16 }) in
          Overflow f c g s top r.value r.flags)
      go true false i j = by-kind (carries m s i, j) (kind_of f.kind) refl
      go true true i j = to_largest (largest f q s) (inr (λ h. true≢false (sym j ∙ h.1))) most
      go false z i j = to_largest (largest f q s) (inr (λ h. carries-not m s i h.0)) most

  -- ---- THE ROUNDING

  abbrev Given : Rounded → Type 0
  Given r = Once f c g s x r.value r.flags

  once : Given (round_to f c q g s x u)
  unfolding round_to finished
  once = go (tiny_sum f c q g s x) (is_set c.flush_to_zero) (overflows f q g y) refl refl refl
    where
      kept-tiny : (t z : Bool) → tiny_sum f c q g s x ≡ t → is_set c.flush_to_zero ≡ z → (t && z) ≡ false → ¬ Flushed f c g s x
      kept-tiny t z i j e h = true≢false (sym (rw (← i, ← j) (rw (tiny-only h.0, h.1) refl)) ∙ e)

      above : ¬ Flushed f c g s x → overflows f q g y ≡ true → Given (overflow f c q s)
      above n e = overflowed y top _ _ n rounds (top-largest f b q q0 qp g) (beyond-top f b q q0 qp g y e) overflow-is

      told : (t : Bool) → tiny_sum f c q g s x ≡ t → (t ≡ true) ↔ Tiny f c g s x
      told t i = (λ e. tiny (i ∙ e), λ h. sym i ∙ tiny-only h)

      inside : (t : Bool) → tiny_sum f c q g s x ≡ t → ¬ Flushed f c g s x → overflows f q g y ≡ false
          → Given (record {
            value = number_of f g s y;
            flags = flag 32 t + flag 16 (inexact (dropped x u)) + flag 8 (t && inexact (dropped x u)) + flag 64 (rounds_up m s (x / 2 ^ u) (dropped x u));
          })
      inside t i n e =
          number y top _ t _ _ n rounds (top-largest f b q q0 qp g) (within f b q q0 qp g y rounded e) (worth e) (told t i) turned.0 turned.1

      go : (t z o : Bool) → tiny_sum f c q g s x ≡ t → is_set c.flush_to_zero ≡ z → overflows f q g y ≡ o
          → Given (cond (t && z) (record { value = zero_of s; flags = 8 + 16 + 32 }) (cond o (overflow f c q s)
          (record {
            value = number_of f g s y;
            flags = flag 32 t + flag 16 (inexact (dropped x u)) + flag 8 (t && inexact (dropped x u)) + flag 64 (rounds_up m s (x / 2 ^ u) (dropped x u));
          })))
      go true true o i j k = flushed (tiny i, j)
      go true false true i j k = above (kept-tiny true false i j refl) k
      go true false false i j k = inside true i (kept-tiny true false i j refl) k
      go false z true i j k = above (kept-tiny false z i j refl) k
      go false z false i j k = inside false i (kept-tiny false z i j refl) k

pub round-once : Round-once
unfolding round
round-once f c g s x b v = once f b c g s x (precision-least f c b) (precision-most f c v)
