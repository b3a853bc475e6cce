-- THE SIDE: a rounded sum, encoded and decoded again, beside the sum itself lies where the
-- rounding's flags say.
use mathlib.Core.Path.{◌≡◌, refl, sym, ap, ◌∙◌, subst}
use mathlib.Core.Bool.{Bool, true, false, cond, true≢false, ◌&&◌, not}
use Prim.Native.Nat.{ℕ, ◌+◌, ◌-◌, ◌<◌, zero, ◌*◌, ◌^◌, ◌≤◌, suc}
use native.Mathlib.Omega.{arith}
use borrow.Author.Tests.{eq-eqb, ne_eqb, lt-ltb, le-ltb}
use native.Mathlib.Nat.{zero-mul}
use lib.Dec.{T, eqb, eqb→eq}
use lib.Pow.{pow_pos}
use Rattle.totals_spec.specs.rounding.Side.{leaning, leans_of, side_of, by_flags, rounded_side}
use Rattle.totals_spec.specs.Basics.{Signed, flag, is_set}
use Rattle.totals_spec.specs.formats.Decode.{Unpacked, zero_of, finite, infinity, nan, is_number}
use Rattle.totals_spec.specs.formats.Decode.{decode}
use Rattle.totals_spec.specs.formats.Bounds.{RangeBounds}
use Rattle.totals_spec.specs.formats.Format.{Format, Kind, ieee, no_inf, fnuz, finite_only, kind_of}
use Rattle.totals_spec.specs.formats.Format.{digits, fraction_bits, exponent_range}
use Rattle.totals_spec.specs.formats.Settings.{Settings, rounding_of, precision_of}
use Rattle.totals_spec.specs.formats.Encode.{encode}
use Rattle.totals_spec.specs.formats.KindValues.{has_nan}
use Rattle.totals_spec.specs.rounding.Round.{dropped, inexact, overflows, to_infinity, largest}
use Rattle.totals_spec.specs.rounding.Round.{beyond, overflow, Rounded, number_of, round_to, round}
use Rattle.totals_spec.specs.sums.Totals.{sum_rounded}
use Rattle.totals_spec.proofs.rounding.BesideTheSum.{Beside, same, over, under}
use Rattle.totals_spec.proofs.formats.DecodedBack.{back-zero, back-infinity, back-nan}
use Rattle.totals_spec.proofs.rounding.StoredNumbers.{number-back}
use Rattle.totals_spec.proofs.rounding.LargestNumber.{greatest-of, is_nan, largest-is, largest-back}
use Rattle.totals_spec.proofs.rounding.Cases.{place, goes_up, kept, flags_of, place-grid, kept-few}
use Rattle.totals_spec.proofs.rounding.Cases.{near, round-cases}

-- ---- a magnitude a beside x, of one sign

module _ (s : Bool) (a x : ℕ) where
  lean-less : a < x → leans_of (record { neg = s; mag = a }) (record { neg = s; mag = x }) ≡ cond s 2 1
  unfolding leans_of
  lean-less h = go s
    where
      go : (t : Bool) → leaning (cond t 0 a + cond t x 0) (cond t 0 x + cond t a 0) ≡ cond t 2 1
      go true = rw (le-ltb (0 + x) (0 + a) (omega (arith, h)), ne_eqb (0 + x) (0 + a) (λ e. omega (arith, e, h)))
      go false = rw (lt-ltb (a + 0) (x + 0) (omega (arith, h)))

  lean-more : x < a → leans_of (record { neg = s; mag = a }) (record { neg = s; mag = x }) ≡ cond s 1 2
  unfolding leans_of
  lean-more h = go s
    where
      go : (t : Bool) → leaning (cond t 0 a + cond t x 0) (cond t 0 x + cond t a 0) ≡ cond t 1 2
      go true = rw (lt-ltb (0 + x) (0 + a) (omega (arith, h)))
      go false = rw (le-ltb (a + 0) (x + 0) (omega (arith, h)), ne_eqb (a + 0) (x + 0) (λ e. omega (arith, e, h)))

  lean-same : x ≡ a → leans_of (record { neg = s; mag = a }) (record { neg = s; mag = x }) ≡ 0
  unfolding leans_of
  lean-same h = go s
    where
      go : (t : Bool) → leaning (cond t 0 a + cond t x 0) (cond t 0 x + cond t a 0) ≡ 0
      go true = rw (le-ltb (0 + x) (0 + a) (omega (arith, h)), eq-eqb (0 + x) (0 + a) (omega (arith, h)))
      go false = rw (le-ltb (a + 0) (x + 0) (omega (arith, h)), eq-eqb (a + 0) (x + 0) (omega (arith, h)))

-- a zero of any sign
lean-zero : (t s : Bool) (x : ℕ) → 0 < x → leans_of (record { neg = t; mag = 0 }) (record { neg = s; mag = x }) ≡ cond s 2 1
unfolding leans_of
lean-zero t s x h = go t s
  where
    go : (t s : Bool) → leaning (cond t 0 0 + cond s x 0) (cond s 0 x + cond t 0 0) ≡ cond s 2 1
    go true true = rw (le-ltb (0 + x) (0 + 0) (omega (arith, h)), ne_eqb (0 + x) (0 + 0) (λ e. omega (arith, e, h)))
    go true false = rw (lt-ltb (0 + 0) (x + 0) (omega (arith, h)))
    go false true = rw (le-ltb (0 + x) (0 + 0) (omega (arith, h)), ne_eqb (0 + x) (0 + 0) (λ e. omega (arith, e, h)))
    go false false = rw (lt-ltb (0 + 0) (x + 0) (omega (arith, h)))

-- no number, no side
pub no_number : (g : ℕ) (v : Unpacked) (x : Signed) → is_number v ≡ false → side_of g v x ≡ 3
unfolding side_of
no_number g (zero_of s) x e = absurd (true≢false e)
no_number g (finite s k m) x e = absurd (true≢false e)
no_number g (infinity s) x e = refl
no_number g (nan s h m) x e = refl

-- ---- flags

-- by whether a magnitude is inexact, and whether it went up
abbrev lean_by : (s i u : Bool) → ℕ
lean_by s i u = cond i (cond u (cond s 1 2) (cond s 2 1)) 0

flags-side : (s t i u : Bool) → by_flags s (flag 32 t + flag 16 i + flag 8 (t && i) + flag 64 u) ≡ lean_by s i u
flags-side s true true true = refl
flags-side s true true false = refl
flags-side s true false true = refl
flags-side s true false false = refl
flags-side s false true true = refl
flags-side s false true false = refl
flags-side s false false true = refl
flags-side s false false false = refl

module _ (f : Format) (b : RangeBounds f) (c : Settings) (g : ℕ) (s : Bool) (x : ℕ) (x0 : 0 < x) (q : ℕ) (q0 : 1 ≤ q) (qp : q ≤ digits f) where
  abbrev X : Signed
  X = record { neg = s; mag = x }

  abbrev Leans : Rounded → Type 0
  Leans r = side_of g (decode f (encode f r.value)) X ≡ rounded_side r.value r.flags

  -- a zero in its place: the flags have 16 and not 64
  zero-leans : (n : ℕ) → by_flags s n ≡ cond s 2 1 → Leans (record { value = zero_of s; flags = n })
  unfolding side_of rounded_side
  zero-leans n h = back-zero f b (λ (v : Unpacked). side_of g v X ≡ by_flags s n) (λ t. lean-zero t s x x0 ∙ sym h) s

  -- ---- an overflow

  module _ (above : greatest-of f b q q0 qp (is_nan f b q q0 qp) * 2 ^ (exponent_range f + g) < x) where
    most-leans : (n : ℕ) → by_flags s n ≡ cond s 2 1 → Leans (record { value = largest f q s; flags = n })
    unfolding side_of rounded_side
    most-leans n h =
        ap (λ (v : Unpacked). side_of g v X) (largest-back f b q q0 qp s) ∙ lean-less s _ x above ∙ sym h
        ∙ sym (ap (λ (v : Unpacked). rounded_side v n) (largest-is f b q q0 qp s))

    nan-leans : T (has_nan (kind_of f.kind)) → Leans (record { value = nan s false 0; flags = 4 + 16 })
    unfolding rounded_side
    nan-leans h = no_number g (decode f (encode f (nan s false 0))) X (back-nan f b s false 0 h (pow_pos (fraction_bits f - 1)))

    beyond-leans : (k : Kind) → kind_of f.kind ≡ k → Leans (beyond k (largest f q s) s)
    unfolding side_of rounded_side
    beyond-leans ieee e = ap (λ (v : Unpacked). side_of g v X) (back-infinity f b s e)
    beyond-leans no_inf e = nan-leans (subst (λ (k : Kind). T (has_nan k)) (sym e) tt)
    beyond-leans fnuz e = nan-leans (subst (λ (k : Kind). T (has_nan k)) (sym e) tt)
    beyond-leans finite_only e = most-leans 20 refl

    overflow-leans : Leans (overflow f c q s)
    unfolding overflow
    overflow-leans = go (to_infinity (rounding_of c.rounding) s && not (is_set c.saturate))
      where
        go : (t : Bool) → Leans (cond t (beyond (kind_of f.kind) (largest f q s) s) (record { value = largest f q s; flags = 4 + 16 }))
        go true = beyond-leans (kind_of f.kind) refl
        go false = most-leans 20 refl

  -- ---- a number, which lies beside x as the flags say

  abbrev y : ℕ
  y = kept f c g q s x * 2 ^ place f g q x

  by-beside : {i t : Bool} → Beside (2 ^ place f g q x) x y i t
      → (y ≡ 0 → lean_by s i t ≡ cond s 2 1) × (leans_of (record { neg = s; mag = y }) X ≡ lean_by s i t)
  by-beside (same e) = ((λ z. absurd (let n : ⊥ = omega (arith, e, z, x0) in n)), lean-same s y x e)
  by-beside (over k l) = ((λ z. absurd (let n : ⊥ = omega (arith, k, z) in n)), lean-more s y x k)
  by-beside (under k) = ((λ z. refl), lean-less s y x k)

  stored-leans : (t : Bool) → overflows f q g y ≡ false → Leans (record { value = number_of f g s y; flags = flags_of f c g q s x t })
  unfolding side_of rounded_side
  stored-leans t below =
      number-back f b g q s (kept f c g q s x) (place f g q x) q0 qp (kept-few f b c g q s x q0 qp) (place-grid f b c g q s x q0 qp) below
      (λ (v w : Unpacked). side_of g w X ≡ rounded_side v (flags_of f c g q s x t))
      (λ e z. lean-zero z s x x0 ∙ sym (told ∙ (by-beside (near f b c g q s x q0 qp)).0 (none e)))
      (λ k m h e. ap (λ (n : ℕ). leans_of (record { neg = s; mag = n }) X) e ∙ (by-beside (near f b c g q s x q0 qp)).1 ∙ sym told)
    where
      none : kept f c g q s x ≡ 0 → y ≡ 0
      none e = ap (λ (n : ℕ). n * 2 ^ place f g q x) e ∙ zero-mul (2 ^ place f g q x)

      told : by_flags s (flags_of f c g q s x t) ≡ lean_by s (inexact (dropped x (place f g q x))) (goes_up f c g q s x)
      told = flags-side s t (inexact (dropped x (place f g q x))) (goes_up f c g q s x)

  rounding-leans : Leans (round_to f c q g s x (place f g q x))
  rounding-leans = round-cases f b c g q s x q0 qp Leans (λ h. zero-leans 56 refl) overflow-leans stored-leans

-- a rounded sum that is not zero
pub round-leans : (f : Format) (c : Settings) (g : ℕ) (s : Bool) (x : ℕ) → RangeBounds f → 1 ≤ precision_of f c → precision_of f c ≤ digits f → 0 < x
    → side_of g (decode f (encode f (round f c g s x).value)) (record { neg = s; mag = x }) ≡ rounded_side (round f c g s x).value (round f c g s x).flags
unfolding round
round-leans f c g s x b q0 qp x0 = rounding-leans f b c g s x x0 (precision_of f c) q0 qp

-- ---- a sum, zero or not

positive : (n : ℕ) → eqb n 0 ≡ false → 0 < n
positive zero e = absurd (true≢false e)
positive (suc n) e = omega arith

pub zero-beside : (t s : Bool) → leans_of (record { neg = t; mag = 0 }) (record { neg = s; mag = 0 }) ≡ 0
unfolding leans_of
zero-beside true true = refl
zero-beside true false = refl
zero-beside false true = refl
zero-beside false false = refl

pub sum-leans : (f : Format) (c : Settings) (g : ℕ) (towards : Bool) (x : Signed) → RangeBounds f → 1 ≤ precision_of f c → precision_of f c ≤ digits f
    → side_of g (decode f (encode f (sum_rounded f c g towards x).value)) x
    ≡ rounded_side (sum_rounded f c g towards x).value (sum_rounded f c g towards x).flags
unfolding sum_rounded
sum-leans f c g towards x b q0 qp = go (eqb x.mag 0) refl
  where
    flat : (v : Signed) → v.mag ≡ 0 → (t : Bool) → leans_of (record { neg = t; mag = 0 }) v ≡ 0
    flat v e t = ap (λ (n : ℕ). leans_of (record { neg = t; mag = 0 }) (record { neg = v.neg; mag = n })) e ∙ zero-beside t v.neg

    go : (z : Bool) → eqb x.mag 0 ≡ z
        → side_of g (decode f (encode f (cond z (record { value = zero_of towards; flags = 0 }) (round f c g x.neg x.mag)).value)) x
        ≡ rounded_side (cond z (record { value = zero_of towards; flags = 0 }) (round f c g x.neg x.mag)).value
        (cond z (record { value = zero_of towards; flags = 0 }) (round f c g x.neg x.mag)).flags
    go true e = unfold side_of rounded_side in back-zero f b (λ (v : Unpacked). side_of g v x ≡ 0) (λ t. flat x (eqb→eq x.mag 0 (subst T (sym e) tt)) t) towards
    go false e = round-leans f c g x.neg x.mag b q0 qp (positive x.mag e)
