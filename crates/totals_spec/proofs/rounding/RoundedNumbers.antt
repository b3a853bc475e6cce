-- What a rounding gives, the format holds: a zero, a number that is stored as it is, and of kinds
-- that have one an infinity, or a quiet NaN of no payload.
use mathlib.Core.Path.{◌≡◌, refl, sym, subst}
use mathlib.Core.Bool.{false, Bool, true, not, ◌&&◌, cond}
use lib.Dec.{T, eqb}
use Prim.Native.Nat.{ℕ, ◌+◌, ◌-◌, ◌*◌, ◌^◌, ◌≤◌, suc, ◌<◌}
use native.Mathlib.Omega.{arith}
use lib.Pow.{pow_pos}
use Rattle.totals_spec.specs.formats.Format.{Format, ieee, kind_of, Kind, no_inf, fnuz, finite_only}
use Rattle.totals_spec.specs.formats.Format.{digits, fraction_bits}
use Rattle.totals_spec.specs.formats.Decode.{Unpacked, zero_of, finite, infinity, nan}
use Rattle.totals_spec.specs.formats.KindValues.{has_nan}
use Rattle.totals_spec.specs.Basics.{is_set, Signed}
use Rattle.totals_spec.specs.formats.Bounds.{RangeBounds}
use Rattle.totals_spec.specs.formats.Settings.{Settings, rounding_of, precision_of}
use Rattle.totals_spec.specs.rounding.Round.{overflows, to_infinity, largest, beyond, overflow}
use Rattle.totals_spec.specs.rounding.Round.{Rounded, number_of, round_to, round}
use Rattle.totals_spec.specs.sums.Totals.{sum_rounded}
use Rattle.totals_spec.specs.formats.Encodes.{Encodes}
use Rattle.totals_spec.proofs.formats.DecodedBack.{Storable}
use Rattle.totals_spec.proofs.rounding.StoredNumbers.{number-back}
use Rattle.totals_spec.proofs.rounding.LargestNumber.{largest-is, largest-stored}
use Rattle.totals_spec.proofs.rounding.Cases.{place, kept, place-grid, kept-few, round-cases}

abbrev pub Held : Format → Unpacked → Type 0
Held f (zero_of s) = Unit {0}
Held f (finite s k m) = Storable f k m
Held f (infinity s) = kind_of f.kind ≡ ieee
Held f (nan s g m) = T (has_nan (kind_of f.kind)) × (g ≡ false) × (m ≡ 0)

module _ (f : Format) (b : RangeBounds f) (c : Settings) (g q : ℕ) (s : Bool) (x : ℕ) (q0 : 1 ≤ q) (qp : q ≤ digits f) where
  most-held : Held f (largest f q s)
  most-held = subst (Held f) (sym (largest-is f b q q0 qp s)) (largest-stored f b q q0 qp)

  beyond-held : (k : Kind) → kind_of f.kind ≡ k → Held f (beyond k (largest f q s) s).value
  beyond-held ieee e = e
  beyond-held no_inf e = (subst (λ (k : Kind). T (has_nan k)) (sym e) tt, refl, refl)
  beyond-held fnuz e = (subst (λ (k : Kind). T (has_nan k)) (sym e) tt, refl, refl)
  beyond-held finite_only e = most-held

  overflow-held : Held f (overflow f c q s).value
  unfolding overflow
  overflow-held = go (to_infinity (rounding_of c.rounding) s && not (is_set c.saturate))
    where
      go : (t : Bool) → Held f (cond t (beyond (kind_of f.kind) (largest f q s) s) (record { value = largest f q s; flags = 4 + 16 })).value
      go true = beyond-held (kind_of f.kind) refl
      go false = most-held

  number-held : overflows f q g (kept f c g q s x * 2 ^ place f g q x) ≡ false → Held f (number_of f g s (kept f c g q s x * 2 ^ place f g q x))
  number-held below =
      number-back f b g q s (kept f c g q s x) (place f g q x) q0 qp (kept-few f b c g q s x q0 qp) (place-grid f b c g q s x q0 qp) below
      (λ (v w : Unpacked). Held f v) (λ e t. tt) (λ k m h e. h)

  held : Held f (round_to f c q g s x (place f g q x)).value
  held = round-cases f b c g q s x q0 qp (λ (r : Rounded). Held f r.value) (λ h. tt) (λ h. overflow-held) (λ t. number-held)

module _ (f : Format) (b : RangeBounds f) (c : Settings) (q0 : 1 ≤ precision_of f c) (qp : precision_of f c ≤ digits f) where
  pub round-held : (g : ℕ) (s : Bool) (x : ℕ) → Held f (round f c g s x).value
  unfolding round
  round-held g s x = held f b c g (precision_of f c) s x q0 qp

  pub sum-held : (g : ℕ) (towards : Bool) (x : Signed) → Held f (sum_rounded f c g towards x).value
  unfolding sum_rounded
  sum-held g towards x = go (eqb x.mag 0)
    where
      go : (z : Bool) → Held f (cond z (record { value = zero_of towards; flags = 0 }) (round f c g x.neg x.mag)).value
      go true = tt
      go false = round-held g x.neg x.mag

pub held-encodes : (f : Format) → RangeBounds f → (v : Unpacked) → Held f v → Encodes f v
held-encodes f b (zero_of s) h = tt
held-encodes f b (finite s k m) h = (omega (arith, h.field), subst (λ (n : ℕ). m < 2 ^ n) p-is h.short)
  where
    p-is : suc (fraction_bits f) ≡ digits f
    p-is = omega (arith, b.w-ge)
held-encodes f b (infinity s) h = tt
held-encodes f b (nan s g m) h = subst (λ (n : ℕ). n < 2 ^ (fraction_bits f - 1)) (sym h.2) (pow_pos (fraction_bits f - 1))
