-- From what a value to round has to meet to what its rounding is: the laws of numbers, joined to
-- the code's contracts.
use mathlib.Core.Path.{◌≡◌, refl, sym, ◌∙◌, subst}
use mathlib.Core.Bool.{Bool, true, false, ◌&&◌, cond}
use Prim.Native.Nat.{ℕ, ◌+◌, ◌-◌, ◌*◌, ◌/◌, ◌^◌, ◌≤◌, ◌<◌}
use native.Mathlib.Nat.{lt_of_lt_of_le}
use native.Mathlib.Omega.{arith}
use lib.Dec.{leb, eqb}
use lib.Pow.{pow_mono, pow_pos}
use lib.Ieee.{size}
use Rattle.limbs.specs.Value.{bit_length}
use Rattle.totals_spec.specs.Basics.{flag, is_set}
use Rattle.totals_spec.specs.formats.Format.{Format, digits, emin_at}
use Rattle.totals_spec.specs.formats.Settings.{Settings, Rounding, rounding_of, precision_of}
use Rattle.totals_spec.specs.formats.Decode.{zero_of, finite}
use Rattle.totals_spec.specs.rounding.Round.{Dropped, dropped, inexact, rounds_up, rounded_at, overflows, overflow, round}
use Rattle.format.specs.Fits.{Encodes}
use Rattle.exact.specs.Unrounded.{significand_of, Stands, Measured, RoundedTo, EndsAt, Begins, small_of}
use Rattle.exact.specs.declared.Unrounded.{Unrounded}
use Rattle.exact.specs.declared.Digits.{Digits}
use Rattle.exact.proofs.Rules.{flag-le}
use Rattle.totals_spec.proofs.numbers.Powers.{pow-next, size_above, size_exact, scaled-lt, digits_lt}
use Rattle.exact.proofs.Standing.{stands-size, stands-some, some_number}
use Rattle.totals_spec.proofs.formats.ExponentRange.{range-fits}
use Rattle.exact.proofs.Beyond.{made, over-not}
use Rattle.exact.proofs.Once.{kept-lt, kept-ge, normal-is, number-normal, tiny-is, kept_small, small_is}

-- ---- the first q digits

module _ {v : Unrounded} {end q : ℕ} (M : Measured v end q) where
  long : (x : ℕ) → Stands v x → size x ≡ end
  long x st = stands-size v.sticky (significand_of v) v.position x st M.some ∙ sym M.is

  one : ℕ
  one = some_number v.sticky (significand_of v) v.position

  one-stands : Stands v one
  unfolding one
  one-stands = stands-some v.sticky (significand_of v) v.position (omega (arith, M.high))

  module _ {kept : ℕ} {d : Dropped} (cut : (x : ℕ) → Stands v x → (kept ≡ x / 2 ^ (end - q)) × (d ≡ dropped x (end - q))) where
    pub first-lt : kept < 2 ^ q
    first-lt = rw (cut one one-stands).0 (kept-lt one q end M.least (omega (arith, M.most, M.high, M.is)) (long one one-stands))

    pub first-ge : 2 ^ (q - 1) ≤ kept
    first-ge = rw (cut one one-stands).0 (kept-ge one q end M.least (omega (arith, M.most, M.high, M.is)) (long one one-stands))

    -- the digits kept, rounded, are k × 2^l
    pub rounded-to : {m : Rounding} {up some : Bool} → up ≡ rounds_up m v.negative kept d → some ≡ inexact d
        → (k l : ℕ) → 2 ^ (q - 1) ≤ k → k < 2 ^ q → end ≤ l + q → l + q ≤ end + 1 → k * 2 ^ l ≡ (kept + flag 1 up) * 2 ^ (end - q)
        → RoundedTo m v end q (record { kept = k; lowest = l; up = up; inexact = some })
    unfolding rounded_at
    rounded-to ue se k l lo hi from to y = record {
      digits = size_exact k q M.least lo hi;
      low = from;
      high = to;
      each = λ x st. let e = cut x st in (rw (← e.0, ← e.1, ← ue) y, rw (← e.1) se, rw (← e.0, ← e.1) ue);
    }

-- ---- a value that can be rounded: q of at most p digits are kept

module _ {f : Format} {c : Settings} {g : ℕ} {v : Unrounded} {end : ℕ} (B : EndsAt f c g v end)
    {q : ℕ} (Q : (q ≡ precision_of f c) × (1 ≤ q) × (q ≤ digits f)) where
  p-most : digits f ≤ 64
  p-most = omega (arith, B.rounds.format.p-le)

  sticky-long : v.sticky ≡ true → digits f < bit_length (significand_of v)
  sticky-long t = size_above (significand_of v) (digits f) (B.rounds.long t)

  pub measured : Measured v end q
  measured = record {
    some = B.rounds.some;
    is = B.is;
    top = B.top;
    least = Q.1;
    most = omega (arith, p-most, Q.2);
    high = B.rounds.high;
    long = λ t. omega (arith, sticky-long t, Q.2);
  }

  pub begins : {d : Digits} → RoundedTo (rounding_of c.rounding) v end q d → Begins f c g v q d
  begins {d} D = record {
    ends = record { rounds = B.rounds; is = refl; top = omega (arith, B.is, B.top) };
    keeps = Q;
    first = subst (λ (e : ℕ). RoundedTo (rounding_of c.rounding) v e q d) B.is D;
  }

  -- at or above emin
  module _ {d : Digits} (D : RoundedTo (rounding_of c.rounding) v end q d) (h : emin_at f g < end) where
    whole : (x : ℕ) → Stands v x → round f c g v.negative x
        ≡ cond (overflows f q g (d.kept * 2 ^ d.lowest)) (overflow f c q v.negative)
        (made (finite v.negative (d.lowest + q - (g + digits f)) (d.kept * 2 ^ (digits f - q))) (flag 16 d.inexact + flag 64 d.up))
    whole x st =
        let k = D.each x st in
        normal-is f c g v.negative x q end d.kept d.lowest Q.1 (long measured x st) D.digits D.low k.0 h (sym Q.0)
        ∙ rw
        (number-normal f g v.negative d.kept q d.lowest Q.1 Q.2 D.digits (omega (arith, D.low, h, Q.1, Q.2)), ← k.1, ← k.2)

    pub goes_over : overflows f q g (d.kept * 2 ^ d.lowest) ≡ true → (x : ℕ) → Stands v x → overflow f c q v.negative ≡ round f c g v.negative x
    goes_over o x st = sym (whole x st ∙ rw o)

    pub stays : overflows f q g (d.kept * 2 ^ d.lowest) ≡ false → (x : ℕ) → Stands v x
        → made (finite v.negative (d.lowest + q - (g + digits f)) (d.kept * 2 ^ (digits f - q))) (flag 16 d.inexact + flag 64 d.up)
        ≡ round f c g v.negative x
    stays o x st = sym (whole x st ∙ rw o)

    fits : d.kept * 2 ^ (digits f - q) < 2 ^ digits f
    fits = scaled-lt d.kept (digits f - q) q (digits f) (digits_lt d.kept q Q.1 D.digits) (omega (arith, Q.2))

    pub stays-encodes : overflows f q g (d.kept * 2 ^ d.lowest) ≡ false
        → Encodes f (finite v.negative (d.lowest + q - (g + digits f)) (d.kept * 2 ^ (digits f - q)))
    stays-encodes o =
        (omega (arith, over-not f q g d.kept d.lowest Q.1 (omega (arith, Q.1, Q.2)) D.digits o, range-fits f B.rounds.format), fits)

    pub stays-word : (digits f - q < 64) × (d.kept * 2 ^ (digits f - q) < 18446744073709551616)
    stays-word = (omega (arith, p-most, Q.1), lt_of_lt_of_le fits (pow_mono {i = digits f} {j = 64} p-most))

  -- below emin, cut at the subnormal grid
  module _ (h : end ≤ emin_at f g) where
    pub small-sticky : v.sticky ≡ true → v.position < g + (digits f - q)
    small-sticky t = omega (arith, B.is, h, sticky-long t, Q.1, Q.2)

    module _ {kept : ℕ} {d : Dropped} (cut : (x : ℕ) → Stands v x → (kept ≡ x / 2 ^ (g + (digits f - q))) × (d ≡ dropped x (g + (digits f - q))))
        {up : Bool} (ue : up ≡ rounds_up (rounding_of c.rounding) v.negative kept d) where
      few : kept < 2 ^ (q - 1)
      few =
          let x = one measured in
          let st = one-stands measured in
          rw (cut x st).0 (kept_small f c g v.negative x q end B.rounds.format Q.1 Q.2 (long measured x st) h)

      carry : kept + flag 1 up < 2 ^ q
      carry = omega (arith, few, flag-le 1 up, pow-next q Q.1, pow_pos (q - 1))

      in-format : (kept + flag 1 up) * 2 ^ (digits f - q) < 2 ^ digits f
      in-format = scaled-lt (kept + flag 1 up) (digits f - q) q (digits f) carry (omega (arith, Q.2))

      pub small-sum : kept + flag 1 up < 18446744073709551616
      small-sum = lt_of_lt_of_le carry (pow_mono {i = q} {j = 64} (omega (arith, p-most, Q.2)))

      pub small-fits : (digits f - q < 64) × ((kept + flag 1 up) * 2 ^ (digits f - q) < 18446744073709551616)
      small-fits = (omega (arith, p-most, Q.1), lt_of_lt_of_le in-format (pow_mono {i = digits f} {j = 64} p-most))

      pub small-encodes : Encodes f (small_of v.negative (kept + flag 1 up) (digits f - q))
      small-encodes = go (eqb (kept + flag 1 up) 0)
        where
          go : (b : Bool) → Encodes f (cond b (zero_of v.negative) (finite v.negative 0 ((kept + flag 1 up) * 2 ^ (digits f - q))))
          go true = tt
          go false = (omega (arith, range-fits f B.rounds.format), in-format)

      module _ {u : Digits} (D : RoundedTo (rounding_of c.rounding) v end q u) {tiny : Bool}
          (te : tiny ≡ cond (is_set c.tininess) (leb (u.lowest + q) (emin_at f g)) true) where
        small : (x : ℕ) → Stands v x → round f c g v.negative x
            ≡ cond (tiny && is_set c.flush_to_zero) (made (zero_of v.negative) 56)
            (made (small_of v.negative (kept + flag 1 up) (digits f - q)) (flag 32 tiny + flag 16 (inexact d) + flag 8 (tiny && inexact d) + flag 64 up))
        small x st =
            let e = cut x st in
            let z = long measured x st in
            let t = te ∙ tiny-is f c g v.negative x q end u.kept u.lowest Q.1 z D.digits D.low (D.each x st).0 h in
            small_is f c g v.negative x q end B.rounds.format Q.1 Q.2 z h up (rw (e.0, e.1) at ue) tiny t (sym Q.0)
            ∙ rw (e.0, e.1)

        pub flushed : (tiny && is_set c.flush_to_zero) ≡ true → (x : ℕ) → Stands v x → made (zero_of v.negative) 56 ≡ round f c g v.negative x
        flushed o x st = sym (small x st ∙ rw o)

        pub unflushed : (tiny && is_set c.flush_to_zero) ≡ false → (x : ℕ) → Stands v x
            → made (small_of v.negative (kept + flag 1 up) (digits f - q)) (flag 32 tiny + flag 16 (inexact d) + flag 8 (tiny && inexact d) + flag 64 up)
            ≡ round f c g v.negative x
        unflushed o x st = sym (small x st ∙ rw o)
