-- The kit's model of IEEE 754 rounds as the definitions here do.
use mathlib.Core.Path.{◌≡◌, refl, sym, ap, ◌∙◌, subst}
use mathlib.Core.Bool.{Bool, true, false, not, ◌&&◌, ◌||◌, cond, true≢false}
use Prim.Native.Nat.{ℕ, zero, suc, ◌+◌, ◌-◌, ◌*◌, ◌/◌, ◌%◌, ◌^◌, ◌≤◌, ◌<◌, max, compare, Ordering}
use native.Mathlib.Nat.{le_of_lt, le-div_iff_mul-le, suc-mul, mul_assoc, mul_comm, zero-mul, zero-div, eq_of_mul-eq-mul_right, mul-pos, add-zero, mul-div_cancel, div-add-mod', mod-lt, not-le_of_lt}
use native.Mathlib.Nat.{mul-lt-mul_of_pos_right, mul-le-mul_right}
use native.Mathlib.Numerals.{add-one}
use native.Mathlib.Omega.{arith}
use lib.Dec.{eqb, ltb, leb, is_le, compare_is_eq}
use lib.Pow.{pow-add, pow_pos, shl-shr}
use lib.Ieee as kit
use lib.Ieee.{size}
use lib.Ieee.Digits.{size_reaches, size-le}
use lib.Ieee.Exact.{HasValue, units_val}
use lib.Ieee.Fits.{round_is, down_pos}
use lib.Ieee.Nearest.{closest, closest_same, div_same}
use borrow.Author.Tests.{eqb-true, eqb-false, eq-eqb, ne_eqb, ltb-true, ltb-false, leb-true, leb-false, le-leb, lt-leb}
use Rattle.totals_spec.specs.Basics.{flag}
use Rattle.totals_spec.specs.formats.Bounds.{RangeBounds}
use Rattle.totals_spec.specs.formats.Format.{kind_of, valid_format, digits, fraction_bits}
use Rattle.totals_spec.specs.formats.Format.{exponent_range, emin_at, emax_at}
use Rattle.totals_spec.specs.formats.Settings.{no_settings, precision_of, ties_to_even}
use Rattle.totals_spec.specs.formats.Decode.{zero_of, finite, infinity}
use Rattle.totals_spec.specs.formats.Encode.{assembled, encode}
use Rattle.totals_spec.specs.rounding.Round.{Dropped, nothing, below_half, at_half, above_half}
use Rattle.totals_spec.specs.rounding.Round.{is_no_inf, compared, dropped, odd, rounds_up}
use Rattle.totals_spec.specs.rounding.Round.{rounded_at, overflows, overflow, Rounded, finished}
use Rattle.totals_spec.specs.rounding.Round.{round_to, last_place, stored_as, number_of, round}
use Rattle.totals_spec.proofs.numbers.Bits.{size_none}
use Rattle.totals_spec.proofs.numbers.Powers.{size-over}
use Rattle.totals_spec.proofs.formats.Valid.{format-bounds}
use Rattle.promises.specs.Bridge.{ours, Rounds-alike}
use Rattle.promises.proofs.roundings.CutsByRule.{Part, none as cut-none, less, half, more, part}

-- ---- what `compare` says

is-lt : (a b : ℕ) → a < b → compare a b ≡ Ordering.lt
is-lt a b h = go (compare a b) (le-leb a b (le_of_lt h)) (ne_eqb a b (λ z. omega (arith, z, h)))
  where
    go : (o : Ordering) → is_le o ≡ true → compare_is_eq o ≡ false → o ≡ Ordering.lt
    go Ordering.lt e z = refl
    go Ordering.eq e z = absurd (true≢false z)
    go Ordering.gt e z = absurd (true≢false (sym e))

is-eq : (a b : ℕ) → a ≡ b → compare a b ≡ Ordering.eq
is-eq a b h = go (compare a b) (eq-eqb a b h)
  where
    go : (o : Ordering) → compare_is_eq o ≡ true → o ≡ Ordering.eq
    go Ordering.lt z = absurd (true≢false (sym z))
    go Ordering.eq z = refl
    go Ordering.gt z = absurd (true≢false (sym z))

is-gt : (a b : ℕ) → b < a → compare a b ≡ Ordering.gt
is-gt a b h = go (compare a b) (lt-leb a b h)
  where
    go : (o : Ordering) → is_le o ≡ false → o ≡ Ordering.gt
    go Ordering.lt e = absurd (true≢false e)
    go Ordering.eq e = absurd (true≢false e)
    go Ordering.gt e = refl

-- ---- rounding at one place: the kit's `closest` is the number kept, or one more, by the rule of
-- ties to even

rest-two : (n : ℕ) → flag 1 (odd n) ≡ n % 2
rest-two n = go (eqb (n % 2) 1) refl
  where
    go : (t : Bool) → eqb (n % 2) 1 ≡ t → flag 1 t ≡ n % 2
    go true e = sym (eqb-true (n % 2) 1 e)
    go false e = omega (arith, eqb-false (n % 2) 1 e)

closest-is : (x w : ℕ) (s : Bool) → 0 < w → closest x w ≡ x / w + flag 1 (rounds_up ties_to_even s (x / w) (compared (x % w) w))
closest-is x w s w0 = go _ (part (x % w) w)
  where
    go : (d : Dropped) → Part (x % w) w d → closest x w ≡ x / w + flag 1 (rounds_up ties_to_even s (x / w) d)
    go nothing (cut-none e) = rw (is-lt (x % w * 2) w (omega (arith, e, w0))) (sym (add-zero (x / w)))
    go below_half (less h l) = rw (is-lt (x % w * 2) w (omega (arith, l))) (sym (add-zero (x / w)))
    go at_half (half h e) = rw (is-eq (x % w * 2) w (omega (arith, e))) (ap (λ (n : ℕ). x / w + n) (sym (rest-two (x / w))))
    go above_half (more h l) = rw (is-gt (x % w * 2) w (omega (arith, l))) (sym (add-one (x / w)))

-- ---- the formats

pub is-range : (F : kit.Format) → RangeBounds (ours F)
is-range kit.binary32 = (format-bounds (ours kit.binary32) (unfold valid_format in tt)).range
is-range kit.binary64 = (format-bounds (ours kit.binary64) (unfold valid_format in tt)).range

pub digits-is : (F : kit.Format) → digits (ours F) ≡ kit.prec F
digits-is kit.binary32 = refl
digits-is kit.binary64 = refl

pub reach-is : (F : kit.Format) → digits (ours F) + exponent_range (ours F) ≡ kit.low F + suc (kit.emax F)
unfolding exponent_range
reach-is kit.binary32 = refl
reach-is kit.binary64 = refl

precision-is : (F : kit.Format) → precision_of (ours F) no_settings ≡ kit.prec F
unfolding precision_of
precision-is kit.binary32 = refl
precision-is kit.binary64 = refl

sign-is : (F : kit.Format) → 2 ^ ((ours F).W - 1) ≡ kit.top F
sign-is kit.binary32 = refl
sign-is kit.binary64 = refl

top-field-is : (F : kit.Format) → 2 ^ (ours F).E - 1 ≡ kit.ones F
top-field-is kit.binary32 = refl
top-field-is kit.binary64 = refl

fraction-is : (F : kit.Format) → 2 ^ fraction_bits (ours F) ≡ kit.hid F
fraction-is kit.binary32 = refl
fraction-is kit.binary64 = refl

pub no-nan-pattern : (F : kit.Format) → is_no_inf (kind_of (ours F).kind) ≡ false
no-nan-pattern kit.binary32 = refl
no-nan-pattern kit.binary64 = refl

-- ---- the bits of a number of V least numbers

pub bits-of : (F : kit.Format) (v : kit.Float) (s : Bool) (V : ℕ) → HasValue v s V (2 ^ kit.low F)
    → kit.to_bits F v ≡ cond s (kit.top F) 0 + (size V - kit.prec F) * kit.hid F + V / 2 ^ (size V - kit.prec F)
unfolding kit.to_bits
bits-of F kit.nan s V h = absurd h
bits-of F (kit.inf t) s V h = absurd h
bits-of F (kit.fin t m e) s V h =
    rw (h.0, h.1, mul-div_cancel V (down_pos e))

flag-cond : (n : ℕ) (s : Bool) → flag n s ≡ cond s n 0
flag-cond n true = refl
flag-cond n false = refl

-- and those that are encoded here
encoded : (F : kit.Format) (s : Bool) (V : ℕ) → 0 < V
    → encode (ours F) (finite s (size V - digits (ours F)) (V / 2 ^ (size V - digits (ours F))))
    ≡ cond s (kit.top F) 0 + (size V - kit.prec F) * kit.hid F + V / 2 ^ (size V - kit.prec F)
unfolding encode
encoded F s V V0 = go (ltb m (2 ^ t)) refl ∙ ap (λ (n : ℕ). cond s (kit.top F) 0 + (size V - n) * kit.hid F + V / 2 ^ (size V - n)) (digits-is F)
  where
    t : ℕ
    t = fraction_bits (ours F)

    j : ℕ
    j = size V - digits (ours F)

    m : ℕ
    m = V / 2 ^ j

    b : RangeBounds (ours F)
    b = is-range F

    p-is : digits (ours F) ≡ suc t
    p-is = omega (arith, b.w-ge)

    -- digits are dropped only where there are p of them left
    full : m < 2 ^ t → j ≡ 0
    full h = by (leb (size V) (digits (ours F))) refl
      where
        by : (z : Bool) → leb (size V) (digits (ours F)) ≡ z → j ≡ 0
        by true e = omega (arith, leb-true (size V) (digits (ours F)) e)
        by false e = absurd (not-le_of_lt h ((le-div_iff_mul-le (pow_pos j)).1 (rw (← (pow-add 2 t j)) (size_reaches V (t + j) deep))))
          where
            deep : t + j < size V
            deep = let l : digits (ours F) < size V = leb-false (size V) (digits (ours F)) e in omega (arith, l, p-is)

    signed : flag (2 ^ ((ours F).W - 1)) s ≡ cond s (kit.top F) 0
    signed = ap (λ (n : ℕ). flag n s) (sign-is F) ∙ flag-cond (kit.top F) s

    go : (z : Bool) → ltb m (2 ^ t) ≡ z
        → cond z (assembled (ours F) s 0 m) (assembled (ours F) s (suc j) (m - 2 ^ t)) ≡ cond s (kit.top F) 0 + j * kit.hid F + m
    go true e =
        let l = full (ltb-true m (2 ^ t) e) in
        rw (← signed, ← (fraction-is F)) (ap (λ (k : ℕ). flag (2 ^ ((ours F).W - 1)) s + k * 2 ^ t + m) (sym l))
    go false e = rw (← signed, ← (fraction-is F)) (omega (arith, ltb-false m (2 ^ t) e, suc-mul j (2 ^ t)))

pub plain : (F : kit.Format) (s : Bool) → encode (ours F) (zero_of s) ≡ cond s (kit.top F) 0
unfolding encode
plain kit.binary32 true = refl
plain kit.binary32 false = refl
plain kit.binary64 true = refl
plain kit.binary64 false = refl

endless : (F : kit.Format) (s : Bool) → encode (ours F) (infinity s) ≡ kit.to_bits F (kit.inf s)
unfolding encode kit.to_bits
endless kit.binary32 true = refl
endless kit.binary32 false = refl
endless kit.binary64 true = refl
endless kit.binary64 false = refl

-- ---- a rounding

module _ (F : kit.Format) (g : ℕ) (s : Bool) (x : ℕ) where
  abbrev p : ℕ
  p = kit.prec F

  abbrev k : ℕ
  k = size (x / 2 ^ g) - p

  abbrev w : ℕ
  w = 2 ^ (g + k)

  abbrev Q : ℕ
  Q = closest x w

  -- the kit's, with the fraction's denominator taken out
  kit-rounds : kit.round F s x (2 ^ (kit.low F + g)) ≡ kit.units F s Q k
  kit-rounds =
      round_is F s x den
      ∙ ap (λ (z : ℕ). kit.units F s (closest n (den * 2 ^ z)) z) (ap (λ (z : ℕ). size z - p) short)
      ∙ ap (λ (z : ℕ). kit.units F s z k) near
    where
      l : ℕ
      l = 2 ^ kit.low F

      den : ℕ
      den = 2 ^ (kit.low F + g)

      n : ℕ
      n = x * l

      den-is : den ≡ l * 2 ^ g
      den-is = pow-add 2 (kit.low F) g

      short : n / den ≡ x / 2 ^ g
      short = div_same n den x (2 ^ g) (pow_pos (kit.low F + g)) (pow_pos g) (mul_assoc x l (2 ^ g) ∙ ap (λ (z : ℕ). x * z) (sym den-is))

      near : closest n (den * 2 ^ k) ≡ Q
      near =
          closest_same n (den * 2 ^ k) x w (mul-pos (pow_pos (kit.low F + g)) (pow_pos k)) (pow_pos (g + k))
          (mul_assoc x l w ∙ ap (λ (z : ℕ). x * z) (ap (λ (z : ℕ). l * z) (pow-add 2 g k) ∙ sym (mul_assoc l (2 ^ g) (2 ^ k)) ∙ ap (λ (z : ℕ). z * 2 ^ k) (sym den-is)))

  -- ours: the place
  size-is : g + k ≡ max g (size x - p)
  size-is = go (ltb 0 (x / 2 ^ g)) refl
    where
      parts : x / 2 ^ g * 2 ^ g + x % 2 ^ g ≡ x
      parts = div-add-mod' x (2 ^ g)

      by : (a n v : ℕ) → a ≡ g + v → g + (v - n) ≡ max g (a - n)
      by a n v e = omega (arith, e)

      go : (t : Bool) → ltb 0 (x / 2 ^ g) ≡ t → g + k ≡ max g (size x - p)
      go true e = by (size x) p (size (x / 2 ^ g)) (ap size (sym parts) ∙ size-over (x / 2 ^ g) g (x % 2 ^ g) (mod-lt x (pow_pos g)) (ltb-true 0 (x / 2 ^ g) e))
      go false e = omega (arith, none, low)
        where
          zero-is : x / 2 ^ g ≡ 0
          zero-is = omega (arith, ltb-false 0 (x / 2 ^ g) e)

          none : size (x / 2 ^ g) ≡ 0
          none = ap size zero-is ∙ size_none

          low : size x ≤ g
          low = size-le x g (omega (arith, parts, ap (λ (z : ℕ). z * 2 ^ g) zero-is, mod-lt x (pow_pos g)))

  place-is : last_place (emin_at (ours F) g) (digits (ours F)) (size x) ≡ g + k
  place-is = go (digits (ours F)) (size x) (let b = is-range F in omega (arith, b.w-ge)) ∙ ap (λ (z : ℕ). max g (size x - z)) (digits-is F) ∙ sym size-is
    where
      go : (p n : ℕ) → 1 ≤ p → max (g + (p - 1)) (n - 1) + 1 - p ≡ max g (n - p)
      go p n h = omega arith

  closest-kept : closest x w * 2 ^ (g + k) ≡ rounded_at ties_to_even s x (g + k)
  unfolding rounded_at dropped
  closest-kept = ap (λ (n : ℕ). n * 2 ^ (g + k)) (closest-is x w s (pow_pos (g + k)))

  -- in least numbers
  units-is : Q * 2 ^ (g + k) ≡ Q * 2 ^ k * 2 ^ g
  units-is = ap (λ (n : ℕ). Q * n) (pow-add 2 g k ∙ mul_comm (2 ^ g) (2 ^ k)) ∙ sym (mul_assoc Q (2 ^ k) (2 ^ g))

  abbrev V : ℕ
  V = Q * 2 ^ k

  -- the value that comes of it: the number, where it does not overflow
  abbrev top-power : ℕ
  top-power = 2 ^ (kit.low F + suc (kit.emax F))

  over-is : (q : ℕ) → overflows (ours F) q g (Q * 2 ^ (g + k)) ≡ not (ltb V top-power)
  unfolding overflows
  over-is q = rw (no-nan-pattern F) (or-false (leb (2 ^ suc (emax_at (ours F) g)) (Q * 2 ^ (g + k))) ∙ go (ltb V top-power) refl)
    where
      or-false : (b : Bool) → (b || false) ≡ b
      or-false true = refl
      or-false false = refl

      high : 2 ^ suc (emax_at (ours F) g) ≡ top-power * 2 ^ g
      high = ap (λ (n : ℕ). 2 ^ n) (place (digits (ours F)) (exponent_range (ours F)) (kit.low F + suc (kit.emax F)) (let b = is-range F in omega (arith, b.w-ge)) (reach-is F)) ∙ pow-add 2 (kit.low F + suc (kit.emax F)) g
        where
          place : (p r l : ℕ) → 1 ≤ p → p + r ≡ l → suc (g + (p - 1) + r) ≡ l + g
          place p r l h e = omega (arith, h, e)

      go : (t : Bool) → ltb V top-power ≡ t → leb (2 ^ suc (emax_at (ours F) g)) (Q * 2 ^ (g + k)) ≡ not t
      go true e = lt-leb _ _ (rw (high, units-is) (mul-lt-mul_of_pos_right (ltb-true V top-power e) (pow_pos g)))
      go false e = le-leb _ _ (rw (high, units-is) (mul-le-mul_right (2 ^ g) (ltb-false V top-power e)))

  below : ltb V top-power ≡ true
      → encode (ours F) (number_of (ours F) g s (Q * 2 ^ (g + k))) ≡ kit.to_bits F (kit.units F s Q k)
  unfolding number_of
  below e = go (eqb (Q * 2 ^ (g + k)) 0) refl ∙ sym (bits-of F (kit.units F s Q k) s V (units_val F s Q k (ltb-true V top-power e)))
    where
      zero-bits : encode (ours F) (zero_of s) ≡ cond s (kit.top F) 0
      zero-bits = plain F s

      go : (t : Bool) → eqb (Q * 2 ^ (g + k)) 0 ≡ t
          → encode (ours F) (cond t (zero_of s) (stored_as s (Q * 2 ^ (g + k) / 2 ^ g) (size (Q * 2 ^ (g + k) / 2 ^ g) - digits (ours F))))
          ≡ cond s (kit.top F) 0 + (size V - p) * kit.hid F + V / 2 ^ (size V - p)
      go true t = zero-bits ∙ none (cond s (kit.top F) 0) (eq-zero t)
        where
          eq-zero : eqb (Q * 2 ^ (g + k)) 0 ≡ true → V ≡ 0
          eq-zero t = eq_of_mul-eq-mul_right (2 ^ g) (pow_pos g) V 0 (sym units-is ∙ eqb-true (Q * 2 ^ (g + k)) 0 t ∙ sym (zero-mul (2 ^ g)))

          none : (a : ℕ) → V ≡ 0 → a ≡ a + (size V - p) * kit.hid F + V / 2 ^ (size V - p)
          none a z = sym (ap (λ (n : ℕ). a + (size n - p) * kit.hid F + n / 2 ^ (size n - p)) z ∙ at)
            where
              low : size 0 - p ≡ 0
              low = omega (arith, size_none)

              at : a + (size 0 - p) * kit.hid F + 0 / 2 ^ (size 0 - p) ≡ a
              at = rw low (omega (arith, zero-mul (kit.hid F), zero-div 1))
      go false t =
          ap (λ (n : ℕ). encode (ours F) (stored_as s n (size n - digits (ours F)))) (ap (λ (n : ℕ). n / 2 ^ g) units-is ∙ shl-shr V g)
          ∙ encoded F s V some
        where
          some : 0 < V
          some = go' V refl
            where
              go' : (n : ℕ) → V ≡ n → 0 < V
              go' zero z = absurd (eqb-false (Q * 2 ^ (g + k)) 0 t (units-is ∙ ap (λ (n : ℕ). n * 2 ^ g) z ∙ zero-mul (2 ^ g)))
              go' (suc n) z = omega (arith, z)

  -- ---- both

  overflowed : (q : ℕ) → encode (ours F) (overflow (ours F) no_settings q s).value ≡ kit.to_bits F (kit.inf s)
  overflowed q = ap (encode (ours F)) (go F) ∙ endless F s
    where
      go : (F : kit.Format) → (overflow (ours F) no_settings q s).value ≡ infinity s
      go kit.binary32 = unfold overflow in refl
      go kit.binary64 = unfold overflow in refl

  by-units : (q : ℕ) (o : Bool) → overflows (ours F) q g (Q * 2 ^ (g + k)) ≡ o → (n : ℕ)
      → encode (ours F) (cond o (overflow (ours F) no_settings q s) (record { value = number_of (ours F) g s (Q * 2 ^ (g + k)); flags = n })).value
      ≡ kit.to_bits F (kit.units F s Q k)
  by-units q o e n = go o (ltb V top-power) refl (sym e ∙ over-is q)
    where
      go : (o t : Bool) → ltb V top-power ≡ t → o ≡ not t
          → encode (ours F) (cond o (overflow (ours F) no_settings q s) (record { value = number_of (ours F) g s (Q * 2 ^ (g + k)); flags = n })).value
          ≡ kit.to_bits F (kit.units F s Q k)
      go true true i j = absurd (true≢false j)
      go false false i j = absurd (true≢false (sym j))
      go false true i j = below i
      go true false i j = overflowed q ∙ ap (kit.to_bits F) (sym (infinite i))
        where
          infinite : ltb V top-power ≡ false → kit.units F s Q k ≡ kit.inf s
          infinite i = unfold kit.units in rw i

  by-y : (q n y : ℕ) → Q * 2 ^ (g + k) ≡ y
      → encode (ours F) (cond (overflows (ours F) q g y) (overflow (ours F) no_settings q s) (record { value = number_of (ours F) g s y; flags = n })).value
      ≡ kit.to_bits F (kit.units F s Q k)
  by-y q n y e =
      subst (λ (y : ℕ). encode (ours F) (cond (overflows (ours F) q g y) (overflow (ours F) no_settings q s) (record { value = number_of (ours F) g s y; flags = n })).value
      ≡ kit.to_bits F (kit.units F s Q k)) e (by-units q _ refl n)

  unflushed : (t : Bool) (a b : Rounded) → cond (t && false) a b ≡ b
  unflushed true a b = refl
  unflushed false a b = refl

  y-is : rounded_at ties_to_even s x (last_place (emin_at (ours F) g) (digits (ours F)) (size x)) ≡ Q * 2 ^ (g + k)
  y-is = ap (rounded_at ties_to_even s x) place-is ∙ sym closest-kept

  alike : encode (ours F) (round (ours F) no_settings g s x).value ≡ kit.to_bits F (kit.round F s x (2 ^ (kit.low F + g)))
  unfolding round round_to finished precision_of
  alike =
      ap (λ (r : Rounded). encode (ours F) r.value) (unflushed _ _ _)
      ∙ by-y (digits (ours F)) _ _ (sym y-is)
      ∙ ap (kit.to_bits F) (sym kit-rounds)

pub rounds-alike : Rounds-alike
rounds-alike F g s x = alike F g s x
