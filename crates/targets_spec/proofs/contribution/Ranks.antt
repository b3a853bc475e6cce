-- The ranks of an Ieee format's encodings: in their order stand the numbers, with an infinity at
-- either end.
use Prim.Native.Nat.{ℕ, ◌+◌, ◌^◌, ◌*◌, ◌<◌, ◌-◌, zero-le, zero, suc, ◌/◌, ◌%◌, ◌≤◌}
use mathlib.Core.Logic.{◌↔◌}
use mathlib.Core.Bool.{Bool, true, false, not, ◌||◌, ◌&&◌, cond, true≢false}
use native.Mathlib.Nat.{le_refl, one-mul, lt_of_lt_of_le, mul-one, mod-lt, add-zero}
use native.Mathlib.Omega.{arith}
use lib.Dec.{T, leb→le, le→leb, leb, ltb, eqb}
use lib.Pow.{pow_pos, pow-add, pow_mono, field, mod-mod-pow}
use mathlib.Core.Path.{◌≡◌, refl, sym, ap, ap₂, ◌∙◌, subst}
use borrow.Author.Tests.{eqb-true, eqb-false, eq-eqb}
use Rattle.totals_spec.specs.formats.Format.{Format, digits, exponent_range, Kind, ieee, kind_of}
use Rattle.totals_spec.specs.formats.Format.{fraction_bits, range_of}
use Rattle.totals_spec.specs.Basics.{Signed, plus_of, minus_of}
use Rattle.totals_spec.specs.formats.Decode.{Unpacked, zero_of, finite, infinity, nan, number}
use Rattle.totals_spec.specs.formats.Decode.{sign_bit, field_of, fraction_of, decode_fields, decode}
use Rattle.totals_spec.specs.formats.Decode.{is_nan}
use Rattle.totals_spec.specs.formats.Ordered.{nothing, at_most, Ordered, worth}
use Rattle.totals_spec.specs.formats.Bounds.{RangeBounds}
use Rattle.totals_spec.proofs.formats.ExponentRange.{four-fields}
use Rattle.totals_spec.proofs.numbers.Powers.{scaled-lt}
use Rattle.totals_spec.proofs.rounding.RoundedNumbers.{Held}
use Rattle.totals_spec.proofs.formats.NumbersInOrder.{magnitude_at, magnitude_of, number-plus}
use Rattle.totals_spec.proofs.formats.NumbersInOrder.{number-minus, below, ordered_bits}
use Rattle.totals_spec.proofs.formats.NumbersInOrder.{bits-ordered}
use Rattle.targets_spec.specs.contribution.Contribution.{ranked, rank_of}

-- ---- a value in least numbers, an infinity as the power of two above them all

abbrev pub above_all : Format → ℕ
above_all f = 2 ^ (digits f + exponent_range f)

abbrev pub extent : Format → Unpacked → Signed
extent f (zero_of s) = nothing
extent f (finite s k m) = record { neg = s; mag = m * 2 ^ k }
extent f (infinity s) = record { neg = s; mag = above_all f }
extent f (nan s g m) = nothing

-- a number below that, or an infinity
abbrev pub Extends : Format → Unpacked → Type 0
Extends f (zero_of s) = Unit {0}
Extends f (finite s k m) = m * 2 ^ k < above_all f
Extends f (infinity s) = Unit {0}
Extends f (nan s g m) = ⊥

module _ (f : Format) where
  top_pos : 0 < above_all f
  top_pos = pow_pos (digits f + exponent_range f)

  abbrev AsOrdered : Unpacked → Unpacked → Type 0
  AsOrdered v w = Ordered v w ↔ T (at_most (extent f v) (extent f w))

  -- one part of a number is the number
  one_at_most : (s : Bool) (n : ℕ) (z : Signed) → T (at_most (record { neg = s; mag = 1 * n }) z) ↔ T (at_most (record { neg = s; mag = n }) z)
  one_at_most s n z = rw (one-mul n) ((λ h. h), λ h. h)

  -- an infinity beside a number n
  infinite-low : (s t : Bool) (n : ℕ) → n < above_all f → T s ↔ T (at_most (record { neg = s; mag = above_all f }) (record { neg = t; mag = n }))
  infinite-low true true n h = ((λ e. le→leb (0 + n) (0 + above_all f) (omega (arith, h))), λ e. tt)
  infinite-low true false n h = ((λ e. le→leb 0 (n + above_all f) zero-le), λ e. tt)
  infinite-low false true n h = ((λ e. absurd e), λ e. let z : ⊥ = omega (arith, leb→le (above_all f + n) (0 + 0) e, h) in z)
  infinite-low false false n h = ((λ e. absurd e), λ e. let z : ⊥ = omega (arith, leb→le (above_all f + 0) (n + 0) e, h) in z)

  infinite-high : (s t : Bool) (n : ℕ) → n < above_all f → T (not t) ↔ T (at_most (record { neg = s; mag = n }) (record { neg = t; mag = above_all f }))
  infinite-high true true n h = ((λ e. absurd e), λ e. let z : ⊥ = omega (arith, leb→le (0 + above_all f) (0 + n) e, h) in z)
  infinite-high true false n h = ((λ e. le→leb 0 (above_all f + n) zero-le), λ e. tt)
  infinite-high false true n h = ((λ e. absurd e), λ e. let z : ⊥ = omega (arith, leb→le (n + above_all f) (0 + 0) e, h) in z)
  infinite-high false false n h = ((λ e. le→leb (n + 0) (above_all f + 0) (omega (arith, h))), λ e. tt)

  infinite-both : (s t : Bool) → T (not t || s) ↔ T (at_most (record { neg = s; mag = above_all f }) (record { neg = t; mag = above_all f }))
  infinite-both true true = ((λ e. le→leb (0 + above_all f) (0 + above_all f) (le_refl (0 + above_all f))), λ e. tt)
  infinite-both true false = ((λ e. le→leb 0 (above_all f + above_all f) zero-le), λ e. tt)
  infinite-both false true = ((λ e. absurd e), λ e. let z : ⊥ = omega (arith, leb→le (above_all f + above_all f) (0 + 0) e, top_pos) in z)
  infinite-both false false = ((λ e. le→leb (above_all f + 0) (above_all f + 0) (le_refl (above_all f + 0))), λ e. tt)

  pub ordered-is : (v w : Unpacked) → Extends f v → Extends f w → AsOrdered v w
  ordered-is (zero_of s) (zero_of t) h k = ((λ e. e), λ e. e)
  ordered-is (zero_of s) (finite t j n) h k = ((λ e. e), λ e. e)
  ordered-is (zero_of s) (infinity t) h k = infinite-high false t 0 top_pos
  ordered-is (zero_of s) (nan t g n) h k = absurd k
  ordered-is (finite s i m) (zero_of t) h k = one_at_most s (m * 2 ^ i) nothing
  ordered-is (finite s i m) (finite t j n) h k = one_at_most s (m * 2 ^ i) (record { neg = t; mag = n * 2 ^ j })
  ordered-is (finite s i m) (infinity t) h k = infinite-high s t (m * 2 ^ i) h
  ordered-is (finite s i m) (nan t g n) h k = absurd k
  ordered-is (infinity s) (zero_of t) h k = infinite-low s false 0 top_pos
  ordered-is (infinity s) (finite t j n) h k = infinite-low s t (n * 2 ^ j) k
  ordered-is (infinity s) (infinity t) h k = infinite-both s t
  ordered-is (infinity s) (nan t g n) h k = absurd k
  ordered-is (nan s g m) w h k = absurd h

-- ---- of an encoding

module _ (f : Format) (b : RangeBounds f) (kind : kind_of f.kind ≡ ieee) where
  t-is : digits f ≡ suc (fraction_bits f)
  t-is = omega (arith, b.w-ge)

  range-is : exponent_range f ≡ 2 ^ f.E - 3
  unfolding exponent_range
  range-is = ap (λ (k : Kind). range_of k f.E) kind

  -- the exponent field of the infinities
  last-field : 2 ^ f.E - 1 ≡ suc (suc (exponent_range f))
  last-field = omega (arith, range-is, four-fields f b)

  top-is : above_all f ≡ magnitude_at (fraction_bits f) (suc (suc (exponent_range f))) 0
  top-is =
      ap (λ (n : ℕ). 2 ^ n) place ∙ pow-add 2 (fraction_bits f) (suc (exponent_range f))
      ∙ ap (λ (n : ℕ). n * 2 ^ suc (exponent_range f)) (sym (add-zero (2 ^ fraction_bits f)))
    where
      place : digits f + exponent_range f ≡ fraction_bits f + suc (exponent_range f)
      place = omega (arith, t-is)

  -- what stands in the fields x and m
  record Shown (s : Bool) (x m : ℕ) (v : Unpacked) : Type 0 where
    plus : plus_of (extent f v) ≡ cond s 0 (magnitude_at (fraction_bits f) x m)
    minus : minus_of (extent f v) ≡ cond s (magnitude_at (fraction_bits f) x m) 0
    extends : Extends f v

  shown-number : (s : Bool) (x m : ℕ) → m < 2 ^ fraction_bits f → x ≤ suc (exponent_range f) → Shown s x m (number (fraction_bits f) s x m)
  shown-number s x m hm hx = record {
    plus = ap plus_of (same x m) ∙ number-plus (fraction_bits f) s x m;
    minus = ap minus_of (same x m) ∙ number-minus (fraction_bits f) s x m;
    extends = inside x m (lt_of_lt_of_le (below (fraction_bits f) x m hm) room);
  }
    where
      same : (x m : ℕ) → extent f (number (fraction_bits f) s x m) ≡ worth (number (fraction_bits f) s x m)
      same zero zero = refl
      same zero (suc m) = refl
      same (suc x) m = refl

      place : fraction_bits f + x ≤ digits f + exponent_range f
      place = omega (arith, t-is, hx)

      room : 2 ^ fraction_bits f * 2 ^ x ≤ above_all f
      room = rw (← (pow-add 2 (fraction_bits f) x)) (pow_mono place)

      inside : (x m : ℕ) → magnitude_at (fraction_bits f) x m < above_all f → Extends f (number (fraction_bits f) s x m)
      inside zero zero h = tt
      inside zero (suc m) h = rw (mul-one (suc m)) h
      inside (suc x) m h = h

  shown : (s : Bool) (x m : ℕ) → x < 2 ^ f.E → m < 2 ^ fraction_bits f → is_nan (decode_fields ieee f s x m) ≡ false → Shown s x m (decode_fields ieee f s x m)
  shown s x m hx hm h = go (eqb x (2 ^ f.E - 1)) (eqb m 0) refl refl h
    where
      reserved : Bool → Unpacked
      reserved z = cond z (infinity s) (nan s (ltb m (2 ^ (fraction_bits f - 1))) (m % 2 ^ (fraction_bits f - 1)))

      go : (a z : Bool) → eqb x (2 ^ f.E - 1) ≡ a → eqb m 0 ≡ z → is_nan (cond a (reserved z) (number (fraction_bits f) s x m)) ≡ false
          → Shown s x m (cond a (reserved z) (number (fraction_bits f) s x m))
      go true true i j h = record { plus = ap (cond s 0) top; minus = ap (λ (n : ℕ). cond s n 0) top; extends = tt }
        where
          top : above_all f ≡ magnitude_at (fraction_bits f) x m
          top = top-is ∙ sym (ap₂ (magnitude_at (fraction_bits f)) (eqb-true x (2 ^ f.E - 1) i ∙ last-field) (eqb-true m 0 j))
      go true false i j h = absurd (true≢false h)
      go false z i j h = shown-number s x m hm (omega (arith, eqb-false x (2 ^ f.E - 1) i, hx, last-field))

  -- ---- THE ORDER of two encodings that are no NaN

  module _ (n : ℕ) (some : is_nan (decode f n) ≡ false) where
    by_kind : decode f n ≡ decode_fields ieee f (sign_bit f n) (field_of f n) (fraction_of f n)
    unfolding decode
    by_kind = ap (λ (k : Kind). decode_fields k f (sign_bit f n) (field_of f n) (fraction_of f n)) kind

    seen : Shown (sign_bit f n) (field_of f n) (fraction_of f n) (decode f n)
    seen =
        subst (Shown (sign_bit f n) (field_of f n) (fraction_of f n)) (sym by_kind)
        (shown (sign_bit f n) (field_of f n) (fraction_of f n) (mod-lt (n / 2 ^ fraction_bits f) (pow_pos f.E)) (mod-lt n (pow_pos (fraction_bits f)))
        (sym (ap is_nan by_kind) ∙ some))

    pub encoded-extends : Extends f (decode f n)
    encoded-extends = seen.extends

    -- the bits below the sign
    bits : magnitude_at (fraction_bits f) (field_of f n) (fraction_of f n) ≡ magnitude_of (fraction_bits f) (n % 2 ^ (f.W - 1))
    bits = rw place (ap₂ (magnitude_at (fraction_bits f)) (sym (field n f.E (fraction_bits f))) (sym (mod-mod-pow n f.E (fraction_bits f))))
      where
        place : f.W - 1 ≡ f.E + fraction_bits f
        place = omega (arith, b.w-ge)

    pub extent-plus : plus_of (extent f (decode f n)) ≡ cond (sign_bit f n) 0 (magnitude_of (fraction_bits f) (n % 2 ^ (f.W - 1)))
    extent-plus = seen.plus ∙ ap (cond (sign_bit f n) 0) bits

    pub extent-minus : minus_of (extent f (decode f n)) ≡ cond (sign_bit f n) (magnitude_of (fraction_bits f) (n % 2 ^ (f.W - 1))) 0
    extent-minus = seen.minus ∙ ap (λ (k : ℕ). cond (sign_bit f n) k 0) bits

  bits-ranked : (s t : Bool) (u v : ℕ) → u < 2 ^ (f.W - 1) → v < 2 ^ (f.W - 1) → ranked f s u ≤ ranked f t v ↔ T (ordered_bits s t u v)
  bits-ranked false false u v hu hv = ((λ h. le→leb u v (omega (arith, h))), λ h. omega (arith, leb→le u v h))
  bits-ranked true true u v hu hv = ((λ h. le→leb v u (omega (arith, h, hu, hv))), λ h. omega (arith, leb→le v u h))
  bits-ranked true false u v hu hv = ((λ h. tt), λ h. omega arith)
  bits-ranked false true u v hu hv = (forth, λ h. back (eqb u 0) (eqb v 0) refl refl h)
    where
      forth : 2 ^ (f.W - 1) + u ≤ 2 ^ (f.W - 1) - v → T (eqb u 0 && eqb v 0)
      forth h = rw (eq-eqb u 0 (omega (arith, h, hv)), eq-eqb v 0 (omega (arith, h, hv))) tt

      back : (x y : Bool) → eqb u 0 ≡ x → eqb v 0 ≡ y → T (x && y) → 2 ^ (f.W - 1) + u ≤ 2 ^ (f.W - 1) - v
      back true true i j h = omega (arith, eqb-true u 0 i, eqb-true v 0 j)
      back true false i j h = absurd h
      back false y i j h = absurd h

  pub rank-extents : (a c : ℕ) → is_nan (decode f a) ≡ false → is_nan (decode f c) ≡ false
      → rank_of f a ≤ rank_of f c ↔ T (at_most (extent f (decode f a)) (extent f (decode f c)))
  unfolding rank_of
  rank-extents a c h k = rw same (bits-ranked (sign_bit f a) (sign_bit f c) _ _ (mod-lt a (pow_pos (f.W - 1))) (mod-lt c (pow_pos (f.W - 1))))
    where
      same : at_most (extent f (decode f a)) (extent f (decode f c))
          ≡ ordered_bits (sign_bit f a) (sign_bit f c) (a % 2 ^ (f.W - 1)) (c % 2 ^ (f.W - 1))
      same =
          ap₂ leb (ap₂ ◌+◌ (extent-plus a h) (extent-minus c k)) (ap₂ ◌+◌ (extent-plus c k) (extent-minus a h))
          ∙ bits-ordered (fraction_bits f) (sign_bit f a) (sign_bit f c) (a % 2 ^ (f.W - 1)) (c % 2 ^ (f.W - 1))

  pub rank-ordered : (a c : ℕ) → is_nan (decode f a) ≡ false → is_nan (decode f c) ≡ false → rank_of f a ≤ rank_of f c ↔ Ordered (decode f a) (decode f c)
  rank-ordered a c h k =
      let r = rank-extents a c h k in
      let o = ordered-is f (decode f a) (decode f c) (encoded-extends a h) (encoded-extends c k) in
      ((λ x. o.1 (r.0 x)), λ x. r.1 (o.0 x))

  -- what the format holds, but for a NaN
  pub held-extends : (v : Unpacked) → Held f v → is_nan v ≡ false → Extends f v
  held-extends (zero_of s) h e = tt
  held-extends (finite s k m) h e = scaled-lt m k (suc (fraction_bits f)) (digits f + exponent_range f) h.short (omega (arith, t-is, small))
    where
      small : k ≤ exponent_range f
      small = omega (arith, h.field, h.below kind, last-field)
  held-extends (infinity s) h e = tt
  held-extends (nan s g m) h e = absurd (true≢false e)
