-- What every term that stands in a list has: a magnitude above 0, below twice the weight of the
-- position that counts for T, and no bit within `room` of the unit. And that there are no more
-- terms than elements.
use mathlib.Core.List.{[], List, ◌∷◌, map}
use Prim.Native.Nat.{suc, ◌-◌, ◌^◌, ◌≤◌, ◌<◌, ℕ, zero, ◌/◌, ◌%◌, ◌*◌, ◌+◌}
use mathlib.Core.Bool.{Bool, true, false, ◌&&◌, cond}
use native.Mathlib.Nat.{mod-lt, pow-succ', mul-pos, mul_assoc, lt_of_le_of_lt, le_of_lt}
use native.Mathlib.Nat.{mul-lt-mul_of_pos_right, mul-le-mul_left, le_refl}
use native.Mathlib.Omega.{arith}
use lib.Dec.{eqb, ltb}
use lib.Pow.{pow_pos, pow-add, shl_lt}
use mathlib.Core.Path.{◌≡◌, sym, ap, ◌∙◌, subst}
use lib.Ieee.{size}
use lib.Ieee.Digits.{size-lt}
use mathlib.Core.Option.{Option, none, some}
use lib.ListN.{length}
use Rattle.totals_spec.specs.formats.Format.{Format, fraction_bits, Kind, ieee, no_inf, fnuz}
use Rattle.totals_spec.specs.formats.Format.{finite_only, kind_of, room}
use Rattle.totals_spec.specs.formats.Decode.{Unpacked, zero_of, finite, infinity, nan, number}
use Rattle.totals_spec.specs.formats.Decode.{top_field, ones, decode_fields, decode, sign_bit}
use Rattle.totals_spec.specs.formats.Decode.{field_of, fraction_of, is_subnormal, operand}
use Rattle.totals_spec.specs.Basics.{is_set, keep, picked}
use Rattle.totals_spec.specs.formats.Settings.{Settings, Summand, value, magnitude, square}
use Rattle.totals_spec.specs.terms.Terms.{Term, single, product, Item, nan_item, invalid_item}
use Rattle.totals_spec.specs.terms.Terms.{infinite, zero_item, term, item_of, pair_of, unlike}
use Rattle.totals_spec.specs.terms.Terms.{term_of, terms, item, pair_item}

-- ---- a decoded finite number m × 2^k: m is above 0 and has at most p bits, and k is at most the
-- exponent range

abbrev pub Decoded : Format → Unpacked → Type 0
Decoded f (zero_of s) = Unit {0}
Decoded f (finite s k m) = (0 < m) × (m < 2 ^ suc (fraction_bits f)) × (k ≤ 2 ^ f.E - 2)
Decoded f (infinity s) = Unit {0}
Decoded f (nan s g m) = Unit {0}

module _ (f : Format) where
  decoded-cond : (b : Bool) (x y : Unpacked) → Decoded f x → Decoded f y → Decoded f (cond b x y)
  decoded-cond true x y h k = h
  decoded-cond false x y h k = k

  module _ (s : Bool) (x m : ℕ) (hx : x < 2 ^ f.E) (hm : m < 2 ^ fraction_bits f) where
    decoded-number : Decoded f (number (fraction_bits f) s x m)
    decoded-number = go x m hx hm
      where
        go : (x m : ℕ) → x < 2 ^ f.E → m < 2 ^ fraction_bits f → Decoded f (number (fraction_bits f) s x m)
        go zero zero hx hm = tt
        go zero (suc m) hx hm = (omega arith, omega (arith, pow-succ' 2 (fraction_bits f)), omega arith)
        go (suc x) m hx hm = (omega (arith, pow_pos (fraction_bits f)), omega (arith, pow-succ' 2 (fraction_bits f)), omega arith)

    decoded-fields : (k : Kind) → Decoded f (decode_fields k f s x m)
    decoded-fields ieee =
        decoded-cond (top_field f x)
        (cond (eqb m 0) (infinity s) (nan s (ltb m (2 ^ (fraction_bits f - 1))) (m % 2 ^ (fraction_bits f - 1))))
        (number (fraction_bits f) s x m)
        (decoded-cond (eqb m 0) (infinity s) (nan s (ltb m (2 ^ (fraction_bits f - 1))) (m % 2 ^ (fraction_bits f - 1))) tt tt)
        decoded-number
    decoded-fields no_inf = decoded-cond (top_field f x && ones f m) (nan s false 0) (number (fraction_bits f) s x m) tt decoded-number
    decoded-fields fnuz = decoded-cond (s && eqb x 0 && eqb m 0) (nan s false 0) (number (fraction_bits f) s x m) tt decoded-number
    decoded-fields finite_only = decoded-number

  pub decoded : (b : ℕ) → Decoded f (decode f b)
  unfolding decode
  decoded b =
      decoded-fields (sign_bit f b) (field_of f b) (fraction_of f b) (mod-lt (b / 2 ^ fraction_bits f) (pow_pos f.E)) (mod-lt b (pow_pos (fraction_bits f)))
      (kind_of f.kind)

  pub decoded-operand : (c : Settings) (b : ℕ) → Decoded f (operand f c b)
  unfolding operand
  decoded-operand c b = decoded-cond (is_set c.denormals_are_zero && is_subnormal f b) (zero_of (sign_bit f b)) (decode f b) tt (decoded b)

-- ---- good terms

pub record Good (t : Term) : Type 0 where
  pub positive : 0 < t.mag
  pub fits : t.mag < 2 ^ suc t.top
  pub units : ℕ
  pub whole : t.mag ≡ units * 2 ^ room

abbrev pub AllGood : List Term → Type 0
AllGood [] = Unit {0}
AllGood (t ∷ ts) = Good t × AllGood ts

-- a + b + r − 1 + 1, with the sum bracketed as `shl_lt` has it
top_one : (z k r : ℕ) → 0 < r → suc (z + k + r - 1) ≡ z + (k + r)
top_one z k r h = omega arith

top-two : (y z k j r : ℕ) → 0 < r → suc (y + z + k + j + r - 1) ≡ (y + z) + (k + j + r)
top-two y z k j r h = omega arith

room-pos : 0 < room
room-pos = omega arith

good-single : (s : Bool) (k m : ℕ) → 0 < m → Good (single s k m)
unfolding single
good-single s k m h = record {
  positive = mul-pos h (pow_pos (k + room));
  fits = subst (λ (x : ℕ). m * 2 ^ (k + room) < 2 ^ x) (sym (top_one (size m) k room room-pos)) (shl_lt (size m) (k + room) (size-lt m));
  units = m * 2 ^ k;
  whole = ap (λ (x : ℕ). m * x) (pow-add 2 k room) ∙ sym (mul_assoc m (2 ^ k) (2 ^ room));
}

mul-lt-pow : (m n : ℕ) → m * n < 2 ^ (size m + size n)
mul-lt-pow m n =
    subst (λ (x : ℕ). m * n < x) (sym (pow-add 2 (size m) (size n)))
    (lt_of_le_of_lt (mul-le-mul_left m (le_of_lt (size-lt n))) (mul-lt-mul_of_pos_right (size-lt m) (pow_pos (size n))))

pub good-product : (s : Bool) (k m j n : ℕ) → 0 < m → 0 < n → Good (product s k m j n)
unfolding product
good-product s k m j n h g = record {
  positive = mul-pos (mul-pos h g) (pow_pos (k + j + room));
  fits = subst (λ (x : ℕ). m * n * 2 ^ (k + j + room) < 2 ^ x) (sym (top-two (size m) (size n) k j room room-pos))
      (shl_lt (size m + size n) (k + j + room) (mul-lt-pow m n));
  units = m * n * 2 ^ (k + j);
  whole = ap (λ (x : ℕ). m * n * x) (pow-add 2 (k + j) room) ∙ sym (mul_assoc (m * n) (2 ^ (k + j)) (2 ^ room));
}

-- ---- every term of a list is good

abbrev pub GoodItem : Item → Type 0
GoodItem nan_item = Unit {0}
GoodItem invalid_item = Unit {0}
GoodItem (infinite s) = Unit {0}
GoodItem (zero_item s) = Unit {0}
GoodItem (term t) = Good t

pub good-item_of : (f : Format) (u : Summand) (x : Unpacked) → Decoded f x → GoodItem (item_of u x)
good-item_of f value (zero_of s) h = tt
good-item_of f value (finite s k m) h = good-single s k m h.0
good-item_of f value (infinity s) h = tt
good-item_of f value (nan s g m) h = tt
good-item_of f magnitude (zero_of s) h = tt
good-item_of f magnitude (finite s k m) h = good-single false k m h.0
good-item_of f magnitude (infinity s) h = tt
good-item_of f magnitude (nan s g m) h = tt
good-item_of f square (zero_of s) h = tt
good-item_of f square (finite s k m) h = good-product false k m k m h.0 h.0
good-item_of f square (infinity s) h = tt
good-item_of f square (nan s g m) h = tt

pub good-pair_of : (f : Format) (x y : Unpacked) → Decoded f x → Decoded f y → GoodItem (pair_of x y)
good-pair_of f (nan s g m) y h k = tt
good-pair_of f (zero_of s) (nan t b n) h k = tt
good-pair_of f (zero_of s) (zero_of t) h k = tt
good-pair_of f (zero_of s) (finite t j n) h k = tt
good-pair_of f (zero_of s) (infinity t) h k = tt
good-pair_of f (finite s i m) (nan t b n) h k = tt
good-pair_of f (finite s i m) (zero_of t) h k = tt
good-pair_of f (finite s i m) (finite t j n) h k = good-product (unlike s t) i m j n h.0 k.0
good-pair_of f (finite s i m) (infinity t) h k = tt
good-pair_of f (infinity s) (nan t b n) h k = tt
good-pair_of f (infinity s) (zero_of t) h k = tt
good-pair_of f (infinity s) (finite t j n) h k = tt
good-pair_of f (infinity s) (infinity t) h k = tt

good-keep : (x : Item) (ts : List Term) → GoodItem x → AllGood ts → AllGood (keep (term_of x) ts)
good-keep nan_item ts g h = h
good-keep invalid_item ts g h = h
good-keep (infinite s) ts g h = h
good-keep (zero_item s) ts g h = h
good-keep (term t) ts g h = (g, h)

-- one rule for a list of elements and for one of pairs
pub good-items : {A : Type 0} (i : A → Item) → ((x : A) → GoodItem (i x)) → (l : List A) → AllGood (terms (map i l))
good-items i h [] = tt
good-items i h (x ∷ l) = good-keep (i x) (terms (map i l)) (h x) (good-items i h l)

pub good-terms : (f : Format) (c : Settings) (u : Summand) (l : List ℕ) → AllGood (terms (map (item f c u) l))
good-terms f c u l = good-items (item f c u) (λ b. unfold item in good-item_of f u (operand f c b) (decoded-operand f c b)) l

pub good-pairs : (f : Format) (c : Settings) (l : List (ℕ × ℕ)) → AllGood (terms (map (pair_item f c) l))
good-pairs f c l =
    good-items (pair_item f c)
    (λ x. unfold pair_item in
    good-pair_of f (operand f c x.0) (operand f c x.1) (decoded-operand f c x.0) (decoded-operand f c x.1)) l

-- ---- no more terms than elements

module _ {A B : Type 0} where
  pub picked-length : (f : A → Option B) (l : List A) → length (picked f l) ≤ length l
  picked-length f [] = le_refl 0
  picked-length f (x ∷ l) = go (f x) (picked-length f l)
    where
      go : (o : Option B) → length (picked f l) ≤ length l → length (keep o (picked f l)) ≤ suc (length l)
      go none h = omega arith
      go (some b) h = omega arith
