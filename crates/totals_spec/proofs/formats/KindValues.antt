-- A format's elements give only what its kind has; so without a pass the value alone tells the
-- side.
use mathlib.Core.List.{[], List, ◌∷◌, map}
use lib.Dec.{T, eqb}
use mathlib.Core.Bool.{Bool, true, false, cond, ◌&&◌, ◌||◌, true≢false}
use Prim.Native.Nat.{ℕ, zero, suc, ◌-◌, ◌^◌, ◌<◌}
use mathlib.Core.Path.{◌≡◌, refl, sym, ap}
use Rattle.totals_spec.specs.formats.Format.{Kind, ieee, Format, no_inf, fnuz, finite_only}
use Rattle.totals_spec.specs.formats.Format.{fraction_bits, kind_of}
use Rattle.totals_spec.specs.formats.Decode.{Unpacked, zero_of, finite, infinity, nan, number}
use Rattle.totals_spec.specs.formats.Decode.{top_field, ones, decode_fields, sign_bit, field_of}
use Rattle.totals_spec.specs.formats.Decode.{fraction_of, decode, is_subnormal, operand}
use Rattle.totals_spec.specs.formats.KindValues.{has_infinity, has_nan, Gives, AllGive}
use Rattle.totals_spec.specs.Basics.{is_set, any}
use Rattle.totals_spec.specs.formats.Settings.{Settings, Summand, value, magnitude, square}
use Rattle.totals_spec.specs.terms.Terms.{item_of, pair_of, Item, item, pair_item, nan_item}
use Rattle.totals_spec.specs.terms.Terms.{invalid_item, infinite, zero_item, term, is_nan_item}
use Rattle.totals_spec.specs.terms.Terms.{is_invalid, is_infinite}
use Rattle.totals_spec.specs.formats.Bounds.{RangeBounds}
use Rattle.totals_spec.specs.formats.Encode.{encode}
use Rattle.totals_spec.specs.rounding.Side.{side_of, rounded_side}
use Rattle.totals_spec.proofs.formats.DecodedBack.{back-zero, back-infinity, back-nan}
use Rattle.totals_spec.proofs.rounding.SideByFlags.{no_number, zero-beside}

-- ---- what an encoding stands for

abbrev Has : Kind → Unpacked → Type 0
Has k (zero_of s) = Unit {0}
Has k (finite s e m) = Unit {0}
Has k (infinity s) = T (has_infinity k)
Has k (nan s g m) = T (has_nan k)

number-has : (k : Kind) (t : ℕ) (s : Bool) (x m : ℕ) → Has k (number t s x m)
number-has k t s zero zero = tt
number-has k t s zero (suc m) = tt
number-has k t s (suc x) m = tt

ieee-has : (v : Unpacked) → Has ieee v
ieee-has (zero_of s) = tt
ieee-has (finite s k m) = tt
ieee-has (infinity s) = tt
ieee-has (nan s g m) = tt

cond_has : (k : Kind) (b : Bool) (v w : Unpacked) → Has k v → Has k w → Has k (cond b v w)
cond_has k true v w g h = g
cond_has k false v w g h = h

fields-have : (k : Kind) (f : Format) (s : Bool) (x m : ℕ) → Has k (decode_fields k f s x m)
fields-have ieee f s x m = ieee-has (decode_fields ieee f s x m)
fields-have no_inf f s x m = cond_has no_inf (top_field f x && ones f m) _ _ tt (number-has no_inf (fraction_bits f) s x m)
fields-have fnuz f s x m = cond_has fnuz (s && eqb x 0 && eqb m 0) _ _ tt (number-has fnuz (fraction_bits f) s x m)
fields-have finite_only f s x m = number-has finite_only (fraction_bits f) s x m

operand-has : (f : Format) (c : Settings) (b : ℕ) → Has (kind_of f.kind) (operand f c b)
unfolding operand decode
operand-has f c b =
    cond_has (kind_of f.kind) (is_set c.denormals_are_zero && is_subnormal f b) _ _ tt
    (fields-have (kind_of f.kind) f (sign_bit f b) (field_of f b) (fraction_of f b))

-- ---- what an element and a pair are

item-gives : (k : Kind) (u : Summand) (v : Unpacked) → Has k v → Gives k (item_of u v)
item-gives k value (zero_of s) h = tt
item-gives k value (finite s e m) h = tt
item-gives k value (infinity s) h = h
item-gives k value (nan s g m) h = h
item-gives k magnitude (zero_of s) h = tt
item-gives k magnitude (finite s e m) h = tt
item-gives k magnitude (infinity s) h = h
item-gives k magnitude (nan s g m) h = h
item-gives k square (zero_of s) h = tt
item-gives k square (finite s e m) h = tt
item-gives k square (infinity s) h = h
item-gives k square (nan s g m) h = h

pair-gives : (k : Kind) (v w : Unpacked) → Has k v → Has k w → Gives k (pair_of v w)
pair-gives k (nan s g m) w h i = h
pair-gives k (zero_of s) (nan t g n) h i = i
pair-gives k (zero_of s) (zero_of t) h i = tt
pair-gives k (zero_of s) (finite t j n) h i = tt
pair-gives k (zero_of s) (infinity t) h i = i
pair-gives k (finite s e m) (nan t g n) h i = i
pair-gives k (finite s e m) (zero_of t) h i = tt
pair-gives k (finite s e m) (finite t j n) h i = tt
pair-gives k (finite s e m) (infinity t) h i = i
pair-gives k (infinity s) (nan t g n) h i = i
pair-gives k (infinity s) (zero_of t) h i = h
pair-gives k (infinity s) (finite t j n) h i = h
pair-gives k (infinity s) (infinity t) h i = h

all_give : {A : Type 0} (k : Kind) (g : A → Item) → ((x : A) → Gives k (g x)) → (l : List A) → AllGive k (map g l)
all_give k g h [] = tt
all_give k g h (x ∷ l) = (h x, all_give k g h l)

module _ (f : Format) (c : Settings) where
  pub list-gives : (u : Summand) (l : List ℕ) → AllGive (kind_of f.kind) (map (item f c u) l)
  unfolding item
  list-gives u = all_give (kind_of f.kind) (item f c u) (λ b. item-gives (kind_of f.kind) u (operand f c b) (operand-has f c b))

  pub pairs-give : (l : List (ℕ × ℕ)) → AllGive (kind_of f.kind) (map (pair_item f c) l)
  unfolding pair_item
  pairs-give =
      all_give (kind_of f.kind) (pair_item f c)
      (λ x. pair-gives (kind_of f.kind) (operand f c x.0) (operand f c x.1) (operand-has f c x.0) (operand-has f c x.1))

-- ---- so what a test finds among them, the kind has

module _ (k : Kind) where
  found : (t : Item → Bool) (P : Type 0) → ((i : Item) → t i ≡ true → Gives k i → P) → (l : List Item) → AllGive k l → any t l ≡ true → P
  found t P h [] g e = absurd (true≢false (sym e))
  found t P h (i ∷ l) g e = go (t i) refl e (found t P h l g.1)
    where
      go : (b : Bool) → t i ≡ b → (b || any t l) ≡ true → (any t l ≡ true → P) → P
      go true a e later = h i a g.0
      go false a e later = later e

  pub nan-found : (l : List Item) → AllGive k l → any is_nan_item l ≡ true → T (has_nan k)
  nan-found = found is_nan_item (T (has_nan k)) at
    where
      at : (i : Item) → is_nan_item i ≡ true → Gives k i → T (has_nan k)
      at nan_item e g = g
      at invalid_item e g = absurd (true≢false (sym e))
      at (infinite s) e g = absurd (true≢false (sym e))
      at (zero_item s) e g = absurd (true≢false (sym e))
      at (term t) e g = absurd (true≢false (sym e))

  pub invalid-found : (l : List Item) → AllGive k l → any is_invalid l ≡ true → T (has_infinity k)
  invalid-found = found is_invalid (T (has_infinity k)) at
    where
      at : (i : Item) → is_invalid i ≡ true → Gives k i → T (has_infinity k)
      at nan_item e g = absurd (true≢false (sym e))
      at invalid_item e g = g
      at (infinite s) e g = absurd (true≢false (sym e))
      at (zero_item s) e g = absurd (true≢false (sym e))
      at (term t) e g = absurd (true≢false (sym e))

  pub infinity-found : (b : Bool) (l : List Item) → AllGive k l → any (is_infinite b) l ≡ true → T (has_infinity k)
  infinity-found b = found (is_infinite b) (T (has_infinity k)) at
    where
      at : (i : Item) → is_infinite b i ≡ true → Gives k i → T (has_infinity k)
      at nan_item e g = absurd (true≢false (sym e))
      at invalid_item e g = absurd (true≢false (sym e))
      at (infinite s) e g = g
      at (zero_item s) e g = absurd (true≢false (sym e))
      at (term t) e g = absurd (true≢false (sym e))

pub infinity-nan : (k : Kind) → T (has_infinity k) → T (has_nan k)
infinity-nan ieee t = tt
infinity-nan no_inf t = absurd t
infinity-nan fnuz t = absurd t
infinity-nan finite_only t = absurd t

-- ---- without a pass: a value beside a sum of 0 has the side that the value tells

module _ (f : Format) (b : RangeBounds f) where
  abbrev Told : Unpacked → Type 0
  Told v = side_of 0 (decode f (encode f v)) (record { neg = false; mag = 0 }) ≡ rounded_side v 0

  pub zero-told : (s : Bool) → Told (zero_of s)
  unfolding side_of rounded_side
  zero-told s = back-zero f b (λ (v : Unpacked). side_of 0 v (record { neg = false; mag = 0 }) ≡ 0) (λ t. zero-beside t false) s

  pub infinity-told : (s : Bool) → T (has_infinity (kind_of f.kind)) → Told (infinity s)
  unfolding side_of rounded_side
  infinity-told s h = ap (λ (v : Unpacked). side_of 0 v (record { neg = false; mag = 0 })) (back-infinity f b s (is-ieee (kind_of f.kind) h))
    where
      is-ieee : (k : Kind) → T (has_infinity k) → k ≡ ieee
      is-ieee ieee t = refl
      is-ieee no_inf t = absurd t
      is-ieee fnuz t = absurd t
      is-ieee finite_only t = absurd t

  pub nan-told : (s g : Bool) (m : ℕ) → T (has_nan (kind_of f.kind)) → m < 2 ^ (fraction_bits f - 1) → Told (nan s g m)
  unfolding rounded_side
  nan-told s g m h fits = no_number 0 _ _ (back-nan f b s g m h fits)
