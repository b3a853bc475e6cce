-- The terms of a list and of a dot. An element, or a pair of a dot, is one of five things: a NaN,
-- an infinity times a zero, an infinity, a zero, or a term. A term is a non-zero magnitude in units
-- (`Format`) with a sign; `top` is the position that counts for T: of its highest set bit, or of a
-- product one above the sum of its factors' tops.
use Rattle.std.specs.Prelude.{ℕ, Bool, ◌+◌, ◌-◌, ◌*◌, ◌^◌, false, not, true, List, cond}
use Rattle.std.specs.Float.Ieee.{size}
use Rattle.std.specs.Bool.{beq}
use Rattle.std.proofs.Math.Option.{Option, none, some}
use Rattle.totals_spec.specs.formats.Format.{room, Format}
use Rattle.totals_spec.specs.formats.Settings.{Summand, value, magnitude, square, Settings}
use Rattle.totals_spec.specs.formats.Decode.{Unpacked, zero_of, finite, infinity, nan, operand}
use Rattle.totals_spec.specs.Basics.{picked, total, Signed, difference, greatest}

pub record Term : Type 0 where
  pub neg : Bool
  pub mag : ℕ
  pub top : ℕ

-- the term of a number m × 2^k, and of a product of two
unfoldable pub single : Bool → ℕ → ℕ → Term
single s k m = record { neg = s; mag = m * 2 ^ (k + room); top = size m + k + room - 1 }

unfoldable pub product : Bool → ℕ → ℕ → ℕ → ℕ → Term
product s k m j n = record {
  neg = s;
  mag = m * n * 2 ^ (k + j + room);
  top = size m + size n + k + j + room - 1;
}

pub data Item : Type 0 where
  nan_item : Item
  invalid_item : Item
  infinite : (negative : Bool) → Item
  zero_item : (negative : Bool) → Item
  term : Term → Item

-- ---- an element of a list. Magnitudes and squares have no negative item

abbrev pub item_of : Summand → Unpacked → Item
item_of value (zero_of s) = zero_item s
item_of value (finite s k m) = term (single s k m)
item_of value (infinity s) = infinite s
item_of value (nan s g m) = nan_item
item_of magnitude (zero_of s) = zero_item false
item_of magnitude (finite s k m) = term (single false k m)
item_of magnitude (infinity s) = infinite false
item_of magnitude (nan s g m) = nan_item
item_of square (zero_of s) = zero_item false
item_of square (finite s k m) = term (product false k m k m)
item_of square (infinity s) = infinite false
item_of square (nan s g m) = nan_item

unfoldable pub item : Format → Settings → Summand → ℕ → Item
item f s u b = item_of u (operand f s b)

-- ---- a pair of a dot, with the sign of its product

abbrev pub unlike : Bool → Bool → Bool
unlike s t = not (beq s t)

abbrev pub pair_of : Unpacked → Unpacked → Item
pair_of (nan s g m) y = nan_item
pair_of (zero_of s) (nan t h n) = nan_item
pair_of (zero_of s) (zero_of t) = zero_item (unlike s t)
pair_of (zero_of s) (finite t j n) = zero_item (unlike s t)
pair_of (zero_of s) (infinity t) = invalid_item
pair_of (finite s k m) (nan t h n) = nan_item
pair_of (finite s k m) (zero_of t) = zero_item (unlike s t)
pair_of (finite s k m) (finite t j n) = term (product (unlike s t) k m j n)
pair_of (finite s k m) (infinity t) = infinite (unlike s t)
pair_of (infinity s) (nan t h n) = nan_item
pair_of (infinity s) (zero_of t) = invalid_item
pair_of (infinity s) (finite t j n) = infinite (unlike s t)
pair_of (infinity s) (infinity t) = infinite (unlike s t)

unfoldable pub pair_item : Format → Settings → ℕ × ℕ → Item
pair_item f s x = pair_of (operand f s x.0) (operand f s x.1)

-- ---- what stands in a list of items

abbrev pub is_nan_item : Item → Bool
is_nan_item nan_item = true
is_nan_item invalid_item = false
is_nan_item (infinite s) = false
is_nan_item (zero_item s) = false
is_nan_item (term t) = false

abbrev pub is_invalid : Item → Bool
is_invalid nan_item = false
is_invalid invalid_item = true
is_invalid (infinite s) = false
is_invalid (zero_item s) = false
is_invalid (term t) = false

-- an infinity, or a zero, of the sign s
abbrev pub is_infinite : Bool → Item → Bool
is_infinite s nan_item = false
is_infinite s invalid_item = false
is_infinite s (infinite t) = beq s t
is_infinite s (zero_item t) = false
is_infinite s (term t) = false

abbrev pub is_zero : Bool → Item → Bool
is_zero s nan_item = false
is_zero s invalid_item = false
is_zero s (infinite t) = false
is_zero s (zero_item t) = beq s t
is_zero s (term t) = false

abbrev pub term_of : Item → Option Term
term_of nan_item = none
term_of invalid_item = none
term_of (infinite s) = none
term_of (zero_item s) = none
term_of (term t) = some t

abbrev pub terms : List Item → List Term
terms l = picked term_of l

-- ---- the sums of the positive and of the negative terms, in units

abbrev pub plus_part : Term → ℕ
plus_part t = cond t.neg 0 t.mag

abbrev pub minus_part : Term → ℕ
minus_part t = cond t.neg t.mag 0

unfoldable pub plus_sum : List Term → ℕ
plus_sum ts = total plus_part ts

unfoldable pub minus_sum : List Term → ℕ
minus_sum ts = total minus_part ts

-- THE EXACT SUM
abbrev pub exact_sum : List Term → Signed
exact_sum ts = difference (plus_sum ts) (minus_sum ts)

-- ---- T, the greatest position that counts for it over the terms
abbrev pub top_of_term : Term → ℕ
top_of_term t = t.top

unfoldable pub top_of : List Term → ℕ
top_of ts = greatest top_of_term ts
