-- An element as a term of the code: its significand, its small exponent, its position, and which of
-- its kinds is no term.
use Rattle.std.specs.Prelude.{◌≢◌}
use mathlib.Core.Path.{◌≡◌, refl, sym, ap, ◌∙◌, subst}
use mathlib.Core.Bool.{Bool, true, false, ◌&&◌, cond, true≢false}
use Prim.Native.Nat.{ℕ, zero, suc, ◌+◌, ◌-◌, ◌*◌, ◌/◌, ◌^◌, ◌≤◌, ◌<◌, max}
use native.Mathlib.Nat.{mul-pos, mod-lt, lt_of_lt_of_le, zero-mul, add-zero, pow-suc, zero-max, max-zero, suc-max-suc}
use native.Mathlib.Omega.{arith}
use lib.Ieee.{size}
use lib.Pow.{pow_pos, pow_mono}
use Rattle.totals_spec.specs.Basics.{is_set}
use Rattle.totals_spec.specs.formats.Format as spec
use Rattle.totals_spec.specs.formats.Settings as env
use Rattle.totals_spec.specs.formats.Decode as dec
use Rattle.totals_spec.specs.terms.Terms as terms
use Rattle.totals_spec.specs.sums.Totals.{is_value}
use Rattle.totals_spec.specs.pence.Hundredfold.{hundred_of, hundred_item}
use Rattle.totals_spec.specs.formats.Bounds.{RangeBounds, FormatBounds}
use Rattle.totals_spec.specs.ten_bytes.Extended.{extended, extended_operand}
use Rattle.totals_spec.proofs.numbers.Bits.{size_is}
use Rattle.totals_spec.proofs.terms.GoodTerms.{Decoded, decoded-operand}
use Rattle.totals_spec.proofs.ten_bytes.WrittenOut.{extended-bounds}
use Rattle.totals_spec.proofs.ten_bytes.Terms.{operand-decoded}
use Rattle.format.specs.declared.layout.Layout.{Layout}
use Rattle.format.specs.Layouts.{layout_of}
use Rattle.format.proofs.Layouts.{layout_bounds}
use Rattle.binary.specs.declared.summand.Summand.{Summand}
use Rattle.binary.specs.declared.summand.Summand.TheVariants.{Value, Magnitude, Square}
use Rattle.binary.specs.Summands.{summand_in}
use Rattle.binary.specs.declared.term.Term.{Term}
use Rattle.binary.specs.declared.term.Item.TheVariants as item
use Rattle.binary.specs.Encodings.{is_plain}
use Rattle.binary.proofs.Plain.{Plain, plainly}
use Rattle.binary.specs.Terms.{magnitude, StandsFor, Bounded, item_of}
use Rattle.binary.specs.Plain.{plain_number, plain_field, above_base, field_top, fields_top}

-- ---- an operand: its exponent is below 2^28, its significand above 0

module _ (format : spec.Format) (h : RangeBounds format) where
  pub bounded : (x : dec.Unpacked) → Decoded format x → Bounded x
  bounded (dec.zero_of s) d = tt
  bounded (dec.finite s k m) d = let p : 2 ^ format.E ≤ 2 ^ 28 = pow_mono h.e-le in (omega (arith, p), d.0)
  bounded (dec.infinity s) d = tt
  bounded (dec.nan s g m) d = tt

pub operand-bounded : (format : spec.Format) → FormatBounds format → (settings : env.Settings) (b : ℕ) (x : dec.Unpacked) → dec.operand format settings b ≡ x → Bounded x
operand-bounded format h settings b x e = subst Bounded e (bounded format h.range (dec.operand format settings b) (decoded-operand format settings b))

pub extended-bounded : (settings : env.Settings) (b : ℕ) (x : dec.Unpacked) → extended_operand settings b ≡ x → Bounded x
extended-bounded settings b x e = subst Bounded e (bounded extended extended-bounds (extended_operand settings b) (operand-decoded b settings))

pub field-small : (format : spec.Format) (b : ℕ) → FormatBounds format → dec.field_of format b < 268435456
field-small format b h = lt_of_lt_of_le (mod-lt (b / 2 ^ spec.fraction_bits format) (pow_pos format.E)) (pow_mono h.e-le)

significand-pos : (format : spec.Format) (b : ℕ) → 0 < 2 ^ spec.fraction_bits format + dec.fraction_of format b
significand-pos format b = omega (arith, pow_pos (spec.fraction_bits format))

pub layout-bounded : (layout : Layout) (settings : env.Settings) (b : ℕ) (x : dec.Unpacked) → dec.operand (layout_of layout) settings b ≡ x → Bounded x
layout-bounded layout = operand-bounded (layout_of layout) (layout_bounds layout)

pub ruleset operands = (layout-bounded, extended-bounded)

-- as the code reads them
pub field-shift : (format : spec.Format) (b x : ℕ) → FormatBounds format → x ≡ dec.field_of format b → x - 1 < 268435456
field-shift format b x h e = omega (arith, field-small format b h, e)

pub normal-pos : (format : spec.Format) (b m : ℕ) → m ≡ 2 ^ spec.fraction_bits format + dec.fraction_of format b → 0 < m
normal-pos format b m e = rw e (significand-pos format b)

-- ---- what is no term

pub none-stands : (summand : env.Summand) (x : dec.Unpacked) (t : Term) → dec.is_finite x ≡ false → magnitude t ≡ 0 → t.shift ≡ 0 → StandsFor t (terms.item_of summand x)
none-stands summand (dec.finite s k m) t e z h = absurd (true≢false e)
none-stands env.value (dec.zero_of s) t e z h = (z, h)
none-stands env.value (dec.infinity s) t e z h = (z, h)
none-stands env.value (dec.nan s g m) t e z h = (z, h)
none-stands env.magnitude (dec.zero_of s) t e z h = (z, h)
none-stands env.magnitude (dec.infinity s) t e z h = (z, h)
none-stands env.magnitude (dec.nan s g m) t e z h = (z, h)
none-stands env.square (dec.zero_of s) t e z h = (z, h)
none-stands env.square (dec.infinity s) t e z h = (z, h)
none-stands env.square (dec.nan s g m) t e z h = (z, h)

pub no-hundred : (x : dec.Unpacked) (t : Term) → dec.is_finite x ≡ false → magnitude t ≡ 0 → t.shift ≡ 0 → StandsFor t (hundred_of x)
no-hundred (dec.finite s k m) t e z h = absurd (true≢false e)
no-hundred (dec.zero_of s) t e z h = (z, h)
no-hundred (dec.infinity s) t e z h = (z, h)
no-hundred (dec.nan s g m) t e z h = (z, h)

pub no-magnitude : (t : Term) → t.significand ≡ 0 → magnitude t ≡ 0
unfolding magnitude
no-magnitude t e = ap (λ (n : ℕ). n * 2 ^ t.shift) e ∙ zero-mul (2 ^ t.shift)

-- ---- summands

pub square-of : (u : ℕ) → 2 ≤ u → env.summand_of u ≡ env.square
square-of zero h = absurd (no h)
  where
    no : 2 ≤ 0 → ⊥
    no h = omega arith
square-of (suc zero) h = absurd (no h)
  where
    no : 2 ≤ 1 → ⊥
    no h = omega arith
square-of (suc (suc n)) h = refl

two-le : (n : ℕ) → suc (suc n) < 2 → ⊥
two-le n h = omega arith

-- a number's own term, where it is not squared
pub single_of : (summand : Summand) (s b : Bool) (k m : ℕ) → summand ≢ Square → k < 268435456 → 0 < m → b ≡ (is_value (summand_in summand) && s)
    → StandsFor (record { negative = b; significand = m; shift = k + 1024 }) (terms.item_of (summand_in summand) (dec.finite s k m))
unfolding magnitude terms.single
single_of Value s b k m h g z e = (refl, e, omega arith, mul-pos z (pow_pos (k + 1024)))
single_of Magnitude s b k m h g z e = (refl, e, omega arith, mul-pos z (pow_pos (k + 1024)))
single_of Square s b k m h g z e = absurd (h refl)

-- ---- an element that is plainly a number

module _ (format : spec.Format) (x : ℕ) (h : Plain format x) where
  pub plain-operand : (settings : env.Settings) → dec.operand format settings x ≡ plain_number format x
  unfolding dec.operand
  plain-operand settings = rw h.normal (off (is_set settings.denormals_are_zero) ∙ h.number)
    where
      off : (b : Bool) → cond (b && false) (dec.zero_of (dec.sign_bit format x)) (dec.decode format x) ≡ dec.decode format x
      off true = refl
      off false = refl

  pub plain-nan : dec.is_nan (dec.decode format x) ≡ false
  plain-nan = ap dec.is_nan h.number

pub plain-item : (format : spec.Format) (settings : env.Settings) (summand : env.Summand) (x : ℕ) → Plain format x → terms.item_of summand (plain_number format x) ≡ terms.item format settings summand x
unfolding terms.item
plain-item format settings summand x h = ap (terms.item_of summand) (sym (plain-operand format x h settings))

pub plain-hundred : (format : spec.Format) (settings : env.Settings) (x : ℕ) → Plain format x → hundred_of (plain_number format x) ≡ hundred_item format settings x
unfolding hundred_item
plain-hundred format settings x h = ap hundred_of (sym (plain-operand format x h settings))

-- a normal significand has p digits
normal-size : (format : spec.Format) (m : ℕ) → FormatBounds format → m < 2 ^ spec.fraction_bits format → size (2 ^ spec.fraction_bits format + m) ≡ spec.digits format
normal-size format m h l =
    size_is (2 ^ spec.fraction_bits format + m) (spec.fraction_bits format) (omega (arith, l, pow-suc 2 (spec.fraction_bits format))) (omega arith) ∙ omega (arith, h.w-ge)

pub plain_size : (format : spec.Format) (x : ℕ) → FormatBounds format → size (2 ^ spec.fraction_bits format + dec.fraction_of format x) ≡ spec.digits format
plain_size format x h = normal-size format (dec.fraction_of format x) h (mod-lt x (pow_pos (spec.fraction_bits format)))

-- and so has the least of them
pub least_size : (format : spec.Format) → FormatBounds format → size (2 ^ spec.fraction_bits format) ≡ spec.digits format
least_size format h = rw add-zero at (normal-size format 0 h (pow_pos (spec.fraction_bits format)))

-- ---- the position of a normal number, by its field

pub above-some : (base n : ℕ) → 0 < n → above_base base n ≡ n + base
above-some base zero h = absurd (omega arith)
above-some base (suc k) h = refl

above-max : (base a b : ℕ) → above_base base (max a b) ≡ max (above_base base a) (above_base base b)
above-max base zero b = simp zero-max
above-max base (suc a) zero = simp max-zero
above-max base (suc a) (suc b) = rw suc-max-suc (omega arith)

pub field-none : (format : spec.Format) (summand : env.Summand) → field_top format summand 0 ≡ 0
field-none format env.value = refl
field-none format env.magnitude = refl
field-none format env.square = refl

-- the greatest field has the greatest position
pub fields-max : (format : spec.Format) (a b : ℕ) → fields_top format (max a b) ≡ max (fields_top format a) (fields_top format b)
fields-max format a b = above-max (2 * spec.digits format + 1021) a b

pub field-max : (format : spec.Format) (summand : env.Summand) (a b : ℕ) → field_top format summand (max a b) ≡ max (field_top format summand a) (field_top format summand b)
field-max format env.value a b = above-max (spec.digits format + 1022) a b
field-max format env.magnitude a b = above-max (spec.digits format + 1022) a b
field-max format env.square a b = let e : max a b + max a b ≡ max (a + a) (b + b) = omega arith in rw e (fields-max format (a + a) (b + b))

-- what the field of a plainly normal element says
abbrev pub PlainField : ℕ → spec.Format → ℕ → Type 0
PlainField r f b =
    0 < r → (summand : env.Summand) (settings : env.Settings) → (dec.is_subnormal f b ≡ false) × (dec.is_nan (dec.decode f b) ≡ false)
    × (item_of (terms.item f settings summand b) ≡ item.Top (field_top f summand r))

module _ (format : spec.Format) (x r : ℕ) (h : FormatBounds format) (p : Plain format x) (e : r ≡ dec.field_of format x) where
  position : (summand : env.Summand) → 0 < r → item_of (terms.item_of summand (plain_number format x)) ≡ item.Top (field_top format summand r)
  unfolding terms.single terms.product
  position env.value z = ap item.Top (omega (arith, plain_size format x h, above-some (spec.digits format + 1022) r z))
  position env.magnitude z = ap item.Top (omega (arith, plain_size format x h, above-some (spec.digits format + 1022) r z))
  position env.square z = ap item.Top (omega (arith, plain_size format x h, above-some (2 * spec.digits format + 1021) (r + r) (omega arith)))

  positioned : PlainField r format x
  positioned z summand c = (p.normal, plain-nan format x p, ap item_of (sym (plain-item format c summand x p)) ∙ position summand z)

module _ (format : spec.Format) (x r : ℕ) (h : FormatBounds format) (e : r ≡ plain_field format x) where
  pub plain-field : PlainField r format x
  plain-field = go (is_plain format x) refl
    where
      go : (b : Bool) → is_plain format x ≡ b → PlainField r format x
      go true q = positioned format x r h (plainly format x q) (e ∙ rw q)
      go false q = λ z. let n : r ≡ 0 = e ∙ rw q in absurd (omega arith)

  pub plain-field-small : r < 268435456
  plain-field-small = go (is_plain format x) refl
    where
      go : (b : Bool) → is_plain format x ≡ b → r < 268435456
      go true q = let n : r ≡ dec.field_of format x = e ∙ rw q in omega (arith, field-small format x h)
      go false q = let n : r ≡ 0 = e ∙ rw q in omega arith
