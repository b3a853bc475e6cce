-- The pairs of two lists of one length, and a pair as a term of the code.
use mathlib.Core.Path.{◌≡◌, refl, sym, ap, ◌∙◌}
use mathlib.Core.Bool.{Bool, true, false, true≢false, and-eq-true_iff}
use mathlib.Core.List.{List, [], ◌∷◌}
use Prim.Native.Nat.{ℕ, zero, suc, ◌+◌, ◌*◌, ◌<◌}
use native.Mathlib.Nat.{le_of_suc-le-suc, suc_inj, suc-ne-zero}
use native.Mathlib.Omega.{arith}
use lib.ListN.{length, get_or}
use Rattle.totals_spec.specs.formats.Format as spec
use Rattle.totals_spec.specs.formats.Settings as env
use Rattle.totals_spec.specs.formats.Decode as dec
use Rattle.totals_spec.specs.terms.Terms as terms
use Rattle.totals_spec.specs.sums.Totals.{pairs}
use Rattle.totals_spec.specs.formats.Bounds.{FormatBounds}
use Rattle.binary.specs.Encodings.{is_plain}
use Rattle.binary.proofs.Plain.{Plain, plainly}
use Rattle.binary.specs.declared.term.Term.{Term}
use Rattle.binary.specs.declared.term.Item.TheVariants as item
use Rattle.binary.specs.Terms.{magnitude, StandsFor, item_of}
use Rattle.binary.specs.Plain.{plain_product, both_plain, plain_fields, fields_top}
use Rattle.binary.proofs.Elements.{plain-operand, plain-nan, plain_size, above-some, field-small}

-- ---- pairs of two lists

pub pairs-at : (x y : List ℕ) (i : ℕ) → length y ≡ length x → i < length x → get_or (pairs x y) i (0, 0) ≡ (get_or x i 0, get_or y i 0)
pairs-at [] y i e h = absurd (none i h)
  where
    none : (i : ℕ) → i < 0 → ⊥
    none i h = omega arith
pairs-at (a ∷ x) [] i e h = absurd (suc-ne-zero (length x) (sym e))
pairs-at (a ∷ x) (b ∷ y) zero e h = refl
pairs-at (a ∷ x) (b ∷ y) (suc i) e h = pairs-at x y i (suc_inj e) (le_of_suc-le-suc h)

-- ---- plainly numbers, both

pub both-plainly : (format : spec.Format) (x y : ℕ) → both_plain format x y ≡ true → Plain format x × Plain format y
both-plainly format x y e = let b = (and-eq-true_iff (is_plain format x) (is_plain format y)).0 e in (plainly format x b.0, plainly format y b.1)

pub plain-pair : (format : spec.Format) (settings : env.Settings) (x y : ℕ) → Plain format x × Plain format y → terms.term (plain_product format x y) ≡ terms.pair_item format settings (x, y)
unfolding terms.pair_item
plain-pair format settings x y h = sym (rw (plain-operand format x h.0 settings, plain-operand format y h.1 settings))

-- what the sum of the fields of two plainly normal elements says
abbrev pub PlainFields : ℕ → spec.Format → ℕ → ℕ → Type 0
PlainFields r f x y =
    0 < r → (settings : env.Settings) → (dec.is_subnormal f x ≡ false) × (dec.is_subnormal f y ≡ false)
    × (dec.is_nan (dec.decode f x) ≡ false) × (dec.is_nan (dec.decode f y) ≡ false)
    × (item_of (terms.pair_item f settings (x, y)) ≡ item.Top (fields_top f r))

-- the position of a product of normal numbers, by the sum of their fields
positioned : (format : spec.Format) (x y r : ℕ) → FormatBounds format → Plain format x × Plain format y → r ≡ dec.field_of format x + dec.field_of format y → PlainFields r format x y
unfolding terms.product
positioned format x y r h p e z c = (
  p.0.normal,
  p.1.normal,
  plain-nan format x p.0,
  plain-nan format y p.1,
  ap item_of (sym (plain-pair format c x y p))
      ∙ ap item.Top (omega (arith, p.0.some, p.1.some, plain_size format x h, plain_size format y h, above-some (2 * spec.digits format + 1021) r z)),
)

module _ (format : spec.Format) (x y r : ℕ) (h : FormatBounds format) (e : r ≡ plain_fields format x y) where
  pub plain-fields : PlainFields r format x y
  plain-fields = go (both_plain format x y) refl
    where
      go : (b : Bool) → both_plain format x y ≡ b → PlainFields r format x y
      go true q = positioned format x y r h (both-plainly format x y q) (e ∙ rw q)
      go false q = λ z. let n : r ≡ 0 = e ∙ rw q in absurd (omega arith)

  pub plain-fields-small : r < 536870912
  plain-fields-small = go (both_plain format x y) refl
    where
      go : (b : Bool) → both_plain format x y ≡ b → r < 536870912
      go true q = let n : r ≡ dec.field_of format x + dec.field_of format y = e ∙ rw q in omega (arith, field-small format x h, field-small format y h)
      go false q = let n : r ≡ 0 = e ∙ rw q in omega arith

-- ---- a pair of which one is no finite number is no term

pub none_left : (x y : dec.Unpacked) (t : Term) → dec.is_finite x ≡ false → magnitude t ≡ 0 → t.shift ≡ 0 → StandsFor t (terms.pair_of x y)
none_left (dec.finite s k m) y t e z h = absurd (true≢false e)
none_left (dec.nan s g m) y t e z h = (z, h)
none_left (dec.zero_of s) (dec.nan r g n) t e z h = (z, h)
none_left (dec.zero_of s) (dec.zero_of r) t e z h = (z, h)
none_left (dec.zero_of s) (dec.finite r j n) t e z h = (z, h)
none_left (dec.zero_of s) (dec.infinity r) t e z h = (z, h)
none_left (dec.infinity s) (dec.nan r g n) t e z h = (z, h)
none_left (dec.infinity s) (dec.zero_of r) t e z h = (z, h)
none_left (dec.infinity s) (dec.finite r j n) t e z h = (z, h)
none_left (dec.infinity s) (dec.infinity r) t e z h = (z, h)

none_right : (s : Bool) (k m : ℕ) (y : dec.Unpacked) (t : Term) → dec.is_finite y ≡ false → magnitude t ≡ 0 → t.shift ≡ 0
    → StandsFor t (terms.pair_of (dec.finite s k m) y)
none_right s k m (dec.finite r j n) t e z h = absurd (true≢false e)
none_right s k m (dec.nan r g n) t e z h = (z, h)
none_right s k m (dec.zero_of r) t e z h = (z, h)
none_right s k m (dec.infinity r) t e z h = (z, h)

-- whichever of the two it is
pub none-either : (x y : dec.Unpacked) (t : Term) → dec.is_finite y ≡ false → magnitude t ≡ 0 → t.shift ≡ 0 → StandsFor t (terms.pair_of x y)
none-either (dec.finite s k m) y t e z h = none_right s k m y t e z h
none-either (dec.nan s g m) y t e z h = none_left (dec.nan s g m) y t refl z h
none-either (dec.zero_of s) y t e z h = none_left (dec.zero_of s) y t refl z h
none-either (dec.infinity s) y t e z h = none_left (dec.infinity s) y t refl z h
