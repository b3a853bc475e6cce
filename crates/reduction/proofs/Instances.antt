-- What the fields of codes say, in an offered format.
use mathlib.Core.Path.{◌≡◌}
use Prim.Native.Nat.{ℕ}
use Rattle.totals_spec.specs.terms.Terms.{item, pair_item}
use Rattle.format.specs.declared.layout.Layout.{Layout}
use Rattle.format.specs.Layouts.{layout_of}
use Rattle.format.proofs.Layouts.{layout_bounds}
use Rattle.binary.specs.Plain.{plain_field, plain_fields}
use Rattle.binary.proofs.Elements.{plain-field, plain-field-small}
use Rattle.binary.proofs.Pairs.{plain-fields, plain-fields-small}
use Rattle.reduction.specs.Encodings.{of_layout, FieldIn, FieldsIn}

module _ (l : Layout) where
  pub field-in : (b n : ℕ) → n ≡ plain_field (layout_of l) b → FieldIn (of_layout l) b n
  unfolding item
  field-in b n e = record { small = plain-field-small (layout_of l) b n (layout_bounds l) e; plain = plain-field (layout_of l) b n (layout_bounds l) e }

  pub fields-in : (x y n : ℕ) → n ≡ plain_fields (layout_of l) x y → FieldsIn (of_layout l) x y n
  unfolding pair_item
  fields-in x y n e = record {
    small = plain-fields-small (layout_of l) x y n (layout_bounds l) e;
    plain = plain-fields (layout_of l) x y n (layout_bounds l) e;
  }
