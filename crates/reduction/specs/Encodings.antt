-- How the codes of a list are read, in whatever encoding, and what a scan gathers of them.
use Rattle.std.specs.Prelude.{◌≡◌, refl, Bool, false, ◌||◌, List, map, ℕ, max, ◌<◌}
use Rattle.totals_spec.specs.Basics.{any}
use Rattle.totals_spec.specs.formats.Format as spec
use Rattle.totals_spec.specs.formats.Settings as env
use Rattle.totals_spec.specs.formats.Decode as dec
use Rattle.totals_spec.specs.terms.Terms as terms
use Rattle.totals_spec.specs.formats.Bounds.{RangeBounds}
use Rattle.totals_spec.specs.ten_bytes.Extended.{extended, decode_extended, subnormal_extended, extended_operand, both_of}
use Rattle.totals_spec.proofs.terms.GoodTerms.{Decoded, decoded-operand}
use Rattle.totals_spec.proofs.ten_bytes.WrittenOut.{extended-bounds}
use Rattle.totals_spec.proofs.ten_bytes.Terms.{operand-decoded, extended-encodes}
use Rattle.format.specs.declared.layout.Layout.{Layout}
use Rattle.format.specs.Layouts.{layout_of}
use Rattle.format.specs.Fits.{Encodes}
use Rattle.format.specs.Unpacked.{unpacked_of}
use Rattle.format.proofs.Layouts.{layout_bounds}
use Rattle.binary.specs.declared.Read.{Read}
use Rattle.binary.specs.Nans.{if_nan}
use Rattle.binary.proofs.Held.{decoded-encodes, operand-held, extended-held, if-encodes}
use Rattle.binary.specs.declared.term.Item.TheVariants as item
use Rattle.binary.specs.Terms.{item_of}
use Rattle.binary.specs.Plain.{field_top, fields_top}
use Rattle.binary.proofs.Elements.{field-none, field-max, fields-max}
use Rattle.reduction.specs.declared.scan.Scan.{Scan}
use Rattle.reduction.specs.Scan.{TakesPair, Gathered}

-- ---- an encoding

-- What a code stands for, whether it is subnormal, and its operand; and the position that counts
-- for T of a code that is plainly normal, by its exponent field, and of a pair of such codes, by
-- the sum of their fields. With the laws by which a scan is that of a list.
pub record Encoding : Type 0 where
  pub format : spec.Format
  pub subnormal : ℕ → Bool
  pub decode : ℕ → dec.Unpacked
  pub operand : env.Settings → ℕ → dec.Unpacked
  pub top : env.Summand → ℕ → ℕ
  pub pair_top : ℕ → ℕ
  -- an operand is a number of the format, or none, and with a NaN it is what was decoded
  pub range : RangeBounds format
  pub decoded : (c : env.Settings) (b : ℕ) → Decoded format (operand c b)
  pub held : (c : env.Settings) (b : ℕ) → if_nan (operand c b) ≡ if_nan (decode b)
  pub encodes : (b : ℕ) → Encodes format (if_nan (decode b))
  -- the greatest field has the greatest position, and the field 0 none
  pub top-none : (u : env.Summand) → top u 0 ≡ 0
  pub top-max : (u : env.Summand) (m n : ℕ) → top u (max m n) ≡ max (top u m) (top u n)
  pub pair-top-none : pair_top 0 ≡ 0
  pub pair-top-max : (m n : ℕ) → pair_top (max m n) ≡ max (pair_top m) (pair_top n)

-- that of an offered format
abbrev pub of_layout : Layout → Encoding
of_layout l =
    let f = layout_of l in
    record {
      format = f;
      subnormal = dec.is_subnormal f;
      decode = dec.decode f;
      operand = dec.operand f;
      top = field_top f;
      pair_top = fields_top f;
      range = (layout_bounds l).range;
      decoded = decoded-operand f;
      held = operand-held f;
      encodes = decoded-encodes f;
      top-none = field-none f;
      top-max = field-max f;
      pair-top-none = refl;
      pair-top-max = fields-max f;
    }

-- and that of ten bytes (kind 4), of which every code takes a closer look
abbrev pub of_tens : Encoding
of_tens = record {
  format = extended;
  subnormal = subnormal_extended;
  decode = decode_extended;
  operand = extended_operand;
  top = λ u n. 0;
  pair_top = λ n. 0;
  range = extended-bounds;
  decoded = λ c b. operand-decoded b c;
  held = extended-held;
  encodes = λ b. if-encodes extended (decode_extended b) (extended-encodes b);
  top-none = λ u. refl;
  top-max = λ u m n. refl;
  pair-top-none = refl;
  pair-top-max = λ m n. refl;
}

-- ---- one code, and a pair

-- exponent fields have at most 28 bits, and so a sum of two at most 29
abbrev pub field_end : ℕ
field_end = 268435456

abbrev pub fields_end : ℕ
fields_end = 536870912

-- whether a code is that of a signaling NaN, and the item that it is; and the item of two
abbrev pub signaling_in : Encoding → ℕ → Bool
signaling_in e b = dec.is_signaling (e.decode b)

abbrev pub item_in : Encoding → env.Settings → env.Summand → ℕ → terms.Item
item_in e c u b = terms.item_of u (e.operand c b)

abbrev pub pair_in : Encoding → env.Settings → ℕ × ℕ → terms.Item
pair_in e c x = terms.pair_of (e.operand c x.0) (e.operand c x.1)

-- what was read is the operand of a code
abbrev pub ReadAs : Encoding → env.Settings → ℕ → Read → Type 0
ReadAs e c b read = (unpacked_of read.value ≡ e.operand c b) × (read.subnormal ≡ e.subnormal b)

-- `next` is a scan with the operands of two codes, and their pair
abbrev pub TakesPairIn : Encoding → env.Settings → ℕ × ℕ → Scan → Scan → Type 0
TakesPairIn e c x scan next =
    TakesPair c (e.subnormal x.0) (e.subnormal x.1) (e.operand c x.0) (e.operand c x.1) scan next

-- n is the exponent field of a code that is plainly normal, or 0
pub record FieldIn (e : Encoding) (b n : ℕ) : Type 0 where
  pub small : n < field_end
  pub plain :
      0 < n → (u : env.Summand) (c : env.Settings)
      → (e.subnormal b ≡ false) × (dec.is_nan (e.decode b) ≡ false)
      × (item_of (item_in e c u b) ≡ item.Top (e.top u n))

-- or of two the sum
pub record FieldsIn (e : Encoding) (x y n : ℕ) : Type 0 where
  pub small : n < fields_end
  pub plain :
      0 < n → (c : env.Settings) → (e.subnormal x ≡ false) × (e.subnormal y ≡ false)
      × (dec.is_nan (e.decode x) ≡ false) × (dec.is_nan (e.decode y) ≡ false)
      × (item_of (pair_in e c (x, y)) ≡ item.Top (e.pair_top n))

-- ---- lists

-- the scan of the codes of a list
abbrev pub ScannedAs : Encoding → env.Settings → env.Summand → List ℕ → Scan → Type 0
ScannedAs e c u l scan =
    Gathered e.format c (any e.subnormal l) (any (signaling_in e) l) (map e.decode l) (map (item_in e c u) l) scan

-- and of the pairs of a dot
abbrev pub ScannedPairsAs : Encoding → env.Settings → List (ℕ × ℕ) → Scan → Type 0
ScannedPairsAs e c l scan =
    Gathered e.format c (any (λ x. e.subnormal x.0 || e.subnormal x.1) l)
    (any (λ x. signaling_in e x.0 || signaling_in e x.1) l) (map e.decode (both_of l)) (map (pair_in e c) l) scan
