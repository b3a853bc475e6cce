-- A format that names its kind's own bias answers as the format that names none. It is valid where
-- that one is, and its bias is the same; all else is read from the kind and the widths alone, and
-- so is the same layer by layer.
use mathlib.Core.List.{[], List, ◌∷◌}
use Prim.Native.Nat.{ℕ, ◌-◌, ◌^◌, ◌≤◌, ◌+◌}
use native.Mathlib.Omega.{arith}
use lib.Pow.{pow_mono}
use mathlib.Core.Path.{◌≡◌, refl, ap, fun_ext}
use mathlib.Core.Bool.{Bool, true, false, ◌&&◌}
use lib.Dec.{T, leb, leb→le}
use borrow.Author.Tests.{le-leb}
use Rattle.totals_spec.specs.formats.Format.{Kind, ieee, no_inf, fnuz, finite_only, bias_of, Format}
use Rattle.totals_spec.specs.formats.Format.{kind_of, offered, valid_format, bias, lift}
use Rattle.totals_spec.specs.formats.Format.{exponent_range, depth, origin, fall, grid, rise}
use Rattle.totals_spec.specs.Basics.{Signed, any}
use Rattle.totals_spec.specs.formats.Settings.{Settings, no_settings, valid_settings, precision_of}
use Rattle.totals_spec.specs.formats.Settings.{Summand, value, summand_of}
use Rattle.totals_spec.specs.formats.Decode.{Unpacked, zero_of, finite, infinity, nan}
use Rattle.totals_spec.specs.formats.Decode.{decode_fields, decode, is_subnormal, operand}
use Rattle.totals_spec.specs.terms.Terms.{Item, item, pair_item}
use Rattle.totals_spec.specs.chain.Chain.{Run}
use Rattle.totals_spec.specs.rounding.Round.{Rounded, overflows, largest, overflow, number_of}
use Rattle.totals_spec.specs.rounding.Round.{finished, tiny_sum, round_to, round}
use Rattle.totals_spec.specs.formats.Encode.{zero_bits, nan_bits, encode}
use Rattle.totals_spec.specs.sums.Totals.{special, reported, sum_rounded, finite_total, without_nan}
use Rattle.totals_spec.specs.sums.Totals.{accepted, sum_refusal, sum_accepted, sum_answer, pairs}
use Rattle.totals_spec.specs.sums.Totals.{operands, dot_refusal, dot_place, dot_accepted}
use Rattle.totals_spec.specs.sums.Totals.{dot_answer}
use Rattle.totals_spec.specs.entries.Bytes.{values_in, sum_entry, dot_entry}
use Rattle.totals_spec.specs.pence.Pence.{pence_answer, not_number, sum_figure, sum_pence}
use Rattle.totals_spec.specs.formats.Promises.{naming_own, naming_none, Named-own}

-- ---- the definitions that read the name: the kind's own bias may be named, and is the bias

pub own-le : (k : Kind) (e : ℕ) → e ≤ 28 → bias_of k e ≤ 268435456
own-le k e h = go k
  where
    half : 2 ^ (e - 1) ≤ 2 ^ 28
    half = pow_mono {i = e - 1} {j = 28} (omega arith)

    go : (k : Kind) → bias_of k e ≤ 268435456
    go ieee = omega (arith, half)
    go no_inf = omega (arith, half)
    go fnuz = omega (arith, half)
    go finite_only = omega (arith, half)

module _ (f : Format) where
  pub valid-own : valid_format (naming_own f) ≡ valid_format (naming_none f)
  unfolding valid_format
  valid-own = go (leb f.kind 3) (leb 2 f.E) (leb f.E 28) (leb (f.E + 2) f.W) (leb f.W 64) (leb→le f.E 28)
    where
      go : (a b c d g : Bool) → (T c → f.E ≤ 28) → (a && b && c && d && g && offered (naming_own f).named) ≡ (a && b && c && d && g && true)
      go true true true d g h = ap (λ (x : Bool). d && g && x) (le-leb _ _ (own-le (kind_of f.kind) f.E (h tt)))
      go true true false d g h = refl
      go true false c d g h = refl
      go false b c d g h = refl

  pub bias-own : bias (naming_own f) ≡ bias (naming_none f)
  unfolding bias
  bias-own = refl

  pub lift-own : lift (naming_own f) ≡ lift (naming_none f)
  unfolding lift
  lift-own = refl

  -- ---- encodings

  fields-own : (k : Kind) → decode_fields k (naming_own f) ≡ decode_fields k (naming_none f)
  fields-own ieee = refl
  fields-own no_inf = refl
  fields-own fnuz = refl
  fields-own finite_only = refl

  pub decode-own : (b : ℕ) → decode (naming_own f) b ≡ decode (naming_none f) b
  unfolding decode
  decode-own b = cc (fields-own (kind_of f.kind))

  zero-own : (k : Kind) → zero_bits k (naming_own f) ≡ zero_bits k (naming_none f)
  zero-own ieee = refl
  zero-own no_inf = refl
  zero-own fnuz = refl
  zero-own finite_only = refl

  nan-own : (k : Kind) → nan_bits k (naming_own f) ≡ nan_bits k (naming_none f)
  nan-own ieee = refl
  nan-own no_inf = refl
  nan-own fnuz = refl
  nan-own finite_only = refl

  pub encode-own : (v : Unpacked) → encode (naming_own f) v ≡ encode (naming_none f) v
  unfolding encode
  encode-own (zero_of s) = cc (zero-own (kind_of f.kind))
  encode-own (finite s k m) = refl
  encode-own (infinity s) = refl
  encode-own (nan s g m) = cc (nan-own (kind_of f.kind))

  -- ---- elements and pairs

  pub subnormal-own : (b : ℕ) → is_subnormal (naming_own f) b ≡ is_subnormal (naming_none f) b
  unfolding is_subnormal
  subnormal-own b = cc (decode-own b)

  operand-own : (c : Settings) (b : ℕ) → operand (naming_own f) c b ≡ operand (naming_none f) c b
  unfolding operand
  operand-own c b = cc (subnormal-own b, decode-own b)

  pub item-own : (c : Settings) (u : Summand) (b : ℕ) → item (naming_own f) c u b ≡ item (naming_none f) c u b
  unfolding item
  item-own c u b = cc (operand-own c b)

  pub pair-own : (c : Settings) (x : ℕ × ℕ) → pair_item (naming_own f) c x ≡ pair_item (naming_none f) c x
  unfolding pair_item
  pair-own c x = cc (operand-own c x.0, operand-own c x.1)

  operands-own : (l : List (ℕ × ℕ)) → operands (naming_own f) l ≡ operands (naming_none f) l
  operands-own [] = refl
  operands-own (x ∷ l) = cc (decode-own x.0, decode-own x.1, operands-own l)

  -- ---- the record

  pub special-own : (sub : Bool) (v : Unpacked) (invalid : Bool) → special (naming_own f) sub v invalid ≡ special (naming_none f) sub v invalid
  unfolding special
  special-own sub v invalid = simp (encode-own, decode-own)

  pub rounded-own : (c : Settings) (g : ℕ) (towards : Bool) (x : Signed) → sum_rounded (naming_own f) c g towards x ≡ sum_rounded (naming_none f) c g towards x
  unfolding sum_rounded round round_to finished tiny_sum overflows largest overflow number_of precision_of exponent_range
  rounded-own c g towards x = refl

  reported-own : (sub products : Bool) (x : Signed) (r : Rounded) (h : Run)
      → reported (naming_own f) sub products x r h ≡ reported (naming_none f) sub products x r h
  unfolding reported fall origin grid depth
  reported-own sub products x r h = simp (encode-own, decode-own) (cc (bias-own, lift-own))

  accepted-own : (c : Settings) (sub products first signaling : Bool) (v : Unpacked) (l : List Item)
      → accepted (naming_own f) c sub products first signaling v l ≡ accepted (naming_none f) c sub products first signaling v l
  unfolding accepted without_nan finite_total grid rise depth
  accepted-own c sub products first signaling v l = simp (special-own, reported-own, rounded-own) (cc (bias-own, lift-own))

  -- ---- the totals

  sum-accepted : (c : Settings) (u : Summand) (l : List ℕ) → sum_accepted (naming_own f) c u l ≡ sum_accepted (naming_none f) c u l
  unfolding sum_accepted
  sum-accepted c u l = simp (accepted-own, decode-own) (cc (fun_ext decode-own, fun_ext subnormal-own, fun_ext (item-own c u)))

  pub sum-own : (c : Settings) (u : ℕ) (l : List ℕ) → sum_answer (naming_own f) c u l ≡ sum_answer (naming_none f) c u l
  unfolding sum_answer sum_refusal valid_settings
  sum-own c u l = cc (valid-own, sum-accepted c (summand_of u) l)

  dot-accepted : (c : Settings) (l : List (ℕ × ℕ)) → dot_accepted (naming_own f) c l ≡ dot_accepted (naming_none f) c l
  unfolding dot_accepted
  dot-accepted c l = simp (accepted-own, decode-own, subnormal-own, operands-own) (cc (fun_ext (pair-own c)))

  pub dot-own : (c : Settings) (xs ys : List ℕ) → dot_answer (naming_own f) c xs ys ≡ dot_answer (naming_none f) c xs ys
  unfolding dot_answer dot_refusal valid_settings dot_place
  dot-own c xs ys = cc (valid-own, dot-accepted c (pairs xs ys))

  sum-entry-own : (c : Settings) (u : ℕ) (bytes old : List ℕ) → sum_entry (naming_own f) c u bytes old ≡ sum_entry (naming_none f) c u bytes old
  unfolding sum_entry
  sum-entry-own c u bytes old = cc (sum-own c u (values_in bytes))

  dot-entry-own : (c : Settings) (left right old : List ℕ) → dot_entry (naming_own f) c left right old ≡ dot_entry (naming_none f) c left right old
  unfolding dot_entry
  dot-entry-own c left right old = cc (dot-own c (values_in left) (values_in right))

  pence-own : (b : ℕ) → pence_answer (naming_own f) b ≡ pence_answer (naming_none f) b
  unfolding pence_answer depth
  pence-own b = cc (valid-own, bias-own, lift-own, decode-own b)

  pub numbers-own : (l : List ℕ) → any (not_number (naming_own f)) l ≡ any (not_number (naming_none f)) l
  numbers-own [] = refl
  numbers-own (b ∷ l) = cc (decode-own b, numbers-own l)

  sum-pence-own : (l : List ℕ) → sum_pence (naming_own f) l ≡ sum_pence (naming_none f) l
  unfolding sum_pence sum_figure origin fall depth
  sum-pence-own l = cc (valid-own, bias-own, lift-own, numbers-own l, fun_ext (item-own no_settings value))

pub named-own : Named-own
named-own f = record {
  sum = sum-own f;
  dot = dot-own f;
  sum-entry = sum-entry-own f;
  dot-entry = dot-entry-own f;
  pence = pence-own f;
  sum-pence = sum-pence-own f;
}
