-- What is decoded can be encoded, and so can the choice among NaNs.
use mathlib.Core.Path.{◌≡◌, ap}
use mathlib.Core.Bool.{Bool, true, false, ◌&&◌, cond}
use mathlib.Core.List.{List, [], ◌∷◌, map}
use Prim.Native.Nat.{ℕ, zero, suc, ◌-◌, ◌/◌, ◌%◌, ◌^◌, ◌≤◌, ◌<◌}
use native.Mathlib.Nat.{mod-lt, pow-suc}
use native.Mathlib.Omega.{arith}
use lib.Dec.{eqb, ltb}
use lib.Pow.{pow_pos, pow_mono}
use Rattle.totals_spec.specs.formats.Bounds.{FormatBounds}
use Rattle.totals_spec.specs.formats.Format.{Format, Kind, ieee, no_inf, fnuz, finite_only, kind_of}
use Rattle.totals_spec.specs.formats.Format.{fraction_bits, digits}
use Rattle.totals_spec.specs.formats.Settings.{Settings, Propagation, signaling_first}
use Rattle.totals_spec.specs.formats.Settings.{first_operand, larger_significand, default_nan}
use Rattle.totals_spec.specs.formats.Settings.{propagation_of}
use Rattle.totals_spec.specs.formats.Decode.{Unpacked, zero_of, finite, infinity, nan, number}
use Rattle.totals_spec.specs.formats.Decode.{top_field, ones, decode_fields, decode, sign_bit}
use Rattle.totals_spec.specs.formats.Decode.{field_of, fraction_of}
use Rattle.totals_spec.specs.sums.Nan.{stays_nan, choose, chosen_of, quiet, by_rule, default_nan_of}
use Rattle.totals_spec.specs.sums.Nan.{select_all}
use Rattle.totals_spec.specs.sums.Totals.{operands}
use Rattle.totals_spec.specs.formats.Encodes.{Encodes}

module _ (f : Format) where
  pub encodes-cond : (b : Bool) (x y : Unpacked) → Encodes f x → Encodes f y → Encodes f (cond b x y)
  encodes-cond true x y h k = h
  encodes-cond false x y h k = k

  module _ (b : FormatBounds f) where
    encodes-number : (s : Bool) (x m : ℕ) → x < 2 ^ f.E → m < 2 ^ fraction_bits f → Encodes f (number (fraction_bits f) s x m)
    encodes-number s x m hx hm = go x m hx hm
      where
        whole : 2 ^ digits f ≡ 2 ^ suc (fraction_bits f)
        whole = ap (λ (n : ℕ). 2 ^ n) (omega (arith, b.w-ge))

        four : 2 ^ 2 ≤ 2 ^ f.E
        four = pow_mono b.e-ge

        go : (x m : ℕ) → x < 2 ^ f.E → m < 2 ^ fraction_bits f → Encodes f (number (fraction_bits f) s x m)
        go zero zero hx hm = tt
        go zero (suc m) hx hm = (omega (arith, four), omega (arith, whole, pow-suc 2 (fraction_bits f)))
        go (suc x) m hx hm = (omega arith, omega (arith, whole, pow-suc 2 (fraction_bits f)))

    encodes-fields : (k : Kind) (s : Bool) (x m : ℕ) → x < 2 ^ f.E → m < 2 ^ fraction_bits f → Encodes f (decode_fields k f s x m)
    encodes-fields ieee s x m hx hm =
        encodes-cond (top_field f x)
        (cond (eqb m 0) (infinity s) (nan s (ltb m (2 ^ (fraction_bits f - 1))) (m % 2 ^ (fraction_bits f - 1))))
        (number (fraction_bits f) s x m)
        (encodes-cond (eqb m 0) (infinity s) (nan s (ltb m (2 ^ (fraction_bits f - 1))) (m % 2 ^ (fraction_bits f - 1))) tt
        (mod-lt m (pow_pos (fraction_bits f - 1))))
        (encodes-number s x m hx hm)
    encodes-fields no_inf s x m hx hm =
        encodes-cond (top_field f x && ones f m) (nan s false 0) (number (fraction_bits f) s x m) (pow_pos (fraction_bits f - 1)) (encodes-number s x m hx hm)
    encodes-fields fnuz s x m hx hm =
        encodes-cond (s && eqb x 0 && eqb m 0) (nan s false 0) (number (fraction_bits f) s x m) (pow_pos (fraction_bits f - 1)) (encodes-number s x m hx hm)
    encodes-fields finite_only s x m hx hm = encodes-number s x m hx hm

    pub decode-encodes : (n : ℕ) → Encodes f (decode f n)
    unfolding decode
    decode-encodes n =
        encodes-fields (kind_of f.kind) (sign_bit f n) (field_of f n) (fraction_of f n) (mod-lt (n / 2 ^ fraction_bits f) (pow_pos f.E))
        (mod-lt n (pow_pos (fraction_bits f)))

  -- ---- the choice among NaNs

  pub choose-encodes : (r : Propagation) (x y : Unpacked) → Encodes f x → Encodes f y → Encodes f (choose r x y)
  choose-encodes r (nan s g m) (nan t h n) a b = encodes-cond (stays_nan r s g m t h n) (nan s g m) (nan t h n) a b
  choose-encodes r (nan s g m) (zero_of t) a b = a
  choose-encodes r (nan s g m) (finite t k n) a b = a
  choose-encodes r (nan s g m) (infinity t) a b = a
  choose-encodes r (zero_of s) y a b = b
  choose-encodes r (finite s k m) y a b = b
  choose-encodes r (infinity s) y a b = b

  pub quiet-encodes : (x : Unpacked) → Encodes f x → Encodes f (quiet x)
  quiet-encodes (nan s g m) h = h
  quiet-encodes (zero_of s) h = h
  quiet-encodes (finite s k m) h = h
  quiet-encodes (infinity s) h = h

  pub default-encodes : (c : Settings) → Encodes f (default_nan_of c)
  unfolding default_nan_of
  default-encodes c = pow_pos (fraction_bits f - 1)

  -- of operands that can be encoded
  abbrev pub AllEncode : List Unpacked → Type 0
  AllEncode [] = Unit {0}
  AllEncode (v ∷ l) = Encodes f v × AllEncode l

  chosen-encodes : (r : Propagation) (x : Unpacked) (l : List Unpacked) → Encodes f x → AllEncode l → Encodes f (chosen_of r x l)
  chosen-encodes r x [] h k = h
  chosen-encodes r x (y ∷ l) h k = chosen-encodes r (choose r x y) l (choose-encodes r x y h k.0) k.1

  quieted : (r : Propagation) (l : List Unpacked) → AllEncode l → Encodes f (quiet (chosen_of r (zero_of false) l))
  quieted r l h = quiet-encodes (chosen_of r (zero_of false) l) (chosen-encodes r (zero_of false) l tt h)

  pub select-encodes : (c : Settings) (l : List Unpacked) → AllEncode l → Encodes f (select_all c l)
  unfolding select_all
  select-encodes c l h = go (propagation_of c.nan_propagation)
    where
      go : (r : Propagation) → Encodes f (by_rule r c l)
      go signaling_first = quieted signaling_first l h
      go first_operand = quieted first_operand l h
      go larger_significand = quieted larger_significand l h
      go default_nan = default-encodes c

  module _ (b : FormatBounds f) where
    pub elements-encode : (l : List ℕ) → AllEncode (map (decode f) l)
    elements-encode [] = tt
    elements-encode (x ∷ l) = (decode-encodes b x, elements-encode l)

    pub operands-encode : (l : List (ℕ × ℕ)) → AllEncode (operands f l)
    operands-encode [] = tt
    operands-encode (x ∷ l) = (decode-encodes b x.0, (decode-encodes b x.1, operands-encode l))
