-- The elements of kind 4 (`Extended` of specs/) are numbers of `extended`: their terms are good, so
-- that the laws of chains and of roundings hold of them.
use mathlib.Core.Path.{◌≡◌, refl, ap, ◌∙◌, sym, ap₂}
use mathlib.Core.Bool.{Bool, true, false, not, ◌&&◌, cond, ◌||◌}
use mathlib.Core.List.{[], List, ◌∷◌, map}
use Prim.Native.Nat.{ℕ, zero, suc, ◌+◌, ◌-◌, ◌%◌, ◌^◌, ◌≤◌, ◌<◌, ◌/◌}
use native.Mathlib.Nat.{mod-lt}
use native.Mathlib.Omega.{arith}
use lib.Dec.{T, eqb, ltb, eqb→eq, nltb→le}
use lib.Pow.{pow_pos}
use lib.ListN.{length}
use Rattle.totals_spec.specs.formats.Encodes.{Encodes}
use Rattle.totals_spec.specs.formats.Decode.{Unpacked, infinity, nan, zero_of, is_number, is_nan}
use Rattle.totals_spec.specs.ten_bytes.Extended.{extended, unsupported_fields, extended_top}
use Rattle.totals_spec.specs.ten_bytes.Extended.{extended_number, extended_fields, sign_in}
use Rattle.totals_spec.specs.ten_bytes.Extended.{field_in, significand_in, unsupported}
use Rattle.totals_spec.specs.ten_bytes.Extended.{decode_extended, subnormal_extended}
use Rattle.totals_spec.specs.ten_bytes.Extended.{extended_operand, both_of, extended_item}
use Rattle.totals_spec.specs.ten_bytes.Extended.{extended_terms, extended_pair}
use Rattle.totals_spec.specs.Basics.{is_set, any}
use Rattle.totals_spec.specs.formats.Settings.{Settings, Summand}
use Rattle.totals_spec.specs.ten_bytes.Promises.{AllNumbers}
use Rattle.totals_spec.specs.sums.Totals.{pairs}
use Rattle.totals_spec.specs.terms.Terms.{is_nan_item, terms, top_of}
use Rattle.totals_spec.proofs.terms.GoodTerms.{Decoded, AllGood, good-item_of, good-pair_of}
use Rattle.totals_spec.proofs.terms.GoodTerms.{good-items}
use Rattle.totals_spec.proofs.formats.Encodable.{encodes-cond, AllEncode}
use Rattle.totals_spec.proofs.order.Order.{operand-nan, item_of-nan, pair_of-nan, items-nan}
use Rattle.totals_spec.proofs.sums.FiniteLists.{number-cond, pairs-any, AllPlain, plain-item}
use Rattle.totals_spec.proofs.sums.FiniteLists.{plain-pair, plain-all, plain-both}
use Rattle.totals_spec.proofs.terms.HighestAndLowest.{top_most, top_product, IsSingle, item-top}
use Rattle.totals_spec.proofs.terms.HighestAndLowest.{single-item-top, pair-top, tops}

-- ---- an encoding is decoded to a number of `extended`, to an infinity or to a NaN whose payload
-- fits

module _ (s : Bool) (x m : ℕ) (hx : x < 2 ^ 15) (hm : m < 2 ^ 64) where
  decoded-cond : (b : Bool) (v w : Unpacked) → (T b → Decoded extended v) → (T (not b) → Decoded extended w) → Decoded extended (cond b v w)
  decoded-cond true v w h k = h tt
  decoded-cond false v w h k = k tt

  -- a supported encoding has a leading bit below a field above 0
  leads : (a b : Bool) → (T a → x ≡ 0) → (T (not b) → 2 ^ 63 ≤ m) → T (not (not a && b)) → 0 < x → 0 < m
  leads true b e k t h = omega (arith, e tt, h)
  leads false true e k t h = absurd t
  leads false false e k t h = omega (arith, k tt)

  number-decoded : (0 < x → 0 < m) → Decoded extended (extended_number s x m)
  number-decoded = go x m hx hm
    where
      go : (x m : ℕ) → x < 2 ^ 15 → m < 2 ^ 64 → (0 < x → 0 < m) → Decoded extended (extended_number s x m)
      go zero zero hx hm h = tt
      go zero (suc m) hx hm h = unfold extended in (omega arith, hm, omega arith)
      go (suc x) m hx hm h = unfold extended in (h (omega arith), hm, omega arith)

  fields-decoded : Decoded extended (extended_fields s x m)
  fields-decoded =
      decoded-cond (unsupported_fields x m) (nan s false 0) _ (λ t. tt)
      (λ t. decoded-cond (eqb x (2 ^ 15 - 1)) (extended_top s m) (extended_number s x m) (λ u. decoded-cond (eqb m (2 ^ 63)) (infinity s) _ (λ v. tt) (λ v. tt))
      (λ u. number-decoded (leads (eqb x 0) (ltb m (2 ^ 63)) (eqb→eq x 0) (nltb→le m (2 ^ 63)) t)))

  number-encodes : Encodes extended (extended_number s x m)
  number-encodes = go x m hx hm
    where
      go : (x m : ℕ) → x < 2 ^ 15 → m < 2 ^ 64 → Encodes extended (extended_number s x m)
      go zero zero hx hm = tt
      go zero (suc m) hx hm = unfold extended in (omega arith, hm)
      go (suc x) m hx hm = unfold extended in (omega arith, hm)

  fields-encode : Encodes extended (extended_fields s x m)
  unfolding extended
  fields-encode =
      encodes-cond extended (unsupported_fields x m) (nan s false 0) _ (pow_pos 62)
      (encodes-cond extended (eqb x (2 ^ 15 - 1)) (extended_top s m) (extended_number s x m)
      (encodes-cond extended (eqb m (2 ^ 63)) (infinity s) (nan s (ltb m (2 ^ 63 + 2 ^ 62)) (m % 2 ^ 62)) tt (mod-lt m (pow_pos 62))) number-encodes)

module _ (b : ℕ) where
  field_lt : field_in b < 2 ^ 15
  field_lt = mod-lt (b / 2 ^ 64) (pow_pos 15)

  significand-lt : significand_in b < 2 ^ 64
  significand-lt = mod-lt b (pow_pos 64)

  pub extended-decoded : Decoded extended (decode_extended b)
  unfolding decode_extended
  extended-decoded = fields-decoded (sign_in b) (field_in b) (significand_in b) field_lt significand-lt

  pub extended-encodes : Encodes extended (decode_extended b)
  unfolding decode_extended
  extended-encodes = fields-encode (sign_in b) (field_in b) (significand_in b) field_lt significand-lt

  -- ---- denormals-are-zero makes no NaN, hides none, and leaves a number

  pub operand-decoded : (c : Settings) → Decoded extended (extended_operand c b)
  unfolding extended_operand
  operand-decoded c =
      decoded-cond (sign_in b) (field_in b) (significand_in b) field_lt significand-lt (is_set c.denormals_are_zero && subnormal_extended b)
      (zero_of (sign_in b))
      (decode_extended b) (λ t. tt) (λ t. extended-decoded)

  pub operand-is_nan : (c : Settings) → is_nan (extended_operand c b) ≡ is_nan (decode_extended b)
  unfolding extended_operand subnormal_extended
  operand-is_nan c = operand-nan (decode_extended b) (is_set c.denormals_are_zero) (eqb (field_in b) 0) (sign_in b)

  operand-number : (c : Settings) → T (is_number (decode_extended b)) → T (is_number (extended_operand c b))
  unfolding extended_operand
  operand-number c h = number-cond (is_set c.denormals_are_zero && subnormal_extended b) (sign_in b) (decode_extended b) h

  -- a number is supported
  supported : T (is_number (decode_extended b)) → unsupported b ≡ false
  unfolding decode_extended unsupported
  supported = go (unsupported_fields (field_in b) (significand_in b)) _
    where
      go : (t : Bool) (v : Unpacked) → T (is_number (cond t (nan (sign_in b) false 0) v)) → t ≡ false
      go true v h = absurd h
      go false v h = refl

pub all-encode : (l : List ℕ) → AllEncode extended (map decode_extended l)
all-encode [] = tt
all-encode (b ∷ l) = (extended-encodes b, all-encode l)

pub all-supported : (l : List ℕ) → AllNumbers l → any unsupported l ≡ false
all-supported [] h = refl
all-supported (b ∷ l) h = rw (supported b h.0) (all-supported l h.1)

-- ---- the elements of pairs

or_assoc : (a b r : Bool) → (a || (b || r)) ≡ ((a || b) || r)
or_assoc true b r = refl
or_assoc false b r = refl

pub any-both : (t : ℕ → Bool) (l : List (ℕ × ℕ)) → any t (both_of l) ≡ any (λ x. t x.0 || t x.1) l
any-both t [] = refl
any-both t (x ∷ l) = or_assoc (t x.0) (t x.1) (any t (both_of l)) ∙ ap (λ (r : Bool). (t x.0 || t x.1) || r) (any-both t l)

pub both-any : (t : ℕ → Bool) (xs ys : List ℕ) → length xs ≡ length ys → any t (both_of (pairs xs ys)) ≡ (any t xs || any t ys)
both-any t xs ys e = any-both t (pairs xs ys) ∙ pairs-any t xs ys e

-- ---- items and terms

module _ (c : Settings) where
  pub extended-good : (u : Summand) (l : List ℕ) → AllGood (extended_terms c u l)
  extended-good u =
      good-items (extended_item c u) (λ b. unfold extended_item in good-item_of extended u (extended_operand c b) (operand-decoded b c))

  pub extended-good-pairs : (l : List (ℕ × ℕ)) → AllGood (terms (map (extended_pair c) l))
  extended-good-pairs =
      good-items (extended_pair c)
      (λ x. unfold extended_pair in
      good-pair_of extended (extended_operand c x.0) (extended_operand c x.1) (operand-decoded x.0 c) (operand-decoded x.1 c))

  pub extended-top : (u : Summand) (l : List ℕ) → top_of (extended_terms c u l) ≤ top_product extended
  extended-top u l =
      tops (top_product extended) (extended_item c u) (λ b. unfold extended_item in item-top extended u (extended_operand c b) (operand-decoded b c)) l

  pub extended-single-top : (u : Summand) → IsSingle u → (l : List ℕ) → top_of (extended_terms c u l) ≤ top_most extended
  extended-single-top u i l =
      tops (top_most extended) (extended_item c u) (λ b. unfold extended_item in single-item-top extended u (extended_operand c b) i (operand-decoded b c)) l

  pub extended-dot-top : (l : List (ℕ × ℕ)) → top_of (terms (map (extended_pair c) l)) ≤ top_product extended
  extended-dot-top l =
      tops (top_product extended) (extended_pair c)
      (λ x. unfold extended_pair in
      pair-top extended (extended_operand c x.0) (extended_operand c x.1) (operand-decoded x.0 c) (operand-decoded x.1 c)) l

  pub extended-nans : (u : Summand) (l : List ℕ) → any is_nan_item (map (extended_item c u) l) ≡ any (λ b. is_nan (decode_extended b)) l
  extended-nans u = items-nan (extended_item c u) (λ b. is_nan (decode_extended b)) each
    where
      each : (b : ℕ) → is_nan_item (extended_item c u b) ≡ is_nan (decode_extended b)
      each b = unfold extended_item in item_of-nan u (extended_operand c b) ∙ operand-is_nan b c

  pub extended-pair-nans : (l : List (ℕ × ℕ)) → any is_nan_item (map (extended_pair c) l) ≡ any (λ b. is_nan (decode_extended b)) (both_of l)
  extended-pair-nans l = items-nan (extended_pair c) test each l ∙ sym (any-both (λ b. is_nan (decode_extended b)) l)
    where
      test : ℕ × ℕ → Bool
      test x = is_nan (decode_extended x.0) || is_nan (decode_extended x.1)

      each : (x : ℕ × ℕ) → is_nan_item (extended_pair c x) ≡ (is_nan (decode_extended x.0) || is_nan (decode_extended x.1))
      each x = unfold extended_pair in
          pair_of-nan (extended_operand c x.0) (extended_operand c x.1) ∙ ap₂ ◌||◌ (operand-is_nan x.0 c) (operand-is_nan x.1 c)

  pub extended-plain : (u : Summand) (l : List ℕ) → AllNumbers l → AllPlain (map (extended_item c u) l)
  extended-plain u =
      plain-all decode_extended (extended_item c u) (λ b h. unfold extended_item in plain-item u (extended_operand c b) (operand-number b c h))

  pub extended-plain-pairs : (xs ys : List ℕ) → AllNumbers xs → AllNumbers ys → AllPlain (map (extended_pair c) (pairs xs ys))
  extended-plain-pairs =
      plain-both decode_extended (extended_pair c)
      (λ x h k. unfold extended_pair in
      plain-pair (extended_operand c x.0) (extended_operand c x.1) (operand-number x.0 c h) (operand-number x.1 c k))
