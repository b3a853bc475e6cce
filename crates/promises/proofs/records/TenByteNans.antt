-- Kind 4: the NaN that decides.
use mathlib.Core.Path.{◌≡◌, refl, ap, ap₂, ◌∙◌, subst}
use mathlib.Core.Bool.{Bool, true, false, not, ◌&&◌, ◌||◌}
use mathlib.Core.List.{List, [], ◌∷◌, map}
use Prim.Native.Nat.{ℕ, suc}
use lib.Dec.{eqb}
use Rattle.totals_spec.specs.Basics.{any, is_set}
use Rattle.totals_spec.specs.formats.Format.{Format}
use Rattle.totals_spec.specs.formats.Settings.{Settings, Summand, summand_of}
use Rattle.totals_spec.specs.formats.Decode.{is_nan, is_signaling}
use Rattle.totals_spec.specs.terms.Terms.{Item, is_nan_item, is_invalid, is_infinite}
use Rattle.totals_spec.specs.sums.Totals.{accepted, is_value, is_square, pairs}
use Rattle.totals_spec.specs.ten_bytes.Extended.{extended, unsupported, decode_extended}
use Rattle.totals_spec.specs.ten_bytes.Extended.{subnormal_extended, extended_operand, field_in}
use Rattle.totals_spec.specs.ten_bytes.Extended.{sign_in, extended_accepted}
use Rattle.totals_spec.specs.ten_bytes.Extended.{extended_item, extended_sum, extended_sum_refusal}
use Rattle.totals_spec.specs.ten_bytes.Extended.{extended_sum_answer, extended_pair, both_of}
use Rattle.totals_spec.specs.ten_bytes.Extended.{extended_dot}
use Rattle.totals_spec.specs.ten_bytes.Extended.{extended_dot_answer, spread}
use Rattle.totals_spec.proofs.order.Order.{operand-nan, item_of-nan, pair_of-nan, items-nan}
use Rattle.promises.specs.Special.{in_turn, infinity_times_zero}
use Rattle.promises.specs.SpecialExtended.{ExtendedNanOf, some_extended, Extended-sum-nan, Extended-signaling, Extended-dot-nan}
use Rattle.promises.proofs.records.WithoutAPass.{any-map, none-pass, never-invalid, pair-invalid, special-nan}

operand-extended : (c : Settings) (b : ℕ) → is_nan (extended_operand c b) ≡ is_nan (decode_extended b)
unfolding extended_operand subnormal_extended
operand-extended c b = operand-nan (decode_extended b) (is_set c.denormals_are_zero) (eqb (field_in b) 0) (sign_in b)

item-extended : (c : Settings) (u : Summand) (b : ℕ) → is_nan_item (extended_item c u b) ≡ is_nan (decode_extended b)
unfolding extended_item
item-extended c u b = item_of-nan u (extended_operand c b) ∙ operand-extended c b

pair-extended : (c : Settings) (x : ℕ × ℕ) → is_nan_item (extended_pair c x) ≡ (is_nan (decode_extended x.0) || is_nan (decode_extended x.1))
unfolding extended_pair
pair-extended c x =
    pair_of-nan (extended_operand c x.0) (extended_operand c x.1) ∙ ap₂ ◌||◌ (operand-extended c x.0) (operand-extended c x.1)

-- a NaN decides
module _ (c : Settings) (products first : Bool) (l : List ℕ) (items : List Item) (e : any unsupported l ≡ false)
    (n : any is_nan_item items ≡ some_extended is_nan l) (h : some_extended is_nan l ≡ true) where
  decides : (first && not (some_extended is_signaling l) && any (is_infinite false) items) ≡ false
      → ExtendedNanOf c l (some_extended is_signaling l || any is_invalid items) (extended_accepted c products first l items)
  unfolding extended_accepted accepted
  decides k =
      rw (e, n, h, k)
      (let z = special-nan extended c (map decode_extended l) (any subnormal_extended l) (some_extended is_signaling l || any is_invalid items)
      (any-map is_nan decode_extended (λ b. is_nan (decode_extended b)) (λ b. refl) l ∙ h) in
      record {
        value = z.value;
        selected = z.selected;
        result = ap spread z.result;
        flags = z.flags;
        passes = z.passes;
        last_edge = z.last_edge;
      })

or-none : (x : Bool) → (x || false) ≡ x
or-none true = refl
or-none false = refl

module _ (f : Format) (c : Settings) (u : ℕ) (l : List ℕ) (r : extended_sum_refusal f c u l ≡ 0) (e : any unsupported l ≡ false)
    (h : some_extended is_nan l ≡ true) where
  pub sum-decides : (not (is_value (summand_of u)) && not (some_extended is_signaling l) && any (is_infinite false) (map (extended_item c (summand_of u)) l)) ≡ false
      → ExtendedNanOf c l (some_extended is_signaling l) (extended_sum_answer f c u l)
  unfolding extended_sum_answer extended_sum extended_item
  sum-decides k =
      rw r
      (subst (λ (i : Bool). ExtendedNanOf c l i (extended_sum c (summand_of u) l)) (ap (λ (i : Bool). some_extended is_signaling l || i) none ∙ or-none _)
      (decides c (is_square (summand_of u)) (not (is_value (summand_of u))) l (map (extended_item c (summand_of u)) l) e
      (items-nan (extended_item c (summand_of u)) (λ b. is_nan (decode_extended b)) (item-extended c (summand_of u)) l) h k))
    where
      none : any is_invalid (map (extended_item c (summand_of u)) l) ≡ false
      none = any-map is_invalid (extended_item c (summand_of u)) (λ b. false) (λ b. never-invalid (summand_of u) (extended_operand c b)) l
          ∙ none-pass (λ b. false) (λ b. refl) l

pub extended-sum-nan : Extended-sum-nan
extended-sum-nan f c l r e h = sum-decides f c 0 l r e h refl

pub extended-signaling : Extended-signaling
extended-signaling f c u l r e h k =
    subst (λ (i : Bool). ExtendedNanOf c l i (extended_sum_answer f c (suc u) l)) k
    (sum-decides f c (suc u) l r e h (rw k (nothing (not (is_value (summand_of (suc u)))) _)))
  where
    nothing : (x y : Bool) → (x && not true && y) ≡ false
    nothing true true = refl
    nothing true false = refl
    nothing false true = refl
    nothing false false = refl

in-turn : (xs ys : List ℕ) → both_of (pairs xs ys) ≡ in_turn xs ys
in-turn [] ys = refl
in-turn (x ∷ xs) [] = refl
in-turn (x ∷ xs) (y ∷ ys) = ap (λ (l : List ℕ). x ∷ (y ∷ l)) (in-turn xs ys)

both-any : (t : ℕ → Bool) (l : List (ℕ × ℕ)) → any (λ x. t x.0 || t x.1) l ≡ any t (both_of l)
both-any t [] = refl
both-any t (x ∷ l) = step (t x.0) (t x.1) _ _ (both-any t l)
  where
    step : (a b p q : Bool) → p ≡ q → ((a || b) || p) ≡ (a || (b || q))
    step true b p q e = refl
    step false b p q e = ap (λ (z : Bool). b || z) e

pub extended-dot-nan : Extended-dot-nan
unfolding extended_dot_answer extended_dot extended_pair
extended-dot-nan f c xs ys r e h =
    rw (r, in-turn xs ys)
    (subst (λ (i : Bool). ExtendedNanOf c (in_turn xs ys) (some_extended is_signaling (in_turn xs ys) || i)
    (extended_accepted c true false (in_turn xs ys) (map (extended_pair c) (pairs xs ys)))) invalids
    (decides c true false (in_turn xs ys) (map (extended_pair c) (pairs xs ys)) e nans h refl))
  where
    nans : any is_nan_item (map (extended_pair c) (pairs xs ys)) ≡ some_extended is_nan (in_turn xs ys)
    nans =
        items-nan (extended_pair c) (λ x. is_nan (decode_extended x.0) || is_nan (decode_extended x.1)) (pair-extended c) (pairs xs ys)
        ∙ both-any (λ b. is_nan (decode_extended b)) (pairs xs ys) ∙ ap (some_extended is_nan) (in-turn xs ys)

    invalids : any is_invalid (map (extended_pair c) (pairs xs ys))
        ≡ any (λ x. infinity_times_zero (extended_operand c x.0) (extended_operand c x.1)) (pairs xs ys)
    invalids =
        any-map is_invalid (extended_pair c) (λ x. infinity_times_zero (extended_operand c x.0) (extended_operand c x.1))
        (λ x. pair-invalid (extended_operand c x.0) (extended_operand c x.1)) (pairs xs ys)
