-- The whole record of the four totals, for every input. The result and the flags are those of the
-- exact sum rounded once; the passes and the last edge are those of the chain.
use Rattle.std.specs.Prelude.{ℕ, [], ℤ, pos, ◌+◌, Bool, false, cond, eqb, not, ◌&&◌, ◌||◌, true}
use Rattle.std.specs.Prelude.{List, ◌^◌, leb, length, ltb, suc, ◌∷◌, map}
use Rattle.std.proofs.Math.IntN.{sub_ℕ}
use Rattle.totals_spec.specs.Basics.{flag, Signed, raised, any}
use Rattle.totals_spec.specs.formats.Format.{Format, origin, fall, grid, rise, digits, valid_format}
use Rattle.totals_spec.specs.formats.Decode.{Unpacked, decode, zero_of, infinity, is_subnormal}
use Rattle.totals_spec.specs.formats.Decode.{is_signaling}
use Rattle.totals_spec.specs.formats.Encode.{encode}
use Rattle.totals_spec.specs.rounding.Side.{side_of}
use Rattle.totals_spec.specs.formats.Settings.{value, Settings, rounding_of, is_toward_negative}
use Rattle.totals_spec.specs.formats.Settings.{valid_settings, Summand, magnitude, square}
use Rattle.totals_spec.specs.formats.Settings.{summand_of}
use Rattle.totals_spec.specs.chain.Chain.{Run, chain}
use Rattle.totals_spec.specs.rounding.Round.{Rounded, round}
use Rattle.totals_spec.specs.terms.Terms.{Term, exact_sum, Item, is_invalid, is_infinite, is_zero}
use Rattle.totals_spec.specs.terms.Terms.{terms, is_nan_item, item, pair_item}
use Rattle.totals_spec.specs.sums.Nan.{default_nan_of, select_all}

pub record Answer : Type 0 where
  pub result : ℕ
  pub flags : ℕ
  pub passes : ℕ
  pub last_edge : ℤ
  pub refusal : ℕ
  pub place : ℕ
  pub side : ℕ
  deriving IsSet as Answer-set

-- a refused call: the number and the place, and nothing else
abbrev pub refused : ℕ → ℕ → Answer
refused n at =
    record { result = 0; flags = 0; passes = 0; last_edge = pos 0; refusal = n; place = at; side = 0 }

-- ---- an accepted call. `sub` says whether some element is subnormal, which is flag 128, and
-- `products` whether the terms are products

-- no pass was run: the terms are none, with sum 0, or a NaN or an infinity decides
unfoldable pub special : Format → Bool → Unpacked → Bool → Answer
special f sub v invalid = record {
  result = encode f v;
  flags = flag 128 sub + flag 1 invalid;
  passes = 0;
  last_edge = pos 0;
  refusal = 0;
  place = 0;
  side = side_of 0 (decode f (encode f v)) (record { neg = false; mag = 0 });
}

-- the exact sum x, rounded, and the chain of passes behind it. The last edge is counted from the
-- bit worth 1, as the specification counts positions
unfoldable pub reported : Format → Bool → Bool → Signed → Rounded → Run → Answer
reported f sub products x r h = record {
  result = encode f r.value;
  flags = flag 128 sub + r.flags;
  passes = h.passes;
  last_edge = sub_ℕ (h.edge + fall f products) (origin f products);
  refusal = 0;
  place = 0;
  side = side_of (grid f products) (decode f (encode f r.value)) x;
}

-- a sum, counted from the unit that `grid` is counted from: `rise` positions below that of the
-- terms (`Format`)
abbrev pub on_grid : Format → Bool → Signed → Signed
on_grid f products x = raised (rise f products) x

abbrev pub towards_negative : Settings → Bool
towards_negative c = is_toward_negative (rounding_of c.rounding)

-- the exact sum rounded once; where it is 0, a zero of the sign that the mode gives
unfoldable pub sum_rounded : Format → Settings → ℕ → Bool → Signed → Rounded
sum_rounded f c g towards x =
    cond (eqb x.mag 0) (record { value = zero_of towards; flags = 0 }) (round f c g x.neg x.mag)

-- whether a total without a term is negative: some zero is, and no zero is positive or the mode is
-- toward negative
abbrev pub zero_sign : Bool → Bool → Bool → Bool
zero_sign plus minus towards = minus && (not plus || towards)

-- finite values: the terms' exact sum rounded once where there is a term, else a zero, negative
-- where `minus` says so
unfoldable pub finite_total : Format → Settings → Bool → Bool → Bool → List Term → Answer
finite_total f c sub products minus ts =
    cond (any (λ t. true) ts)
    (reported f sub products (on_grid f products (exact_sum ts))
    (sum_rounded f c (grid f products) (towards_negative c) (on_grid f products (exact_sum ts)))
    (chain (digits f) ts))
    (special f sub (zero_of minus) false)

-- infinities: two signs are invalid, one sign gives that infinity
abbrev pub infinities : Bool → Bool → Answer → Answer → Answer → Answer → Answer
infinities true true both plus minus neither = both
infinities true false both plus minus neither = plus
infinities false true both plus minus neither = minus
infinities false false both plus minus neither = neither

-- no NaN decides: an infinity times zero, then the infinities, then the finite values
unfoldable pub without_nan : Format → Settings → Bool → Bool → List Item → Answer
without_nan f c sub products l =
    cond (any is_invalid l)
    (special f sub (default_nan_of c) true)
    (infinities (any (is_infinite false) l) (any (is_infinite true) l)
    (special f sub (default_nan_of c) true)
    (special f sub (infinity false) false)
    (special f sub (infinity true) false)
    (finite_total f c sub products
    (zero_sign (any (is_zero false) l) (any (is_zero true) l) (towards_negative c)) (terms l)))

-- A NaN decides, unless infinities come first (they do for magnitudes and squares), there is one,
-- and no NaN is signaling. v is the NaN that the rule selects
unfoldable pub accepted : Format → Settings → Bool → Bool → (infinity_first signaling : Bool)
    → Unpacked → List Item → Answer
accepted f c sub products infinity_first signaling v l =
    cond (any is_nan_item l && not (infinity_first && not signaling && any (is_infinite false) l))
    (special f sub v (signaling || any is_invalid l))
    (without_nan f c sub products l)

-- ---- refusals 3 to 7, in their order

-- b does not fit the width
abbrev pub stray : Format → ℕ → Bool
stray f b = leb (2 ^ f.W) b

abbrev pub limit : ℕ
limit = 268435456

-- the first number whose test is true, and 0 where none is
abbrev pub refuse_if : Bool → ℕ → ℕ → ℕ
refuse_if b n rest = cond b n rest

unfoldable pub sum_refusal : Format → Settings → ℕ → List ℕ → ℕ
sum_refusal f c u l =
    refuse_if (not (valid_format f)) 3
    (refuse_if (not (valid_settings f c && leb u 2)) 4
    (refuse_if (ltb limit (length l)) 6
    (refuse_if (any (stray f) l) 7 0)))

unfoldable pub dot_refusal : Format → Settings → List ℕ → List ℕ → ℕ
dot_refusal f c xs ys =
    refuse_if (not (valid_format f)) 3
    (refuse_if (not (valid_settings f c)) 4
    (refuse_if (not (eqb (length xs) (length ys))) 5
    (refuse_if (ltb limit (length xs)) 6
    (refuse_if (any (stray f) xs || any (stray f) ys) 7 0))))

-- the place of number 7: the lowest index at which a stray bit is found
abbrev pub first_index : (ℕ → Bool) → List ℕ → ℕ
first_index t [] = 0
first_index t (x ∷ xs) = cond (t x) 0 (suc (first_index t xs))

-- a dot looks into its right list only where the left has none
unfoldable pub dot_place : Format → List ℕ → List ℕ → ℕ
dot_place f xs ys = cond (any (stray f) xs) (first_index (stray f) xs) (first_index (stray f) ys)

-- a call by its refusal number n: accepted where that is 0, and a place only for number 7
abbrev pub answered : ℕ → ℕ → Answer → Answer
answered n at accepted = cond (eqb n 0) accepted (refused n (cond (eqb n 7) at 0))

-- ---- sum, magnitude sum, square sum: c the settings, u the summand's number, l the values

abbrev pub is_value : Summand → Bool
is_value value = true
is_value magnitude = false
is_value square = false

abbrev pub is_square : Summand → Bool
is_square value = false
is_square magnitude = false
is_square square = true

abbrev pub sum_terms : Format → Settings → Summand → List ℕ → List Term
sum_terms f c u l = terms (map (item f c u) l)

unfoldable pub sum_accepted : Format → Settings → Summand → List ℕ → Answer
sum_accepted f c u l =
    accepted f c (any (is_subnormal f) l) (is_square u) (not (is_value u))
    (any (λ b. is_signaling (decode f b)) l)
    (select_all c (map (decode f) l)) (map (item f c u) l)

-- THE ANSWER of a sum
unfoldable pub sum_answer : Format → Settings → ℕ → List ℕ → Answer
sum_answer f c u l = answered (sum_refusal f c u l) (first_index (stray f) l)
    (sum_accepted f c (summand_of u) l)

-- ---- dot: the pairs of two lists

abbrev pub pairs : List ℕ → List ℕ → List (ℕ × ℕ)
pairs [] ys = []
pairs (x ∷ xs) [] = []
pairs (x ∷ xs) (y ∷ ys) = (x, y) ∷ pairs xs ys

abbrev pub dot_terms : Format → Settings → List ℕ → List ℕ → List Term
dot_terms f c xs ys = terms (map (pair_item f c) (pairs xs ys))

-- the operands in their order: left, right, left, right, …
abbrev pub operands : Format → List (ℕ × ℕ) → List Unpacked
operands f [] = []
operands f (x ∷ l) = decode f x.0 ∷ decode f x.1 ∷ operands f l

unfoldable pub dot_accepted : Format → Settings → List (ℕ × ℕ) → Answer
dot_accepted f c l =
    accepted f c (any (λ x. is_subnormal f x.0 || is_subnormal f x.1) l) true false
    (any (λ x. is_signaling (decode f x.0) || is_signaling (decode f x.1)) l)
    (select_all c (operands f l)) (map (pair_item f c) l)

-- THE ANSWER of a dot
unfoldable pub dot_answer : Format → Settings → List ℕ → List ℕ → Answer
dot_answer f c xs ys = answered (dot_refusal f c xs ys) (dot_place f xs ys)
    (dot_accepted f c (pairs xs ys))
