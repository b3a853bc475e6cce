-- The limit on the passes in the records of `Totals`: of every call, refused ones too.
use Prim.Native.Nat.{ℕ, ◌≤◌, suc, zero-le}
use native.Mathlib.Omega.{arith}
use mathlib.Core.Path.{◌≡◌}
use mathlib.Core.Bool.{Bool, true, false, not, cond, ◌||◌}
use native.Mathlib.Nat.{suc-ne-zero}
use lib.Dec.{T, eqb, eqb→eq}
use mathlib.Core.List.{List, map}
use Rattle.totals_spec.specs.sums.Totals.{refuse_if, special, reported, accepted, Answer, refused}
use Rattle.totals_spec.specs.sums.Totals.{answered, is_value, is_square, stray, first_index}
use Rattle.totals_spec.specs.sums.Totals.{sum_refusal, sum_terms, sum_accepted, sum_answer, pairs}
use Rattle.totals_spec.specs.sums.Totals.{operands, dot_refusal, dot_terms, dot_accepted, dot_place}
use Rattle.totals_spec.specs.sums.Totals.{dot_answer}
use Rattle.totals_spec.specs.formats.Format.{Format, digits, valid_format}
use Rattle.totals_spec.specs.formats.Decode.{Unpacked, decode, is_subnormal, is_signaling}
use Rattle.totals_spec.specs.formats.Settings.{Settings, summand_of}
use Rattle.totals_spec.specs.terms.Terms.{Item, terms, item, pair_item}
use Rattle.totals_spec.specs.chain.Limit.{most_passes}
use Rattle.totals_spec.specs.Basics.{any}
use Rattle.totals_spec.specs.sums.Nan.{select_all}
use Rattle.totals_spec.specs.chain.Promises.{Sum-limit, Dot-limit}
use Rattle.totals_spec.proofs.terms.GoodTerms.{AllGood, good-terms, good-pairs}
use Rattle.totals_spec.proofs.chain.PassLimit.{chain-limit}
use Rattle.totals_spec.proofs.sums.RecordRule.{accepted-has}
use Rattle.totals_spec.proofs.formats.Valid.{digits_le}

-- the chain's theorems hold for up to 64 digits
pub le-64 : {n : ℕ} → n ≤ 62 → n ≤ 64
le-64 h = omega arith

pub valid-of : (b : Bool) (n rest : ℕ) → refuse_if (not b) (suc n) rest ≡ 0 → T b
valid-of true n rest e = tt
valid-of false n rest e = absurd (suc-ne-zero n e)

-- a record without a pass
pub special-passes : (k : ℕ) (f : Format) (sub : Bool) (v : Unpacked) (b : Bool) → (special f sub v b).passes ≤ k
unfolding special
special-passes k f sub v b = zero-le

pub accepted-passes : (f : Format) (c : Settings) (sub products : Bool) (l : List Item) → digits f ≤ 64 → AllGood (terms l)
    → (infinity_first signaling : Bool) (v : Unpacked) → (accepted f c sub products infinity_first signaling v l).passes ≤ most_passes f (terms l)
unfolding most_passes reported
accepted-passes f c sub products l hp g =
    accepted-has (λ a. a.passes ≤ most_passes f (terms l)) f c sub products l (special-passes (most_passes f (terms l)) f sub)
    (chain-limit (digits f) (terms l) hp g)

-- a call by its refusal number: a refused one has no passes
pub answered-passes : (k n at : ℕ) (a : Answer) → (n ≡ 0 → a.passes ≤ k) → (answered n at a).passes ≤ k
answered-passes k n at a h = go (eqb n 0) (eqb→eq n 0)
  where
    go : (b : Bool) → (T b → n ≡ 0) → (cond b a (refused n (cond (eqb n 7) at 0))).passes ≤ k
    go true e = h (e tt)
    go false e = zero-le

-- ---- THE LIMIT, for every call

pub sum-limit : Sum-limit
unfolding sum_answer sum_accepted
sum-limit f c u l = answered-passes _ (sum_refusal f c u l) (first_index (stray f) l) _ inside
  where
    inside : sum_refusal f c u l ≡ 0 → (sum_accepted f c (summand_of u) l).passes ≤ most_passes f (sum_terms f c (summand_of u) l)
    inside e = unfold sum_refusal sum_accepted in
        accepted-passes f c (any (is_subnormal f) l) (is_square (summand_of u)) (map (item f c (summand_of u)) l)
        (le-64 (digits_le f (valid-of (valid_format f) 2 _ e))) (good-terms f c (summand_of u) l)
        (not (is_value (summand_of u))) (any (λ b. is_signaling (decode f b)) l) (select_all c (map (decode f) l))

pub dot-limit : Dot-limit
unfolding dot_answer
dot-limit f c xs ys = answered-passes _ (dot_refusal f c xs ys) (dot_place f xs ys) _ inside
  where
    l : List (ℕ × ℕ)
    l = pairs xs ys

    inside : dot_refusal f c xs ys ≡ 0 → (dot_accepted f c (pairs xs ys)).passes ≤ most_passes f (dot_terms f c xs ys)
    inside e = unfold dot_refusal dot_accepted in
        accepted-passes f c (any (λ x. is_subnormal f x.0 || is_subnormal f x.1) l) true (map (pair_item f c) l)
        (le-64 (digits_le f (valid-of (valid_format f) 2 _ e))) (good-pairs f c l)
        false (any (λ x. is_signaling (decode f x.0) || is_signaling (decode f x.1)) l) (select_all c (operands f l))
