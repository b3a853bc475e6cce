-- The records of `Totals` as a program makes them: the chain alone, run once, gives passes, last
-- edge, and the number that is rounded.
use mathlib.Core.Path.{◌≡◌, sym, ap, ◌∙◌}
use mathlib.Core.Bool.{Bool}
use Prim.Native.Nat.{ℕ, ◌≤◌}
use mathlib.Core.List.{List, map}
use native.Mathlib.Omega.{arith}
use lib.ListN.{length, length-map}
use native.Mathlib.Nat.{le_trans, le_of_eq}
use lib.Dec.{lit≤}
use Rattle.totals_spec.specs.formats.Format.{Format, digits, grid, rise}
use Rattle.totals_spec.specs.formats.Settings.{Settings, precision_of, summand_of}
use Rattle.totals_spec.specs.sums.Totals.{sum_rounded, on_grid, reported, towards_negative}
use Rattle.totals_spec.specs.sums.Totals.{finite_total, limit, sum_refusal, dot_refusal, pairs}
use Rattle.totals_spec.specs.Basics.{Signed}
use Rattle.totals_spec.specs.formats.Bounds.{RangeBounds, SettingsBounds}
use Rattle.totals_spec.specs.formats.Decode.{decode}
use Rattle.totals_spec.specs.formats.Encode.{encode}
use Rattle.totals_spec.specs.rounding.Round.{Rounded}
use Rattle.totals_spec.specs.rounding.Side.{side_of, rounded_side}
use Rattle.totals_spec.specs.terms.Terms.{Term, exact_sum, Item, term_of, terms, item, pair_item}
use Rattle.totals_spec.specs.chain.Settled.{settled, chain_total}
use Rattle.totals_spec.specs.chain.Chain.{chain}
use Rattle.totals_spec.specs.chain.Promises.{Sum-by-chain, Dot-by-chain}
use Rattle.totals_spec.proofs.rounding.SideByFlags.{sum-leans}
use Rattle.totals_spec.proofs.terms.GoodTerms.{AllGood, picked-length, good-terms, good-pairs}
use Rattle.totals_spec.proofs.chain.Margin.{terms-max}
use Rattle.totals_spec.proofs.chain.RoundsAsTheSum.{chain-rounds}
use Rattle.totals_spec.proofs.formats.Valid.{precision-most, precision-least}
use Rattle.totals_spec.proofs.refusals.AcceptedCalls.{sum-accepts, dot-accepts}
use Rattle.totals_spec.proofs.order.Order.{dot-lengths, pairs-length}

-- one rounding has one side, whether it is held to the exact sum or to what the chain ends with
pub same-side : (f : Format) (c : Settings) (g : ℕ) (towards : Bool) (x y : Signed) → RangeBounds f → 1 ≤ precision_of f c → precision_of f c ≤ digits f
    → sum_rounded f c g towards x ≡ sum_rounded f c g towards y
    → side_of g (decode f (encode f (sum_rounded f c g towards x).value)) x ≡ side_of g (decode f (encode f (sum_rounded f c g towards y).value)) y
same-side f c g towards x y b q0 qp e =
    sum-leans f c g towards x b q0 qp ∙ ap (λ (r : Rounded). rounded_side r.value r.flags) e ∙ sym (sum-leans f c g towards y b q0 qp)

-- what the chain ends with, and the exact sum
abbrev ended : Format → Bool → List Term → Signed
ended f products ts = on_grid f products (settled (chain (digits f) ts).outcome)

abbrev exactly : Format → Bool → List Term → Signed
exactly f products ts = on_grid f products (exact_sum ts)

pub finite-by-chain : (f : Format) (c : Settings) (sub products minus : Bool) (ts : List Term)
    → RangeBounds f → SettingsBounds f c → AllGood ts → length ts ≤ terms-max
    → chain_total f c sub products minus ts ≡ finite_total f c sub products minus ts
unfolding chain_total finite_total reported
finite-by-chain f c sub products minus ts b k g len =
    let x = ended f products ts in
    let y = exactly f products ts in
    cc (rounds, same-side f c (grid f products) (towards_negative c) x y b (precision-least f c b) (precision-most f c k) rounds)
  where
    rounds : sum_rounded f c (grid f products) (towards_negative c) (ended f products ts)
        ≡ sum_rounded f c (grid f products) (towards_negative c) (exactly f products ts)
    rounds = chain-rounds (digits f) ts (omega (arith, b.p-le)) g len f c (grid f products) (rise f products) (towards_negative c) (precision-most f c k)

-- ---- an accepted call has as many terms as this holds for, or fewer

pub few-terms : {A : Type 0} (g : A → Item) (l : List A) → length l ≤ limit → length (terms (map g l)) ≤ terms-max
few-terms g l h = le_trans (picked-length term_of (map g l)) (le_trans (le_of_eq (length-map l g)) (le_trans h (lit≤ tt)))

pub sum-few : (f : Format) (c : Settings) (u : ℕ) (l : List ℕ) → sum_refusal f c u l ≡ 0 → length (terms (map (item f c (summand_of u)) l)) ≤ terms-max
sum-few f c u l e = few-terms (item f c (summand_of u)) l (sum-accepts f c u l e).few

pub dot-few : (f : Format) (c : Settings) (xs ys : List ℕ) → dot_refusal f c xs ys ≡ 0 → length (terms (map (pair_item f c) (pairs xs ys))) ≤ terms-max
dot-few f c xs ys e =
    few-terms (pair_item f c) (pairs xs ys) (le_trans (le_of_eq (pairs-length xs ys (dot-lengths f c xs ys e))) (dot-accepts f c xs ys e).few)

pub sum-by-chain : Sum-by-chain
sum-by-chain f c u l sub products minus e =
    let a = sum-accepts f c u l e in
    finite-by-chain f c sub products minus _ a.format.range a.settings (good-terms f c (summand_of u) l) (sum-few f c u l e)

pub dot-by-chain : Dot-by-chain
dot-by-chain f c xs ys sub products minus e =
    let a = dot-accepts f c xs ys e in
    finite-by-chain f c sub products minus _ a.format.range a.settings (good-pairs f c (pairs xs ys)) (dot-few f c xs ys e)
