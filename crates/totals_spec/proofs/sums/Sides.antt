-- The side of an accepted list.
use mathlib.Core.Path.{◌≡◌, refl, sym, subst}
use mathlib.Core.List.{[], List, ◌∷◌, map}
use Prim.Native.Nat.{ℕ, ◌^◌}
use mathlib.Core.Bool.{Bool, false, true}
use native.Mathlib.Nat.{zero-mul}
use Rattle.totals_spec.specs.Basics.{Signed, raised, difference}
use Rattle.totals_spec.specs.formats.Format.{Format, grid, rise}
use Rattle.totals_spec.specs.formats.Decode.{decode, Unpacked, is_number}
use Rattle.totals_spec.specs.rounding.Side.{side_of}
use Rattle.totals_spec.specs.sums.Totals.{Answer, special, reported, on_grid, finite_total}
use Rattle.totals_spec.specs.sums.Totals.{is_square, sum_terms, dot_terms, sum_accepted, sum_answer}
use Rattle.totals_spec.specs.sums.Totals.{pairs, dot_accepted, dot_answer}
use Rattle.totals_spec.specs.formats.Bounds.{RangeBounds}
use Rattle.totals_spec.specs.formats.Settings.{Settings, summand_of}
use Rattle.totals_spec.specs.terms.Terms.{Term, exact_sum, plus_sum, minus_sum, item, pair_item}
use Rattle.totals_spec.specs.sums.Promises.{Sum-side, Dot-side, Sum-no-side, Dot-no-side}
use Rattle.totals_spec.proofs.formats.DecodedBack.{back-zero}
use Rattle.totals_spec.proofs.refusals.AcceptedCalls.{sum-accepts, dot-accepts}
use Rattle.totals_spec.proofs.sums.FiniteLists.{sum-finite, dot-finite}
use Rattle.totals_spec.proofs.sums.RecordRule.{accepted-has}
use Rattle.totals_spec.proofs.rounding.SideByFlags.{no_number}

-- ---- finite values: the result beside the exact sum x of the terms, on the grid g

abbrev pub SideAt : Format → ℕ → Signed → Answer → Type 0
SideAt f g x a = a.side ≡ side_of g (decode f a.result) x

-- without a term a zero stands beside 0, on whatever grid
pub finite-side : (f : Format) (c : Settings) (sub products minus : Bool) (ts : List Term) → RangeBounds f
    → SideAt f (grid f products) (on_grid f products (exact_sum ts)) (finite_total f c sub products minus ts)
unfolding finite_total special reported difference plus_sum minus_sum side_of raised
finite-side f c sub products minus [] b =
    rw (zero-mul (2 ^ rise f products))
    (back-zero f b (λ (v : Unpacked). side_of 0 v (record { neg = false; mag = 0 }) ≡ side_of (grid f products) v (record { neg = false; mag = 0 }))
    (λ t. refl) minus)
finite-side f c sub products minus (t ∷ ts) b = refl

pub sum-side : Sum-side
sum-side f c u l r h =
    let products = is_square (summand_of u) in
    subst (SideAt f (grid f products) (on_grid f products (exact_sum (sum_terms f c (summand_of u) l)))) (sym (sum-finite f c u l r h))
    (finite-side f c _ _ _ (sum_terms f c (summand_of u) l) (sum-accepts f c u l r).format.range)

pub dot-side : Dot-side
dot-side f c xs ys r h k =
    subst (SideAt f (grid f true) (on_grid f true (exact_sum (dot_terms f c xs ys)))) (sym (dot-finite f c xs ys r h k))
    (finite-side f c _ _ _ (dot_terms f c xs ys) (dot-accepts f c xs ys r).format.range)

-- ---- every accepted list: no number, no side

abbrev pub NoSide : Format → Answer → Type 0
NoSide f a = is_number (decode f a.result) ≡ false → a.side ≡ 3

pub sum-no-side : Sum-no-side
unfolding sum_answer sum_accepted special reported
sum-no-side f c u l r =
    rw r (accepted-has (NoSide f) f c _ (is_square (summand_of u)) (map (item f c (summand_of u)) l) (λ v i e. no_number 0 _ _ e)
    (λ e. no_number _ _ _ e) _ _ _)

pub dot-no-side : Dot-no-side
unfolding dot_answer dot_accepted special reported
dot-no-side f c xs ys r =
    rw r (accepted-has (NoSide f) f c _ true (map (pair_item f c) (pairs xs ys)) (λ v i e. no_number 0 _ _ e) (λ e. no_number _ _ _ e) _ _ _)
