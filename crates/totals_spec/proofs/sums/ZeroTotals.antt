-- PROMISE 2, of finite values without a term: the record of a zero.
use mathlib.Core.Path.{◌≡◌, refl, ◌∙◌}
use mathlib.Core.Bool.{Bool, true, false}
use mathlib.Core.List.{[], List, ◌∷◌}
use Prim.Native.Nat.{◌+◌}
use lib.IntN.{pos}
use native.Mathlib.Nat.{suc-ne-zero}
use lib.ListN.{length}
use native.Mathlib.Omega.{arith}
use Rattle.totals_spec.specs.Basics.{flag}
use Rattle.totals_spec.specs.formats.Bounds.{RangeBounds}
use Rattle.totals_spec.specs.formats.Format.{Format}
use Rattle.totals_spec.specs.formats.Decode.{zero_of}
use Rattle.totals_spec.specs.formats.Encode.{encode}
use Rattle.totals_spec.specs.rounding.Side.{rounded_side}
use Rattle.totals_spec.specs.sums.Totals.{special, finite_total, sum_terms, dot_terms}
use Rattle.totals_spec.specs.sums.Promises.{zero_answer, Sum-zeros, Dot-zeros}
use Rattle.totals_spec.specs.formats.Settings.{Settings, summand_of}
use Rattle.totals_spec.specs.terms.Terms.{Term}
use Rattle.totals_spec.proofs.formats.KindValues.{zero-told}
use Rattle.totals_spec.proofs.refusals.AcceptedCalls.{sum-accepts, dot-accepts}
use Rattle.totals_spec.proofs.sums.FiniteLists.{sum-finite, dot-finite}

-- a zero, encoded and decoded again, lies beside a sum of 0
pub zero-record : (f : Format) (sub minus : Bool) → RangeBounds f → special f sub (zero_of minus) false ≡ zero_answer f sub minus
unfolding special rounded_side
zero-record f sub minus b = λ i. record {
  result = encode f (zero_of minus);
  flags = only-sub sub i;
  passes = 0;
  last_edge = pos 0;
  refusal = 0;
  place = 0;
  side = zero-told f b minus i;
}
  where
    only-sub : (t : Bool) → flag 128 t + 0 ≡ flag 128 t
    only-sub true = refl
    only-sub false = refl

pub no-term : (f : Format) (c : Settings) (sub products minus : Bool) (ts : List Term) → RangeBounds f → length ts ≡ 0
    → finite_total f c sub products minus ts ≡ zero_answer f sub minus
unfolding finite_total
no-term f c sub products minus [] b e = zero-record f sub minus b
no-term f c sub products minus (t ∷ ts) b e = absurd (suc-ne-zero (length ts) e)

pub sum-zeros : Sum-zeros
sum-zeros f c u l r h e = sum-finite f c u l r h ∙ no-term f c _ _ _ (sum_terms f c (summand_of u) l) (sum-accepts f c u l r).format.range (omega (arith, e))

pub dot-zeros : Dot-zeros
dot-zeros f c xs ys r h k e = dot-finite f c xs ys r h k ∙ no-term f c _ _ _ (dot_terms f c xs ys) (dot-accepts f c xs ys r).format.range (omega (arith, e))
