-- The record is that of the sum rounded into the target, field by field.
use mir.Syntax.{w64}
use mir.Val.{SFits}
use mir.ValLaws.{to_z-of_z}
use Rattle.std.proofs.Common.{◌+◌, ap, ap₂, ◌∙◌, arith}
use borrow.Author.Rules.{rules}
use Rattle.totals_spec.specs.Basics.{flag}
use Rattle.totals_spec.specs.formats.Encode.{encode}
use Rattle.totals_spec.specs.formats.Format.{digits}
use Rattle.totals_spec.specs.rounding.Round.{Rounded}
use Rattle.totals_spec.specs.sums.Totals.{Answer}
use Rattle.totals_spec.specs.rounding.IntoFormat.{target_grid, on_target, rounded_into, printed}
use Rattle.format.specs.Shapes.{shape_of}
use Rattle.format.specs.Layouts.{layout_of}
use Rattle.format.specs.Environments.{env_of}
use Rattle.format.proofs.Shapes.{range_bounds}
use Rattle.reduction.specs.Answered.{RoundedSum}
use Rattle.reduction.proofs.Records.{leans, moved}
use Rattle.reduction.proofs.total.print_left.Goals as goal

pub round_sum-rounded-requires : goal.round_sum-rounded-requires
round_sum-rounded-requires c = record {
  decided = digits (shape_of c.args.shape);
  sum = c.requires.sum;
  left = c.requires.left;
  settings = c.requires.settings;
  enough = c.requires.digits_le;
  grid = omega (arith, c.origin.ensures.bound, c.lift.ensures.bound);
  few = omega (arith, c.depth.ensures.bound, c.fall.ensures.bound);
}

pub returns : goal.returns
unfolding printed rounded_into
returns c sum run left passes edge =
    let a = c.args in
    let f = shape_of a.shape in
    let t = layout_of a.target in
    let x = on_target f t sum in
    let q = c.recorded.ensures in
    let lifted = ap₂ ◌+◌ c.origin.ensures.value c.lift.ensures.value in
    let up = ap₂ ◌+◌ c.depth.ensures.value c.fall.ensures.value in
    let r : RoundedSum t (env_of a.env) (target_grid f t) x c.round_sum-rounded.result =
    moved _ lifted up (c.round_sum-rounded.ensures (digits f) sum left) in
    let fits : SFits w64 a.last_edge = search rules in
    λ i. record {
      result = (ap (λ (b : Answer). b.result) q ∙ c.encode-encoding.ensures ∙ ap (λ (y : Rounded). encode t y.value) r.equal) i;
      flags = (ap (λ (b : Answer). b.flags) q ∙ ap (λ (y : Rounded). flag 128 a.subnormal + y.flags) r.equal) i;
      passes = (ap (λ (b : Answer). b.passes) q ∙ passes) i;
      last_edge = (ap (λ (b : Answer). b.last_edge) q ∙ to_z-of_z w64 _ fits ∙ edge) i;
      refusal = (q i).refusal;
      place = (q i).place;
      side = (ap (λ (b : Answer). b.side) q ∙ leans t (env_of a.env) _ x _ (range_bounds a.target.shape) c.requires.settings r) i;
    }
