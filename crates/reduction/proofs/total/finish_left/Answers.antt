-- The record of what is left of a sum is that of the sum, rounded.
use mir.Syntax.{w64}
use mir.Val.{SFits}
use mir.ValLaws.{to_z-of_z}
use Rattle.std.proofs.Common.{◌+◌, ap, sym, ◌∙◌, arith}
use borrow.Author.Rules.{rules}
use Rattle.totals_spec.specs.Basics.{flag}
use Rattle.totals_spec.specs.formats.Encode.{encode}
use Rattle.totals_spec.specs.formats.Format.{digits, grid}
use Rattle.totals_spec.specs.rounding.Round.{Rounded}
use Rattle.totals_spec.specs.sums.Totals.{Answer, on_grid, reported}
use Rattle.format.specs.Shapes.{shape_of}
use Rattle.format.specs.Environments.{env_of}
use Rattle.format.proofs.Shapes.{range_bounds}
use Rattle.reduction.specs.Answered.{wide}
use Rattle.reduction.specs.Answered.{words_as, written_as, RoundedSum, last_edge_of}
use Rattle.reduction.proofs.Records.{leans, moved}
use Rattle.reduction.proofs.total.finish_left.Goals as goal

pub round_sum-rounded-requires : goal.round_sum-rounded-requires
round_sum-rounded-requires c = record {
  decided = digits (shape_of c.args.shape);
  sum = c.requires.2.sum;
  left = c.requires.2.left;
  settings = c.requires.1;
  enough = omega arith;
  grid = omega (arith, c.grid.ensures.bound);
  few = omega (arith, c.rise.ensures.bound);
}

pub returns : goal.returns
unfolding reported
returns c s h l ep ee =
    let f = shape_of c.args.shape in
    let env = env_of c.args.env in
    let x = on_grid f c.args.products s in
    let q = c.recorded-answer.ensures in
    let r : RoundedSum f env (grid f c.args.products) x c.round_sum-rounded.result =
    moved _ c.grid.ensures.value c.rise.ensures.value (c.round_sum-rounded.ensures (digits f) s l) in
    let fits : SFits w64 c.place-last_edge.result = search rules in
    let edge = to_z-of_z w64 _ fits ∙ c.place-last_edge.ensures ∙ ap (last_edge_of f c.args.products) (sym ee) in
    λ i. record {
      result =
          (ap (λ (a : Answer). words_as (wide f) c.encoded-words.result.head a.result) q ∙ c.encoded-words.ensures
          ∙ ap (λ (y : Rounded). written_as (wide f) (encode f y.value)) r.equal) i;
      flags = (ap (λ (a : Answer). a.flags) q ∙ ap (λ (y : Rounded). flag 128 c.args.subnormal + y.flags) r.equal) i;
      passes = (ap (λ (a : Answer). a.passes) q ∙ sym ep) i;
      last_edge = (ap (λ (a : Answer). a.last_edge) q ∙ edge) i;
      refusal = (q i).refusal;
      place = (q i).place;
      side = (ap (λ (a : Answer). a.side) q ∙ leans f env _ x _ (range_bounds c.args.shape) c.requires.1 r) i;
    }
