-- The record is that of the definitions, field by field.
use Rattle.std.proofs.Common.{sym, ◌+◌, ◌∙◌, pos}
use Rattle.totals_spec.specs.sums.Totals.{special}
use Rattle.format.specs.Shapes.{shape_of}
use Rattle.format.proofs.Shapes.{range_bounds}
use Rattle.reduction.proofs.Records.{told}
use Rattle.reduction.proofs.total.special.Goals as goal

pub returns : goal.returns
unfolding special
returns c =
    let a = c.args in
    λ i. record {
      result = c.encoded-words.ensures i;
      flags = (c.flag.ensures.0 i) + (c.flag-2.ensures.0 i);
      passes = 0;
      last_edge = pos 0;
      refusal = 0;
      place = 0;
      side = (c.side_of.ensures ∙ sym (told (shape_of a.shape) (range_bounds a.shape) a.value c.requires.1 c.requires.2)) i;
    }
