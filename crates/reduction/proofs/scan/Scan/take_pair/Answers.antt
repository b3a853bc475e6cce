-- Both operands are read, and the item of the pair noted.
use Rattle.std.proofs.Common.{◌∙◌, ap}
use Rattle.binary.specs.declared.term.Item.{Item}
use Rattle.reduction.specs.Scan.{with_item}
use Rattle.reduction.proofs.scan.Scan.take_pair.Goals as goal

pub returns : goal.returns
returns c = record {
  between = c.read.new.self;
  next = c.read-2.new.self;
  left = c.read.ensures;
  right = c.read-2.ensures;
  noted = c.item.ensures ∙ ap (λ (i : Item). with_item i c.read-2.new.self) c.pair_of.ensures;
}
