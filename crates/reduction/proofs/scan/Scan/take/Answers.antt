-- The operand is read, and its item noted.
use Rattle.std.proofs.Common.{◌∙◌, ap}
use Rattle.binary.specs.declared.term.Item.{Item}
use Rattle.reduction.specs.Scan.{with_item}
use Rattle.reduction.proofs.scan.Scan.take.Goals as goal

pub returns : goal.returns
returns c = record {
  between = c.read.new.self;
  read = c.read.ensures;
  noted = c.item.ensures ∙ ap (λ (i : Item). with_item i c.read.new.self) c.item_of.ensures;
}
