use Rattle.std.proofs.Common.{sym, ◌∙◌}
use lib.ListN.{length-map}
use Rattle.reduction.proofs.terms.HundredsTerms.count.Goals as goal

pub returns : goal.returns
returns g c = c.count.ensures.value ∙ sym (length-map _ _)
