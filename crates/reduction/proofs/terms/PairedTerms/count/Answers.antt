use Rattle.std.proofs.Common.{sym, ◌∙◌}
use Rattle.reduction.proofs.Items.{pairs-count}
use Rattle.reduction.proofs.terms.PairedTerms.count.Goals as goal

pub returns : goal.returns
returns g c = c.min.ensures ∙ rw (c.count.ensures, c.count-2.ensures) (sym (pairs-count _ _ _))
