-- The elements at the index are the codes.
use Rattle.totals_spec.specs.terms.Terms.{pair_item}
use Rattle.reduction.proofs.numbers.EncodedNumbers.pair_term.Goals as goal

pub returns : goal.returns
unfolding pair_item
returns g c = rw (c.at.ensures, c.at-2.ensures) at c.pair_term.ensures
