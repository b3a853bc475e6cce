-- The element at the index is the code.
use Rattle.totals_spec.specs.terms.Terms.{item}
use Rattle.reduction.proofs.numbers.EncodedNumbers.term.Goals as goal

pub returns-clause-gives : goal.returns-clause-gives
unfolding item
returns-clause-gives g c = rw c.at.ensures at c.element_term.ensures.gives
