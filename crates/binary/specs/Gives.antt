-- What is given of an item: its term, or none where it is none.
use Rattle.std.specs.Prelude.{◌≡◌, Option, None, Some}
use Rattle.std.proofs.Math.Option.{none}
use Rattle.totals_spec.specs.terms.Terms as terms
use Rattle.binary.specs.declared.term.Term.{Term}
use Rattle.binary.specs.Terms.{StandsFor}

abbrev pub Gives : Option Term → terms.Item → Type 0
Gives (Some t) i = StandsFor t i
Gives None i = terms.term_of i ≡ none
