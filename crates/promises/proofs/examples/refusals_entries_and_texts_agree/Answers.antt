use Rattle.totals_spec.proofs.examples.Examples.{examples-agree}
use Rattle.promises.proofs.examples.refusals_entries_and_texts_agree.Goals as goal

pub returns : goal.returns
returns c = examples-agree
