use Rattle.totals_spec.proofs.entries.ValuesInBytes.{values-small}
use Rattle.values.proofs.elements.BytesElements.count.Goals as goal

pub returns-clause-fit : goal.returns-clause-fit
returns-clause-fit c = values-small _ c.bytes_in.ensures.fit
