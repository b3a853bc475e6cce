use Rattle.totals_spec.proofs.ten_bytes.Calls.{other-kinds}
use Rattle.promises.proofs.entries.other_kinds.Goals as goal

pub returns : goal.returns
returns c = other-kinds
