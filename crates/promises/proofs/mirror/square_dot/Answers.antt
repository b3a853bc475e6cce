use Rattle.totals_spec.proofs.sums.Squares.{square-dot}
use Rattle.promises.proofs.mirror.square_dot.Goals as goal

pub returns : goal.returns
returns c = square-dot
