-- Both elements at the index are codes of the list's format.
use Rattle.format.specs.Environments.{env_of}
use Rattle.reduction.specs.Encodings.{of_layout}
use Rattle.reduction.proofs.Codes.{can-take, both-read}
use Rattle.reduction.proofs.numbers.EncodedNumbers.take_pair.Goals as goal

pub take_pair-requires : goal.take_pair-requires
take_pair-requires g c =
    let q = of_layout c.args.self.now.layout in
    let e = env_of c.args.env in (can-take q e _ _ c.operand-left_read.ensures.0, can-take q e _ _ c.operand-right_read.ensures.0)

pub returns : goal.returns
returns g c =
    let q = of_layout c.args.self.now.layout in
    rw (c.at.ensures, c.at-2.ensures) at (both-read q (env_of c.args.env) _ _ c.operand-left_read.ensures c.operand-right_read.ensures c.take_pair.ensures)
