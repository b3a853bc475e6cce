-- Both values were read.
use Rattle.format.specs.Environments.{env_of}
use Rattle.reduction.specs.Encodings.{of_tens}
use Rattle.reduction.proofs.Codes.{can-take, both-read}
use Rattle.reduction.proofs.numbers.TensNumbers.take_pair.Goals as goal

pub take_pair-requires : goal.take_pair-requires
take_pair-requires c =
    let e = env_of c.args.env in
    (can-take of_tens e _ _ c.operand-left_read.ensures.0, can-take of_tens e _ _ c.operand-right_read.ensures.0)

pub returns : goal.returns
returns c = both-read of_tens (env_of c.args.env) _ _ c.operand-left_read.ensures c.operand-right_read.ensures c.take_pair.ensures
