-- The default NaN can be told in the format.
use Rattle.totals.proofs.Tens.{special-asks, special-told}
use Rattle.totals.proofs.extended.unsupported.Goals as goal

pub special-requires : goal.special-requires
special-requires c = special-asks _ _ c.extended.ensures _ c.default_nan.ensures

pub returns : goal.returns
returns c = special-told _ _ c.extended.ensures _ c.default_nan.ensures _ _ c.special.ensures
