use Rattle.std.proofs.Common.{ap, arith, length}
use Rattle.text.proofs.Spelt.{decimal-spelt, decimal_length}
use Rattle.text.proofs.write.Text.decimal.Goals as goal

pub returns-clause-text : goal.returns-clause-text
returns-clause-text c = let told = c.decimal-written.ensures in rw (← decimal-spelt _ _ told.len told.digits) c.bytes.ensures.text

pub returns-clause-len : goal.returns-clause-len
returns-clause-len c =
    let told = c.decimal-written.ensures in
    omega (arith, c.bytes.ensures.len, ap length (decimal-spelt _ _ told.len told.digits), decimal_length c.args.number c.ranges.number.fits)
