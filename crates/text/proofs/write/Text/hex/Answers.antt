use Rattle.std.proofs.Common.{◌≡◌, ap, arith, length, take}
use Rattle.totals_spec.specs.program.Program.{hex_text}
use Rattle.text.proofs.Spelt.{hex-spelt, hex_length}
use Rattle.text.proofs.write.Text.hex.Goals as goal

pub bytes-requires : goal.bytes-requires
bytes-requires c =
    let told = c.hex-written.ensures in
    let e : take c.hex-written.result c.hex-written.new.out ≡ hex_text c.args.count c.args.number = hex-spelt _ _ _ c.requires.width c.requires.small told.len told.digits in
    omega (arith, c.requires.room, ap length e, hex_length c.args.count c.args.number)

pub returns-clause-text : goal.returns-clause-text
returns-clause-text c =
    let told = c.hex-written.ensures in
    let e : take c.hex-written.result c.hex-written.new.out ≡ hex_text c.args.count c.args.number = hex-spelt _ _ _ c.requires.width c.requires.small told.len told.digits in
    rw (← e) c.bytes.ensures.text

pub returns-clause-len : goal.returns-clause-len
returns-clause-len c =
    let told = c.hex-written.ensures in
    let e : take c.hex-written.result c.hex-written.new.out ≡ hex_text c.args.count c.args.number = hex-spelt _ _ _ c.requires.width c.requires.small told.len told.digits in
    omega (arith, c.bytes.ensures.len, ap length e, hex_length c.args.count c.args.number)
