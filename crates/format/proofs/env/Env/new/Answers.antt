use Rattle.format.proofs.Environments.{bad_modes, all_valid, bad_precision}
use Rattle.std.proofs.Common.{arith}
use Rattle.format.proofs.env.Env.new.Goals as goal

pub returns-in_default : goal.returns-in_default
returns-in_default c = bad_modes _ _ c.in_default.ensures

pub returns-then-settings-digits : goal.returns-then-settings-digits
returns-then-settings-digits c = record {
  is = c.in-Ok.ensures;
  valid = all_valid _ _ c.in-Ok.env c.in-Ok.ensures (omega (arith, c.digits.ensures));
}

pub returns-else-settings-digits : goal.returns-else-settings-digits
returns-else-settings-digits c = bad_precision _ _ c.in-Ok.env c.in-Ok.ensures (omega (arith, c.digits.ensures))
