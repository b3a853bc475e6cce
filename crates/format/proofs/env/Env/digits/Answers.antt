use Rattle.totals_spec.specs.formats.Settings.{precision_of}
use Rattle.format.proofs.Environments.{digits_chosen}
use Rattle.format.proofs.env.Env.digits.Goals as goal

pub returns : goal.returns
unfolding precision_of
returns c = rw (c.unwrap_or.ensures, c.digits.ensures) (digits_chosen c.args.self.precision _ c.args.self.positive)
