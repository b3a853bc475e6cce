use Rattle.std.proofs.Common.{◌/◌, ◌^◌, ◌∙◌, lt_of_le_of_lt, mod-eq_of_lt, rules}
use lib.Pow.{shr_le}
use Rattle.limbs.specs.Value.{value}
use Rattle.limbs.proofs.Words.{words, value-lt}
use Rattle.limbs.proofs.Built.{built}
use Rattle.limbs.proofs.window.shr.Goals as goal

pub returns : goal.returns
returns c =
    built _ _ _ (value c.args.window / 2 ^ c.args.count) (λ i y q k. search rules) c.from_fn.ensures.items
    ∙ mod-eq_of_lt (lt_of_le_of_lt (shr_le (value c.args.window) c.args.count) (value-lt (words 12 c.args.window _ c.well_formed.0)))
