use Rattle.limbs.proofs.Shifted.{shl-law}
use Rattle.limbs.proofs.word.shl_word.Goals as goal

pub returns : goal.returns
returns c = shl-law c.args.word c.args.carry c.args.offset c.ranges.word.fits c.requires.0 c.requires.1
