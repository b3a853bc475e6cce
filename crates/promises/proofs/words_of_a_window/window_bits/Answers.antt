use Rattle.limbs.proofs.Splits.{window-bits}
use Rattle.promises.proofs.words_of_a_window.window_bits.Goals as goal

pub returns : goal.returns
returns c = window-bits
