-- A significand longer than the format's digits reaches the power of two above them.
use Rattle.std.proofs.Common.{arith}
use Rattle.std.proofs.lemmas.Grind.{common_steps}
use lib.Ieee.Digits.{size_reaches}
use Rattle.codec_test.proofs.rows.is_long.Goals as goal

pub returns-else-not-value : goal.returns-else-not-value
returns-else-not-value c = λ e t. size_reaches _ _ (grind (arith, common_steps))
