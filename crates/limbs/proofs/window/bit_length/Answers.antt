use Rattle.std.proofs.Common.{◌*◌, ◌+◌, ℕ, ap, ◌∙◌, arith}
use Rattle.std.proofs.lemmas.Grind.{common_steps}
use Rattle.limbs.proofs.Words.{words}
use Rattle.limbs.proofs.Top.{top-word, no-bits}
use Rattle.limbs.proofs.window.bit_length.Goals as goal

pub returns-in-Some : goal.returns-in-Some
returns-in-Some c =
    ap (λ (x : ℕ). c.in-Some.i * 64 + x) c.bit_length.ensures
    ∙ top-word c.args.window c.in-Some.i (words 12 _ _ c.well_formed.0).fit (grind (arith, common_steps)) (grind (arith, common_steps))

pub returns-in-None : goal.returns-in-None
returns-in-None c = no-bits c.args.window (grind (arith, common_steps))
