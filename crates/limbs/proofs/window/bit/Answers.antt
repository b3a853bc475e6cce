use Rattle.std.proofs.Common.{ℕ, ◌/◌, ◌%◌, ◌^◌, eqb, ap, ◌∙◌}
use Rattle.limbs.proofs.Words.{words}
use Rattle.limbs.proofs.Digits.{bit-digit}
use Rattle.limbs.proofs.window.bit.Goals as goal

pub returns : goal.returns
returns c =
    ap (λ (x : ℕ). eqb x 1)
    (ap (λ (x : ℕ). x / 2 ^ c.split-p.result.bit % 2) c.word_at-w.ensures
    ∙ bit-digit c.args.window (words 12 c.args.window _ c.well_formed.0).fit c.split-p.ensures)
