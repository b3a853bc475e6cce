use Rattle.std.proofs.Common.{ℕ, ◌+◌, ◌*◌, ◌/◌, ◌%◌, ◌^◌, ap₂, ◌∙◌}
use Rattle.limbs.proofs.Words.{words}
use Rattle.limbs.proofs.Digits.{shr-digit}
use Rattle.limbs.proofs.window.shr_at.Goals as goal

pub returns : goal.returns
returns c =
    c.funnel.ensures
    ∙ ap₂ (λ (x y : ℕ). (x + y * 2 ^ 64) / 2 ^ c.split-p.result.bit % 2 ^ 64) c.word_at-low.ensures c.word_at-high.ensures
    ∙ shr-digit c.args.window (words 12 c.args.window _ c.well_formed.0).fit c.args.index c.split-p.ensures
