use Rattle.std.proofs.Common.{ℕ, ◌+◌, ◌-◌, ◌*◌, ◌/◌, ◌%◌, ◌^◌, ap₂, ◌∙◌, arith}
use Rattle.limbs.specs.Value.{value}
use Rattle.limbs.proofs.Words.{words}
use Rattle.limbs.proofs.Digits.{shl-digit, shl-digit-low}
use Rattle.limbs.proofs.window.shl_at.Goals as goal

pub returns-then-index-p : goal.returns-then-index-p
returns-then-index-p c = shl-digit-low (value c.args.window) c.args.index c.args.count (omega arith)

pub returns : goal.returns
returns c =
    c.funnel.ensures
    ∙ ap₂ (λ (x y : ℕ). (x + y * 2 ^ 64) / 2 ^ (64 - c.split-p.result.bit) % 2 ^ 64) c.word_below.ensures c.word_below-2.ensures
    ∙ shl-digit c.args.window (words 12 c.args.window _ c.well_formed.0).fit c.args.index c.split-p.ensures c.if-index-p.false
