use Rattle.std.proofs.Common.{ℕ, ◌%◌, ◌^◌, ap₂, ◌∙◌, rules}
use Rattle.limbs.specs.Value.{value}
use Rattle.limbs.proofs.Words.{words}
use Rattle.limbs.proofs.Digits.{word-digit, low_digit}
use Rattle.limbs.proofs.window.low_at.Goals as goal

pub returns : goal.returns
returns c =
    c.low_bits.ensures
    ∙ ap₂ (λ (x y : ℕ). x % 2 ^ y) (word-digit c.args.window (words 12 _ _ c.well_formed.0).fit c.args.index) (search rules)
    ∙ low_digit (value c.args.window) c.args.index c.args.count
