use Rattle.std.proofs.Common.{ℕ, ◌-◌, ◌%◌, ◌^◌, ap, ◌∙◌, zero-add, mod-eq_of_lt}
use Rattle.limbs.specs.Value.{value}
use Rattle.limbs.proofs.Words.{words, value-lt}
use Rattle.limbs.proofs.window.negate.Goals as goal

pub returns : goal.returns
unfolding value
returns c =
    c.sub.ensures
    ∙ ap (λ (x : ℕ). x % 2 ^ 768) (zero-add _ ∙ ap (λ (x : ℕ). 2 ^ 768 - x) (mod-eq_of_lt (value-lt (words 12 c.args.window _ c.well_formed.0))))
