use Rattle.std.proofs.Common.{ℕ, ◌%◌, ◌^◌, ap, ◌∙◌, one-mul}
use Rattle.limbs.specs.Value.{value}
use Rattle.limbs.proofs.window.power.Goals as goal

pub returns : goal.returns
unfolding value
returns c = c.shl.ensures ∙ ap (λ (x : ℕ). x % 2 ^ 768) (one-mul _)
