-- What a value's item sets is what is seen of the value.
use mathlib.Core.Path.{ap, ◌∙◌}
use Prim.Native.Nat.{ℕ}
use Rattle.pages.proofs.Gathering.{also-value}
use Rattle.pages.proofs.Content.note.Goals as goal

pub returns-in-Nan : goal.returns-in-Nan
returns-in-Nan c = also-value c.args.bits c.args.self.now c.layout.ensures c.default-env.ensures c.operand.ensures.0 c.in-Nan.ensures

pub returns-in-Infinite : goal.returns-in-Infinite
returns-in-Infinite c =
    also-value c.args.bits c.args.self.now c.layout.ensures c.default-env.ensures c.operand.ensures.0 c.in-Infinite.ensures

pub returns-in-Zero : goal.returns-in-Zero
returns-in-Zero c = also-value c.args.bits c.args.self.now c.layout.ensures c.default-env.ensures c.operand.ensures.0 c.in-Zero.ensures

pub returns-in-Top : goal.returns-in-Top
returns-in-Top c =
    let s = c.args.self.now in
    ap (λ (n : ℕ). record { top = n; nan = s.nan; infinite = s.infinite; zero = s.zero }) c.max-self.ensures
    ∙ also-value c.args.bits s c.layout.ensures c.default-env.ensures c.operand.ensures.0 c.in-Top.ensures
