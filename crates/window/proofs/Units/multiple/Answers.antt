-- The multiple, and that the one above it fits the window.
use Rattle.std.proofs.Common.{◌≡◌, ℕ, ◌+◌, ◌/◌, ◌^◌, sym, ap, ◌∙◌, add-zero}
use Rattle.limbs.specs.Value.{value}
use Rattle.limbs.proofs.Words.{words, value-lt}
use Rattle.totals_spec.specs.Basics.{flag}
use Rattle.totals_spec.specs.chain.Chain.{boundary}
use Rattle.window.proofs.Numbers.{one_more}
use Rattle.window.proofs.Units.multiple.Goals as goal
use Rattle.window.proofs.Units.multiple.Goals.{then-up, else-up}

pub returns : goal.returns
returns c =
    let a = c.args in
    let small = value-lt (words 12 a.self.whole _ c.well_formed.0.1.1.0) in
    let is : value c.if-up.result ≡ value a.self.whole / 2 ^ a.rest + flag 1 a.up =
    elim c.if-up.branch [
      | then-up w ↦ rw (w.result-is, w.if-up.true, w.increment.ensures, c.shr-kept.ensures) (one_more (value a.self.whole) a.rest c.requires.0 small)
      | else-up w ↦ rw (w.result-is, w.if-up.false) (c.shr-kept.ensures ∙ sym (add-zero _))
    ] in
    ap (λ (n : ℕ). boundary a.self.negative n (a.self.place + a.rest)) is
