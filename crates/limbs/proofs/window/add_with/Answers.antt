use Rattle.std.proofs.Common.{◌≡◌, ℕ, ◌+◌, ap, ◌∙◌, refl, arith, rules}
use Rattle.limbs.specs.Value.{value}
use Rattle.limbs.proofs.Words.{words, words-set, inside, low-zero, whole}
use Rattle.limbs.proofs.Step.{add-again, added}
use Rattle.limbs.proofs.window.add_with.Goals as goal

pub loop-i-init : goal.loop-i-init
loop-i-init c = (search rules, words 12 _ _ c.well_formed.0, omega (arith, low-zero c.args.right))

pub loop-i-preserved : goal.loop-i-preserved
loop-i-preserved c =
    let w = c.loop-i.invariant.1 in (
      search rules,
      words-set _ w (search rules),
      add-again (record { within = inside w (search rules); before = c.loop-i.invariant.2; step = c.add_word-step.ensures.0 }),
    )

pub returns : goal.returns
returns c =
    let i : c.loop-i.i ≡ 12 = omega arith in
    added c.loop-i.carry _ _ c.loop-i.invariant.1 refl
    ((rw i at c.loop-i.invariant.2) ∙ ap (λ (x : ℕ). value c.args.left + c.args.carry + x) (whole (words 12 _ _ c.well_formed.1.0)) ∙ omega arith)
