use Rattle.std.proofs.Common.{rules, ◌≡◌, ◌+◌, length, ℕ, refl, ap, ◌∙◌, arith}
use Rattle.limbs.specs.Value.{value}
use Rattle.limbs.proofs.Words.{low-zero, all_low, words-set, inside}
use Rattle.limbs.proofs.Step.{add-again, added}
use Rattle.limbs.proofs.Carry.{slice-words}
use Rattle.limbs.proofs.run.add_into.Goals as goal

pub loop-i-init : goal.loop-i-init
loop-i-init c = (search rules, slice-words c.args.words.now (λ k. c.type_inv.words k), omega (arith, low-zero c.args.other.now))

pub loop-i-preserved : goal.loop-i-preserved
loop-i-preserved c =
    let w = c.loop-i.invariant.1 in (
      search rules,
      words-set _ w (search rules),
      add-again (record { within = inside w c.loop-i-test.true; before = c.loop-i.invariant.2; step = c.add_word-s.ensures.0 }),
    )

pub returns-clause-sum : goal.returns-clause-sum
returns-clause-sum c =
    let i : c.loop-i.i ≡ length c.args.words.now = omega arith in
    added c.loop-i.carry _ _ c.loop-i.invariant.1 refl
    ((rw i at c.loop-i.invariant.2) ∙ ap (λ (x : ℕ). value c.args.words.now + c.args.carry + x) (all_low _ c.args.other.now c.requires.0) ∙ omega arith)
