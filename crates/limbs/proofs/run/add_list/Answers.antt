use Rattle.std.proofs.Common.{◌∙◌, ◌*◌, ◌^◌, get_or, ℕ, subst}
use Rattle.std.proofs.lemmas.List.Sums.{sum_by_more}
use Rattle.limbs.specs.Value.{value}
use Rattle.limbs.specs.Moved.{Moved}
use Rattle.limbs.specs.Gathered.{added, taken, no_addend}
use Rattle.limbs.proofs.Gather.{gathered-more}
use Rattle.limbs.proofs.run.add_list.Goals as goal

pub loop-i-preserved : goal.loop-i-preserved
loop-i-preserved c =
    let a = get_or c.args.list.now c.loop-i.i no_addend in (
      c.add_one.ensures.long ∙ c.loop-i.invariant.0,
      gathered-more (get_or c.args.list.now c.loop-i.i no_addend) _ _ (value c.loop-i.words) (value c.add_one.new.words) _ _ _ _
          (subst (λ (n : ℕ). Moved a.negative n (value c.loop-i.words) (value c.add_one.new.words) (a.significand * 2 ^ a.shift)) c.loop-i.invariant.0 c.add_one.ensures.sum)
          c.loop-i.invariant.1 (sum_by_more added c.args.list.now c.loop-i.i no_addend c.loop-i-test.true)
          (sum_by_more taken c.args.list.now c.loop-i.i no_addend c.loop-i-test.true),
    )
