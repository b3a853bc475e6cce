use Rattle.std.proofs.Common.{rules, ◌*◌, ◌%◌, ◌^◌, length, ℕ, subst}
use Rattle.limbs.specs.Value.{value}
use Rattle.limbs.specs.Moved.{Moved}
use Rattle.limbs.proofs.Gather.{placed, shifted}
use Rattle.limbs.proofs.run.add_one.Goals as goal

pub returns-clause-sum : goal.returns-clause-sum
returns-clause-sum c =
    subst (λ (x : ℕ). Moved c.args.addend.negative (length c.args.words.now) (value c.args.words.now) (value c.put.new.words) x)
    (placed c.args.addend.significand (c.from.result * 2 ^ c.split-p.result.bit % 2 ^ 128) c.args.addend.shift c.split-p.result.word c.split-p.result.bit
    c.split-p.ensures.word c.split-p.ensures.bit (shifted c.args.addend.significand c.from.result c.split-p.result.bit (search rules) c.split-p.ensures.small c.from.ensures))
    c.put.ensures.sum
