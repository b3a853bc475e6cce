-- The term of a plainly normal element, none of a blank one, and that of any other by a closer
-- look.
use Rattle.std.proofs.Common.{sym, ◌∙◌}
use Rattle.binary.proofs.Plain.{plainly}
use Rattle.format.specs.Layouts.{layout_of}
use Rattle.format.specs.Environments.{env_of}
use Rattle.binary.specs.Summands.{summand_in}
use Rattle.binary.proofs.Given.{plain-stands}
use Rattle.binary.proofs.Given.{blank-element}
use Rattle.binary.proofs.element.element_term.Goals as goal

pub plain_term-requires : goal.plain_term-requires
plain_term-requires c = (plainly (layout_of c.args.layout) c.args.bits (sym c.is_plain.ensures ∙ c.if-is_plain.true)).some

pub returns-then-is_plain-clause-gives : goal.returns-then-is_plain-clause-gives
returns-then-is_plain-clause-gives c =
    let a = c.args in
    plain-stands (layout_of a.layout) (env_of a.env) (summand_in a.summand) a.bits _ (sym c.is_plain.ensures ∙ c.if-is_plain.true) c.plain_term.ensures.stands_for

pub returns-then-is_blank-clause-gives : goal.returns-then-is_blank-clause-gives
returns-then-is_blank-clause-gives c =
    let a = c.args in
    blank-element (layout_of a.layout) (env_of a.env) (summand_in a.summand) a.bits (sym c.is_blank.ensures ∙ c.if-is_blank.true)
