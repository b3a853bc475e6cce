-- The term of a plainly normal element, none of a blank one, and that of any other by a closer
-- look.
use Rattle.std.proofs.Common.{sym, ◌∙◌}
use Rattle.binary.proofs.Plain.{plainly}
use Rattle.format.specs.Layouts.{layout_of}
use Rattle.format.specs.Environments.{env_of}
use Rattle.binary.proofs.Given.{hundred-stands}
use Rattle.binary.proofs.Given.{blank-hundred}
use Rattle.binary.proofs.element.hundred_term.Goals as goal

pub plain_hundred-requires : goal.plain_hundred-requires
plain_hundred-requires c = (plainly (layout_of c.args.layout) c.args.element (sym c.is_plain.ensures ∙ c.if-is_plain.true)).some

pub returns-then-is_plain : goal.returns-then-is_plain
returns-then-is_plain c =
    let a = c.args in
    hundred-stands (layout_of a.layout) (env_of a.env) a.element _ (sym c.is_plain.ensures ∙ c.if-is_plain.true) c.plain_hundred.ensures

pub returns-then-is_blank : goal.returns-then-is_blank
returns-then-is_blank c =
    let a = c.args in
    blank-hundred (layout_of a.layout) (env_of a.env) a.element (sym c.is_blank.ensures ∙ c.if-is_blank.true)
