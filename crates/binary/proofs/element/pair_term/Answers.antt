-- The term of a pair of plainly normal elements, none where one is blank, and that of any other by
-- a closer look.
use Rattle.std.proofs.Common.{sym, ◌∙◌}
use Rattle.binary.proofs.Pairs.{both-plainly}
use Rattle.format.specs.Layouts.{layout_of}
use Rattle.format.specs.Environments.{env_of}
use Rattle.binary.proofs.Given.{pair-stands}
use Rattle.binary.proofs.Given.{blank-left, blank-right}
use Rattle.binary.proofs.element.pair_term.Goals as goal

pub plain_product-requires : goal.plain_product-requires
plain_product-requires c =
    let h = both-plainly (layout_of c.args.layout) c.args.left c.args.right (sym c.both_plain.ensures ∙ c.if-both_plain.true) in
    (h.0.some, h.1.some)

pub returns-then-both_plain : goal.returns-then-both_plain
returns-then-both_plain c =
    let a = c.args in
    pair-stands (layout_of a.layout) (env_of a.env) a.left a.right _ (sym c.both_plain.ensures ∙ c.if-both_plain.true) c.plain_product.ensures

pub returns-then-is_blank : goal.returns-then-is_blank
returns-then-is_blank c =
    let a = c.args in
    blank-left (layout_of a.layout) (env_of a.env) a.left a.right (sym c.is_blank.ensures ∙ c.if-is_blank.true)

pub returns-then-is_blank-2 : goal.returns-then-is_blank-2
returns-then-is_blank-2 c =
    let a = c.args in
    blank-right (layout_of a.layout) (env_of a.env) a.left a.right (sym c.is_blank-2.ensures ∙ c.if-is_blank-2.true)
