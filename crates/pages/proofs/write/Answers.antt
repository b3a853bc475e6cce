-- Values, summaries and trailer are laid one after another.
use mathlib.Core.Path.{sym, ◌∙◌}
use native.Mathlib.Omega.{arith}
use Rattle.pages.proofs.Laying.{all_words, page-written, whole-laid}
use Rattle.pages.proofs.write.Goals as goal

pub returns-clause-page : goal.returns-clause-page
returns-clause-page c =
    let l = c.args.values.now in
    let old = c.args.page.now in
    whole-laid l old (all_words l (λ k. omega (arith, c.type_inv.values k))) _ _ _ c.write_values.ensures c.write_summaries.ensures c.write_trailer.ensures
    ∙ sym (page-written l old (sym c.no_room.ensures ∙ c.if-no_room.false) (omega arith))
