-- Zero is a finite figure, and worth nothing.
use Rattle.std.proofs.Common.{◌≡◌, refl, sym, ap, ◌∙◌, subst, ◌&&◌, T}
use Rattle.totals_spec.specs.formats.Format.{binary64}
use Rattle.totals_spec.specs.formats.Decode.{decode}
use Rattle.figures_spec.specs.ranges.Ranges.{figure_worth, good_figure}
use Rattle.totals_spec.specs.formats.Ordered.{nothing, at_most}
use Rattle.figures.proofs.range.good_ceiling.Goals as goal

zero-good : T (good_figure 0)
unfolding decode binary64
zero-good = tt

zero-worth : figure_worth 0 ≡ nothing
unfolding figure_worth decode binary64
zero-worth = refl

pub at_most-requires : goal.at_most-requires
at_most-requires c = (zero-good, subst T (sym (sym c.finite.ensures ∙ c.if-finite.true)) tt)

pub returns-then-finite : goal.returns-then-finite
returns-then-finite c =
    let z = c.args.ceiling in
    c.at_most.ensures
    ∙ ap (λ w. at_most w (figure_worth z)) zero-worth
    ∙ sym (ap (λ t. t && at_most nothing (figure_worth z)) (sym c.finite.ensures ∙ c.if-finite.true))
