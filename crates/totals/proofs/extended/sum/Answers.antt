-- By whether an element is unsupported.
use Rattle.std.proofs.Common.{sym, ◌∙◌}
use Rattle.totals_spec.specs.ten_bytes.Extended.{kind4, extended}
use Rattle.totals_spec.proofs.ten_bytes.Totals.{extended-sum-accepts}
use Rattle.reduction.proofs.Items.{tens-summable}
use Rattle.reduction.proofs.Widths.{extended-known}
use Rattle.totals.proofs.Tens.{sum-unsupported, sum-supported}
use Rattle.totals.proofs.extended.sum.Goals as goal

pub returns-then-any_unsupported : goal.returns-then-any_unsupported
returns-then-any_unsupported c =
    c.unsupported.ensures ∙ sum-unsupported _ _ _ _ (sym c.any_unsupported.ensures ∙ c.if-any_unsupported.true) c.scan_list.ensures.subnormal

pub sum_of-requires-clause-known : goal.sum_of-requires-clause-known
sum_of-requires-clause-known c = (extended-known, (extended-sum-accepts kind4 _ _ _ c.requires).0.settings)

pub sum_of-requires-clause-summable : goal.sum_of-requires-clause-summable
sum_of-requires-clause-summable c = tens-summable _ _ _ (extended-sum-accepts kind4 _ _ _ c.requires).0.few

pub returns : goal.returns
unfolding extended
returns c = c.sum_of.ensures ∙ sum-supported _ _ _ (sym c.any_unsupported.ensures ∙ c.if-any_unsupported.false)
