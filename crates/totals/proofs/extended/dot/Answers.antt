-- By whether an element is unsupported.
use Rattle.std.proofs.Common.{refl, sym, ◌∙◌}
use Rattle.totals_spec.specs.ten_bytes.Extended.{kind4, extended, unsupported}
use Rattle.totals_spec.proofs.ten_bytes.Totals.{extended-dot-accepts}
use Rattle.totals_spec.proofs.ten_bytes.Terms.{both-any}
use Rattle.reduction.proofs.Items.{ten-pairs-summable}
use Rattle.reduction.proofs.Widths.{extended-known}
use Rattle.totals.proofs.Tens.{dot-unsupported, dot-supported}
use Rattle.totals.proofs.extended.dot.Goals as goal
use Rattle.totals.proofs.extended.dot.Goals.{then-any_unsupported-via-then-any_unsupported}
use Rattle.totals.proofs.extended.dot.Goals.{then-any_unsupported-via-else-any_unsupported+then-any_unsupported-2}

pub scan_pairs-requires : goal.scan_pairs-requires
scan_pairs-requires c = sym (extended-dot-accepts kind4 _ _ _ c.requires).1

pub returns-then-any_unsupported : goal.returns-then-any_unsupported
returns-then-any_unsupported c =
    let both = both-any unsupported _ _ (extended-dot-accepts kind4 _ _ _ c.requires).1 in
    elim c.then-any_unsupported.branch [
      | then-any_unsupported-via-then-any_unsupported w ↦
          c.unsupported.ensures
          ∙ dot-unsupported _ _ _ (both ∙ rw (← c.any_unsupported.ensures, w.if-any_unsupported.true) refl) c.scan_pairs.ensures.subnormal
      | then-any_unsupported-via-else-any_unsupported+then-any_unsupported-2 w ↦
          c.unsupported.ensures
          ∙ dot-unsupported _ _ _
          (both
          ∙ rw (← c.any_unsupported.ensures, w.if-any_unsupported.false, ← w.any_unsupported-else-any_unsupported.ensures, w.if-any_unsupported-2.true)
          refl)
          c.scan_pairs.ensures.subnormal
    ]

pub dot_of-requires-clause-as_long : goal.dot_of-requires-clause-as_long
dot_of-requires-clause-as_long c = sym (extended-dot-accepts kind4 _ _ _ c.requires).1

pub dot_of-requires-clause-known : goal.dot_of-requires-clause-known
dot_of-requires-clause-known c = (extended-known, (extended-dot-accepts kind4 _ _ _ c.requires).0.settings)

pub dot_of-requires-clause-summable : goal.dot_of-requires-clause-summable
dot_of-requires-clause-summable c =
    let a = extended-dot-accepts kind4 _ _ _ c.requires in
    ten-pairs-summable _ _ _ (sym a.1) a.0.few

pub returns : goal.returns
unfolding extended
returns c =
    let both = both-any unsupported _ _ (extended-dot-accepts kind4 _ _ _ c.requires).1 in
    let none =
    both ∙ rw (← c.any_unsupported.ensures, c.if-any_unsupported.false, ← c.any_unsupported-else-any_unsupported.ensures, c.if-any_unsupported-2.false) refl in
    c.dot_of.ensures ∙ dot-supported _ _ none
