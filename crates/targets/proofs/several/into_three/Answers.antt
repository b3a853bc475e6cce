-- The list is walked once, and its walk serves each target.
use Rattle.std.proofs.Common.{sym}
use Rattle.totals_spec.specs.entries.Bytes.{values_in}
use Rattle.totals_spec.proofs.entries.ValuesInBytes.{values_length}
use Rattle.targets.proofs.Targets.{target-told}
use Rattle.targets.proofs.several.into_three.Goals as goal

pub into_target-requires : goal.into_target-requires
into_target-requires c = λ e.
    let b = c.args.values.now in record { values = values_in b; kept = c.walk_once-list.ensures e; many = sym (values_length b) }

pub into_target-requires-2 : goal.into_target-requires-2
into_target-requires-2 c = λ e.
    let b = c.args.values.now in record { values = values_in b; kept = c.walk_once-list.ensures e; many = sym (values_length b) }

pub into_target-requires-3 : goal.into_target-requires-3
into_target-requires-3 c = λ e.
    let b = c.args.values.now in record { values = values_in b; kept = c.walk_once-list.ensures e; many = sym (values_length b) }

pub returns : goal.returns
returns c =
    let l = values_in c.args.values.now in
    let many = sym (values_length c.args.values.now) in (
      target-told _ _ _ _ _ c.args.first l c.into_target.ensures many c.walk_once-list.ensures,
      target-told _ _ _ _ _ c.args.second l c.into_target-2.ensures many c.walk_once-list.ensures,
      target-told _ _ _ _ _ c.args.third l c.into_target-3.ensures many c.walk_once-list.ensures,
    )
