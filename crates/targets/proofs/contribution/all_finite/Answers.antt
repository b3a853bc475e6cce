-- By the search for a stray bit, and by what the scan has met.
use Rattle.std.proofs.Common.{sym, ◌∙◌}
use Rattle.totals_spec.specs.formats.Settings.{no_settings}
use Rattle.totals.proofs.ScanTold.{special-is}
use Rattle.targets.proofs.Contributed.{finite-list}
use Rattle.targets.proofs.contribution.all_finite.Goals as goal

pub returns : goal.returns
returns g c =
    let special = special-is c.args.layout no_settings _ _ (rw c.default.ensures at c.scan_list-scan.ensures) in
    finite-list _ _ _ (c.in_ok-no_stray.ensures {u = tt}) (special ∙ sym c.met_special.ensures) c.refuse_if.ensures
