-- By the search for a stray bit, and by what the scan has met.
use Rattle.std.proofs.Common.{sym, ◌∙◌, inl, inr}
use Rattle.totals_spec.proofs.refusals.AcceptedCalls.{sum-accepts}
use Rattle.totals.proofs.Answers.{sum-unstrayed}
use Rattle.targets.proofs.Keeping.{keeps-special, keeps-none, keeps-sum}
use Rattle.totals.proofs.ScanTold.{exact-asks}
use Rattle.targets.proofs.kept.keep.Goals as goal
use Rattle.targets.proofs.kept.keep.Goals.{then-met_special, else-met_special}

pub exact-requires : goal.exact-requires
exact-requires c =
    let a = sum-accepts _ _ _ _ (sum-unstrayed _ _ _ _ c.requires (c.in_ok-no_stray.ensures {u = tt})) in
    exact-asks c.args.layout _ _ _ c.scan_list-scan.ensures c.if-scan-eq0.false.1 a.few c.digits.ensures

pub returns-then-scan-eq0 : goal.returns-then-scan-eq0
returns-then-scan-eq0 c =
    let g = c.scan_list-scan.ensures in (
      c.in_ok-no_stray.ensures {u = tt},
      elim c.if-scan-eq0.either [
        | inl e ↦ keeps-special c.args.layout _ _ _ g (sym c.met_special.ensures ∙ e)
        | inr e ↦ keeps-none c.args.layout _ _ _ g e.1
      ],
    )

pub returns-else-scan-eq0 : goal.returns-else-scan-eq0
returns-else-scan-eq0 c =
    let (finite, some) = c.if-scan-eq0.false in (
      c.in_ok-no_stray.ensures {u = tt},
      keeps-sum c.args.layout _ _ _ c.scan_list-scan.ensures some (sym c.met_special.ensures ∙ finite) _ (rw c.digits.ensures at c.exact.ensures),
    )
