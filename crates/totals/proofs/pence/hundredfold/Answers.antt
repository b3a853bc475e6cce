-- By the sum of a list whose fields lie near one another; else by what the scan has met, and by the chain over the values a hundred times each.
use Rattle.std.proofs.Common.{◌∙◌, arith}
use Rattle.std.proofs.lemmas.Result.{err_from_is_err_and}
use Rattle.totals_spec.specs.formats.Settings.{no_settings}
use Rattle.format.specs.Layouts.{layout_of}
use Rattle.format.proofs.Layouts.{layout_bounds}
use Rattle.near.proofs.NearSums.{figure-hundred}
use Rattle.reduction.proofs.Loop.{hundred-base}
use Rattle.totals.proofs.Counted.{met-figure, zero-figure, chain-figure, raised-top, left-countable}
use Rattle.totals.proofs.ScanTold.{scanned}
use Rattle.totals.proofs.ScanTold.{top-room}
use Rattle.totals.proofs.pence.hundredfold.Goals as goal

pub returns-in_err-refuse_if : goal.returns-in_err-refuse_if
returns-in_err-refuse_if g c =
    let p = err_from_is_err_and c.from_residual.result c.from_residual.ensures.1 in
    let (special, is) = c.in_err-refuse_if.ensures {u = tt} in
    let seen = scanned c.args.layout no_settings _ _ (rw c.default.ensures at c.scan_list-scan.ensures) in
    rw (p.1, p.2, is) (met-figure _ _ seen c.met_special.ensures special)

pub returns-then-scan-eq0 : goal.returns-then-scan-eq0
returns-then-scan-eq0 g c =
    let seen = scanned c.args.layout no_settings _ _ (rw c.default.ensures at c.scan_list-scan.ensures) in
    zero-figure _ _ seen c.met_special.ensures (c.in_ok-refuse_if.ensures {u = tt}) c.if-scan-eq0.true

pub overflow_add-scan : goal.overflow_add-scan
overflow_add-scan g c = record { fits = omega (arith, top-room c.args.layout _ _ _ c.scan_list-scan.ensures) }

pub exact-sum-requires : goal.exact-sum-requires
exact-sum-requires g c =
    let seen = scanned c.args.layout no_settings _ _ (rw c.default.ensures at c.scan_list-scan.ensures) in
    let t = raised-top _ _ seen c.if-scan-eq0.false in
    (hundred-base (omega arith) (layout_of c.args.layout) (layout_bounds c.args.layout).range no_settings _ c.requires (rw t.0 at t.1), t.0)

pub whole_pence-requires : goal.whole_pence-requires
whole_pence-requires g c = left-countable _ _ ((c.in-Some.ensures {u = tt}).left 64)

pub returns-in-Some : goal.returns-in-Some
returns-in-Some g c =
    let h = c.in-Some.ensures {u = tt} in
    rw h.numbers (c.whole_pence.ensures _ (h.left 64) ∙ figure-hundred (layout_of c.args.layout) _)

pub whole_pence-requires-2 : goal.whole_pence-requires-2
whole_pence-requires-2 g c = left-countable _ _ c.left.ensures

pub returns : goal.returns
returns g c =
    let seen = scanned c.args.layout no_settings _ _ (rw c.default.ensures at c.scan_list-scan.ensures) in
    c.whole_pence-2.ensures _ c.left.ensures
    ∙ chain-figure _ _ seen c.met_special.ensures (c.in_ok-refuse_if.ensures {u = tt}) c.requires _ c.exact-sum.ensures
