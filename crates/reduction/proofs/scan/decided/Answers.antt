-- Each outcome, by the tests on the way to it.
use Rattle.std.proofs.Common.{◌≡◌, false, sym, refl}
use Rattle.format.specs.Environments.{env_of}
use Rattle.reduction.proofs.Leaves.{nan-leaves, invalid-leaves, positive-leaves, negative-leaves, zeros-leave, terms-leave}
use Rattle.reduction.proofs.Special.{by-nan, by-invalid, by_both, by-positive, by-negative, by-zeros, by-terms}
use Rattle.reduction.proofs.scan.decided.Goals as goal
use Rattle.reduction.proofs.scan.decided.Goals.{else-scan-2-via-then-scan-2+else-scan-3, else-scan-2-via-else-scan-2}

pub returns-then-nan_decides : goal.returns-then-nan_decides
returns-then-nan_decides c =
    let e = sym c.if-nan_decides.ensures in (
      by-nan (env_of c.args.env) c.args.infinity_first c.args.scan.now c.selected.result _ e c.selected.ensures refl,
      nan-leaves c.args.infinity_first c.args.scan.now e,
    )

pub returns-then-scan : goal.returns-then-scan
returns-then-scan c = (
  by-invalid (env_of c.args.env) c.args.infinity_first c.args.scan.now (sym c.if-nan_decides.ensures) c.default_nan.result c.if-scan.true c.default_nan.ensures,
  invalid-leaves c.args.scan.now c.if-scan.true,
)

pub returns-then-scan-3 : goal.returns-then-scan-3
returns-then-scan-3 c = (
  by_both (env_of c.args.env) c.args.infinity_first c.args.scan.now (sym c.if-nan_decides.ensures) c.if-scan.false
      c.default_nan-then-scan-3.result c.if-scan-2.true c.if-scan-3.true c.default_nan-then-scan-3.ensures,
  positive-leaves c.args.scan.now c.if-scan-2.true,
)

pub returns-then-scan-4 : goal.returns-then-scan-4
returns-then-scan-4 c =
    let negative : c.args.scan.now.negative_infinity ≡ false =
    elim c.else-scan-2.branch [
      | else-scan-2-via-then-scan-2+else-scan-3 w ↦ w.if-scan-3.false
      | else-scan-2-via-else-scan-2 w ↦ cc (w.if-scan-2.false, c.if-scan-4.true)
    ] in (
      by-positive (env_of c.args.env) c.args.infinity_first c.args.scan.now (sym c.if-nan_decides.ensures) c.if-scan.false c.if-scan-4.true negative,
      positive-leaves c.args.scan.now c.if-scan-4.true,
    )

pub returns-then-scan-5 : goal.returns-then-scan-5
returns-then-scan-5 c = (
  by-negative (env_of c.args.env) c.args.infinity_first c.args.scan.now (sym c.if-nan_decides.ensures) c.if-scan.false c.if-scan-4.false c.if-scan-5.true,
  negative-leaves c.args.scan.now c.if-scan-5.true,
)

pub returns-then-scan-eq0 : goal.returns-then-scan-eq0
returns-then-scan-eq0 c = (
  by-zeros (env_of c.args.env) c.args.infinity_first c.args.scan.now (sym c.if-nan_decides.ensures) c.if-scan.false
      c.if-scan-4.false c.if-scan-5.false _ c.if-scan-eq0.true c.zero_sum_sign-negative.ensures,
  zeros-leave c.args.scan.now c.if-scan-eq0.true,
)

pub returns-else-scan-eq0 : goal.returns-else-scan-eq0
returns-else-scan-eq0 c =
    let n = sym c.if-nan_decides.ensures in (
      by-terms (env_of c.args.env) c.args.infinity_first c.args.scan.now n c.if-scan.false c.if-scan-4.false c.if-scan-5.false c.if-scan-eq0.false,
      terms-leave c.args.infinity_first c.args.scan.now n c.if-scan.false c.if-scan-4.false c.if-scan-5.false c.if-scan-eq0.false,
    )
