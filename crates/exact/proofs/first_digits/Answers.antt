-- The first q digits, rounded, and one half of 2^q one position higher.
use Rattle.std.proofs.Common.{◌+◌, ◌-◌, ◌^◌, ◌≤◌, arith}
use native.Mathlib.Nat.{le_refl}
use lib.Pow.{pow-lt}
use Rattle.totals_spec.proofs.numbers.Powers.{carried}
use Rattle.exact.proofs.Plan.{first-lt, first-ge, rounded-to}
use Rattle.exact.proofs.first_digits.Goals as goal

pub returns-then-not-up : goal.returns-then-not-up
returns-then-not-up c =
    let cut = c.cut-first.ensures in
    rounded-to c.requires cut c.rounds_up-up.ensures c.is_inexact-inexact.ensures c.cut-first.result.kept (c.args.end - c.args.precision)
    (first-ge c.requires cut) (first-lt c.requires cut) (omega arith) (omega arith) (rw (c.if-not-up.true) (omega arith))

pub returns-then-first-ones : goal.returns-then-first-ones
returns-then-first-ones c =
    let cut = c.cut-first.ensures in
    rounded-to c.requires cut c.rounds_up-up.ensures c.is_inexact-inexact.ensures _ (c.args.end - c.args.precision)
    (omega (arith, first-ge c.requires cut)) (omega (arith, c.if-first-ones.true, c.ones.ensures)) (omega arith) (omega arith)
    (rw (c.if-not-up.false))

pub returns-else-first-ones : goal.returns-else-first-ones
returns-else-first-ones c =
    let cut = c.cut-first.ensures in
    let q = c.args.precision in
    let low = c.args.end - q in
    let full : 2 ^ q - 1 ≤ c.cut-first.result.kept = omega (arith, c.if-first-ones.false, c.ones.ensures) in
    rw c.power.ensures.0
    (rounded-to c.requires cut c.rounds_up-up.ensures c.is_inexact-inexact.ensures (2 ^ (q - 1)) (low + 1)
    (le_refl _) (pow-lt (omega arith)) (omega arith) (omega arith)
    (rw (c.if-not-up.false) (carried c.cut-first.result.kept q low c.requires.least (first-lt c.requires cut) full)))
