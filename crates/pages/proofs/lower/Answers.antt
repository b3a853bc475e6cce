-- The lower of the position and the lowest set bit of the value's term.
use mathlib.Core.Path.{sym}
use native.Mathlib.Omega.{arith}
use Rattle.totals_spec.specs.formats.Format.{binary64}
use Rattle.totals_spec.specs.formats.Settings.{no_settings, value}
use Rattle.totals_spec.specs.terms.Terms.{item}
use Rattle.pages.proofs.Numbers.{no_lower, lower-bit}
use Rattle.pages.proofs.lower.Goals as goal

pub returns-then-term-eq0 : goal.returns-then-term-eq0
returns-then-term-eq0 c =
    let stood = rw (c.layout.ensures, c.default-env.ensures) at c.looked_term-term.ensures.stands_for in
    sym (no_lower c.looked_term-term.result c.args.low (item binary64 no_settings value c.args.bits) stood c.if-term-eq0.true)

pub returns : goal.returns
returns c =
    let stood = rw (c.layout.ensures, c.default-env.ensures) at c.looked_term-term.ensures.stands_for in
    let is = lower-bit c.looked_term-term.result c.args.low (item binary64 no_settings value c.args.bits) stood
    c.if-term-eq0.false (omega arith) in
    omega (arith, is)
