-- What is seen of the values, and where their lowest bit lies, is their summary.
use native.Mathlib.Omega.{arith}
use Rattle.totals_spec.specs.entries.Bytes.{values_in}
use Rattle.pages.proofs.Gathering.{top-most, bottom-most, without-term, with-term}
use Rattle.pages.proofs.Summary.of.Goals as goal

pub returns-then-seen-eq0 : goal.returns-then-seen-eq0
returns-then-seen-eq0 c =
    without-term (values_in c.args.values.now) c.seen_in-seen.result c.seen_in-seen.ensures _ _ _ c.flag.ensures.0 c.flag-2.ensures.0 c.flag-3.ensures.0
    (omega (arith, c.flag.ensures.1, c.flag-2.ensures.1, c.flag-3.ensures.1)) c.if-seen-eq0.true

pub position-high-requires : goal.position-high-requires
position-high-requires c = omega (arith, top-most (values_in c.args.values.now) c.seen_in-seen.result c.seen_in-seen.ensures)

pub position-low-requires : goal.position-low-requires
position-low-requires c =
    omega (arith, bottom-most (values_in c.args.values.now) c.seen_in-seen.result c.seen_in-seen.ensures c.bottom.result c.bottom.ensures)

pub returns : goal.returns
returns c =
    with-term (values_in c.args.values.now) c.seen_in-seen.result c.seen_in-seen.ensures _ _ _ c.flag.ensures.0 c.flag-2.ensures.0 c.flag-3.ensures.0
    (omega (arith, c.flag.ensures.1, c.flag-2.ensures.1, c.flag-3.ensures.1)) c.if-seen-eq0.false
    c.bottom.result _ _ c.bottom.ensures c.position-high.ensures c.position-low.ensures
