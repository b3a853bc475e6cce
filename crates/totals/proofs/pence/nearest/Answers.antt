-- By where its highest bit stands.
use Rattle.std.proofs.Common.{◌≡◌, ◌+◌, ◌-◌, ◌≤◌, ap₂, refl, ◌∙◌, arith, false}
use Rattle.totals_spec.specs.formats.Format.{origin, fall}
use Rattle.totals_spec.proofs.pence.NearestWhole.{penny}
use Rattle.format.specs.Shapes.{shape_of}
use Rattle.exact.specs.Unrounded.{end_of}
use Rattle.totals.proofs.Counted.{too_large, kept-fits, whole_is}
use Rattle.totals.proofs.pence.nearest.Goals as goal

pub returns-then-end-down : goal.returns-then-end-down
returns-then-end-down c = λ x st.
    too_large (shape_of c.args.shape) c.args.sum c.requires
    (omega (arith, c.if-end-down.true, c.length.ensures.0, c.fall-down.ensures.value, c.origin-one.ensures.value)) x st

pub overflow_add-whole : goal.overflow_add-whole
overflow_add-whole c =
    let f = shape_of c.args.shape in
    let v = c.args.sum in
    let fits : end_of v + fall f false ≤ origin f false + 63 =
    omega (arith, c.if-end-down.false, c.length.ensures.0, c.fall-down.ensures.value, c.origin-one.ensures.value) in
    let place : c.origin-one.result - c.fall-down.result ≡ penny f = ap₂ ◌-◌ c.origin-one.ensures.value c.fall-down.ensures.value in
    omega (arith, c.flag.ensures.1, kept-fits f v c.requires fits c.cut-whole.result _ place c.cut-whole.ensures)

pub returns : goal.returns
returns c = λ x st.
    let f = shape_of c.args.shape in
    let v = c.args.sum in
    let fits : end_of v + fall f false ≤ origin f false + 63 =
    omega (arith, c.if-end-down.false, c.length.ensures.0, c.fall-down.ensures.value, c.origin-one.ensures.value) in
    let place : c.origin-one.result - c.fall-down.result ≡ penny f = ap₂ ◌-◌ c.origin-one.ensures.value c.fall-down.ensures.value in
    c.in_range.ensures
    ∙ whole_is f v c.requires fits c.cut-whole.result _ place c.cut-whole.ensures c.rounds_up-up.result c.rounds_up-up.ensures _
    (ap₂ ◌+◌ refl c.flag.ensures.0) x st
