-- By the highest bit alone, but at emax: there only NoInf has a number that is too large.
use Rattle.std.proofs.Common.{◌≡◌, ◌&&◌, eqb, sym, ◌∙◌, arith}
use Rattle.totals_spec.specs.formats.Format.{kind_of, digits}
use Rattle.totals_spec.specs.rounding.Round.{is_no_inf}
use Rattle.format.specs.Shapes.{shape_of}
use Rattle.format.proofs.Shapes.{width_ge}
use Rattle.exact.proofs.Beyond.{over-off, over-top}
use Rattle.exact.proofs.overflows.Goals as goal
use Rattle.exact.proofs.overflows.Goals.{then-is_no_inf, else-is_no_inf}

pub returns-then-top-most : goal.returns-then-top-most
returns-then-top-most c =
    let a = c.args in
    rw c.emax-most.ensures
    (over-off (shape_of a.shape) a.precision a.grid a.kept a.lowest c.requires.le_q.0 (omega (arith, width_ge a.shape)) c.requires.le_q.2
    (λ e. c.if-top-most.true (e ∙ sym c.emax-most.ensures)))

pub returns-then-precision-digits : goal.returns-then-precision-digits
returns-then-precision-digits c =
    let a = c.args in
    let full : (is_no_inf (kind_of (shape_of a.shape).kind) && eqb a.precision (digits (shape_of a.shape))) ≡ c.if-is_no_inf.value =
    elim c.if-is_no_inf.branch [
      | then-is_no_inf w ↦ rw (w.value-is, w.digits.ensures, sym c.is_no_inf.ensures, w.if-is_no_inf.true)
      | else-is_no_inf w ↦ rw (w.value-is, sym c.is_no_inf.ensures, w.if-is_no_inf.false)
    ] in
    let top = over-top (shape_of a.shape) a.precision a.grid a.kept a.lowest c.requires.le_q.0 (omega (arith, width_ge a.shape)) c.requires.le_q.2
    (c.if-top-most.false ∙ c.emax-most.ensures) in
    rw c.ones.ensures (rw (full ∙ c.if-precision-digits.true) at top)

pub returns-else-precision-digits : goal.returns-else-precision-digits
returns-else-precision-digits c =
    let a = c.args in
    let full : (is_no_inf (kind_of (shape_of a.shape).kind) && eqb a.precision (digits (shape_of a.shape))) ≡ c.if-is_no_inf.value =
    elim c.if-is_no_inf.branch [
      | then-is_no_inf w ↦ rw (w.value-is, w.digits.ensures, sym c.is_no_inf.ensures, w.if-is_no_inf.true)
      | else-is_no_inf w ↦ rw (w.value-is, sym c.is_no_inf.ensures, w.if-is_no_inf.false)
    ] in
    let top = over-top (shape_of a.shape) a.precision a.grid a.kept a.lowest c.requires.le_q.0 (omega (arith, width_ge a.shape)) c.requires.le_q.2
    (c.if-top-most.false ∙ c.emax-most.ensures) in
    c.if-precision-digits.false ∙ (rw (full ∙ c.if-precision-digits.false) at top)
