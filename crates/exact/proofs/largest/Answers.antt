-- The largest number of q digits: q ones at the top, one less where NoInf keeps that pattern for
-- its NaN.
use Rattle.std.proofs.Common.{◌≡◌, false, ◌-◌, ◌*◌, ◌^◌, ◌&&◌, eqb, sym, ap, ◌∙◌, arith}
use mathlib.Core.Bool.{and-false}
use borrow.Author.Tests.{ne_eqb}
use Rattle.totals_spec.specs.formats.Format.{digits, kind_of}
use Rattle.totals_spec.specs.rounding.Round.{is_no_inf}
use Rattle.totals_spec.proofs.formats.ExponentRange.{range-fits}
use Rattle.format.specs.Shapes.{shape_of}
use Rattle.format.proofs.Shapes.{width_le, range_bounds}
use Rattle.exact.proofs.Beyond.{largest-plain, largest-noinf, ones_lt, ones-fit, ones_pos, ones-full}
use Rattle.exact.proofs.largest.Goals as goal
use Rattle.exact.proofs.largest.Goals.{else-is_no_inf-via-then-is_no_inf+else-precision-digits, else-is_no_inf-via-else-is_no_inf}

pub scaled-all-requires : goal.scaled-all-requires
scaled-all-requires c =
    let p = digits (shape_of c.args.shape) in
    let width = width_le c.args.shape in
    (omega (arith, width), rw (c.ones.ensures, c.digits-digits.ensures) (ones-fit c.args.precision p c.requires.0 c.requires.1 (omega (arith, width))))

pub overflow_sub-result : goal.overflow_sub-result
overflow_sub-result c =
    let p = digits (shape_of c.args.shape) in
    let q = c.args.precision in
    let all : c.scaled-all.result ≡ (2 ^ q - 1) * 2 ^ (p - q) = rw (c.ones.ensures, c.digits-digits.ensures) at c.scaled-all.ensures in
    omega (arith, all, ones_pos q p c.requires.0 c.requires.1)

pub returns-then-precision-digits : goal.returns-then-precision-digits
returns-then-precision-digits c =
    let f = shape_of c.args.shape in
    let q = c.args.precision in
    let range = c.exponent_range.ensures.value in
    let all : c.scaled-all.result ≡ (2 ^ q - 1) * 2 ^ (digits f - q) = rw (c.ones.ensures, c.digits-digits.ensures) at c.scaled-all.ensures in
    let full = c.if-precision-digits.true ∙ c.digits-digits.ensures in (
      rw (range, all, ones-full q (digits f) full) (sym (largest-noinf f q c.args.negative (sym c.is_no_inf.ensures ∙ c.if-is_no_inf.true) full)),
      (rw range (range-fits f (range_bounds c.args.shape)), omega (arith, all, ones_lt q (digits f) c.requires.0 c.requires.1)),
    )

pub returns-else-is_no_inf : goal.returns-else-is_no_inf
returns-else-is_no_inf c =
    let f = shape_of c.args.shape in
    let q = c.args.precision in
    let range = c.exponent_range.ensures.value in
    let all : c.scaled-all.result ≡ (2 ^ q - 1) * 2 ^ (digits f - q) = rw (c.ones.ensures, c.digits-digits.ensures) at c.scaled-all.ensures in
    let no = is_no_inf (kind_of f.kind) in
    let short : (no && eqb q (digits f)) ≡ false =
    elim c.else-is_no_inf.branch [
      | else-is_no_inf-via-then-is_no_inf+else-precision-digits w ↦
          ap (◌&&◌ no) (ne_eqb q (digits f) (λ e. w.if-precision-digits.false (e ∙ sym c.digits-digits.ensures))) ∙ and-false no
      | else-is_no_inf-via-else-is_no_inf w ↦ rw (sym c.is_no_inf.ensures ∙ w.if-is_no_inf.false)
    ] in (
      cc (range, all, largest-plain f q c.args.negative short),
      (omega (arith, range, range-fits f (range_bounds c.args.shape)), omega (arith, all, ones_lt q (digits f) c.requires.0 c.requires.1)),
    )
