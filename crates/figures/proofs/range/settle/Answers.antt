-- A turn settles the figures of one more entry.
use Rattle.std.proofs.Common.{◌≡◌, ℕ, length, get_or, sym, ap, ap₂, ◌∙◌, subst, T, arith}
use Rattle.figures_spec.specs.ranges.Ranges.{Amount, amount_of, low_of, high_of, good_figure, good_amount}
use Rattle.figures.proofs.RangeFigures.{no_nan, figure-no-nan, written-again}
use Rattle.figures.proofs.RangeSettled.{no-nan-double, low-good, high-good, good-at, lows-length, highs-length}
use Rattle.figures.proofs.RangeSettled.{entry-read, first-settled, second-settled, settled-all}
use Rattle.figures.proofs.range.settle.Goals as goal

pub float_from_bits-most : goal.float_from_bits-most
float_from_bits-most c = no_nan _ (figure-no-nan _ c.requires.t.0)

pub amount_of-amount-requires : goal.amount_of-amount-requires
amount_of-amount-requires c =
    let a = c.args in
    let l = c.loop-i in
    let e = sym c.requires.firsts_len.0 in
    let h = sym c.requires.firsts_len.1 in
    subst (λ (x : Amount). T (good_amount x))
    (sym (entry-read a.tags.now a.firsts.now a.seconds.now e h a.ceiling l.i l.firsts l.seconds l.invariant.0 l.invariant.1 c.loop-i-test.true))
    (good-at a.tags.now a.firsts.now a.seconds.now e h c.requires.t.1 l.i c.loop-i-test.true)

pub float_to_bits-firsts : goal.float_to_bits-firsts
float_to_bits-firsts c =
    let a = c.args in
    let l = c.loop-i in
    let e = sym c.requires.firsts_len.0 in
    let h = sym c.requires.firsts_len.1 in
    let entry = amount_of (get_or a.tags.now l.i 0) (get_or a.firsts.now l.i 0) (get_or a.seconds.now l.i 0) in
    let read = entry-read a.tags.now a.firsts.now a.seconds.now e h a.ceiling l.i l.firsts l.seconds l.invariant.0 l.invariant.1 c.loop-i-test.true in
    let good = low-good entry (good-at a.tags.now a.firsts.now a.seconds.now e h c.requires.t.1 l.i c.loop-i-test.true) in
    let is = c.low_of.ensures ∙ ap low_of (c.amount_of-amount.ensures ∙ read) in
    no-nan-double _ (figure-no-nan _ (subst (λ (b : ℕ). T (good_figure b)) (sym is) good))

pub float_to_bits-seconds : goal.float_to_bits-seconds
float_to_bits-seconds c =
    let a = c.args in
    let l = c.loop-i in
    let e = sym c.requires.firsts_len.0 in
    let h = sym c.requires.firsts_len.1 in
    let entry = amount_of (get_or a.tags.now l.i 0) (get_or a.firsts.now l.i 0) (get_or a.seconds.now l.i 0) in
    let read = entry-read a.tags.now a.firsts.now a.seconds.now e h a.ceiling l.i l.firsts l.seconds l.invariant.0 l.invariant.1 c.loop-i-test.true in
    let good = high-good a.ceiling c.requires.t.0 entry (good-at a.tags.now a.firsts.now a.seconds.now e h c.requires.t.1 l.i c.loop-i-test.true) in
    let again = written-again a.ceiling c.ranges.ceiling.fits (figure-no-nan _ c.requires.t.0) in
    let is = c.high_of.ensures ∙ ap₂ high_of again (c.amount_of-amount.ensures ∙ read) in
    no-nan-double _ (figure-no-nan _ (subst (λ (b : ℕ). T (good_figure b)) (sym is) good))

pub loop-i-preserved : goal.loop-i-preserved
loop-i-preserved c =
    let a = c.args in
    let l = c.loop-i in
    let e = sym c.requires.firsts_len.0 in
    let h = sym c.requires.firsts_len.1 in
    let read = entry-read a.tags.now a.firsts.now a.seconds.now e h a.ceiling l.i l.firsts l.seconds l.invariant.0 l.invariant.1 c.loop-i-test.true in
    let again = written-again a.ceiling c.ranges.ceiling.fits (figure-no-nan _ c.requires.t.0) in
    let low = c.low_of.ensures ∙ ap low_of (c.amount_of-amount.ensures ∙ read) in
    let high = c.high_of.ensures ∙ ap₂ high_of again (c.amount_of-amount.ensures ∙ read) in (
      first-settled a.tags.now a.firsts.now a.seconds.now e h a.ceiling l.i l.firsts l.seconds l.invariant.0 l.invariant.1 c.loop-i-test.true _ low,
      second-settled a.tags.now a.firsts.now a.seconds.now e h a.ceiling l.i l.firsts l.seconds l.invariant.0 l.invariant.1 c.loop-i-test.true _ high,
    )

pub returns : goal.returns
returns c =
    let a = c.args in
    let l = c.loop-i in
    let e = sym c.requires.firsts_len.0 in
    let h = sym c.requires.firsts_len.1 in
    let all : l.i ≡ length a.tags.now = omega arith in (
      settled-all _ _ (lows-length a.tags.now a.firsts.now a.seconds.now e h ∙ e) l.i l.firsts l.invariant.0 (all ∙ e),
      settled-all _ _ (highs-length a.tags.now a.firsts.now a.seconds.now e h a.ceiling ∙ h) l.i l.seconds l.invariant.1 (all ∙ h),
    )
