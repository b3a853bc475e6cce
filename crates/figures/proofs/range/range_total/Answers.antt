-- A refusal, or the settled lists and their two totals.
use Rattle.std.proofs.Common.{ℕ, List, sym, ap, ◌∙◌, rules}
use Rattle.std.proofs.lemmas.List.{length-map}
use Rattle.std.proofs.lemmas.Result.{err_from_is_err_and}
use Rattle.totals_spec.specs.formats.Format.{binary64}
use Rattle.totals_spec.specs.formats.Settings.{with_rounding}
use Rattle.figures_spec.specs.tables.Table.{plain_total}
use Rattle.figures_spec.specs.ranges.Ranges as spec
use Rattle.totals_spec.proofs.formats.Valid.{and_left}
use Rattle.figures_spec.proofs.ranges.NarrowestPair.{accepts}
use Rattle.figures.proofs.RangeFigures.{no_nan}
use Rattle.figures.proofs.RangeSettled.{range-passed, leaves-refused, lower-number, upper-number, leaves-total}
use Rattle.figures.proofs.range.range_total.Goals as goal

pub returns-in_err-range_refusal : goal.returns-in_err-range_refusal
returns-in_err-range_refusal c =
    let p = err_from_is_err_and c.from_residual.result c.from_residual.ensures.1 in
    rw (p.1, p.2) (leaves-refused _ _ _ _ _ (c.in_err-range_refusal.ensures {u = tt}))

pub settle-requires-clause-firsts_len : goal.settle-requires-clause-firsts_len
settle-requires-clause-firsts_len c = let r = accepts _ _ _ _ (sym (c.in_ok-range_refusal.ensures {u = tt})) in (sym r.firsts, sym r.seconds)

pub settle-requires-clause-t : goal.settle-requires-clause-t
settle-requires-clause-t c =
    let r = range-passed _ _ _ _ (sym (c.in_ok-range_refusal.ensures {u = tt})) in (and_left (spec.good_figure c.args.ceiling) _ r.0, r.1)

pub toward-lower-requires : goal.toward-lower-requires
toward-lower-requires c =
    let a = c.args in
    let r = accepts _ _ _ _ (sym (c.in_ok-range_refusal.ensures {u = tt})) in
    rw (c.settle.ensures.0, length-map (spec.entries a.tags.now a.firsts.now a.seconds.now) spec.low_of) r.few

pub toward-upper-requires : goal.toward-upper-requires
toward-upper-requires c =
    let a = c.args in
    let r = accepts _ _ _ _ (sym (c.in_ok-range_refusal.ensures {u = tt})) in
    rw (c.settle.ensures.1, length-map (spec.entries a.tags.now a.firsts.now a.seconds.now) (spec.high_of a.ceiling)) r.few

pub float_from_bits-result : goal.float_from_bits-result
unfolding spec.lower_total
float_from_bits-result c =
    let is = c.toward-lower.ensures ∙ ap (λ (l : List ℕ). spec.plus_zero (plain_total binary64 (with_rounding 4) l)) c.settle.ensures.0 in
    no_nan _ (lower-number _ _ _ _ (sym (c.in_ok-range_refusal.ensures {u = tt})) _ is)

pub float_from_bits-result-2 : goal.float_from_bits-result-2
unfolding spec.upper_total
float_from_bits-result-2 c =
    let is = c.toward-upper.ensures ∙ ap (λ (l : List ℕ). spec.plus_zero (plain_total binary64 (with_rounding 3) l)) c.settle.ensures.1 in
    no_nan _ (upper-number _ _ _ _ (sym (c.in_ok-range_refusal.ensures {u = tt})) _ is)

pub returns : goal.returns
unfolding spec.lower_total spec.upper_total
returns c =
    let lower = c.toward-lower.ensures ∙ ap (λ (l : List ℕ). spec.plus_zero (plain_total binary64 (with_rounding 4) l)) c.settle.ensures.0 in
    let upper = c.toward-upper.ensures ∙ ap (λ (l : List ℕ). spec.plus_zero (plain_total binary64 (with_rounding 3) l)) c.settle.ensures.1 in
    leaves-total _ _ _ _ (sym (c.in_ok-range_refusal.ensures {u = tt})) _ _ lower upper (search rules) (search rules) _ _ c.settle.ensures.0 c.settle.ensures.1
