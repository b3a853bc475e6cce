-- A good entry's figures are no NaN, so that they are written back as they are.
use Rattle.std.proofs.Common.{◌≡◌, ℕ, sym, ap, ap₂, ◌∙◌, subst, ◌&&◌, T, arith}
use Rattle.figures_spec.specs.ranges.Ranges as spec
use Rattle.totals_spec.proofs.formats.Valid.{and_left, and_right}
use Rattle.figures.proofs.RangeFigures.{known_is, between_is, no_nan, figure-no-nan, written-again}
use Rattle.figures.proofs.range.amount_of.Goals as goal

known-good : (t x y : ℕ) → t ≡ 0 → T (spec.good_amount (spec.amount_of t x y)) → T (spec.good_figure x)
known-good t x y e h = subst (λ a. T (spec.good_amount a)) (known_is t x y e) h

both-good : (t x y : ℕ) → t ≡ 1 → T (spec.good_amount (spec.amount_of t x y)) → T (spec.good_figure x) × T (spec.good_figure y)
both-good t x y e h =
    let a = spec.good_figure x in
    let b = spec.good_figure y in
    let k = and_left (a && b) _ (subst (λ a. T (spec.good_amount a)) (between_is t x y e) h) in
    (and_left a b k, and_right a b k)

pub float_from_bits-result : goal.float_from_bits-result
float_from_bits-result c = no_nan _ (figure-no-nan _ (known-good _ _ _ c.in-0.is c.requires))

pub float_from_bits-result-in-1 : goal.float_from_bits-result-in-1
float_from_bits-result-in-1 c = no_nan _ (figure-no-nan _ (both-good _ _ _ c.in-1.is c.requires).0)

pub float_from_bits-result-in-1-2 : goal.float_from_bits-result-in-1-2
float_from_bits-result-in-1-2 c = no_nan _ (figure-no-nan _ (both-good _ _ _ c.in-1.is c.requires).1)

pub returns-in-0 : goal.returns-in-0
returns-in-0 c = ap spec.known (written-again _ (omega arith) (figure-no-nan _ (known-good _ _ _ c.in-0.is c.requires))) ∙ sym (known_is _ _ _ c.in-0.is)

pub returns-in-1 : goal.returns-in-1
returns-in-1 c =
    let g = both-good _ _ _ c.in-1.is c.requires in
    ap₂ spec.between (written-again _ (omega arith) (figure-no-nan _ g.0)) (written-again _ (omega arith) (figure-no-nan _ g.1))
    ∙ sym (between_is _ _ _ c.in-1.is)
