-- By the room, the refusal, and the pair, which is no NaN.
use Rattle.std.proofs.Common.{◌∙◌, ap, refl}
use Rattle.totals_spec.specs.formats.Format.{binary64}
use Rattle.totals_spec.specs.formats.Decode.{decode, is_nan}
use Rattle.figures_spec.specs.ranges.Ranges as spec
use Rattle.figures_spec.proofs.ranges.NarrowestPair.{range-fits}
use Rattle.totals.proofs.Refusals.{number-some}
use Rattle.figures.proofs.RangeSettled.{no-nan-double, range-short, range-refused, range-entered}
use Rattle.figures.proofs.entry.enter_range.Goals as goal

pub returns-then-pair-lt-PAIR : goal.returns-then-pair-lt-PAIR
returns-then-pair-lt-PAIR c = rw c.number.ensures (range-short _ _ _ _ _ c.if-pair-lt-PAIR.true)

pub returns-in-Err : goal.returns-in-Err
returns-in-Err c =
    rw c.number-in-Err.ensures (range-refused _ _ _ _ _ c.if-pair-lt-PAIR.false _ _ _ c.in-Err.ensures (number-some c.in-Err.refusal))

pub float_to_bits-pair : goal.float_to_bits-pair
float_to_bits-pair c =
    no-nan-double _ (ap (λ (r : spec.Range). is_nan (decode binary64 r.lower)) c.in-Ok.ensures.record_is ∙ (range-fits _ _ _ _).2)

pub float_to_bits-pair-in-Ok : goal.float_to_bits-pair-in-Ok
float_to_bits-pair-in-Ok c =
    no-nan-double _ (ap (λ (r : spec.Range). is_nan (decode binary64 r.upper)) c.in-Ok.ensures.record_is ∙ (range-fits _ _ _ _).3)

pub returns-in-Ok : goal.returns-in-Ok
returns-in-Ok c = range-entered _ _ _ _ _ c.if-pair-lt-PAIR.false _ _ _ c.in-Ok.ensures refl
