-- By the room, the format's name, and the record.
use Rattle.std.proofs.Common.{refl}
use Rattle.std.specs.Prelude.{Ok, Err}
use Rattle.totals.proofs.Refusals.{number-some}
use Rattle.targets.specs.Contributions.{number_in}
use Rattle.targets.proofs.ContributionWritten.{small-of, contribution-short, contribution-misnamed, contribution-told}
use Rattle.targets.proofs.ContributionWritten.{contribution-refused, contribution-written}
use Rattle.targets.proofs.entry_contribution.enter_contribution.Goals as goal

pub returns-then-answer-lt-VALUE_BYTES : goal.returns-then-answer-lt-VALUE_BYTES
returns-then-answer-lt-VALUE_BYTES c = rw c.number.ensures (contribution-short c.args.format _ _ _ _ c.if-answer-lt-VALUE_BYTES.true)

pub returns-in_default : goal.returns-in_default
returns-in_default c =
    rw c.number-in_default.ensures (contribution-misnamed c.args.format _ _ _ _ c.if-answer-lt-VALUE_BYTES.false c.in_default.ensures.0)

pub code-requires : goal.code-requires
code-requires c = (small-of _ _ _ _ c.in-Err.ensures).1

pub returns-in-Err : goal.returns-in-Err
returns-in-Err c =
    let (named, is) = c.in-Ok.ensures in
    contribution-told c.args.format _ _ _ _ c.if-answer-lt-VALUE_BYTES.false named (rw is at c.in-Err.ensures) _ _
    (contribution-refused (number_in (Err c.in-Err.refusal)) _ (number-some c.in-Err.refusal) c.code.ensures)

pub returns-in-Ok-contribution_to : goal.returns-in-Ok-contribution_to
returns-in-Ok-contribution_to c =
    let (named, is) = c.in-Ok.ensures in
    contribution-told c.args.format _ _ _ _ c.if-answer-lt-VALUE_BYTES.false named (rw is at c.in-Ok-contribution_to.ensures) _ _
    (contribution-written (number_in (Ok c.in-Ok-contribution_to.number)) c.args.answer.now refl c.put_word.ensures)
