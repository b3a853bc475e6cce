-- The sum and its pence are those of the definition, in the format that it has.
use Rattle.std.proofs.Common.{◌≡◌, ap, ap₂, ◌∙◌}
use Rattle.totals_spec.specs.formats.Format.{Format, binary64}
use Rattle.totals_spec.specs.formats.Settings.{Settings}
use Rattle.totals_spec.specs.sums.Totals.{refused, sum_answer}
use Rattle.totals_spec.specs.pence.Pence.{sum_pence}
use Rattle.totals_spec.specs.program.Program.{answer_text, program_format}
use Rattle.format.specs.Formats.{format_of}
use Rattle.reduction.specs.Answered.{answer_of}
use Rattle.totals.specs.Refusal.{number_of, place_of}
use Rattle.text.proofs.Sums.{answer_is}
use Rattle.text.proofs.answer.sum_text.Goals as goal

pub returns-in-Ok : goal.returns-in-Ok
unfolding binary64
returns-in-Ok c =
    let l = c.args.values.now in
    let format : format_of c.binary64-format.result ≡ program_format = c.binary64-format.ensures in
    c.answer_lines.ensures
    ∙ answer_is (answer_of c.in-Ok.total) c.pence_of_sum.result _ c.figure-pence.ensures
    ∙ ap₂ answer_text
    (c.in-Ok.ensures ∙ ap₂ (λ (f : Format) (s : Settings). sum_answer f s 0 l) format c.settings.ensures)
    (c.pence_of_sum.ensures ∙ ap (λ (f : Format). sum_pence f l) format)

pub returns-in-Err : goal.returns-in-Err
unfolding binary64
returns-in-Err c =
    let l = c.args.values.now in
    let e = c.in-Err.field-0 in
    let format : format_of c.binary64-format.result ≡ program_format = c.binary64-format.ensures in
    c.answer_lines-in-Err.ensures
    ∙ answer_is (refused (number_of e) (place_of e)) c.pence_of_sum.result _ c.figure-pence.ensures
    ∙ ap₂ answer_text
    (c.in-Err.ensures ∙ ap₂ (λ (f : Format) (s : Settings). sum_answer f s 0 l) format c.settings.ensures)
    (c.pence_of_sum.ensures ∙ ap (λ (f : Format). sum_pence f l) format)
