use Rattle.std.proofs.Common.{◌*◌, ◌-◌, ap, ◌∙◌, subst, ℕ, List}
use Rattle.totals_spec.specs.program.Program.{lines, line_value}
use Rattle.text.specs.Reading.{first_line}
use Rattle.text.specs.Reasons.{Tells}
use Rattle.text.proofs.Lines.{front_of, first_bytes, no_value}
use Rattle.text.proofs.answer.refused.Goals as goal

pub reason_for-requires : goal.reason_for-requires
reason_for-requires c =
    let input = c.args.input.now in
    let front = front_of input ((c.args.line - 1) * 17) c.min.result c.min.ensures in
    let read = c.first_line.ensures ∙ ap (λ (bytes : List ℕ). first_line (lines bytes)) front in
    λ within. ap line_value read ∙ no_value c.args.line input c.requires within

pub returns-clause-reason : goal.returns-clause-reason
returns-clause-reason c =
    let input = c.args.input.now in
    let front = front_of input ((c.args.line - 1) * 17) c.min.result c.min.ensures in
    let read = c.first_line.ensures ∙ ap (λ (bytes : List ℕ). first_line (lines bytes)) front in
    subst (Tells c.reason_for.result c.args.line) (read ∙ first_bytes c.args.line input c.requires) c.reason_for.ensures
