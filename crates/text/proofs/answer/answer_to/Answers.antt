use Rattle.totals_spec.specs.program.Program.{program_text}
use Rattle.text.proofs.Pieces.{read_values, read_bad}
use Rattle.text.proofs.Told.{told}
use Rattle.text.proofs.answer.answer_to.Goals as goal

pub refused-requires : goal.refused-requires
refused-requires c = read_bad _ _ c.in-Err.ensures

pub returns-in-Ok : goal.returns-in-Ok
unfolding program_text
returns-in-Ok c = record {
  text = rw (read_values _ _ c.in-Ok.ensures, ← c.deref.ensures.0) c.sum_text.ensures;
  answered = (_, read_values _ _ c.in-Ok.ensures);
}

pub returns-in-Err : goal.returns-in-Err
unfolding program_text
returns-in-Err c = record {
  text = rw (read_bad _ _ c.in-Err.ensures) c.refused_line.ensures;
  answered = told c.args.input.now _ c.refused.result c.refused.ensures.line (read_bad _ _ c.in-Err.ensures) c.refused.ensures.reason;
}
