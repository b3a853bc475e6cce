use Rattle.std.proofs.Common.{◌≡◌, ◌∙◌, take}
use Rattle.totals_spec.specs.program.Program.{program_text}
use Rattle.text.proofs.Streams.{Decides, read_decides, written-whole, written-part, left-behind, answered-whole, unanswered}
use Rattle.text.specs.declared.stream.Failure.TheVariants.{Output}
use Rattle.text.proofs.stream.answer.Goals as goal

pub returns-in-Ok-write_full : goal.returns-in-Ok-write_full
returns-in-Ok-write_full g c =
    let known = g.R.Read.remaining c.args.reader.now in
    let left = g.R.Read.remaining c.read_full.new.reader in
    let bytes = take c.in-Ok.n c.read_full.new.buffer in
    let decides : Decides known left bytes =
    read_decides known left c.in-Ok.n c.read_full.new.buffer c.read_full.auto.buffer c.in-Ok.ensures.within
    c.in-Ok.ensures.bytes c.in-Ok.ensures.end in
    let text : c.as_bytes.result.now ≡ program_text bytes = c.as_bytes.ensures.value ∙ c.answer_to-text.ensures.text in
    record {
      written = written-whole known left bytes decides _ _ _ text c.in-Ok-write_full.ensures.ok;
      left = left-behind known left bytes decides;
      answered = answered-whole known left bytes decides _ c.answer_to-text.ensures.answered;
      tried = tt;
    }

pub returns-in-Err-write_full : goal.returns-in-Err-write_full
returns-in-Err-write_full g c =
    let known = g.R.Read.remaining c.args.reader.now in
    let left = g.R.Read.remaining c.read_full.new.reader in
    let bytes = take c.in-Ok.n c.read_full.new.buffer in
    let decides : Decides known left bytes =
    read_decides known left c.in-Ok.n c.read_full.new.buffer c.read_full.auto.buffer c.in-Ok.ensures.within
    c.in-Ok.ensures.bytes c.in-Ok.ensures.end in
    let text : c.as_bytes.result.now ≡ program_text bytes = c.as_bytes.ensures.value ∙ c.answer_to-text.ensures.text in
    record {
      written = written-part known left bytes decides _ _ _ text c.in-Err-write_full.ensures.err;
      left = left-behind known left bytes decides;
      answered = unanswered known (Output c.in-Err-write_full.error);
      tried = c.in-Err-write_full.ensures.tried;
    }
