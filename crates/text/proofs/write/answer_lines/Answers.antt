use Rattle.std.proofs.Common.{append_assoc}
use Rattle.text.proofs.Spelt.{low_byte}
use Rattle.text.proofs.write.answer_lines.Goals as goal

pub returns : goal.returns
returns c =
    rw (c.byte.ensures.text, c.pence.ensures.text, c.byte-third.ensures.text, c.decimal.ensures.text, c.byte-second.ensures.text)
    (rw (c.hex-2.ensures.text, c.byte-first.ensures.text, c.hex.ensures.text, c.new.ensures, low_byte) (simp append_assoc))
