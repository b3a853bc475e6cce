-- Cut to a whole number, too long, and scaled up within a word.
use Rattle.std.proofs.Common.{◌∙◌, refl, arith, le_of_lt}
use Rattle.totals.proofs.Figures.{cut-gives, long-gives, short-gives}
use Rattle.totals.proofs.pence.magnitude.Goals as goal

pub returns-then-k-d : goal.returns-then-k-d
returns-then-k-d c = c.halved.ensures ∙ cut-gives _ _ _ _ c.widening_mul-twice.ensures _ c.if-k-d.true c.shr.ensures

pub returns-then-from-up-gt-WORD_BITS : goal.returns-then-from-up-gt-WORD_BITS
returns-then-from-up-gt-WORD_BITS c =
    long-gives _ _ _ _ c.widening_mul-twice.ensures (le_of_lt c.if-k-d.false) c.requires.1 (omega (arith, c.bit_length.ensures, c.from.ensures))

pub returns : goal.returns
returns c =
    c.halved-2.ensures
    ∙ short-gives _ _ _ _ c.widening_mul-twice.ensures _ (le_of_lt c.if-k-d.false) (omega (arith, c.bit_length.ensures, c.from.ensures)) refl
