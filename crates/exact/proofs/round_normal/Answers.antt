-- The first q digits, where they do not overflow.
use Rattle.std.proofs.Common.{sym, ◌∙◌, arith}
use Rattle.exact.proofs.Plan.{goes_over, stays, stays-encodes, stays-word}
use Rattle.exact.proofs.round_normal.Goals as goal

pub returns-then-overflows : goal.returns-then-overflows
returns-then-overflows c =
    let b = c.requires.0 in
    let r = c.overflow.ensures in
    let over = goes_over b.ends b.keeps b.first c.requires.1 (sym c.overflows.ensures ∙ c.if-overflows.true) in
    record { equal = λ x st. r.0 ∙ over x st; encodes = r.1; flags = r.2 }

pub scaled-requires : goal.scaled-requires
scaled-requires c = let b = c.requires.0 in rw c.digits-digits.ensures (stays-word b.ends b.keeps b.first c.requires.1)

pub returns : goal.returns
returns c =
    let b = c.requires.0 in
    let o = sym c.overflows.ensures ∙ c.if-overflows.false in
    let p = c.digits-digits.ensures in
    record {
      equal = λ x st. rw (c.flag.ensures.0, c.flag-2.ensures.0, c.scaled.ensures, p) (stays b.ends b.keeps b.first c.requires.1 o x st);
      encodes = rw (c.scaled.ensures, p) (stays-encodes b.ends b.keeps b.first c.requires.1 o);
      flags = omega (arith, c.flag.ensures.1, c.flag-2.ensures.1);
    }
