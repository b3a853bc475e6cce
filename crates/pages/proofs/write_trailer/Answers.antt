-- The words that are laid are those of the trailer.
use borrow.Author.Tests.{lt-leb, le-leb}
use Rattle.pages_spec.specs.Pages.{short_most, page_length, trailer_length}
use Rattle.pages.proofs.Laying.{short-laid, long-laid}
use Rattle.pages.proofs.write_trailer.Goals as goal

pub returns-then-count-gt-SHORT_MOST : goal.returns-then-count-gt-SHORT_MOST
unfolding page_length trailer_length
returns-then-count-gt-SHORT_MOST c =
    let many = c.if-count-gt-SHORT_MOST.true in
    let room = rw (lt-leb c.args.count short_most many, ← c.groups_of.ensures) at c.requires.1 in
    rw (← c.groups_of.ensures)
    (long-laid _ _ _ many room _ _ _ c.put_word.ensures c.put_word-then-count-gt-SHORT_MOST.ensures c.put_word-then-count-gt-SHORT_MOST-2.ensures)

pub returns-else-count-gt-SHORT_MOST : goal.returns-else-count-gt-SHORT_MOST
unfolding page_length trailer_length
returns-else-count-gt-SHORT_MOST c =
    let few = c.if-count-gt-SHORT_MOST.false in
    let room = rw (le-leb c.args.count short_most few, ← c.groups_of.ensures) at c.requires.1 in
    rw (← c.groups_of.ensures) (short-laid _ _ _ few room _ _ c.put_word-else-count-gt-SHORT_MOST.ensures c.put_word-else-count-gt-SHORT_MOST-2.ensures)
