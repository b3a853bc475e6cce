-- By whether the chain is finished.
use Rattle.targets.proofs.entry_within.words_of.Goals as goal

pub full_words-requires : goal.full_words-requires
full_words-requires c = (rw c.in-Full.is at c.requires).answer

pub returns-in-Full : goal.returns-in-Full
returns-in-Full c = rw c.in-Full.is c.full_words.ensures

pub seen_words-requires : goal.seen_words-requires
seen_words-requires c = rw c.in-Unfinished.is at c.requires

pub returns-in-Unfinished : goal.returns-in-Unfinished
returns-in-Unfinished c = rw c.in-Unfinished.is c.seen_words.ensures
