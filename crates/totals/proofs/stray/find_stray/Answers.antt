-- No element of a wide format is too large; else the first that is above the greatest encoding.
use Rattle.std.proofs.Common.{◌<◌, ◌≤◌, ℕ, get_or, rules, tests}
use Rattle.std.proofs.lemmas.Iterator.{first_from_Range}
use Rattle.totals.proofs.Search.{searched, word_wide}
use Rattle.totals.proofs.stray.find_stray.Goals as goal

pub returns-then-width-ge-WORD_BITS : goal.returns-then-width-ge-WORD_BITS
returns-then-width-ge-WORD_BITS g c = word_wide c.args.width _ c.if-width-ge-WORD_BITS.true c.count-count.ensures.fit

pub returns : goal.returns
returns g c =
    let l = g.E.Elements.list c.args.elements.now in
    let m = c.ones-most.result in
    let found = first_from_Range _ _ _ c.find.result (λ (k : ℕ). m < get_or l k 0) (λ (k : ℕ). get_or l k 0 ≤ m) c.find.ensures.ran
    (λ x q k. search (rules, tests)) (λ x q k. search (rules, tests)) in
    searched c.args.width m l _ c.ones-most.ensures (rw c.count-count.ensures.value at found)
