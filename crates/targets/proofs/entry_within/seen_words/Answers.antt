-- Word by word, by whether there is a boundary.
use Rattle.std.proofs.Common.{◌∙◌, refl, rules}
use mir.Syntax.{w64}
use mir.Val.{SFits}
use Rattle.limbs.proofs.Words.{words}
use Rattle.targets.proofs.EstimateWritten.{word-is, byte-flag, one_word}
use Rattle.targets.proofs.entry_within.seen_words.Goals as goal

pub returns-in-Some : goal.returns-in-Some
returns-in-Some c =
    let s = c.args.seen in
    let b = c.in-Some.boundary in
    let edge-fits : SFits w64 s.last_edge = search rules in
    let unit-fits : SFits w64 b.unit = search rules in
    let edge = c.cast_unsigned-edge.ensures ∙ word-is s.last_edge edge-fits in
    let unit = c.cast_unsigned-unit.ensures ∙ word-is b.unit unit-fits in
    let whole = one_word b.whole (rw c.in-Some.is at c.requires.whole) in
    let minus = c.from-minus.ensures ∙ byte-flag b.negative in
    rw c.in-Some.is
    (record { head = rw (minus, edge, whole, unit) refl; sum = c.signed_window-sum.ensures; long = words 12 _ _ c.signed_window-sum.type_inv })

pub returns-in-None : goal.returns-in-None
returns-in-None c =
    let s = c.args.seen in
    let edge-fits : SFits w64 s.last_edge = search rules in
    let edge = c.cast_unsigned-edge.ensures ∙ word-is s.last_edge edge-fits in
    rw c.in-None.is
    (record { head = rw edge refl; sum = c.signed_window-sum.ensures; long = words 12 _ _ c.signed_window-sum.type_inv })
