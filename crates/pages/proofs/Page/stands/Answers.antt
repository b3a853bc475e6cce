-- The two words that are read are those of the summary, where it stands.
use mathlib.Core.Path.{◌∙◌}
use Prim.Native.Nat.{◌+◌, ◌*◌, ◌≤◌}
use native.Mathlib.Omega.{arith}
use lib.ListN.{length}
use Rattle.totals_spec.specs.chain.Limit.{ceil_div}
use Rattle.pages_spec.specs.Pages.{page_length}
use Rattle.pages.proofs.Opening.{trailer-least}
use Rattle.pages.proofs.Standing.{word-there, first-fails, second-tells}
use Rattle.pages.proofs.Page.stands.Goals as goal

pub returns-then-word_at-summary : goal.returns-then-word_at-summary
unfolding ceil_div page_length
returns-then-word_at-summary c =
    let p = c.args.self.now in
    let page = p.bytes.now in
    let at = 8 * p.count + 12 * c.args.g in
    let room : at + 16 ≤ length page = omega (arith, p.room, trailer-least p.count) in
    second-tells p.count c.args.g page c.group-summary.result c.group-summary.ensures (omega arith) c.word_at.result c.word_at-then-word_at-summary.result
    (c.word_at.ensures ∙ word-there page at (omega arith)) (c.word_at-then-word_at-summary.ensures ∙ word-there page (at + 8) (omega arith))
    c.if-word_at-summary.true p.fit room

pub returns-else-word_at-summary : goal.returns-else-word_at-summary
unfolding ceil_div page_length
returns-else-word_at-summary c =
    let p = c.args.self.now in
    let at = 8 * p.count + 12 * c.args.g in
    first-fails p.count c.args.g p.bytes.now c.group-summary.result c.group-summary.ensures (omega arith) c.word_at.result
    (c.word_at.ensures ∙ word-there p.bytes.now at (omega (arith, p.room, trailer-least p.count))) c.if-word_at-summary.false
