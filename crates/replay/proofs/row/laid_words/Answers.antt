-- One word more is laid behind those before.
use Rattle.std.proofs.Common.{ℕ, ◌*◌, List, ap, ◌∙◌, arith, rules}
use Rattle.values.specs.Laid.{laid}
use Rattle.replay.specs.Row.{words_in, laid_words}
use Rattle.replay.proofs.Rows.{laid-next}
use Rattle.replay.proofs.row.laid_words.Goals as goal

pub loop-i-init : goal.loop-i-init
unfolding laid_words words_in
loop-i-init g c = search rules

pub loop-i-preserved : goal.loop-i-preserved
loop-i-preserved g c =
    let x = c.number.result in
    c.put_word.ensures ∙ ap (λ (l : List ℕ). laid l (8 * c.loop-i.i) x) c.loop-i.invariant
    ∙ ap (laid (laid_words c.args.row.now c.args.column c.loop-i.i g.row.N) (8 * c.loop-i.i)) c.number.ensures
    ∙ laid-next c.args.row.now c.args.column c.loop-i.i g.row.N (omega (arith, c.requires.bytes))
