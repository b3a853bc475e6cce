-- The words of a row, one number after another.
use Rattle.std.proofs.Common.{ℕ, ◌+◌, ◌*◌, rules}
use Rattle.replay.specs.Row.{word_at, words_in}
use Rattle.replay.proofs.Rows.{built}
use Rattle.replay.proofs.row.words_in.Goals as goal

pub returns : goal.returns
unfolding words_in
returns g c = built _ _ _ (λ (i : ℕ). word_at c.args.row.now (c.args.column + 17 * i) 16) (λ i y q k. search rules) c.from_fn.ensures.items
