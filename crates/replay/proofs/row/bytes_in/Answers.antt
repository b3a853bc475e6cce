-- The bytes of a row, one number after another.
use Rattle.std.proofs.Common.{ℕ, ◌+◌, ◌*◌, ◌%◌, rules}
use Rattle.replay.specs.Row.{word_at, bytes_in}
use Rattle.replay.proofs.Rows.{built}
use Rattle.replay.proofs.row.bytes_in.Goals as goal

pub returns : goal.returns
unfolding bytes_in
returns g c = built _ _ _ (λ (i : ℕ). word_at c.args.row.now (c.args.column + 2 * i) 2 % 256) (λ i y q k. search rules) c.from_fn.ensures.items
