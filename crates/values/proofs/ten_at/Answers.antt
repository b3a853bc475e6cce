-- The chunk that is read is the value of ten bytes at its index.
use Rattle.std.proofs.Common.{ℕ, List, [], arith, get_or, ap}
use Rattle.values.proofs.Chunks.{ten_bytes, ten-chunk}
use Rattle.values.proofs.ten_at.Goals as goal

pub returns : goal.returns
returns c =
    let value = ten-chunk c.args.values.now c.args.index c.requires in
    let chunk = ap (λ (l : List (List ℕ)). ten_bytes (get_or l c.args.index [])) c.as_chunks.ensures.front in
    omega (arith, c.from_le_bytes-2.ensures, value, chunk)
