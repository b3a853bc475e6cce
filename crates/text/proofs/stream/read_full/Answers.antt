use Rattle.std.proofs.Common.{◌<◌, ◌-◌, length, take, rules, arith, length-take-le}
use Rattle.std.proofs.KnownBytes.{Consumes-kept}
use borrow.Rule.Slice.PartMut.{put_mid, same_len_mid}
use Rattle.text.proofs.Streams.{read_more, on_err}
use Rattle.text.proofs.stream.read_full.Goals as goal

pub returns-in_err-n-clause-err : goal.returns-in_err-n-clause-err
returns-in_err-n-clause-err g c =
    let at = c.loop-done.done in
    let before = c.loop-done.buffer in
    let room = length before - at in
    let within = c.loop-done.invariant.within in
    let fewer : length (take at before) < length (put_mid at room before c.read.new.buf) =
    omega (arith, length-take-le at before within, same_len_mid at room before c.read.new.buf c.read.auto.buf, c.loop-done-test.true) in
    on_err c.from_residual.result (take at before, fewer, Consumes-kept _ _ _ _ c.loop-done.invariant.given c.in_err-n.ensures.bytes)

pub loop-done-preserved : goal.loop-done-preserved
loop-done-preserved g c = record {
  within = search rules;
  given = read_more _ _ _ _ _ _ _ _ c.loop-done.invariant.within c.in_ok-n.ensures.bound.0 c.loop-done.invariant.given c.in_ok-n.ensures.bytes.0;
}
