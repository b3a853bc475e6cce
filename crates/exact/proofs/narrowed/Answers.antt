-- A window in two words: all of it, or those from its highest word on.
use Rattle.std.proofs.Common.{◌≡◌, ℕ, ◌+◌, ◌-◌, ◌*◌, ◌/◌, ◌%◌, ◌^◌, ◌≤◌, ◌<◌, List, arith}
use native.Mathlib.Nat.{div-add-mod, mod-lt}
use lib.Ieee.Digits.{size-le}
use Rattle.limbs.specs.Value.{value, bit_length}
use Rattle.limbs.proofs.Words.{words, value-lt}
use Rattle.exact.proofs.Narrow.{all-narrowed, top-narrowed}
use Rattle.exact.proofs.narrowed.Goals as goal
use Rattle.exact.proofs.narrowed.Goals.{then-sticky, else-sticky}

-- the word of the highest of n bits
record Highest (n t : ℕ) : Type 0 where
  pub low : 64 * t < n
  pub high : n ≤ 64 * t + 64

highest : (n t : ℕ) → 0 < n → t ≡ (n - 1) / 64 → Highest n t
highest n t h e =
    let d = div-add-mod (n - 1) 64 in
    let m : (n - 1) % 64 < 64 = mod-lt (n - 1) (omega arith) in
    record { low = omega (arith, d, e); high = omega (arith, d, m, e) }

most : (w : List ℕ) (n : ℕ) → value w < 2 ^ 768 → n ≡ bit_length (value w) → n ≤ 768
most w n h e = omega (arith, e, size-le (value w) 768 h)

pub returns-then-length-le-TWO_WORDS : goal.returns-then-length-le-TWO_WORDS
returns-then-length-le-TWO_WORDS c =
    let w = c.args.window in
    all-narrowed w (words 12 w _ c.well_formed.1.1.1.0).fit _ _ _ (omega (arith, c.if-length-le-TWO_WORDS.true, c.bit_length-length.ensures))
    c.joined.ensures

pub overflow_add-result : goal.overflow_add-result
overflow_add-result c =
    let n = c.bit_length-length.result in
    let l = most c.args.window n (value-lt (words 12 c.args.window _ c.well_formed.1.1.1.0)) c.bit_length-length.ensures in
    record { fits = omega (arith, l, (highest n c.split-top.result.word (omega arith) c.split-top.ensures.word).low, c.requires) }

pub bounds-window-under : goal.bounds-window-under
bounds-window-under c =
    let n = c.bit_length-length.result in
    let l = most c.args.window n (value-lt (words 12 c.args.window _ c.well_formed.1.1.1.0)) c.bit_length-length.ensures in
    omega (arith, l, (highest n c.split-top.result.word (omega arith) c.split-top.ensures.word).low)

pub bounds-window-top : goal.bounds-window-top
bounds-window-top c =
    let n = c.bit_length-length.result in
    let l = most c.args.window n (value-lt (words 12 c.args.window _ c.well_formed.1.1.1.0)) c.bit_length-length.ensures in
    omega (arith, l, (highest n c.split-top.result.word (omega arith) c.split-top.ensures.word).low)

pub returns : goal.returns
returns c =
    let w = c.args.window in
    let its-words = words 12 w _ c.well_formed.1.1.1.0 in
    let n = c.bit_length-length.result in
    let h = highest n c.split-top.result.word (omega arith) c.split-top.ensures.word in
    top-narrowed w its-words.fit _ _ _ c.split-top.result.word c.bit_length-length.ensures c.if-length-le-TWO_WORDS.false h.low h.high
    (most w n (value-lt its-words) c.bit_length-length.ensures)
    (elim c.if-sticky.branch [
      | then-sticky k ↦ rw (k.result-is, k.if-sticky.true)
      | else-sticky k ↦ rw (k.result-is, k.if-sticky.false) k.any_below.ensures
    ])
    c.joined-2.ensures
