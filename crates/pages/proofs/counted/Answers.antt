-- What the words tell that are cut off the end of a page.
use mathlib.Core.Path.{◌≡◌, sym, ◌∙◌}
use mathlib.Core.List.{List}
use Prim.Native.Nat.{ℕ, ◌-◌}
use native.Mathlib.Omega.{arith}
use lib.ListN.{length, take}
use lib.Seq.{take_all}
use Rattle.std.specs.Int.{w64, from_le_bytes}
use Rattle.pages.proofs.Opening.{Cut, front-left, word-cut, word, too_short, other-letters, too-short-for-long, short-told, long-told}
use Rattle.pages.proofs.counted.Goals as goal

-- the last word of a page, and the one before it
module _ (page : List ℕ) {front ending : List ℕ} (c : Cut page page front ending) where
  whole : page ≡ take (length page - 0) page
  whole = sym (take_all (length page - 0) page (omega arith))

  first : from_le_bytes w64 ending ≡ word page 8
  first = word-cut page 0 whole (omega arith) c

  module _ {front' sizes : List ℕ} (d : Cut page front front' sizes) where
    left : front ≡ take (length page - 8) page
    left = front-left page 0 whole (omega arith) c

    second : from_le_bytes w64 sizes ≡ word page 16
    second = word-cut page 8 left (omega (arith, c.2)) d

    third : {rest offset : List ℕ} → Cut page front' rest offset → from_le_bytes w64 offset ≡ word page 24
    third e = word-cut page 16 (front-left page 8 left (omega (arith, c.2)) d) (omega (arith, c.2, d.2)) e

pub returns-in_err-rest : goal.returns-in_err-rest
returns-in_err-rest c = rw c.from_residual.ensures (too_short c.args.page.now (omega (arith, c.in_err-rest.ensures.cases)))

pub returns-in_err-rest-2 : goal.returns-in_err-rest-2
returns-in_err-rest-2 c =
    rw c.from_residual-in_err-rest-2.ensures
    (too_short c.args.page.now (omega (arith, c.in_err-rest-2.ensures.cases, c.in_ok-rest.ensures.cases.2)))

pub returns-in_err-offset-in-3622952673935884352 : goal.returns-in_err-offset-in-3622952673935884352
returns-in_err-offset-in-3622952673935884352 c =
    let short = c.in_err-offset-in-3622952673935884352.ensures.cases in
    rw c.from_residual-in_err-offset-in-3622952673935884352.ensures
    (too-short-for-long c.args.page.now c.from_le_bytes.result (c.from_le_bytes.ensures ∙ first c.args.page.now c.in_ok-rest.ensures.cases)
    c.in-3622952673935884352.is (omega (arith, short, c.in_ok-rest-2.ensures.cases.2, c.in_ok-rest.ensures.cases.2)))

pub returns-in-3550895079897956416 : goal.returns-in-3550895079897956416
returns-in-3550895079897956416 c =
    let p = c.args.page.now in
    short-told p c.from_le_bytes.result (c.from_le_bytes.ensures ∙ first p c.in_ok-rest.ensures.cases) (λ k. omega (arith, c.type_inv.page k))
    c.from_le_bytes-sizes.result (c.from_le_bytes-sizes.ensures ∙ second p c.in_ok-rest.ensures.cases c.in_ok-rest-2.ensures.cases) c.short_count.result
    c.in-3550895079897956416.is (omega (arith, c.in_ok-rest-2.ensures.cases.2, c.in_ok-rest.ensures.cases.2)) c.short_count.ensures

pub returns-in_ok-offset-in-3622952673935884352 : goal.returns-in_ok-offset-in-3622952673935884352
returns-in_ok-offset-in-3622952673935884352 c =
    let p = c.args.page.now in
    let e = c.in_ok-offset-in-3622952673935884352.ensures.cases in
    long-told p c.from_le_bytes.result (c.from_le_bytes.ensures ∙ first p c.in_ok-rest.ensures.cases) (λ k. omega (arith, c.type_inv.page k))
    c.from_le_bytes-sizes.result (c.from_le_bytes-sizes.ensures ∙ second p c.in_ok-rest.ensures.cases c.in_ok-rest-2.ensures.cases) c.long_count.result
    c.from_le_bytes-in-3622952673935884352.result
    (c.from_le_bytes-in-3622952673935884352.ensures ∙ third p c.in_ok-rest.ensures.cases c.in_ok-rest-2.ensures.cases e)
    c.in-3622952673935884352.is (omega (arith, e.2, c.in_ok-rest-2.ensures.cases.2, c.in_ok-rest.ensures.cases.2)) c.long_count.ensures

pub returns-in_default : goal.returns-in_default
returns-in_default c =
    let p = c.args.page.now in
    other-letters p c.from_le_bytes.result (c.from_le_bytes.ensures ∙ first p c.in_ok-rest.ensures.cases) (λ e. omega (arith, e)) (λ e. omega (arith, e))
