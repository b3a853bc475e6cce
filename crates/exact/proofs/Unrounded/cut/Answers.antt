-- A cut at or below a value's position, and above it.
use Rattle.std.proofs.Common.{◌≡◌, ℕ, ◌+◌, ◌-◌, ◌*◌, ◌%◌, ◌^◌, not, ◌||◌, eqb, sym, ap, ◌∙◌, arith}
use Rattle.exact.specs.declared.Unrounded.{Unrounded}
use Rattle.exact.specs.Unrounded.{significand_of}
use Rattle.exact.proofs.Standing.{CutUp, cut_up, cut_down, half_digits, stands-kept, stands-dropped}
use Rattle.exact.proofs.Unrounded.cut.Goals as goal

-- there the low word is the whole significand
word : (v : Unrounded) (u : ℕ) → CutUp v.sticky (significand_of v) v.position u → significand_of v % 2 ^ 64 ≡ significand_of v
word v u h = omega (arith, h.few)

pub scaled-requires : goal.scaled-requires
scaled-requires c =
    let v = c.args.self in
    let h = c.requires in
    let up = cut_up v.sticky (significand_of v) v.position c.args.lowest h.position_lt_lowest c.if-lowest-self.true h.self_nonzero.0 h.self_nonzero.1 in
    (up.near, rw (c.low.ensures, word v c.args.lowest up) up.fits)

pub returns-then-lowest-self : goal.returns-then-lowest-self
returns-then-lowest-self c =
    let v = c.args.self in
    let h = c.requires in
    let up = cut_up v.sticky (significand_of v) v.position c.args.lowest h.position_lt_lowest c.if-lowest-self.true h.self_nonzero.0 h.self_nonzero.1 in
    λ x st. (
      c.scaled.ensures ∙ ap (λ (n : ℕ). n * 2 ^ (v.position - c.args.lowest)) (c.low.ensures ∙ word v c.args.lowest up) ∙ (up.each x st).0,
      (up.each x st).1,
    )

pub returns : goal.returns
returns c =
    let v = c.args.self in
    let m = significand_of v in
    let u = c.args.lowest in
    let i = u - v.position - 1 in
    let at : v.position + (i + 1) ≡ u = omega (arith, c.if-lowest-self.false) in
    let few = cut_down m v.position (i + 1) u at c.requires.self_nonzero.1 in
    let first = ap (λ (n : ℕ). n % 2) c.shr-one.ensures in
    let rest : (v.sticky || c.any_below.result) ≡ (v.sticky || not (eqb (m % 2 ^ i) 0)) = ap (◌||◌ v.sticky) c.any_below.ensures in
    λ x st. (
      c.low-2.ensures ∙ half_digits m i c.shr-one.ensures few ∙ sym (stands-kept v.sticky m v.position x st (i + 1) u at),
      c.new.ensures ∙ rw (rest, first) (sym (stands-dropped v.sticky m v.position x st i u (omega (arith, at)))),
    )
