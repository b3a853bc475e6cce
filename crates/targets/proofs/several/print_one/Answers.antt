-- By what is kept.
use Rattle.std.proofs.Common.{◌∙◌, arith, sym, ap}
use Rattle.totals_spec.specs.chain.Chain.{Run}
use Rattle.totals_spec.specs.chain.Settled.{settled}
use Rattle.totals_spec.specs.rounding.IntoFormat.{printed, rounded_into}
use Rattle.format.specs.Layouts.{layout_of}
use Rattle.format.specs.Environments.{env_of}
use Rattle.targets.proofs.Keeping.{kept-sum, kept-none}
use Rattle.targets.proofs.Targets.{too_wide, not_finite, no-term, by_chain}
use Rattle.targets.proofs.several.print_one.Goals as goal
use Rattle.targets.proofs.several.print_one.Goals.{then-digits-via-then-digits, then-digits-via-else-digits+then-met_special}

pub returns-then-digits : goal.returns-then-digits
returns-then-digits c = λ d l a n k.
    elim c.then-digits.branch [
      | then-digits-via-then-digits w ↦
          too_wide _ d l _ _ a n (omega (arith, c.digits.ensures, c.digits-2.ensures, w.if-digits.true))
      | then-digits-via-else-digits+then-met_special w ↦
          not_finite _ d l _ _ a n (omega (arith, c.digits.ensures, c.digits-2.ensures, w.if-digits.false))
          (k.special ∙ sym w.met_special.ensures ∙ w.if-met_special.true)
    ]

pub print-requires : goal.print-requires
print-requires c =
    let k = c.requires in
    let o = kept-sum _ _ _ _ k.keeps c.in-Some.sum c.in-Some.is in
    record { ended = o.2.ended; settings = k.settings; digits_le = omega (arith, c.digits.ensures, c.digits-2.ensures, c.if-digits.false) }

pub returns-in-Some : goal.returns-in-Some
returns-in-Some c = λ d l a n k.
    let f = layout_of c.args.aim.list in
    let t = layout_of c.args.aim.layout in
    let e = env_of c.args.aim.env in
    let o = kept-sum _ _ _ _ k c.in-Some.sum c.in-Some.is in
    let run = ap (λ (r : Run). printed f t c.args.kept.scan.subnormal (settled r.outcome) (rounded_into f t e (settled r.outcome)) r) o.2.run in
    c.print.ensures ∙ run
    ∙ by_chain f d l t e a n (omega (arith, c.digits.ensures, c.digits-2.ensures, c.if-digits.false)) (k.special ∙ o.0) o.1 _ k.subnormal

pub returns-in-None : goal.returns-in-None
returns-in-None c = λ d l a n k.
    let finite = sym c.met_special.ensures ∙ c.if-met_special.false in
    c.print_zero.ensures
    ∙ no-term _ d l _ _ a n (omega (arith, c.digits.ensures, c.digits-2.ensures, c.if-digits.false)) (k.special ∙ finite)
    (kept-none _ _ _ _ k c.in-None.is finite) _ _ _ k.subnormal k.positive-zero k.negative-zero
