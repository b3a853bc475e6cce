use Rattle.std.proofs.Common.{◌≡◌, arith, subst, take, refl, ℕ}
use Rattle.text.specs.Reasons.{AreDigits}
use Rattle.text.proofs.Reasons.{goes_on, capital_at}
use Rattle.text.proofs.reason.reason_for.Goals as goal

pub returns-in-65-to-70 : goal.returns-in-65-to-70
returns-in-65-to-70 c =
    (c.if-number-gt-MOST_LINES.false, capital_at c.args.line.now _ _ c.in-Some.ensures.some (omega arith, omega arith))

pub returns-in-None-2 : goal.returns-in-None-2
returns-in-None-2 c =
    let line = c.args.line.now in
    let whole : c.min.result ≡ 16 = omega (arith, c.min.ensures, c.if-line-lt16.false) in
    let digits = subst (λ (k : ℕ). AreDigits (take k line)) whole (c.in-None.ensures.none refl) in
    let within = c.if-number-gt-MOST_LINES.false in
    (within, goes_on line c.if-line-lt16.false digits (c.requires within), digits)
