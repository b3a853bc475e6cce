use Rattle.std.proofs.Common.{◌≡◌, ◌<◌, sym, ap, ◌∙◌, arith, ℕ, List, length, get_or}
use Rattle.std.proofs.Math.Option.{some}
use Rattle.std.proofs.lemmas.Grind.{common_steps}
use Rattle.totals_spec.specs.program.Program.{hex_from}
use Rattle.hexadecimal.specs.Digits.{option_of}
use Rattle.text.proofs.Pieces.{short_line, long_line, whole_line}
use Rattle.text.proofs.read.value.Goals as goal

pub returns-in_err-digits : goal.returns-in_err-digits
returns-in_err-digits c = c.from_residual.ensures ∙ ap option_of (sym (short_line _ c.in_err-digits.ensures.cases))

pub returns-then-is_some_and : goal.returns-then-is_some_and
returns-then-is_some_and c =
    let split = c.in_ok-digits.ensures.cases in
    let more : 0 < length c.in_ok-digits.rest.now = grind (arith, common_steps) in
    let other : get_or c.in_ok-digits.rest.now 0 0 ≡ 10 → ⊥ = grind (arith, common_steps) in
    ap option_of (sym (long_line _ split.0 (rw split.2 at more) (rw split.2 at other)))

pub returns : goal.returns
returns c =
    let split = c.in_ok-digits.ensures.cases in
    let ends : 0 < length c.in_ok-digits.rest.now → get_or c.in_ok-digits.rest.now 0 0 ≡ 10 = grind (arith, common_steps) in
    c.number.ensures ∙ ap option_of (ap (λ (l : List ℕ). hex_from l (some 0)) split.1 ∙ sym (whole_line _ split.0 (rw split.2 at ends)))
