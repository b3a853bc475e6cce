-- What the bytes that decide the text tell of the refused line is told of the whole input.
use Rattle.std.proofs.Common.{◌≡◌, sym, ◌∙◌, subst, ℕ, List, take}
use Rattle.text.specs.Answered.{line_at, IsAnswered}
use Rattle.text.specs.declared.answer.Answered.{Answered}
use Rattle.text.specs.declared.answer.Answered.TheVariants.{Total, Refused}
use Rattle.text.specs.declared.answer.RefusedLine.{RefusedLine}
use Rattle.text.specs.Reasons.{Tells}
use Rattle.totals_spec.specs.program.Program.{lines, bad_line, read_from}
use Rattle.text.proofs.Lines.{same_bytes}
use Rattle.text.proofs.Prefix.{same_read}
use Rattle.text.proofs.Reasons.{told_of}

pub answered_from : (t : Answered) (input : List ℕ) → IsAnswered t (take 139265 input) → IsAnswered t input
answered_from Total input k = (k.0, sym (same_read input) ∙ k.1)
answered_from (Refused r) input k =
    (sym (same_read input) ∙ k.0, told_of r.reason r.line _ _ (λ h. same_bytes r.line input h k.0) k.1)

pub told : (input : List ℕ) (n : ℕ) (r : RefusedLine) → r.line ≡ n → read_from 1 (lines input) ≡ bad_line n
    → Tells r.reason n (take 18 (line_at n (lines input))) → IsAnswered (Refused r) input
told input n r e q t =
    subst (λ (k : ℕ). (read_from 1 (lines input) ≡ bad_line k) × Tells r.reason k (take 18 (line_at k (lines input)))) (sym e) (q, t)
