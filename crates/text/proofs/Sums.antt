-- The four lines of an answer, and of a record of pence, by its figure where that is not refused.
use mathlib.Core.Path.{◌≡◌, refl, ap, ◌∙◌}
use mathlib.Core.List.{List, ◌++◌}
use Prim.Native.Nat.{ℕ}
use borrow.Author.Tests.{ne_eqb}
use lib.IntN.{ℤ}
use Rattle.std.specs.Prelude.{Option, Result, Ok, Err}
use Rattle.totals_spec.specs.sums.Totals.{Answer}
use Rattle.totals_spec.specs.program.Program.{hex_text, decimal_text, pence_text, line_end, answer_text}
use Rattle.totals.specs.declared.refusal.Refusal.{Refusal}
use Rattle.totals.specs.Refusal.{number_of}
use Rattle.totals.specs.PenceRecord.{figure_in}
use Rattle.totals.proofs.Refusals.{number-some}
use Rattle.text.specs.FourLines.{figure_text, figure_of, four_lines}

figure-is : (r : Result ℤ Refusal) → figure_text (figure_of r) ≡ pence_text (figure_in r)
figure-is (Ok z) = refl
figure-is (Err e) = rw (ne_eqb (number_of e) 0 (number-some e)) refl

pub answer_is : (a : Answer) (r : Result ℤ Refusal) (o : Option ℤ) → o ≡ figure_of r → four_lines a.result a.flags a.passes o ≡ answer_text a (figure_in r)
unfolding answer_text
answer_is a r o e =
    ap (λ (s : List ℕ). hex_text 16 a.result ++ (line_end ++ (hex_text 2 a.flags ++ (line_end ++ (decimal_text a.passes ++ (line_end ++ (s ++ line_end)))))))
    (ap figure_text e ∙ figure-is r)
