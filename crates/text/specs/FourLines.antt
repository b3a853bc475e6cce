-- The four lines of an answer: its result, its flags and passes, and the pence of its sum.
use Rattle.std.specs.Prelude.{List, ◌++◌, ℕ, ℤ, Option, None, Some, Result, Ok, Err}
use Rattle.totals_spec.specs.program.Program.{hex_text, decimal_text, signed_text, none_text, line_end}
use Rattle.totals.specs.declared.refusal.Refusal.{Refusal}

-- a figure, or the word none
abbrev pub figure_text : Option ℤ → List ℕ
figure_text None = none_text
figure_text (Some z) = signed_text z

-- the figure of pence that may be refused
abbrev pub figure_of : Result ℤ Refusal → Option ℤ
figure_of (Ok z) = Some z
figure_of (Err r) = None

abbrev pub four_lines : (result flags passes : ℕ) → Option ℤ → List ℕ
four_lines result flags passes p =
    hex_text 16 result ++ (line_end
    ++ (hex_text 2 flags ++ (line_end
    ++ (decimal_text passes ++ (line_end
    ++ (figure_text p ++ line_end))))))
