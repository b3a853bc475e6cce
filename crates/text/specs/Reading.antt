-- What reading the lines gives, in the code's terms.
use Rattle.std.specs.Prelude.{◌≡◌, List, [], ◌∷◌, ℕ, take, Result, Ok, Err}
use Rattle.arrayvec.specs.ArrayVec.{ArrayVec}
use Rattle.totals_spec.specs.program.Program.{Read, values, bad_line, program_text}
use Rattle.text.specs.declared.read.BadLine.{BadLine}

-- the first of some lines, empty where there is none
abbrev pub first_line : List (List ℕ) → List ℕ
first_line [] = []
first_line (l ∷ ls) = l

-- the values of the lines, or the first bad one
abbrev pub result_of : Read → Result (ArrayVec ℕ) BadLine
result_of (values l) = Ok (record { items = l })
result_of (bad_line n) = Err (record { line = n })

-- THE FIRST 139,265 BYTES DECIDE: 8,192 lines of 17 bytes, and one byte more. The program reads
-- only so many
abbrev pub Prefix : Type 0
Prefix = (input : List ℕ) → program_text (take 139265 input) ≡ program_text input
