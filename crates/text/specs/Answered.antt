-- What the program tells of its input beside the text: whether there is a total, or why a line is
-- refused.
use Rattle.std.specs.Prelude.{◌≡◌, ◌-◌, List, ℕ, take, drop, Result, Ok, Err}
use Rattle.totals_spec.specs.program.Program.{lines, values, bad_line, read_from}
use Rattle.text.specs.Reading.{first_line}
use Rattle.text.specs.Reasons.{Tells}
use Rattle.text.specs.declared.answer.Answered.{Answered}
use Rattle.text.specs.declared.answer.Answered.TheVariants.{Total, Refused}
use Rattle.text.specs.declared.stream.Failure.{Failure}

-- a line by its number, counted from 1
abbrev pub line_at : ℕ → List (List ℕ) → List ℕ
line_at number ls = first_line (drop (number - 1) ls)

-- each line has a value, or the first one that is refused is named, and why: its first 18 bytes
-- tell
abbrev pub IsAnswered : Answered → (input : List ℕ) → Type 0
IsAnswered Total input = (l : List ℕ) × (read_from 1 (lines input) ≡ values l)
IsAnswered (Refused r) input =
    (read_from 1 (lines input) ≡ bad_line r.line)
    × Tells r.reason r.line (take 18 (line_at r.line (lines input)))

-- the program's exit status
abbrev pub status_of : Result Answered Failure → ℕ
status_of (Ok Total) = 0
status_of (Ok (Refused r)) = 1
status_of (Err e) = 1
