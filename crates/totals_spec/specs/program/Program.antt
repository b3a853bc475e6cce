-- The program: what it writes for what it reads, both as bytes.
use Rattle.std.specs.Prelude.{List, [], ◌∷◌, ℕ, cond, eqb, ◌&&◌, ◌-◌, leb, ◌+◌, ◌*◌, length, suc}
use Rattle.std.specs.Prelude.{ltb, ◌++◌, zero, ◌/◌, ◌%◌, ℤ, pos, negsuc}
use Rattle.std.proofs.Math.Option.{Option, none, some}
use Rattle.std.specs.Float.Ieee.{size}
use Rattle.totals_spec.specs.pence.Pence.{Pence, sum_pence}
use Rattle.totals_spec.specs.formats.Format.{Format}
use Rattle.totals_spec.specs.formats.Settings.{Settings}
use Rattle.totals_spec.specs.sums.Totals.{Answer, sum_answer}

-- ---- reading: 16 hex digits a line, in lower case. Byte 10 ends a line; the last one may lack it

-- a byte in front of the first line
abbrev pub onto : ℕ → List (List ℕ) → List (List ℕ)
onto b [] = (b ∷ []) ∷ []
onto b (l ∷ ls) = (b ∷ l) ∷ ls

abbrev pub lines : List ℕ → List (List ℕ)
lines [] = []
lines (b ∷ bs) = cond (eqb b 10) ([] ∷ lines bs) (onto b (lines bs))

-- 0 to 9 are the bytes 48 to 57, a to f the bytes 97 to 102
abbrev pub hex_digit : ℕ → Option ℕ
hex_digit b = cond (leb 48 b && leb b 57) (some (b - 48))
    (cond (leb 97 b && leb b 102) (some (b - 87)) none)

-- a number so far, and one digit more
abbrev pub more_hex : Option ℕ → Option ℕ → Option ℕ
more_hex none d = none
more_hex (some x) none = none
more_hex (some x) (some d) = some (16 * x + d)

-- the digits after those of a number
abbrev pub hex_from : List ℕ → Option ℕ → Option ℕ
hex_from [] x = x
hex_from (b ∷ bs) x = hex_from bs (more_hex x (hex_digit b))

abbrev pub line_value : List ℕ → Option ℕ
line_value l = cond (eqb (length l) 16) (hex_from l (some 0)) none

-- the values, or the first bad line, counted from 1
pub data Read : Type 0 where
  values : List ℕ → Read
  bad_line : ℕ → Read

abbrev pub taken : Option ℕ → ℕ → Read → Read
taken none n rest = bad_line n
taken (some x) n (values l) = values (x ∷ l)
taken (some x) n (bad_line m) = bad_line m

-- the lines from number n on: whatever stands on line 8193 is bad
unfoldable pub read_from : ℕ → List (List ℕ) → Read
read_from n [] = values []
read_from n (l ∷ ls) = cond (ltb 8192 n) (bad_line n)
    (taken (line_value l) n (read_from (suc n) ls))

-- ---- writing

-- the last n hex digits of x
abbrev pub hex_byte : ℕ → ℕ
hex_byte d = cond (ltb d 10) (d + 48) (d + 87)

unfoldable pub hex_text : ℕ → ℕ → List ℕ
hex_text zero x = []
hex_text (suc n) x = hex_text n (x / 16) ++ (hex_byte (x % 16) ∷ [])

-- x in decimal; a number has no more decimal than binary digits
unfoldable pub decimal_from : ℕ → ℕ → List ℕ
decimal_from zero x = (x % 10 + 48) ∷ []
decimal_from (suc k) x = cond (ltb x 10) ((x + 48) ∷ [])
    (decimal_from k (x / 10) ++ ((x % 10 + 48) ∷ []))

abbrev pub decimal_text : ℕ → List ℕ
decimal_text x = decimal_from (size x) x

abbrev pub signed_text : ℤ → List ℕ
signed_text (pos n) = decimal_text n
signed_text (negsuc n) = 45 ∷ decimal_text (suc n)

abbrev pub line_end : List ℕ
line_end = 10 ∷ []

-- the letters `none`
abbrev pub none_text : List ℕ
none_text = 110 ∷ 111 ∷ 110 ∷ 101 ∷ []

abbrev pub pence_text : Pence → List ℕ
pence_text p = cond (eqb p.refusal 0) (signed_text p.figure) none_text

-- the letters `refused line `
abbrev pub refused_text : List ℕ
refused_text = 114 ∷ 101 ∷ 102 ∷ 117 ∷ 115 ∷ 101 ∷ 100 ∷ 32 ∷ 108 ∷ 105 ∷ 110 ∷ 101 ∷ 32 ∷ []

-- ---- the program: rounding 0, tininess 1, and 0 for every other setting

abbrev pub program_format : Format
program_format = record { kind = 0; E = 11; W = 64; named = none }

abbrev pub program_settings : Settings
program_settings =
    record {
      rounding = 0;
      tininess = 1;
      nan_propagation = 0;
      default_nan_sign = 0;
      flush_to_zero = 0;
      denormals_are_zero = 0;
      saturate = 0;
      precision = 0;
    }

unfoldable pub answer_text : Answer → Pence → List ℕ
answer_text r p =
    hex_text 16 r.result ++ (line_end
    ++ (hex_text 2 r.flags ++ (line_end
    ++ (decimal_text r.passes ++ (line_end
    ++ (pence_text p ++ line_end))))))

abbrev pub text_of : Read → List ℕ
text_of (values l) = answer_text (sum_answer program_format program_settings 0 l)
    (sum_pence program_format l)
text_of (bad_line n) = refused_text ++ (decimal_text n ++ line_end)

-- THE PROGRAM'S ANSWER
unfoldable pub program_text : List ℕ → List ℕ
program_text input = text_of (read_from 1 (lines input))
