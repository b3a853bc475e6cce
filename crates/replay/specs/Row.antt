-- The fields of a row, at the places that cases.py has: numbers in hex digits, and a sign before
-- one of them.
use Rattle.std.specs.Prelude.{Option, Some, None, Bool, cond, List, [], ◌∷◌, ◌++◌, set, map}
use Rattle.std.specs.Prelude.{replicate, ℕ, ◌+◌, ◌-◌, ◌*◌, ◌%◌, ◌^◌, ◌≡◌}
use Rattle.std.specs.Prelude.{eqb, ltb, ℤ, pos, neg_ℤ, length, get_or, min}
use Rattle.std.specs.List.{range_with_len}
use Rattle.totals_spec.specs.entries.Bytes.{value_bytes}
use Rattle.hexadecimal.specs.Digits.{number_at}
use Rattle.values.specs.Laid.{laid}
use Rattle.format.specs.declared.Format.{Format}
use Rattle.format.specs.declared.settings.Settings.{Settings}
use Rattle.reduction.specs.declared.total.Answer.{Answer}
use Rattle.replay.specs.declared.row.Refused.{Refused}

-- the number of n digits from a place on, in a word
abbrev pub word_at : List ℕ → ℕ → ℕ → ℕ
word_at s at n = number_at s at n % 2 ^ 64

-- what a row that disagrees is printed behind: the letters of "disagrees: "
abbrev pub disagrees : List ℕ
disagrees = 100 ∷ 105 ∷ 115 ∷ 97 ∷ 103 ∷ 114 ∷ 101 ∷ 101 ∷ 115 ∷ 58 ∷ 32 ∷ []

-- the letter d
abbrev pub is_dot : List ℕ → Bool
is_dot s = eqb (get_or s 0 48) 100

abbrev pub settings_in : List ℕ → Settings
settings_in s = record {
  rounding = word_at s 10 1;
  tininess = word_at s 11 1;
  nan_propagation = word_at s 12 1;
  default_nan_negative = word_at s 13 1;
  flush_to_zero = word_at s 14 1;
  denormals_are_zero = word_at s 15 1;
  saturate = word_at s 16 1;
  precision = word_at s 18 2;
}

-- a sign, where the byte 45 is minus, and n digits behind it
abbrev pub signed_at : List ℕ → ℕ → ℕ → ℤ
signed_at s at n =
    cond (eqb (get_or s at 48) 45)
    (neg_ℤ (pos (word_at s (at + 1) n % 2 ^ 63)))
    (pos (word_at s (at + 1) n % 2 ^ 63))

-- a bias, in the longer rows that name one
abbrev pub named_in : List ℕ → Option ℤ
named_in s =
    cond (eqb (length s) 301) (Some (signed_at s 283 16))
    (cond (eqb (length s) 67) (Some (signed_at s 49 16))
    (cond (eqb (length s) 505) (Some (signed_at s 487 16)) None))

abbrev pub format_in : List ℕ → Format
format_in s = record {
  kind = word_at s 2 1;
  exponent_bits = word_at s 4 2;
  width = word_at s 7 2;
  named = named_in s;
}

-- the same of a row that has a number to tell whether it names a bias, and the bias behind that
abbrev pub told_format_in : List ℕ → Format
told_format_in s =
    let f = format_in s in
    record {
      kind = f.kind;
      exponent_bits = f.exponent_bits;
      width = f.width;
      named = cond (eqb (word_at s 32 1) 0) f.named (Some (signed_at s 34 16));
    }

abbrev pub answer_in : List ℕ → Answer
answer_in s = record {
  result = word_at s 32 16;
  flags = word_at s 49 2;
  passes = word_at s 52 6;
  last_edge = signed_at s 59 8;
  side = word_at s 77 1;
}

-- a refusal's number and place, a digit each, both 0 where the call is accepted
abbrev pub refused_in : List ℕ → (number place : ℕ) → Refused
refused_in s n p = record { number = word_at s n 1; place = word_at s p 1 }

-- n words of sixteen digits, one every seventeen columns
unfoldable pub words_in : List ℕ → (column n : ℕ) → List ℕ
words_in s column n = map (λ (i : ℕ). word_at s (column + 17 * i) 16) (range_with_len 0 n)

-- n of these words in bytes, and 255 in each byte behind them, of m bytes in all
unfoldable pub laid_words : List ℕ → (column n m : ℕ) → List ℕ
laid_words s column n m = value_bytes (words_in s column n) ++ replicate (m - 8 * n) 255

-- n bytes of two digits, one every two columns
unfoldable pub bytes_in : List ℕ → (column n : ℕ) → List ℕ
bytes_in s column n = map (λ (i : ℕ). word_at s (column + 2 * i) 2 % 256) (range_with_len 0 n)

-- the column of the value i: the values begin at the column 79
abbrev pub value_column : ℕ → ℕ
value_column i = 79 + 17 * i

-- the first value of a dot's right list: behind the left one's six places, or twelve in a long row
abbrev pub right_in : List ℕ → ℕ
right_in s = cond (ltb (length s) 487) 6 12

-- the answer's buffer after the call: an accepted record is written, its side in the byte 10, and a
-- refused one is not
abbrev pub written_in : List ℕ → List ℕ
written_in s =
    let before = replicate 32 165 in
    let a = answer_in s in
    cond (eqb (word_at s 73 3) 0)
    (set (laid (laid (laid before 0 a.result) 8 a.flags) 16 a.passes) 10 (a.side % 256))
    before

-- the bytes that a row lends of the buffer
abbrev pub lent_in : List ℕ → ℕ
lent_in s = min (word_at s 29 2) 32

-- a number says whether a format names a bias, and the bias is 0 where none is named
abbrev pub IsTold : Option ℤ → ℕ → ℤ → Type 0
IsTold (Some b) told bias = (told ≡ 1) × (bias ≡ b)
IsTold None told bias = (told ≡ 0) × (bias ≡ pos 0)
