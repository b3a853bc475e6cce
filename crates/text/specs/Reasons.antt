-- Why a line is refused: what each reason claims of the line's number, counted from 1, and of its
-- bytes.
use Rattle.std.specs.Prelude.{◌≡◌, ◌<◌, ◌≤◌, ◌+◌, ◌++◌, [], ◌∷◌, List, ℕ, take, length, get_or}
use Rattle.std.proofs.Math.Option.{some, none}
use Rattle.totals_spec.specs.program.Program.{hex_digit, hex_from}
use Rattle.text.specs.declared.reason.Reason.{Reason}
use Rattle.text.specs.declared.reason.Reason.TheVariants.{TooManyLines, ByteOrderMark, Empty, CarriageReturn, Capital, NotHex, TooShort, TooLong}

-- bytes that are hex digits all, and so write a number
abbrev pub AreDigits : List ℕ → Type 0
AreDigits bytes = (x : ℕ) × (hex_from bytes (some 0) ≡ some x)

-- so many digits come first, and then a byte that is none
abbrev pub StandsFirst : ℕ → List ℕ → Type 0
StandsFirst place bytes =
    (place < length bytes)
    × AreDigits (take place bytes)
    × (hex_digit (get_or bytes place 0) ≡ none)

-- the byte at a column, counted from 1, and that it is no digit, and all before it are digits
abbrev pub StandsAt : (column byte : ℕ) → List ℕ → Type 0
StandsAt column byte line =
    (place : ℕ) × (column ≡ place + 1) × StandsFirst place line × (byte ≡ get_or line place 0)

-- A to F
abbrev pub IsCapital : ℕ → Type 0
IsCapital byte = (65 ≤ byte) × (byte ≤ 70)

abbrev pub HasCapital : (column : ℕ) → List ℕ → Type 0
HasCapital column line = (byte : ℕ) × StandsAt column byte line × IsCapital byte

-- the bytes EF BB BF
abbrev pub byte_order_mark : List ℕ
byte_order_mark = 239 ∷ 187 ∷ 191 ∷ []

-- a carriage return is a line's last byte
abbrev pub ReturnsLast : List ℕ → Type 0
ReturnsLast line = (length line ≤ 17) × ((front : List ℕ) × (line ≡ front ++ 13 ∷ []))

-- the number of a line that is none too many
abbrev pub IsWithin : ℕ → Type 0
IsWithin number = number ≤ 8192

-- of a line that is too many nothing else is told
abbrev pub Tells : Reason → (number : ℕ) → (line : List ℕ) → Type 0
Tells TooManyLines number line = 8192 < number
Tells ByteOrderMark number line =
    IsWithin number × (number ≡ 1) × (take 3 line ≡ byte_order_mark)
Tells Empty number line = IsWithin number × (line ≡ [])
Tells CarriageReturn number line = IsWithin number × ReturnsLast line
Tells (Capital column) number line = IsWithin number × HasCapital column line
Tells (NotHex column byte) number line =
    IsWithin number × StandsAt column byte line × (IsCapital byte → ⊥)
Tells (TooShort count) number line =
    IsWithin number × (count ≡ length line) × (count < 16) × AreDigits line
Tells TooLong number line = IsWithin number × (16 < length line) × AreDigits (take 16 line)
