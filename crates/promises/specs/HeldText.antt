-- The program's lines, by what a reader of them gets back: digits are read as the kit reads them.
use Rattle.std.specs.Prelude.{◌≡◌, ◌≢◌, [], ◌∷◌, ℕ, suc, ◌^◌, ◌<◌, ◌≤◌, length, get_or, pos, neg_ℤ}
use Rattle.std.specs.Str.Parse.{digits_value}
use Rattle.totals_spec.specs.sums.Totals.{Answer}
use Rattle.totals_spec.specs.pence.Pence.{Pence}
use Rattle.totals_spec.specs.program.Program.{hex_text, decimal_text, signed_text, pence_text}
use Rattle.totals_spec.specs.program.Program.{answer_text}
use Rattle.promises.specs.Special.{AllOf}
use Rattle.promises.specs.Lines.{ended, Digit}

-- n digits 0 to 9, a to f, which are the number where it has no more
abbrev pub Hex-reads : Type 0
Hex-reads = (n x : ℕ) → x < 16 ^ n
    → (length (hex_text n x) ≡ n) × AllOf Digit (hex_text n x)
    × (digits_value 16 (hex_text n x) ≡ x)

-- 0 to 9
abbrev pub Decimal : ℕ → Type 0
Decimal b = (48 ≤ b) × (b ≤ 57)

-- decimal digits, which are the number, and begin with a 0 for 0 alone
abbrev pub Decimal-reads : Type 0
Decimal-reads =
    ((x : ℕ) → AllOf Decimal (decimal_text x) × (digits_value 10 (decimal_text x) ≡ x)
    × (0 < x → get_or (decimal_text x) 0 0 ≢ 48))
    × (decimal_text 0 ≡ 48 ∷ [])

-- a figure is its digits, behind a minus sign (45) where it lies below zero
abbrev pub Figure-reads : Type 0
Figure-reads = ((n : ℕ) → signed_text (pos n) ≡ decimal_text n)
    × ((n : ℕ) → signed_text (neg_ℤ (pos (suc n))) ≡ 45 ∷ decimal_text (suc n))

-- the four letters of `none` stand where there is no figure
abbrev pub Pence-line : Type 0
Pence-line = (p : Pence) → (p.refusal ≡ 0 → pence_text p ≡ signed_text p.figure)
    × (p.refusal ≢ 0 → pence_text p ≡ 110 ∷ 111 ∷ 110 ∷ 101 ∷ [])

-- four lines, each with its end: the result in 16 hex digits, the flags in 2, the passes in
-- decimal, and the pence
abbrev pub Four-lines : Type 0
Four-lines = (r : Answer) (p : Pence) → answer_text r p
    ≡ ended (hex_text 16 r.result ∷ hex_text 2 r.flags ∷ decimal_text r.passes ∷ pence_text p ∷ [])
