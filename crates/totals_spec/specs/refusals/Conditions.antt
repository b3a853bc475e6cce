-- The conditions of the refusals, as statements about numbers, and the first of them that holds.
-- The definitions of the answers work with tests, which find just these (`Promises`).
use Rattle.std.specs.Prelude.{◌≢◌, List, [], ℕ, ◌%◌, length, ◌<◌, ℤ, nat_abs, ◌≡◌, ◌⊎◌, ◌+◌, ◌^◌}
use Rattle.std.specs.Prelude.{◌≤◌, get_or, ◌∷◌}
use Rattle.std.proofs.Math.Option.{Option, none, some}
use Rattle.totals_spec.specs.formats.Format.{Format, digits}
use Rattle.totals_spec.specs.formats.Settings.{Settings}
use Rattle.totals_spec.specs.sums.Totals.{limit}
use Rattle.totals_spec.specs.formats.Decode.{Unpacked, zero_of, finite, infinity, nan, decode}

-- ---- 1 and 2: a length in bytes that is no multiple of 8, an answer buffer under 24 bytes

abbrev pub Uneven : List ℕ → Type 0
Uneven bytes = length bytes % 8 ≢ 0

abbrev pub Short : List ℕ → Type 0
Short old = length old < 24

-- ---- 3: a kind above 3, E outside 2..28, W outside E + 2..64, a named bias farther from 0 than
-- 2^28

abbrev pub FarBias : Option ℤ → Type 0
FarBias none = ⊥
FarBias (some b) = 268435456 < nat_abs b

-- of an entry over words: the bias and whether it is named do not fit each other
abbrev pub Misnamed : ℕ → ℤ → Type 0
Misnamed named b = (1 < named) ⊎ ((named ≡ 0) × (nat_abs b ≢ 0))

abbrev pub BadFormat : Format → Type 0
BadFormat f =
    (3 < f.kind)
    ⊎ (f.E < 2)
    ⊎ (28 < f.E)
    ⊎ (f.W < f.E + 2)
    ⊎ (64 < f.W)
    ⊎ FarBias f.named

-- ---- 4: a setting outside its range, or a summand above 2

abbrev pub BadSettings : Format → Settings → Type 0
BadSettings f c =
    (7 < c.rounding)
    ⊎ (1 < c.tininess)
    ⊎ (3 < c.nan_propagation)
    ⊎ (1 < c.default_nan_sign)
    ⊎ (1 < c.flush_to_zero)
    ⊎ (1 < c.denormals_are_zero)
    ⊎ (1 < c.saturate)
    ⊎ (digits f < c.precision)

abbrev pub BadSummand : ℕ → Type 0
BadSummand u = 2 < u

-- ---- 5 and 6: two lists of different lengths, more elements than the limit

abbrev pub Unequal : List ℕ → List ℕ → Type 0
Unequal xs ys = length xs ≢ length ys

abbrev pub TooMany : List ℕ → Type 0
TooMany l = limit < length l

-- ---- 7: a set bit at position W or above, of a number and of some element of a list

abbrev pub StrayBit : Format → ℕ → Type 0
StrayBit f b = 2 ^ f.W ≤ b

abbrev pub Stray : Format → List ℕ → Type 0
Stray f l = (i : ℕ) × (i < length l) × StrayBit f (get_or l i 0)

-- ---- 8 of a list: an element that is a NaN or an infinity, or a sum whose pence figure is beyond
-- 2^63 − 1

abbrev pub NoNumber : Unpacked → Type 0
NoNumber (zero_of s) = ⊥
NoNumber (finite s k m) = ⊥
NoNumber (infinity s) = Unit {0}
NoNumber (nan s g m) = Unit {0}

abbrev pub SomeNoNumber : Format → List ℕ → Type 0
SomeNoNumber f l = (i : ℕ) × (i < length l) × NoNumber (decode f (get_or l i 0))

-- ---- the first that holds

-- a number and its condition
abbrev pub Condition : Type 1
Condition = ℕ × Type 0

-- n is the number of the first condition in the list that holds, and 0 where none does
abbrev pub First : List Condition → ℕ → Type 0
First [] n = n ≡ 0
First (c ∷ l) n = (c.1 × (n ≡ c.0)) ⊎ ((¬ c.1) × First l n)

-- ---- the conditions of a call, in the order in which they are tried

abbrev pub sum_conditions : Format → Settings → ℕ → List ℕ → List Condition
sum_conditions f c u l =
    (3, BadFormat f)
    ∷ (4, BadSettings f c ⊎ BadSummand u)
    ∷ (6, TooMany l)
    ∷ (7, Stray f l)
    ∷ []

abbrev pub dot_conditions : Format → Settings → List ℕ → List ℕ → List Condition
dot_conditions f c xs ys =
    (3, BadFormat f)
    ∷ (4, BadSettings f c)
    ∷ (5, Unequal xs ys)
    ∷ (6, TooMany xs)
    ∷ (7, Stray f xs ⊎ Stray f ys)
    ∷ []

-- a byte entry's own conditions, and then those of the values in its bytes
abbrev pub entry_conditions : Type 0 → List ℕ → List Condition → List Condition
entry_conditions uneven old values = (1, uneven) ∷ (2, Short old) ∷ values
