-- The conditions of the refusals of ranges.
use Rattle.std.specs.Prelude.{◌⊎◌, [], ℕ, ◌+◌, ◌<◌, ◌≡◌, List, length, get_or, ◌∷◌}
use Rattle.totals_spec.specs.formats.Format.{binary64}
use Rattle.totals_spec.specs.formats.Decode.{decode}
use Rattle.totals_spec.specs.refusals.Conditions.{StrayBit, NoNumber, Unequal, TooMany, Condition}
use Rattle.totals_spec.specs.Basics.{Signed, plus_of, minus_of}
use Rattle.totals_spec.specs.formats.Ordered.{nothing}
use Rattle.figures_spec.specs.ranges.Ranges.{figure_worth}

-- ---- 11: a tag above 2, a used figure that is no finite double, a low above its high; a ceiling
-- that is no finite double, or below zero

abbrev pub NoFigure : ℕ → Type 0
NoFigure b = StrayBit binary64 b ⊎ NoNumber (decode binary64 b)

-- of two numbers with a sign the first is the smaller one
abbrev pub Below : Signed → Signed → Type 0
Below x y = plus_of x + minus_of y < plus_of y + minus_of x

abbrev pub BadEntry : (tag first second : ℕ) → Type 0
BadEntry t x y =
    (2 < t)
    ⊎ ((t < 2) × NoFigure x)
    ⊎ ((t ≡ 1) × (NoFigure y ⊎ Below (figure_worth y) (figure_worth x)))

abbrev pub SomeBadEntry : (tags firsts seconds : List ℕ) → Type 0
SomeBadEntry ts xs ys = (i : ℕ) × (i < length ts)
    × BadEntry (get_or ts i 0) (get_or xs i 0) (get_or ys i 0)

abbrev pub BadCeiling : ℕ → Type 0
BadCeiling z = NoFigure z ⊎ Below (figure_worth z) nothing

-- 2 of a range's entry: no room for two words
abbrev pub NoPair : List ℕ → Type 0
NoPair old = length old < 2

abbrev pub range_conditions : (tags firsts seconds : List ℕ) (ceiling : ℕ) → List Condition
range_conditions ts xs ys z =
    (5, Unequal ts xs ⊎ Unequal ts ys)
    ∷ (6, TooMany ts)
    ∷ (11, BadCeiling z ⊎ SomeBadEntry ts xs ys)
    ∷ []

abbrev pub range_entry_conditions : (tags firsts seconds : List ℕ) (ceiling : ℕ) → List ℕ
    → List Condition
range_entry_conditions ts xs ys z old = (2, NoPair old) ∷ range_conditions ts xs ys z
