-- What ranges allow: the amounts of their entries, and the pairs of doubles or infinities between
-- which every sum of such amounts lies. An amount is any fraction: a whole number of d-th parts of
-- the least non-zero number, for whatever d. Finitely many fractions have one d in common.
use Rattle.std.specs.Prelude.{[], ℕ, T, List, ◌∷◌, ◌<◌, Bool, ◌&&◌, eqb}
use Rattle.totals_spec.specs.Basics.{Signed, plus_of, minus_of, difference, total}
use Rattle.totals_spec.specs.formats.Ordered.{at_most, parts, NotAbove, NotBelow}
use Rattle.totals_spec.specs.formats.Format.{binary64}
use Rattle.totals_spec.specs.formats.Decode.{decode}
use Rattle.figures_spec.specs.ranges.Ranges.{figure_worth, Amount, known, between, missing, untold}

-- x d-th parts are no less than one figure and no more than another
abbrev pub Inside : (d low high : ℕ) → Signed → Type 0
Inside d low high x = T (at_most (parts d (figure_worth low)) x)
    × T (at_most x (parts d (figure_worth high)))

-- an entry allows what is known, what lies between its figures, or what lies between zero and the
-- ceiling
abbrev pub Allowed : (d ceiling : ℕ) → Amount → Signed → Type 0
Allowed d z (known a) x = Inside d a a x
Allowed d z (between a b) x = Inside d a b x
Allowed d z missing x = Inside d 0 z x
Allowed d z untold x = ⊥

-- entry by entry
abbrev pub AllAllowed : (d ceiling : ℕ) → List Amount → List Signed → Type 0
AllAllowed d z [] [] = Unit {0}
AllAllowed d z [] (x ∷ xs) = ⊥
AllAllowed d z (a ∷ l) [] = ⊥
AllAllowed d z (a ∷ l) (x ∷ xs) = Allowed d z a x × AllAllowed d z l xs

abbrev pub sum_of_amounts : List Signed → Signed
sum_of_amounts xs = difference (total plus_of xs) (total minus_of xs)

-- every sum of amounts that the entries allow lies between two encodings
abbrev pub Encloses : (ceiling : ℕ) → List Amount → (low high : ℕ) → Type 0
Encloses z l low high = (d : ℕ) (xs : List Signed) → 0 < d → AllAllowed d z l xs
    → NotAbove d (decode binary64 low) (sum_of_amounts xs)
    × NotBelow d (decode binary64 high) (sum_of_amounts xs)

-- ---- rearranged entries

abbrev pub same_triple : ℕ × ℕ × ℕ → ℕ × ℕ × ℕ → Bool
same_triple r s = eqb r.0 s.0 && eqb r.1 s.1 && eqb r.2 s.2
