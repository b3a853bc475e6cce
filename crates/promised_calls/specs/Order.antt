-- Rearrangements, in the words of the contracts.
use Rattle.std.specs.Prelude.{◌≡◌, false, List, ℕ, eqb, length}
use Rattle.totals_spec.specs.Basics.{any}
use Rattle.totals_spec.specs.formats.Format.{Format}
use Rattle.totals_spec.specs.sums.Totals.{pairs, stray}
use Rattle.figures_spec.specs.ranges.Ranges.{triples}
use Rattle.figures_spec.specs.ranges.Allowed.{same_triple}
use Rattle.totals_spec.specs.order.Rearranged.{AsOften, same_pair, holds_nan}

-- each number stands in both lists, and equally often
abbrev pub Rearranged : List ℕ → List ℕ → Type 0
Rearranged one other = AsOften eqb one other

-- the pairs of two lists move together
abbrev pub PairsRearranged : (left right left' right' : List ℕ) → Type 0
PairsRearranged left right left' right' = (length left' ≡ length right') × AsOften same_pair (pairs left right) (pairs left' right')

-- the entries of three lists, tags and figures, move together
abbrev pub TriplesRearranged : (tags firsts seconds tags' firsts' seconds' : List ℕ) → Type 0
TriplesRearranged ts xs ys ts' xs' ys' =
    (length ts' ≡ length xs') × (length ts' ≡ length ys') × AsOften same_triple (triples ts xs ys) (triples ts' xs' ys')

-- no encoding in the list is a NaN
abbrev pub WithoutNan : Format → List ℕ → Type 0
WithoutNan f l = holds_nan f l ≡ false

-- no encoding in the list has a bit above the format's width
abbrev pub WithoutStray : Format → List ℕ → Type 0
WithoutStray f l = any (stray f) l ≡ false
