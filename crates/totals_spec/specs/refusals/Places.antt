-- The place of refusal 7, by what it has to be. The definitions of the answers work it out.
use Rattle.std.specs.Prelude.{false, List, ◌≡◌, ℕ, ◌<◌, length, get_or, T as Holds, Bool, true}
use Rattle.totals_spec.specs.formats.Format.{Format}
use Rattle.totals_spec.specs.sums.Totals.{stray}
use Rattle.totals_spec.specs.Basics.{any}

-- i is the lowest index of an element of l with a stray bit
pub record StrayAt (f : Format) (l : List ℕ) (i : ℕ) : Type 0 where
  pub inside : i < length l
  pub set : Holds (stray f (get_or l i 0))
  pub lowest : (k : ℕ) → k < i → stray f (get_or l k 0) ≡ false

-- by whether the left list holds a stray bit
abbrev pub StrayBy : Bool → Format → List ℕ → List ℕ → ℕ → Type 0
StrayBy true f xs ys i = StrayAt f xs i
StrayBy false f xs ys i = StrayAt f ys i

abbrev pub DotStrayAt : Format → List ℕ → List ℕ → ℕ → Type 0
DotStrayAt f xs ys i = StrayBy (any (stray f) xs) f xs ys i
