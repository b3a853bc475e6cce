-- What a kind of format has beside numbers. Contracts of the code cite it: a value that comes from
-- a list is one that the list's format has.
use Rattle.std.specs.Prelude.{Bool, true, false, [], T as Holds, List, ◌∷◌}
use Rattle.totals_spec.specs.formats.Format.{Kind, ieee, no_inf, fnuz, finite_only}
use Rattle.totals_spec.specs.terms.Terms.{Item, nan_item, invalid_item, infinite, zero_item, term}
use Rattle.totals_spec.specs.formats.Decode.{Unpacked, zero_of, finite, infinity, nan}

abbrev pub has_infinity : Kind → Bool
has_infinity ieee = true
has_infinity no_inf = false
has_infinity fnuz = false
has_infinity finite_only = false

abbrev pub has_nan : Kind → Bool
has_nan ieee = true
has_nan no_inf = true
has_nan fnuz = true
has_nan finite_only = false

-- an element or a pair is i
abbrev pub Gives : Kind → Item → Type 0
Gives k nan_item = Holds (has_nan k)
Gives k invalid_item = Holds (has_infinity k)
Gives k (infinite s) = Holds (has_infinity k)
Gives k (zero_item s) = Unit {0}
Gives k (term t) = Unit {0}

abbrev pub AllGive : Kind → List Item → Type 0
AllGive k [] = Unit {0}
AllGive k (i ∷ l) = Gives k i × AllGive k l

-- the value of a record without a pass
abbrev pub Alone : Kind → Unpacked → Type 0
Alone k (zero_of s) = Unit {0}
Alone k (finite s e m) = ⊥
Alone k (infinity s) = Holds (has_infinity k)
Alone k (nan s g m) = Holds (has_nan k)
