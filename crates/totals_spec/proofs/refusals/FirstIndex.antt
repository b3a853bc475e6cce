-- `first_index` gives the lowest index at which a test holds.
use mathlib.Core.Path.{◌≡◌, refl, sym, subst}
use mathlib.Core.Bool.{Bool, true, false, ◌||◌, cond}
use mathlib.Core.List.{List, [], ◌∷◌}
use Prim.Native.Nat.{ℕ, zero, suc, ◌<◌, zero-le, suc-le-suc}
use native.Mathlib.Nat.{not-suc-le-zero, le_of_suc-le-suc}
use lib.ListN.{get_or}
use lib.Dec.{T}
use Rattle.totals_spec.specs.Basics.{any}
use Rattle.totals_spec.specs.formats.Format.{Format}
use Rattle.totals_spec.specs.sums.Totals.{stray, first_index, dot_place}
use Rattle.totals_spec.specs.refusals.Places.{StrayAt, StrayBy, DotStrayAt}

pub first-stray : (f : Format) (l : List ℕ) → T (any (stray f) l) → StrayAt f l (first_index (stray f) l)
first-stray f [] t = absurd t
first-stray f (x ∷ l) t = go (stray f x) refl t (first-stray f l)
  where
    go : (b : Bool) → stray f x ≡ b → T (b || any (stray f) l) → (T (any (stray f) l) → StrayAt f l (first_index (stray f) l))
        → StrayAt f (x ∷ l) (cond b 0 (suc (first_index (stray f) l)))
    go true e t ih = record { inside = suc-le-suc zero-le; set = subst T (sym e) tt; lowest = λ k h. absurd (not-suc-le-zero h) }
    go false e t ih = let h = ih t in record { inside = suc-le-suc h.inside; set = h.set; lowest = earlier h }
      where
        earlier : StrayAt f l (first_index (stray f) l) → (k : ℕ) → k < suc (first_index (stray f) l) → stray f (get_or (x ∷ l) k 0) ≡ false
        earlier h zero i = e
        earlier h (suc k) i = h.lowest k (le_of_suc-le-suc i)

pub dot-stray : (f : Format) (xs ys : List ℕ) → T (any (stray f) xs || any (stray f) ys) → DotStrayAt f xs ys (dot_place f xs ys)
unfolding dot_place
dot-stray f xs ys t = go (any (stray f) xs) (first-stray f xs) t
  where
    go : (b : Bool) → (T b → StrayAt f xs (first_index (stray f) xs)) → T (b || any (stray f) ys)
        → StrayBy b f xs ys (cond b (first_index (stray f) xs) (first_index (stray f) ys))
    go true h t = h tt
    go false h t = first-stray f ys t
