-- The test for equal lists.
use mathlib.Core.Path.{◌≡◌, refl, ap₂}
use mathlib.Core.Bool.{true}
use mathlib.Core.List.{List, [], ◌∷◌}
use Prim.Native.Nat.{ℕ, ◌-◌}
use borrow.Author.Tests.{eq-eqb}
use lib.Dec.{T, eqb, eqb→eq}
use Rattle.totals_spec.specs.Basics.{same_list}
use Rattle.totals_spec.proofs.formats.Valid.{and_left, and_right}

-- ---- the test for equal lists

pub same_refl : (l : List ℕ) → same_list l l ≡ true
same_refl [] = refl
same_refl (x ∷ l) = rw (eq-eqb x x refl) (same_refl l)

pub same-eq : (l m : List ℕ) → T (same_list l m) → l ≡ m
same-eq [] [] h = refl
same-eq (x ∷ l) (y ∷ m) h =
    ap₂ ◌∷◌ (eqb→eq x y (and_left (eqb x y) (same_list l m) h)) (same-eq l m (and_right (eqb x y) (same_list l m) h))
same-eq [] (y ∷ m) h = elim h [ ]
same-eq (x ∷ l) [] h = elim h [ ]
