-- Gatherings of a list's first i elements, one element at a time: what a loop's invariant says of
-- `take i l`.
use mathlib.Core.Path.{◌≡◌, refl, sym, ap, ap₂, ◌∙◌}
use mathlib.Core.Bool.{Bool, true, false, ◌||◌}
use mathlib.Core.List.{List, [], ◌∷◌, ◌++◌}
use mathlib.Core.Option.{none, Option, some}
use Prim.Native.Nat.{ℕ, suc, ◌+◌, ◌≤◌, ◌<◌, min, max}
use native.Mathlib.Nat.{add_assoc, zero-add}
use native.Mathlib.Numerals.{add-one}
use native.Mathlib.Omega.{arith}
use lib.ListN.{length, take, drop, get_or, take-append-drop}
use lib.Seq.{take-suc, take-length}
use Rattle.totals_spec.specs.Basics.{total, greatest, least, any, keep, picked}

module _ {A : Type 0} where
  pub total-append : (f : A → ℕ) (s t : List A) → total f (s ++ t) ≡ total f s + total f t
  total-append f [] t = sym (zero-add (total f t))
  total-append f (x ∷ s) t = ap (λ (n : ℕ). f x + n) (total-append f s t) ∙ sym (add_assoc (f x) (total f s) (total f t))

  pub greatest-append : (f : A → ℕ) (s t : List A) → greatest f (s ++ t) ≡ max (greatest f s) (greatest f t)
  greatest-append f [] t = omega arith
  greatest-append f (x ∷ s) t = omega (arith, greatest-append f s t)

  pub least-le : (m : ℕ) (f : A → ℕ) (l : List A) → least m f l ≤ m
  least-le m f [] = omega arith
  least-le m f (x ∷ l) = omega (arith, least-le m f l)

  pub least-append : (m : ℕ) (f : A → ℕ) (s t : List A) → least m f (s ++ t) ≡ min (least m f s) (least m f t)
  least-append m f [] t = omega (arith, least-le m f t)
  least-append m f (x ∷ s) t = omega (arith, least-append m f s t)

  pub any_append : (f : A → Bool) (s t : List A) → any f (s ++ t) ≡ (any f s || any f t)
  any_append f [] t = refl
  any_append f (x ∷ s) t = go (f x) (any_append f s t)
    where
      go : (b : Bool) → any f (s ++ t) ≡ (any f s || any f t) → (b || any f (s ++ t)) ≡ ((b || any f s) || any f t)
      go true e = refl
      go false e = e

  -- one more element
  pub any-take : (f : A → Bool) (l : List A) (i : ℕ) (d : A) → i < length l → any f (take (suc i) l) ≡ (any f (take i l) || f (get_or l i d))
  any-take f l i d h = ap (any f) (take-suc l i d h) ∙ any_append f (take i l) (get_or l i d ∷ [])
      ∙ ap (λ b. any f (take i l) || b) (or-false (f (get_or l i d)))
    where
      or-false : (b : Bool) → (b || false) ≡ b
      or-false true = refl
      or-false false = refl

  -- ---- a search: none of the first i

  -- nor of the first i + 1
  pub none-next : (f : A → Bool) (l : List A) (i : ℕ) (d x : A) → i < length l → x ≡ get_or l i d → any f (take i l) ≡ false → f x ≡ false
      → any f (take (i + 1) l) ≡ false
  none-next f l i d x h e p q = ap (λ (n : ℕ). any f (take n l)) (add-one i) ∙ any-take f l i d h ∙ ap₂ ◌||◌ p (ap f (sym e) ∙ q)

  -- none at all
  pub none-all : (f : A → Bool) (l : List A) (i : ℕ) → i ≡ length l → any f (take i l) ≡ false → any f l ≡ false
  none-all f l i e p = ap (any f) (sym (ap (λ (n : ℕ). take n l) e ∙ take-length l)) ∙ p

  -- the first one
  pub first_some : (f : A → Bool) (l : List A) (i : ℕ) (d : A) → i < length l → any f (take i l) ≡ false → f (get_or l i d) ≡ true → any f l ≡ true
  first_some f l i d h p q =
      ap (any f) (sym (take-append-drop (suc i) l)) ∙ any_append f (take (suc i) l) (drop (suc i) l)
      ∙ ap (λ b. b || any f (drop (suc i) l)) (any-take f l i d h ∙ ap₂ ◌||◌ p q)

pub keep_append : {B : Type 0} (o : Option B) (s t : List B) → keep o s ++ t ≡ keep o (s ++ t)
keep_append none s t = refl
keep_append (some b) s t = refl

module _ {A B : Type 0} where
  pub picked-append : (f : A → Option B) (s t : List A) → picked f (s ++ t) ≡ picked f s ++ picked f t
  picked-append f [] t = refl
  picked-append f (x ∷ s) t = ap (keep (f x)) (picked-append f s t) ∙ sym (keep_append (f x) (picked f s) (picked f t))
