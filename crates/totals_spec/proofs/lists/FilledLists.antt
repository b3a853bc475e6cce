-- A lent list that is filled from the front, one element at a time; and tests that no element
-- passes.
use mathlib.Core.Path.{◌≡◌, refl, sym, ap, ◌∙◌, subst}
use mathlib.Core.List.{List, [], ◌∷◌, ◌++◌}
use Prim.Native.Nat.{ℕ, suc, ◌+◌, ◌<◌, ◌≤◌}
use lib.ListN.{length, drop, get_or, set, length-append, length-drop, take, take-append-drop}
use lib.ListN.{get_or-append}
use lib.Seq.{drop-cons, set_at, append_snoc, drop_at}
use native.Mathlib.Omega.{arith}
use mathlib.Core.Bool.{Bool, true, false, cond, ◌||◌}
use lib.Dec.{T}
use Rattle.totals_spec.specs.entries.Words.{filled}
use Rattle.totals_spec.specs.Basics.{any}
use Rattle.totals_spec.proofs.lists.FirstElements.{any_append}

-- ---- a lent list, filled total by total

-- one total more: `now` is the list that holds the totals so far
pub fill-next : (now totals old : List ℕ) (x : ℕ) → now ≡ totals ++ drop (length totals) old → length totals < length old
    → set now (length totals) x ≡ (totals ++ (x ∷ [])) ++ drop (suc (length totals)) old
fill-next now totals old x e h =
    let n = length totals in
    ap (λ (l : List ℕ). set l n x) (e ∙ ap (λ (r : List ℕ). totals ++ r) (drop-cons old n 0 h))
    ∙ set_at totals (get_or old n 0) (drop (suc n) old) x n refl
    ∙ sym (append_snoc totals x (drop (suc n) old))

-- and the same where the totals are counted
pub filled_next : (now totals old : List ℕ) (x n : ℕ) → now ≡ filled totals old → length totals ≡ n → n < length old
    → set now n x ≡ filled (totals ++ (x ∷ [])) old
filled_next now totals old x n e long h =
    ap (λ (k : ℕ). set now k x) (sym long) ∙ fill-next now totals old x e (omega (arith, long, h))
    ∙ ap (λ (k : ℕ). (totals ++ (x ∷ [])) ++ drop k old) one
  where
    one : suc (length totals) ≡ length (totals ++ (x ∷ []))
    one = omega (arith, length-append totals (x ∷ []))

-- filled or left: its length, and what lies beyond n totals
pub kept : (b : Bool) (totals old : List ℕ) (n : ℕ) → length totals ≡ n → (T b → n ≤ length old)
    → (length (cond b (filled totals old) old) ≡ length old) × (drop n (cond b (filled totals old) old) ≡ drop n old)
kept true totals old n e h = (
  omega (arith, length-append totals (drop (length totals) old), length-drop (length totals) old, e, h tt),
  drop_at totals (drop (length totals) old) n e ∙ ap (λ (k : ℕ). drop k old) e,
)
kept false totals old n e h = (refl, refl)

-- ---- rows and columns of cells that the plain sum accepts are accepted

pub neither : (a b : Bool) → (a || b) ≡ false → (a ≡ false) × (b ≡ false)
neither true b e = absurd (subst T e tt)
neither false b e = (refl, e)

module _ (t : ℕ → Bool) where
  pub none-of-parts : (n : ℕ) (l : List ℕ) → any t l ≡ false → (any t (take n l) ≡ false) × (any t (drop n l) ≡ false)
  none-of-parts n l e =
      neither (any t (take n l)) (any t (drop n l)) (sym (any_append t (take n l) (drop n l)) ∙ ap (any t) (take-append-drop n l) ∙ e)

-- a total of the n in a filled list
pub filled_at : (totals old : List ℕ) (n i : ℕ) → length totals ≡ n → i < n → get_or (filled totals old) i 0 ≡ get_or totals i 0
filled_at totals old n i e h = get_or-append totals (drop (length totals) old) 0 i (omega (arith, e, h))
