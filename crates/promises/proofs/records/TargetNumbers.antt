-- Each number of a target is looked up at its place.
use mathlib.Core.Path.{◌≡◌, refl, sym, ap, ◌∙◌}
use mathlib.Core.List.{List, ◌∷◌, ◌++◌}
use Prim.Native.Nat.{ℕ, ◌+◌}
use lib.ListN.{length, get_or}
use Rattle.std.proofs.lemmas.List.{get_or-append-add}
use Rattle.targets_spec.specs.several.Several.{answer_at}
use native.Mathlib.Nat.{add-zero}
use Rattle.promises.specs.TargetNumbers.{Target-numbers}

pub target-numbers : Target-numbers
unfolding answer_at
target-numbers f d l before after k e w n b r t p s z q u v =
    rw (at 1, at 2, at 3, at 4, at 5, at 6, at 7, at 8, at 9, at 10, at 11, at 12, first) refl
  where
    numbers : List ℕ
    numbers = k ∷ (e ∷ (w ∷ (n ∷ (b ∷ (r ∷ (t ∷ (p ∷ (s ∷ (z ∷ (q ∷ (u ∷ (v ∷ after))))))))))))

    at : (i : ℕ) → get_or (before ++ numbers) (length before + i) 0 ≡ get_or numbers i 0
    at i = get_or-append-add before numbers i 0

    first : get_or (before ++ numbers) (length before) 0 ≡ k
    first = ap (λ (i : ℕ). get_or (before ++ numbers) i 0) (sym (add-zero (length before))) ∙ at 0
