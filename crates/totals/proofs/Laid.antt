-- Bytes laid behind bytes that are laid.
use mathlib.Core.Path.{◌≡◌, sym, ap, ap₂, ◌∙◌}
use mathlib.Core.List.{List, ◌++◌, append_assoc}
use Prim.Native.Nat.{ℕ, ◌+◌, ◌≤◌}
use native.Mathlib.Omega.{arith}
use lib.ListN.{length, take, drop, length-append}
use lib.Seq.{length-take-le, take_at, drop-append-add, drop-drop}
use Rattle.totals.specs.Laid.{laid_over}

-- more bytes t behind the bytes s that are laid
pub over-next : (l s t : List ℕ) (at : ℕ) → at + length s ≤ length l → laid_over (laid_over l at s) (at + length s) t ≡ laid_over l at (s ++ t)
over-next l s t at h =
    ap (λ (one : List ℕ). laid_over one k t) (sym (append_assoc (take at l) s rest))
    ∙ ap₂ (λ (a b : List ℕ). a ++ (t ++ b)) (take_at front rest k size) beyond
    ∙ append_assoc (take at l) s (t ++ drop (k + length t) l)
    ∙ ap (λ (r : List ℕ). take at l ++ r) (sym (append_assoc s t (drop (k + length t) l)) ∙ ap (λ (i : ℕ). (s ++ t) ++ drop i l) place)
  where
    k : ℕ
    k = at + length s

    rest : List ℕ
    rest = drop k l

    front : List ℕ
    front = take at l ++ s

    size : length front ≡ k
    size = omega (arith, length-append (take at l) s, length-take-le at l (omega (arith, h)))

    beyond : drop (k + length t) (front ++ rest) ≡ drop (k + length t) l
    beyond = ap (λ (i : ℕ). drop (i + length t) (front ++ rest)) (sym size) ∙ drop-append-add front rest (length t) ∙ drop-drop (length t) k l

    place : k + length t ≡ at + length (s ++ t)
    place = omega (arith, length-append s t)
