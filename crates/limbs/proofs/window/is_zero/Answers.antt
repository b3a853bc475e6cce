use Rattle.std.proofs.Common.{◌≡◌, ℕ, ◌<◌, Bool, true, false, MatchBool, List, length, eqb, sym, eq-eqb, ne_eqb, zero-le, rules, tests}
use Rattle.std.specs.List.{HoldsAt, AllWithin}
use Rattle.std.proofs.lemmas.Iterator.{cases_from_all, YieldsList-from_slice}
use Rattle.limbs.specs.Value.{value}
use Rattle.limbs.proofs.Words.{some_word}
use Rattle.limbs.proofs.TwoHighest.{all-zeros}
use Rattle.limbs.proofs.window.is_zero.Goals as goal

-- each word is 0, or one is not
abbrev Cases : Bool → List ℕ → Type 0
Cases r l = MatchBool r (AllWithin (λ w. w ≡ 0) l 0 (length l)) ((k : ℕ) × (k < length l) × HoldsAt (λ w. w ≡ 0 → ⊥) l k)

decided : (l : List ℕ) (r : Bool) → Cases r l → r ≡ eqb (value l) 0
decided l true h = sym (eq-eqb (value l) 0 (all-zeros l (λ k b. h k 0 zero-le b)))
decided l false h = sym (ne_eqb (value l) 0 (some_word l h.0 (h.2 0)))

pub returns : goal.returns
returns c =
    let l = c.args.window in
    decided l c.all.result
    (cases_from_all _ _ c.all.result (λ w. w ≡ 0) (λ w. w ≡ 0 → ⊥) c.all.ensures.ran (YieldsList-from_slice l cc)
    (λ x q k. search (rules, tests)) (λ x q k. search (rules, tests)))
