-- `all` asks whether each summary stands, up to the first that does not.
use mathlib.Core.Path.{refl, sym, subst, ◌∙◌}
use mathlib.Core.Bool.{Bool, true, false}
use Prim.Native.Nat.{ℕ, ◌<◌, zero-le}
use native.Mathlib.Nat.{zero-add}
use native.Mathlib.Omega.{arith}
use lib.ListN.{length}
use Rattle.std.proofs.Common.{rules}
use Rattle.std.proofs.lemmas.Iterator.{cases_from_all, YieldsList-from_range}
use Rattle.std.proofs.lemmas.List.FromFn.{get_or-range_with_len, length-range_with_len}
use Rattle.std.specs.Prelude.{◌↔◌, IsTrue}
use Rattle.std.specs.Bool.{MatchBool}
use Rattle.std.specs.List.{range_with_len, AllWithin, HoldsAt}
use Rattle.pages_spec.proofs.PartsOfAPage.{Stands}
use Rattle.pages.proofs.Page.all_stand.Goals as goal

each_below : (P : ℕ → Type 0) (n : ℕ) (r : Bool)
    → MatchBool r (AllWithin P (range_with_len 0 n) 0 (length (range_with_len 0 n)))
    ((k : ℕ) × (k < length (range_with_len 0 n)) × HoldsAt (λ g. ¬ P g) (range_with_len 0 n) k)
    → IsTrue r ↔ ((g : ℕ) → g < n → P g)
each_below P n true h =
    (λ _ g k. subst P (get_or-range_with_len 0 n g 0 k ∙ zero-add g) (h g 0 zero-le (rw length-range_with_len k)), λ _. refl)
each_below P n false (k, less, fails) =
    let below : k < n = rw length-range_with_len at less in
    (λ e. absurd (let z : ⊥ = cc in z), λ all. absurd (fails 0 (subst P (sym (get_or-range_with_len 0 n k 0 below ∙ zero-add k)) (all k below))))

pub returns : goal.returns
returns c =
    let p = c.args.self.now in
    let P = λ (g : ℕ). Stands p.count p.bytes.now g in
    rw (← c.groups_of.ensures)
    (each_below P c.groups_of.result c.all.result
    (cases_from_all _ _ c.all.result P (λ (g : ℕ). ¬ P g) c.all.ensures.ran (YieldsList-from_range 0 c.groups_of.result c.groups_of.result refl (omega arith))
    (λ x q k. search rules) (λ x q k. search rules)))
