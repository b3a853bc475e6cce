-- A page opens where its length and each summary are those of the number of values that its trailer tells.
use mathlib.Core.Path.{◌≡◌, refl, sym, subst}
use mathlib.Core.Logic.{◌≢◌}
use mathlib.Core.Bool.{Bool, true, false}
use mathlib.Core.List.{List}
use Prim.Native.Nat.{ℕ}
use native.Mathlib.Omega.{arith}
use lib.ListN.{length}
use Rattle.std.specs.Prelude.{◌↔◌, IsTrue}
use Rattle.std.specs.Bool.{then_some}
use Rattle.pages_spec.specs.Pages.{groups, page_length, count_in, opens}
use Rattle.pages_spec.proofs.PartsOfAPage.{AllBytes, Parts, open-parts, parts-open}
use Rattle.pages_spec.proofs.Pages.{trailer-count, open-trails}
use Rattle.pages.specs.Paged.{Trails, AllStand, Opens}
use Rattle.pages.proofs.Opening.{not-open}
use Rattle.pages.proofs.open.Goals as goal

-- a page that ends in the trailer of n values
module _ (page : List ℕ) (n : ℕ) (t : Trails page n) where
  count : count_in page ≡ n
  count = trailer-count n page t.0 t.1

  parts : opens page ≡ true → Parts n page
  parts o = subst (λ (m : ℕ). Parts m page) count (open-parts page o)

  other-length : length page ≢ page_length n → opens page ≡ false
  other-length k = not-open page (λ o. k (parts o).long)

  by-summaries : AllBytes page → length page ≡ page_length n → (r : Bool) → IsTrue r ↔ AllStand n page (groups n) → Opens page (then_some r n)
  by-summaries f long true h =
      let whole : Parts n page = record { few = t.0; long = long; trails = t.1; stands = h.0 refl } in
      (parts-open page f (subst (λ (m : ℕ). Parts m page) (sym count) whole), sym count)
  by-summaries f long false h = not-open page (λ o. let told : false ≡ true = h.1 (parts o).stands in cc)

pub returns-in_err-count : goal.returns-in_err-count
returns-in_err-count c =
    let p = c.args.page.now in
    rw c.from_residual.ensures (not-open p (λ o. c.in_err-count.ensures (count_in p) ((open-parts p o).few, open-trails p o)))

pub returns-then-page-page_length : goal.returns-then-page-page_length
returns-then-page-page_length c =
    other-length c.args.page.now c.in_ok-count.count c.in_ok-count.ensures (λ e. omega (arith, e, c.if-page-page_length.true, c.page_length.ensures))

pub returns : goal.returns
returns c =
    rw c.then_some.ensures
    (by-summaries c.args.page.now c.in_ok-count.count c.in_ok-count.ensures (λ k. omega (arith, c.type_inv.page k))
    (omega (arith, c.if-page-page_length.false, c.page_length.ensures)) c.all_stand.result c.all_stand.ensures)
