-- One value more, and all of them.
use mathlib.Core.Path.{sym, ap, ap₂, ◌∙◌}
use mathlib.Core.List.{List, [], ◌∷◌}
use Prim.Native.Nat.{ℕ, ◌≤◌, ◌<◌}
use native.Mathlib.Numerals.{add-one}
use native.Mathlib.Omega.{arith}
use lib.ListN.{length, take}
use lib.Seq.{take_all}
use Rattle.totals_spec.specs.Basics.{least}
use Rattle.totals_spec.specs.entries.Bytes.{values_in}
use Rattle.totals_spec.specs.chain.Limit.{low_of}
use Rattle.pages_spec.specs.Pages.{page_items}
use Rattle.totals_spec.specs.terms.Terms.{terms}
use Rattle.totals_spec.proofs.entries.ValuesInBytes.{values_length}
use Rattle.pages.proofs.Filled.{bottom-next}
use Rattle.pages.proofs.bottom.Goals as goal

pub loop-i-preserved : goal.loop-i-preserved
loop-i-preserved c =
    let l = values_in c.args.values.now in
    let i = c.loop-i.i in
    let less : i < length l = omega (arith, values_length c.args.values.now) in
    c.lower-low.ensures
    ∙ ap₂ (λ (m x : ℕ). least m low_of (terms (page_items (x ∷ [])))) c.loop-i.invariant c.word_at.ensures
    ∙ sym (bottom-next c.args.top l i less)
    ∙ ap (λ (k : ℕ). least c.args.top low_of (terms (page_items (take k l)))) (sym (add-one i))

pub returns : goal.returns
returns c =
    let l = values_in c.args.values.now in
    let all : length l ≤ c.loop-i.i = omega (arith, values_length c.args.values.now) in
    c.loop-i.invariant ∙ ap (λ (s : List ℕ). least c.args.top low_of (terms (page_items s))) (take_all c.loop-i.i l all)
