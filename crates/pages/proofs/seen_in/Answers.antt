-- One value more, and all of them.
use mathlib.Core.Path.{sym, ap, ap₂, ◌∙◌}
use mathlib.Core.List.{[], ◌∷◌}
use Prim.Native.Nat.{ℕ, ◌≤◌, ◌<◌}
use native.Mathlib.Numerals.{add-one}
use native.Mathlib.Omega.{arith}
use lib.ListN.{length, take}
use lib.Seq.{take_all}
use Rattle.totals_spec.specs.entries.Bytes.{values_in}
use Rattle.totals_spec.specs.terms.Terms.{top_of}
use Rattle.totals_spec.proofs.entries.ValuesInBytes.{values_length}
use Rattle.pages.specs.declared.Content.{Content}
use Rattle.pages.specs.Paged.{seen_of, both}
use Rattle.pages.proofs.Gathering.{seen_next}
use Rattle.pages.proofs.seen_in.Goals as goal

-- nothing is seen of no values
pub loop-i-init : goal.loop-i-init
unfolding top_of
loop-i-init c =
    let h = c.default-seen.ensures in
    λ i. record { top = h.0 i; nan = h.1.0 i; infinite = h.1.1.0 i; zero = h.1.1.1 i }

pub loop-i-preserved : goal.loop-i-preserved
loop-i-preserved c =
    let l = values_in c.args.values.now in
    let i = c.loop-i.i in
    let less : i < length l = omega (arith, values_length c.args.values.now) in
    c.note.ensures
    ∙ ap₂ (λ (s : Content) (x : ℕ). both s (seen_of (x ∷ []))) c.loop-i.invariant c.word_at.ensures
    ∙ sym (seen_next l i less)
    ∙ ap (λ (k : ℕ). seen_of (take k l)) (sym (add-one i))

pub returns : goal.returns
returns c =
    let l = values_in c.args.values.now in
    let all : length l ≤ c.loop-i.i = omega (arith, values_length c.args.values.now) in
    c.loop-i.invariant ∙ ap seen_of (take_all c.loop-i.i l all)
