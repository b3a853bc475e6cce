-- The bytes of a group have its values.
use mathlib.Core.Path.{ap, ◌∙◌, subst}
use mathlib.Core.List.{List}
use Prim.Native.Nat.{ℕ, ◌-◌, ◌*◌}
use native.Mathlib.Omega.{arith}
use lib.ListN.{take, drop}
use Rattle.totals_spec.specs.entries.Bytes.{values_in}
use Rattle.pages_spec.specs.Pages.{page_length}
use Rattle.pages_spec.proofs.PartsOfAPage.{group-bytes}
use Rattle.pages.specs.Paged.{Summarized}
use Rattle.pages.proofs.Page.group.Goals as goal

pub returns : goal.returns
unfolding page_length
returns c =
    let p = c.args.self.now in
    let g = c.args.g in
    subst (λ (l : List ℕ). Summarized l c.of.result)
    (ap (λ (k : ℕ). values_in (take (8 * k - 8 * (64 * g)) (drop (8 * (64 * g)) p.bytes.now))) c.min-end.ensures
    ∙ group-bytes p.count g p.bytes.now (omega arith) (omega (arith, p.room)))
    c.of.ensures
