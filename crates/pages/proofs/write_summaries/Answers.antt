-- One summary more.
use mathlib.Core.Path.{refl, sym, subst}
use Prim.Native.Nat.{ℕ, ◌+◌, ◌*◌, ◌≤◌, ◌<◌}
use native.Mathlib.Omega.{arith}
use lib.ListN.{length}
use Rattle.totals_spec.specs.entries.Bytes.{values_from}
use Rattle.totals_spec.specs.chain.Limit.{ceil_div}
use Rattle.pages_spec.specs.Pages.{groups, page_of, page_length}
use Rattle.pages_spec.proofs.PartsOfAPage.{AllBytes}
use Rattle.pages.specs.Paged.{Fills}
use Rattle.pages.proofs.Laying.{front-is, summary-laid}
use Rattle.pages.proofs.Opening.{trailer-least}
use Rattle.pages.proofs.write_summaries.Goals as goal

pub loop-g-init : goal.loop-g-init
unfolding page_length
loop-g-init c =
    let a = c.args in
    let p = a.page.now in
    let b : AllBytes p = λ k. omega (arith, c.type_inv.page k) in
    record {
      first = b;
      bytes = b;
      filled = subst (λ (k : ℕ). Fills (page_of (values_from a.count p)) k p p) (omega arith)
          (record { front = sym (front-is a.count p b (omega (arith, c.requires.1))); beyond = refl; long = refl });
    }

pub invariant_of-group : goal.invariant_of-group
invariant_of-group c = record {
  few = c.requires.0;
  room = omega (arith, c.requires.1, c.loop-g.invariant.filled.long);
  fit = c.loop-g.invariant.bytes;
}

pub loop-g-preserved : goal.loop-g-preserved
unfolding ceil_div page_length
loop-g-preserved c =
    let a = c.args in
    let g = c.loop-g.g in
    let h = c.loop-g.invariant in
    let less : 64 * g < a.count = omega (arith, c.groups_of-g-end.ensures) in
    let room : 8 * a.count + 12 * groups a.count + 16 ≤ length a.page.now = omega (arith, c.requires.1, trailer-least a.count) in
    record {
      first = h.first;
      bytes = λ k. omega (arith, c.type_inv.page k);
      filled = summary-laid a.count g a.page.now c.loop-g.page h.first less room c.group-summary.result c.group-summary.ensures h.filled
          (8 * a.count + 12 * g) refl _ _ c.put_word.ensures c.put_word-in-loop-g.ensures;
    }
