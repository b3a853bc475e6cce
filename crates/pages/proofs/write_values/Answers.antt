-- One value more, and all of them.
use mathlib.Core.Path.{refl, subst}
use Prim.Native.Nat.{ℕ, ◌*◌}
use native.Mathlib.Omega.{arith}
use Rattle.pages_spec.specs.Pages.{page_of, page_length}
use Rattle.pages.specs.Paged.{Fills}
use Rattle.pages.proofs.Filled.{value-laid}
use Rattle.pages.proofs.write_values.Goals as goal

pub put_word-requires : goal.put_word-requires
unfolding page_length
put_word-requires c = omega (arith, c.requires, c.loop-i.invariant.long)

pub loop-i-init : goal.loop-i-init
loop-i-init c = record { front = refl; beyond = refl; long = refl }

pub loop-i-preserved : goal.loop-i-preserved
loop-i-preserved c =
    value-laid c.args.values.now c.args.page.now c.loop-i.page _ c.loop-i.i (8 * c.loop-i.i) refl (omega arith) c.requires c.loop-i.invariant c.put_word.ensures

pub returns : goal.returns
returns c =
    subst (λ (k : ℕ). Fills (page_of c.args.values.now) (8 * k) c.args.page.now c.loop-i.page) (omega arith) c.loop-i.invariant
