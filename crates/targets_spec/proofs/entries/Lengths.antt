-- The length of a list of values, by their kind.
use mathlib.Core.Logic.{◌↔◌}
use mathlib.Core.List.{List}
use Prim.Native.Nat.{ℕ, ◌%◌, ◌≤◌}
use lib.Dec.{T}
use lib.ListN.{length}
use mathlib.Core.Path.{◌≡◌}
use native.Mathlib.Omega.{arith}
use borrow.Author.Tests.{ne_eqb}
use Rattle.totals_spec.proofs.refusals.Exactly.{different}
use Rattle.targets_spec.specs.entries.Lengths.{value_size, cut_short, CutShort}

pub cut-found : (k : ℕ) (bytes : List ℕ) → T (cut_short k bytes) ↔ CutShort k bytes
cut-found k bytes = different (length bytes % value_size k) 0

-- of a kind that is offered a value has eight bytes
pub offered-size : (k : ℕ) → k ≤ 3 → value_size k ≡ 8
offered-size k h = rw (ne_eqb k 4 (λ e. omega (arith, e, h)))
