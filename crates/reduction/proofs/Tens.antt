-- How many values of ten bytes there are.
use mathlib.Core.Path.{◌≡◌}
use mathlib.Core.List.{List}
use Prim.Native.Nat.{ℕ, ◌/◌}
use lib.ListN.{length}
use Rattle.totals_spec.specs.ten_bytes.Extended.{tens_in}
use Rattle.totals_spec.proofs.ten_bytes.Calls.{tens-values}

pub tens_length : (bytes : List ℕ) → length (tens_in bytes) ≡ length bytes / 10
tens_length bytes = (tens-values bytes).0
