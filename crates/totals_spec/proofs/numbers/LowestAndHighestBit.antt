-- `low_bit` is the lowest set bit of a number, and `size` its bit length.
use mathlib.Core.Path.{sym, ap, ◌∙◌}
use Prim.Native.Nat.{ℕ, ◌%◌, ◌^◌}
use native.Mathlib.Nat.{mul-mod_left}
use native.Mathlib.Omega.{arith}
use lib.Ieee.Digits.{size-lt}
use Rattle.totals_spec.specs.chain.Limit.{low_bit}
use Rattle.totals_spec.specs.chain.Promises.{Low-bit}
use Rattle.totals_spec.specs.rounding.Promises.{Size-is-length}
use Rattle.totals_spec.proofs.numbers.Bits.{low-divides, low-set, size_none, size-one-less}

pub low-bit : Low-bit
low-bit m h = (ap (λ (x : ℕ). x % 2 ^ low_bit m) (sym (low-divides m)) ∙ mul-mod_left _ (2 ^ low_bit m), low-set m h)

pub size-is-length : Size-is-length
size-is-length = ((λ m h. (omega (arith, size-one-less m h), omega (arith, size-lt m))), size_none)
