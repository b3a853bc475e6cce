-- What a number of n words becomes where x is added to it or taken off it, whole windows of 2^64 to
-- the n left out.
use Rattle.std.specs.Prelude.{◌≡◌, ℕ, ◌+◌, ◌*◌, ◌^◌, Bool, true, false}

pub record Raised (n old new x : ℕ) : Type 0 where
  pub over : ℕ
  pub is : new + over * 2 ^ (64 * n) ≡ old + x

pub record Lowered (n old new x : ℕ) : Type 0 where
  pub over : ℕ
  pub is : new + x ≡ old + over * 2 ^ (64 * n)

abbrev pub Moved : Bool → ℕ → ℕ → ℕ → ℕ → Type 0
Moved false n old new x = Raised n old new x
Moved true n old new x = Lowered n old new x
