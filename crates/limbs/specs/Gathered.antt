-- What a list of addends makes of a number of n words.
use Rattle.std.specs.Prelude.{◌≡◌, ℕ, ◌+◌, ◌*◌, ◌^◌, cond, false}
use Rattle.limbs.specs.declared.run.Addend.{Addend}

abbrev pub no_addend : Addend
no_addend = record { negative = false; significand = 0; shift = 0 }

abbrev pub added : Addend → ℕ
added a = cond a.negative 0 (a.significand * 2 ^ a.shift)

abbrev pub taken : Addend → ℕ
taken a = cond a.negative (a.significand * 2 ^ a.shift) 0

-- plus is added and minus taken off, whole windows of 2^64 to the n left out
pub record Gathered (n old new plus minus : ℕ) : Type 0 where
  pub over : ℕ
  pub under : ℕ
  pub is : new + minus + over * 2 ^ (64 * n) ≡ old + plus + under * 2 ^ (64 * n)
