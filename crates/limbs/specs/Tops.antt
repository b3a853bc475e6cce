-- The magnitude of a number in two's complement, and what its two highest words say of it.
use Rattle.std.specs.Prelude.{◌≡◌, ℕ, ◌+◌, ◌-◌, ◌*◌, ◌^◌, ◌<◌, Bool, true, false, cond, List, length}
use Rattle.limbs.specs.Value.{value}
use Rattle.limbs.specs.declared.run.Top.{Top}

-- modulo 2^64 to the number of the words
abbrev pub magnitude_in : Bool → List ℕ → ℕ
magnitude_in negative l = cond negative (2 ^ (64 * length l) - value l) (value l)

abbrev pub StandsAt : Bool → ℕ → ℕ → ℕ → Type 0
StandsAt false m unit x = x ≡ m * unit
StandsAt true m unit x = (m * unit < x) × (x < (m + 1) * unit)

abbrev pub Stands : Top → ℕ → Type 0
Stands t x = StandsAt t.sticky (t.low + t.high * 2 ^ 64) (2 ^ (64 * t.at)) x
