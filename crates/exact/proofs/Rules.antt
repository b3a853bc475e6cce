-- The rounding rules by the mode's number, and tests of settings.
use mathlib.Core.Path.{◌≡◌, refl}
use mathlib.Core.Bool.{Bool, true, false, ◌&&◌, cond}
use Prim.Native.Nat.{ℕ, zero, suc, ◌+◌, ◌≤◌}
use native.Mathlib.Nat.{le_refl}
use native.Mathlib.Omega.{arith}
use Rattle.totals_spec.specs.Basics.{flag, is_set}
use Rattle.exact.specs.Unrounded.{underflow_of}
use Rattle.exact.specs.declared.rounding.Underflow.TheVariants.{Flushed, Kept}

pub set_on : (n : ℕ) → (n ≡ 0 → ⊥) → is_set n ≡ true
set_on zero h = absurd (h refl)
set_on (suc n) h = refl

-- ---- the flags of a result that may be tiny

pub is-flushed : (t i z : Bool) (n : ℕ) → underflow_of t i z ≡ Flushed n → ((t && z) ≡ true) × (n ≡ 56)
is-flushed t i z n = go (t && z)
  where
    go : (b : Bool) → cond b (Flushed 56) (Kept (flag 32 t + flag 16 i + flag 8 (t && i))) ≡ Flushed n → (b ≡ true) × (n ≡ 56)
    go true e = (refl, cc)
    go false e = absurd (let z : ◌≡◌ {A = ℕ} 0 1 = cc in omega arith)

pub record KeptFlags (t i z : Bool) (n : ℕ) : Type 0 where
  pub off : (t && z) ≡ false
  pub are : n ≡ flag 32 t + flag 16 i + flag 8 (t && i)
  pub small : n ≤ 56

pub flag-le : (n : ℕ) (b : Bool) → flag n b ≤ n
flag-le n true = le_refl n
flag-le n false = omega arith

pub is-kept : (t i z : Bool) (n : ℕ) → underflow_of t i z ≡ Kept n → KeptFlags t i z n
is-kept t i z n e =
    let k = go (t && z) e in
    record { off = k.0; are = k.1; small = omega (arith, k.1, flag-le 32 t, flag-le 16 i, flag-le 8 (t && i)) }
  where
    go : (b : Bool) → cond b (Flushed 56) (Kept (flag 32 t + flag 16 i + flag 8 (t && i))) ≡ Kept n
        → (b ≡ false) × (n ≡ flag 32 t + flag 16 i + flag 8 (t && i))
    go true e = absurd (let z : ◌≡◌ {A = ℕ} 0 1 = cc in omega arith)
    go false e = (refl, cc)
