-- A value, counted from a unit n positions lower, stands for the same numbers.
use mathlib.Core.Path.{◌≡◌, sym, ap, ◌∙◌}
use mathlib.Core.Bool.{Bool, true, false}
use Prim.Native.Nat.{ℕ, suc, ◌+◌, ◌*◌, ◌^◌}
use native.Mathlib.Nat.{mul_assoc, mul-lt-mul_of_pos_right}
use lib.Pow.{pow-add, pow_pos}
use Rattle.exact.specs.declared.Unrounded.{Unrounded}
use Rattle.exact.specs.Unrounded.{significand_of, StandsAt, Stands, raised_by}

units : (m p n : ℕ) → m * 2 ^ p * 2 ^ n ≡ m * 2 ^ (p + n)
units m p n = mul_assoc m (2 ^ p) (2 ^ n) ∙ ap (λ (z : ℕ). m * z) (sym (pow-add 2 p n))

pub stands-raised : (v : Unrounded) (n x : ℕ) → Stands v x → Stands (raised_by n v) (x * 2 ^ n)
stands-raised v n x h = go v.sticky h
  where
    go : (b : Bool) → StandsAt b (significand_of v) (2 ^ v.position) x
        → StandsAt b (significand_of v) (2 ^ (v.position + n)) (x * 2 ^ n)
    go false e = ap (λ (z : ℕ). z * 2 ^ n) e ∙ units (significand_of v) v.position n
    go true e = (
      rw (sym (units (significand_of v) v.position n)) (mul-lt-mul_of_pos_right e.0 (pow_pos n)),
      rw (sym (units (suc (significand_of v)) v.position n)) (mul-lt-mul_of_pos_right e.1 (pow_pos n)),
    )
