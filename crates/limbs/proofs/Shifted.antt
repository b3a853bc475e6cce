-- A word shifted left, with what is carried in and out.
use Rattle.std.proofs.Common.{◌≡◌, ℕ, ◌+◌, ◌-◌, ◌*◌, ◌/◌, ◌%◌, ◌^◌, ◌<◌, sym, ap, ◌∙◌, subst, ap₂, add-zero, le_of_lt}
use Rattle.std.proofs.Common.{add-sub_of_le, div-add-mod', sub-add_cancel, mul-div_cancel, arith, pow_pos}
use Rattle.std.proofs.Common.{pow-add, shr_lt}
use native.Mathlib.Nat.{mul-mod_left, div-div-eq-div-mul, pow-succ'}
use lib.Arith.{mod-mul}
use lib.Bits.{bit_or, or_shifted}

-- what a shift left keeps
kept : (n P Q M : ℕ) → 0 < P → 0 < Q → P * Q ≡ M → n * Q % M ≡ n % P * Q
kept n P Q M p q e =
    ap (λ (m : ℕ). n * Q % m) (sym e) ∙ mod-mul (n * Q) p q
    ∙ ap₂ (λ (x y : ℕ). x % P * Q + y) (mul-div_cancel n q) (mul-mod_left n Q) ∙ add-zero (n % P * Q)

pub shl-law : (a c o : ℕ) → a < 2 ^ 64 → o < 64 → c < 2 ^ o
    → (bit_or ((a * 2 ^ o) % 2 ^ 64) c + a / 2 / 2 ^ (63 - o) * 2 ^ 64 ≡ a * 2 ^ o + c) × (a / 2 / 2 ^ (63 - o) < 2 ^ o)
shl-law a c o h l k =
    let P = 2 ^ o in
    let Q = 2 ^ (64 - o) in
    let e : Q * P ≡ 2 ^ 64 = sym (pow-add 2 (64 - o) o) ∙ ap (λ (n : ℕ). 2 ^ n) (sub-add_cancel (le_of_lt l)) in
    let d : a / 2 / 2 ^ (63 - o) ≡ a / Q = div-div-eq-div-mul a 2 (2 ^ (63 - o))
    ∙ ap (λ (n : ℕ). a / n) (sym (pow-succ' 2 (63 - o)) ∙ ap (λ (n : ℕ). 2 ^ n) (omega arith)) in
    rw d (
      ap (λ (x : ℕ). x + a / Q * 2 ^ 64) (ap (λ (x : ℕ). bit_or x c) (kept a Q P (2 ^ 64) (pow_pos (64 - o)) (pow_pos o) e) ∙ or_shifted (a % Q) o c k)
          ∙ joined a c P Q (2 ^ 64) e,
      shr_lt o (64 - o) (subst (λ (n : ℕ). a < 2 ^ n) (sym (add-sub_of_le (le_of_lt l))) h),
    )
  where
    joined : (a c P Q M : ℕ) → Q * P ≡ M → a % Q * P + c + a / Q * M ≡ a * P + c
    joined a c P Q M e = omega (arith, ap (λ (x : ℕ). x * P) (div-add-mod' a Q), ap (λ (x : ℕ). a / Q * x) e)
