-- A term's words after its shift, and their complement.
use Rattle.std.proofs.Common.{◌≡◌, ℕ, ◌+◌, ◌-◌, ◌*◌, ◌^◌, ◌<◌, ◌≤◌, Bool, true, false, cond, sym, refl, ap, ◌∙◌}
use Rattle.std.proofs.Common.{mul_assoc, add-mul, add_comm, zero-add, arith, pow-add}
use Rattle.limbs.specs.declared.word.Place.{Place}
use Rattle.limbs.specs.Splits.{Splits}
use Rattle.limbs.specs.Value.{term}
use Rattle.limbs.proofs.Digits.{placed}
use Rattle.limbs.specs.declared.term.Laid.{Laid}
use Rattle.limbs.specs.declared.term.Placed.{Placed}
use Rattle.limbs.specs.Placed.{laid, Makes}
use Rattle.limbs.specs.Flipped.{flip}

-- shifted by the place in the word, a term of the words low and high has the words w₀, w₁ and w₂
pub term_words : (m low high w₀ w₁ w₂ c : ℕ) {shift : ℕ} {p : Place} → Splits shift p → high * 2 ^ 64 + low ≡ m
    → w₀ + c * 2 ^ 64 ≡ low * 2 ^ p.bit + 0 → w₁ + w₂ * 2 ^ 64 ≡ high * 2 ^ p.bit + c
    → (w₀ + (w₁ + w₂ * 2 ^ 64) * 2 ^ 64) * 2 ^ (64 * p.word) ≡ term m shift
term_words m low high w₀ w₁ w₂ c {shift} {p} s d e f =
    ap (λ (x : ℕ). x * 2 ^ (64 * p.word)) (joined (2 ^ 64) (2 ^ p.bit) e f)
    ∙ ap (λ (x : ℕ). x * 2 ^ p.bit * 2 ^ (64 * p.word)) d
    ∙ mul_assoc m (2 ^ p.bit) (2 ^ (64 * p.word))
    ∙ ap (λ (x : ℕ). m * x) (sym (pow-add 2 p.bit (64 * p.word)) ∙ ap (λ (x : ℕ). 2 ^ x) (add_comm p.bit (64 * p.word) ∙ placed s))
  where
    joined : (M P : ℕ) → w₀ + c * M ≡ low * P + 0 → w₁ + w₂ * M ≡ high * P + c → w₀ + (w₁ + w₂ * M) * M ≡ (high * M + low) * P
    joined M P e f = omega (arith, ap (λ (x : ℕ). x * M) f)

-- the complement of the three words, and 1, make with the term the next word above
complement : (M c₀ c₁ c₂ w₀ w₁ w₂ : ℕ) → c₀ + w₀ + 1 ≡ M → c₁ + w₁ + 1 ≡ M → c₂ + w₂ + 1 ≡ M
    → 1 + (c₀ + (c₁ + c₂ * M) * M) + (w₀ + (w₁ + w₂ * M) * M) ≡ M * M * M
complement M c₀ c₁ c₂ w₀ w₁ w₂ e f g = omega (arith, ap (λ (x : ℕ). x * M) f, ap (λ (x : ℕ). x * M * M) g)

word-complement : (w : ℕ) → w < 2 ^ 64 → 18446744073709551615 - w + w + 1 ≡ 2 ^ 64
word-complement w h = omega arith

complemented : (at w₀ w₁ w₂ t : ℕ) → w₀ < 2 ^ 64 → w₁ < 2 ^ 64 → w₂ < 2 ^ 64 → (w₀ + (w₁ + w₂ * 2 ^ 64) * 2 ^ 64) * 2 ^ (64 * at) ≡ t
    → (1 + (18446744073709551615 - w₀ + (18446744073709551615 - w₁ + (18446744073709551615 - w₂) * 2 ^ 64) * 2 ^ 64)) * 2 ^ (64 * at) + t ≡ 2 ^ (64 * (at + 3))
complemented at w₀ w₁ w₂ t h₀ h₁ h₂ e =
    let c = 1 + (18446744073709551615 - w₀ + (18446744073709551615 - w₁ + (18446744073709551615 - w₂) * 2 ^ 64) * 2 ^ 64) in
    ap (λ (x : ℕ). c * 2 ^ (64 * at) + x) (sym e) ∙ sym (add-mul c (w₀ + (w₁ + w₂ * 2 ^ 64) * 2 ^ 64) (2 ^ (64 * at)))
    ∙ ap (λ (x : ℕ). x * 2 ^ (64 * at)) (complement (2 ^ 64) _ _ _ w₀ w₁ w₂ (word-complement w₀ h₀) (word-complement w₁ h₁) (word-complement w₂ h₂))
    ∙ sym (pow-add 2 192 (64 * at)) ∙ ap (λ (x : ℕ). 2 ^ x) (omega arith)

-- ---- the words of a term that is added or taken off

pub one-if-small : (neg : Bool) {b : ℕ} → b ≡ cond neg 1 0 → b ≤ 1
one-if-small false e = omega arith
one-if-small true e = omega arith

pub placed-as : (neg : Bool) (l : Laid) (p : Placed) → p.at ≡ l.at → p.w0 ≡ flip neg l.v0 → p.w1 ≡ flip neg l.v1 → p.w2 ≡ flip neg l.v2
    → p.carry ≡ cond neg 1 0 → l.v0 < 2 ^ 64 → l.v1 < 2 ^ 64 → l.v2 < 2 ^ 64 → Makes neg p (laid l)
placed-as false l p a e₀ e₁ e₂ e h₀ h₁ h₂ = (e, rw (a, e₀, e₁, e₂, e) (ap (λ (x : ℕ). x * 2 ^ (64 * l.at)) (zero-add _)))
placed-as true l p a e₀ e₁ e₂ e h₀ h₁ h₂ = (e, rw (a, e₀, e₁, e₂, e) (complemented l.at l.v0 l.v1 l.v2 _ h₀ h₁ h₂ refl))
