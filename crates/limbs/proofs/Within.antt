-- A term's words within a window.
use Rattle.std.proofs.Common.{◌≡◌, ℕ, ◌+◌, ◌-◌, ◌*◌, ◌%◌, ◌^◌, ◌<◌, ◌≤◌, Bool, true, false, sym, ap, ◌∙◌, lt_of_lt_of_le, mul-le-mul_right}
use Rattle.std.proofs.Common.{mod-eq_of_lt, mul-lt-mul_of_pos_right, zero-add, arith, lit<, lit≤, pow_pos, pow_mono, pow-add}
use Rattle.limbs.proofs.Step.{wrapped, far}
use Rattle.limbs.specs.declared.term.Laid.{Laid}
use Rattle.limbs.specs.declared.term.Placed.{Placed}
use Rattle.limbs.specs.Placed.{Room, Lays, Turns, Settles}
use Rattle.limbs.specs.Flipped.{flip}

-- the number of three words, the first of them at the word `at`
abbrev pub at-word : ℕ → ℕ → ℕ → ℕ → ℕ
at-word at v₀ v₁ v₂ = (v₀ + (v₁ + v₂ * 2 ^ 64) * 2 ^ 64) * 2 ^ (64 * at)

-- a number x of n bits from the word `at` on
within : (n at x : ℕ) → n + 64 * at ≤ 768 → x < 2 ^ n → x * 2 ^ (64 * at) < 2 ^ 768
within n at x h k = lt_of_lt_of_le (mul-lt-mul_of_pos_right {n = 2 ^ n} k (pow_pos (64 * at))) (rw (sym (pow-add 2 n (64 * at))) (pow_mono {j = 768} h))

-- one word below those of a number under A
below : (M A x y : ℕ) → x < M → y < A → x + y * M < A * M
below M A x y h k = omega (arith, mul-le-mul_right M k)

three : (at v₀ v₁ v₂ : ℕ) → at ≤ 9 → v₀ < 2 ^ 64 → v₁ < 2 ^ 64 → v₂ < 2 ^ 64 → at-word at v₀ v₁ v₂ < 2 ^ 768
three at v₀ v₁ v₂ h f₀ f₁ f₂ = within 192 at _ (omega arith) (below (2 ^ 64) (2 ^ 128) v₀ _ f₀ (below (2 ^ 64) (2 ^ 64) v₁ v₂ f₁ f₂))

two : (at v₀ v₁ : ℕ) → at ≤ 10 → v₀ < 2 ^ 64 → v₁ < 2 ^ 64 → at-word at v₀ v₁ 0 < 2 ^ 768
two at v₀ v₁ h f₀ f₁ = within 128 at _ (omega arith) (below (2 ^ 64) (2 ^ 64) v₀ _ f₀ (omega arith))

inside : {x : ℕ} (t : ℕ) → x < 2 ^ 768 → x ≡ t → x ≡ t % 2 ^ 768
inside t h e = sym (mod-eq_of_lt h) ∙ ap (λ (n : ℕ). n % 2 ^ 768) e

pub inside-three : (at v₀ v₁ v₂ t : ℕ) → at ≤ 9 → v₀ < 2 ^ 64 → v₁ < 2 ^ 64 → v₂ < 2 ^ 64 → at-word at v₀ v₁ v₂ ≡ t → at-word at v₀ v₁ v₂ ≡ t % 2 ^ 768
inside-three at v₀ v₁ v₂ t h f₀ f₁ f₂ = inside t (three at v₀ v₁ v₂ h f₀ f₁ f₂)

pub inside-two : (at v₀ v₁ t : ℕ) → at ≤ 10 → v₀ < 2 ^ 64 → v₁ < 2 ^ 64 → at-word at v₀ v₁ 0 ≡ t → at-word at v₀ v₁ 0 ≡ t % 2 ^ 768
inside-two at v₀ v₁ t h f₀ f₁ = inside t (two at v₀ v₁ h f₀ f₁)

-- words that start above: what lies past the window's end is a multiple of 2 ^ 768
module _ (M P : ℕ) where
  ten : (v₀ v₁ v₂ : ℕ) → (0 + (v₀ + v₁ * M) * M) * P + v₂ * (M * M * M * P) ≡ (v₀ + (v₁ + v₂ * M) * M) * (M * P)
  ten v₀ v₁ v₂ = omega arith

  eleven : (v₀ v₁ v₂ : ℕ) → (0 + (0 + v₀ * M) * M) * P + (v₁ + v₂ * M) * (M * M * M * P) ≡ (v₀ + (v₁ + v₂ * M) * M) * (M * M * P)
  eleven v₀ v₁ v₂ = omega arith

  single-eleven : (v₀ v₁ : ℕ) → (0 + (v₀ + 0 * M) * M) * P + v₁ * (M * M * P) ≡ (v₀ + (v₁ + 0 * M) * M) * (M * P)
  single-eleven v₀ v₁ = omega arith

pub at-ten : (at v₀ v₁ v₂ t : ℕ) → at ≡ 10 → v₀ < 2 ^ 64 → v₁ < 2 ^ 64 → at-word at v₀ v₁ v₂ ≡ t → at-word 9 0 v₀ v₁ ≡ t % 2 ^ 768
at-ten at v₀ v₁ v₂ t h f₀ f₁ e =
    wrapped (2 ^ 768) _ t v₂ (three 9 0 v₀ v₁ (lit≤ tt) (lit< tt) f₀ f₁)
    (ten (2 ^ 64) (2 ^ 576) v₀ v₁ v₂ ∙ ap (λ (n : ℕ). (v₀ + (v₁ + v₂ * 2 ^ 64) * 2 ^ 64) * 2 ^ (64 * n)) (sym h) ∙ e)

pub at-eleven : (at v₀ v₁ v₂ t : ℕ) → at ≡ 11 → v₀ < 2 ^ 64 → at-word at v₀ v₁ v₂ ≡ t → at-word 9 0 0 v₀ ≡ t % 2 ^ 768
at-eleven at v₀ v₁ v₂ t h f₀ e =
    wrapped (2 ^ 768) _ t (v₁ + v₂ * 2 ^ 64) (three 9 0 0 v₀ (lit≤ tt) (lit< tt) (lit< tt) f₀)
    (eleven (2 ^ 64) (2 ^ 576) v₀ v₁ v₂ ∙ ap (λ (n : ℕ). (v₀ + (v₁ + v₂ * 2 ^ 64) * 2 ^ 64) * 2 ^ (64 * n)) (sym h) ∙ e)

pub single-at-eleven : (at v₀ v₁ t : ℕ) → at ≡ 11 → v₀ < 2 ^ 64 → at-word at v₀ v₁ 0 ≡ t → at-word 10 0 v₀ 0 ≡ t % 2 ^ 768
single-at-eleven at v₀ v₁ t h f₀ e =
    wrapped (2 ^ 768) _ t v₁ (two 10 0 v₀ (lit≤ tt) (lit< tt) f₀)
    (single-eleven (2 ^ 64) (2 ^ 640) v₀ v₁ ∙ ap (λ (n : ℕ). (v₀ + (v₁ + 0 * 2 ^ 64) * 2 ^ 64) * 2 ^ (64 * n)) (sym h) ∙ e)

pub past_end : (at v₀ v₁ v₂ t : ℕ) → 12 ≤ at → at-word at v₀ v₁ v₂ ≡ t → 0 ≡ t % 2 ^ 768
past_end at v₀ v₁ v₂ t h e =
    wrapped (2 ^ 768) 0 t (at-word (at - 12) v₀ v₁ v₂) (lit< tt) (zero-add _ ∙ far 12 at (v₀ + (v₁ + v₂ * 2 ^ 64) * 2 ^ 64) h ∙ e)

-- what a shift carries out of a word leaves room
pub shifted-room : (offset x : ℕ) → offset < 64 → x < 2 ^ offset → Room false x
shifted-room offset x h k = let p : 2 ^ offset ≤ 2 ^ 63 = pow_mono {j = 63} (omega arith) in omega arith

-- and at the window's end nothing goes on
pub ends : (end last : ℕ) → end < end → Room false last
ends end last h = absurd (omega arith)

-- a term's words, turned
turned-room : (neg : Bool) (v w : ℕ) → w ≡ flip neg v → Room false v → Room neg w
turned-room false v w e h = omega arith
turned-room true v w e h = omega arith

pub settles : {end last last' t : ℕ} {neg : Bool} {l : Laid} {p : Placed} → Lays end last t l → Turns neg l p → last' ≡ flip neg last
    → Settles end last' neg t p
settles {end} {last} {last'} {t} {neg} {l} {p} h q e = record {
  word = rw q.word h.word;
  small = q.small;
  exact = rw h.exact at q.exact;
  past = λ o. h.past (sym q.within ∙ o);
  room = λ o. turned-room neg last last' e (h.room (rw q.word at o));
}
