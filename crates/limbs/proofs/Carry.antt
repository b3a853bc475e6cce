-- A carry, or a borrow, of one that stands at a word, and a lent slice as words.
use Rattle.std.proofs.Common.{◌≡◌, ℕ, ◌+◌, ◌*◌, ◌%◌, ◌^◌, ◌<◌, ◌≤◌, List, length, get_or, set, refl, ap, sym, ◌∙◌, arith, Fits, w64, zero-mul, one-mul}
use Rattle.limbs.specs.Value.{Words, value}
use Rattle.limbs.proofs.Words.{words-set, inside, value_set, pow-next}
use Rattle.limbs.proofs.Step.{put_last}
use Rattle.limbs.specs.Moved.{Raised, Lowered}

pub slice-words : (l : List ℕ) → ((k : ℕ) → Fits w64 (get_or l k 0)) → Words (length l) l
slice-words l h = record { long = refl; fit = λ k. (h k).fits }

module _ (k : ℕ) (l : List ℕ) (w : Words k l) (i j n v c : ℕ) (below : i < k) (next : j ≡ i + 1) (stands : value l + 2 ^ (64 * i) ≡ n)
    (adds : v + c * 18446744073709551616 ≡ get_or l i 0 + 1 + 0) (small : v < 18446744073709551616) where
  moved : value (set l i v) + c * 2 ^ (64 * j) ≡ n
  moved = put_last l i j 1 v 0 c n next (inside w below) (omega (arith, stands, one-mul (2 ^ (64 * i)))) (omega (arith, adds))

  pub carry-again : c ≤ 1 → (c ≡ 0 → ⊥) → Words k (set l i v) × (value (set l i v) + 2 ^ (64 * j) ≡ n)
  carry-again h z = (words-set i w small, one c h z moved)
    where
      one : (c : ℕ) → c ≤ 1 → (c ≡ 0 → ⊥) → value (set l i v) + c * 2 ^ (64 * j) ≡ n → value (set l i v) + 2 ^ (64 * j) ≡ n
      one c h z e =
          let u : c ≡ 1 = omega (arith, h, z) in
          ap (λ (x : ℕ). value (set l i v) + x) (sym (one-mul (2 ^ (64 * j))) ∙ ap (λ (x : ℕ). x * 2 ^ (64 * j)) (sym u)) ∙ e

  pub carry-ends : c ≡ 0 → value (set l i v) ≡ n
  carry-ends z = omega (arith, moved, ap (λ (x : ℕ). x * 2 ^ (64 * j)) z, zero-mul (2 ^ (64 * j)))

-- nothing went over the end, or one did
pub stays : (k old new x : ℕ) → new ≡ old + x → Raised k old new x
stays k old new x e = record { over = 0; is = omega (arith, e, zero-mul (2 ^ (64 * k))) }

pub goes-over : (k i old new x : ℕ) → i ≡ k → new + 2 ^ (64 * i) ≡ old + x → Raised k old new x
goes-over k i old new x e h = record { over = 1; is = ap (λ (y : ℕ). new + y) (one-mul (2 ^ (64 * k)) ∙ ap (λ (y : ℕ). 2 ^ (64 * y)) (sym e)) ∙ h }

-- ---- a borrow

module _ (k : ℕ) (l : List ℕ) (w : Words k l) (i j n b v : ℕ) (below : i < k) (next : j ≡ i + 1) (stands : value l + b ≡ n + 2 ^ (64 * i))
    (small : v < 18446744073709551616) where
  stored : value (set l i v) + get_or l i 0 * 2 ^ (64 * i) ≡ value l + v * 2 ^ (64 * i)
  stored = value_set l i v (inside w below)

  pub borrow-again : get_or l i 0 ≡ 0 → v ≡ 18446744073709551615 → Words k (set l i v) × (value (set l i v) + b ≡ n + 2 ^ (64 * j))
  borrow-again z e = (words-set i w small, more (2 ^ (64 * i)) (2 ^ (64 * j)) (ap (λ (x : ℕ). 2 ^ (64 * x)) next ∙ pow-next i))
    where
      more : (P Q : ℕ) → Q ≡ P * 18446744073709551616 → value (set l i v) + b ≡ n + 2 ^ (64 * j)
      more P Q q =
          omega (
            arith,
            stored,
            stands,
            ap (λ (x : ℕ). x * 2 ^ (64 * i)) z,
            ap (λ (x : ℕ). x * 2 ^ (64 * i)) e,
            zero-mul (2 ^ (64 * i)),
            ap (λ (x : ℕ). 2 ^ (64 * x)) next,
            pow-next i,
          )

  pub borrow-ends : get_or l i 0 ≡ v + 1 → value (set l i v) + b ≡ n
  borrow-ends e = omega (arith, stored, stands, ap (λ (x : ℕ). x * 2 ^ (64 * i)) e, more (2 ^ (64 * i)))
    where
      more : (P : ℕ) → (v + 1) * P ≡ v * P + P
      more P = omega arith

pub lowers : (k old new x : ℕ) → new + x ≡ old → Lowered k old new x
lowers k old new x e = record { over = 0; is = omega (arith, e, zero-mul (2 ^ (64 * k))) }

-- a word that is not 0, and one less, wrapped
pub less : (w : ℕ) → w < 18446744073709551616 → (w ≡ 0 → ⊥) → w ≡ (w + 18446744073709551615) % 18446744073709551616 + 1
less w h z = omega (arith, h, z)
