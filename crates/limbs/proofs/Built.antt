-- The number of an array that a closure makes word by word.
use Rattle.std.proofs.Common.{◌≡◌, ℕ, zero, suc, ◌+◌, ◌*◌, ◌/◌, ◌%◌, ◌^◌, ◌<◌, List, get_or, refl, ◌∙◌, subst, arith}
use Rattle.std.specs.Array.{IsFromFnResultFrom, IsFromFnResult}
use denote.Param.Members.{Mut, Called}
use Rattle.limbs.specs.Value.{value}
use Rattle.limbs.proofs.Digits.{digits_made}

-- f gives the digits of n, and no call changes it
module _ {F : Type 0} (g : Mut F (ℕ × Unit {0}) ℕ) (f : F) (l : List ℕ) (n : ℕ)
    (gives : (i y : ℕ) (q : F) → Called g f (i, tt) y q → (q ≡ f) × (y ≡ n / 2 ^ (64 * i) % 2 ^ 64)) where
  -- by calls from the index i on
  from : (k i : ℕ) (p : F) → p ≡ f → IsFromFnResultFrom g p l i k → (j : ℕ) → j < k → get_or l (i + j) 0 ≡ n / 2 ^ (64 * (i + j)) % 2 ^ 64
  from zero i p e h j b = absurd (omega arith)
  from (suc k) i p e (q, y, at, call, rest) zero b =
      let here = gives i y q (subst (λ (s : F). Called g s (i, tt) y q) e call) in
      subst (λ (x : ℕ). get_or l x 0 ≡ n / 2 ^ (64 * x) % 2 ^ 64) (omega arith) (at.1 0 ∙ here.1)
  from (suc k) i p e (q, y, at, call, rest) (suc j) b =
      let here = gives i y q (subst (λ (s : F). Called g s (i, tt) y q) e call) in
      subst (λ (x : ℕ). get_or l x 0 ≡ n / 2 ^ (64 * x) % 2 ^ 64) (omega arith) (from k (i + 1) q here.0 rest j (omega arith))

  pub built : {k : ℕ} → IsFromFnResult g f l k → value l ≡ n % 2 ^ (64 * k)
  built {k} h =
      digits_made k n l h.long
      (λ i b. subst (λ (x : ℕ). get_or l x 0 ≡ n / 2 ^ (64 * x) % 2 ^ 64) (omega arith) (from k 0 f refl h.each i b))
