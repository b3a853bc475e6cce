-- The search for an element with a stray bit, and what it finds.
use Rattle.std.proofs.Common.{◌≡◌, refl, ap, ap₂, Bool, true, false, ◌||◌, List, [], ◌∷◌, ℕ, zero, suc, ◌-◌, ◌^◌, ◌≤◌, ◌<◌, length, get_or, arith}
use Rattle.std.proofs.Common.{not-suc-le-zero, le_of_suc-le-suc, suc-le-suc, zero-le, le-leb}
use Rattle.std.specs.Prelude.{Option, Some, None}
use Rattle.std.specs.Option.{MatchOption}
use lib.Pow.{pow_pos, pow_mono}
use borrow.Author.Tests.{lt-leb}
use Rattle.totals_spec.specs.Basics.{any}
use Rattle.totals_spec.specs.sums.Totals.{first_index}
use Rattle.totals.specs.Stray.{stray_at, FoundIn}

module _ (t : ℕ → Bool) where
  none : (l : List ℕ) → ((k : ℕ) → k < length l → t (get_or l k 0) ≡ false) → any t l ≡ false
  none [] h = refl
  none (x ∷ l) h = ap₂ ◌||◌ (h 0 (omega arith)) (none l (λ k i. h (suc k) (suc-le-suc i)))

  first : (l : List ℕ) (i : ℕ) → i < length l → t (get_or l i 0) ≡ true → ((k : ℕ) → k < i → t (get_or l k 0) ≡ false)
      → (any t l ≡ true) × (first_index t l ≡ i)
  first [] i h e before = absurd (not-suc-le-zero h)
  first (x ∷ l) zero h e before = rw e (refl, refl)
  first (x ∷ l) (suc i) h e before =
      let (some, at) = first l i (le_of_suc-le-suc h) e (λ k j. before (suc k) (suc-le-suc j)) in
      rw (before 0 (omega arith)) (some, ap suc at)

-- a stray bit is one above the greatest encoding
pub stray-is : (w m x : ℕ) → m ≡ 2 ^ w - 1 → m < x → stray_at w x ≡ true
stray-is w m x e h = let k : 2 ^ w ≤ x = omega (arith, e) in le-leb _ _ k

pub stray-not : (w m x : ℕ) → m ≡ 2 ^ w - 1 → x ≤ m → stray_at w x ≡ false
stray-not w m x e h = let k : x < 2 ^ w = omega (arith, e, pow_pos w) in lt-leb _ _ k

-- the search of a list from its start, m the greatest encoding
pub searched : (w m : ℕ) (l : List ℕ) (r : Option ℕ) → m ≡ 2 ^ w - 1
    → MatchOption r ((k : ℕ) → 0 ≤ k → k < length l → get_or l k 0 ≤ m)
    (λ i. (0 ≤ i) × (i < length l) × (m < get_or l i 0) × ((k : ℕ) → 0 ≤ k → k < i → get_or l k 0 ≤ m))
    → FoundIn r w l
searched w m l None e h = none (stray_at w) l (λ k i. stray-not w m _ e (h k zero-le i))
searched w m l (Some i) e h =
    let (start, inside, above, before) = h in
    first (stray_at w) l i inside (stray-is w m _ e above) (λ k j. stray-not w m _ e (before k zero-le j))

-- a width of a whole word or more leaves no room for one
pub word_wide : (w : ℕ) (l : List ℕ) → 64 ≤ w → ((k : ℕ) → get_or l k 0 < 18446744073709551616) → FoundIn None w l
word_wide w l e fit = none (stray_at w) l (λ k i. lt-leb (2 ^ w) _ (omega (arith, fit k, pow_mono {j = w} e)))
