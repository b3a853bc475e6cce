-- What the two highest words that do not repeat the sign say of a magnitude.
use Rattle.std.proofs.Common.{◌≡◌, ℕ, zero, suc, ◌+◌, ◌-◌, ◌*◌, ◌^◌, ◌<◌, ◌≤◌, Bool, true, false, not, eqb, max, Fits, w64, List, [], ◌∷◌, length, get_or, drop, refl, ap, sym, ◌∙◌, subst, arith, zero-mul, one-mul, add-mul, pow-add, length-drop, get_or-drop}
use native.Mathlib.Nat.{le_of_lt}
use mathlib.Core.Logic.{◌⊎◌, inl, inr}
use borrow.Author.Tests.{eqb-true, eqb-false, not-true, not-false}
use Rattle.limbs.specs.Value.{value}
use Rattle.limbs.proofs.Words.{low, low-next, low-zero, pow-next, cut, low-lt, value-lt}
use Rattle.limbs.specs.Flipped.{flip}
use Rattle.limbs.proofs.Carry.{slice-words}
use Rattle.limbs.specs.Tops.{StandsAt, magnitude_in}

pub zero-word : (l : List ℕ) (i : ℕ) → low l i ≡ 0 → get_or l i 0 ≡ 0 → low l (i + 1) ≡ 0
zero-word l i h z = low-next l i ∙ omega (arith, h, ap (λ (w : ℕ). w * 2 ^ (64 * i)) z, zero-mul (2 ^ (64 * i)))

pow-suc : (i : ℕ) → 2 ^ (64 * suc i) ≡ 2 ^ (64 * i) * 18446744073709551616
pow-suc i = ap (λ (n : ℕ). 2 ^ (64 * n)) (let e : suc i ≡ i + 1 = omega arith in e) ∙ pow-next i

-- words that are all 0, and that are all the greatest
pub all-zeros : (l : List ℕ) → ((k : ℕ) → k < length l → get_or l k 0 ≡ 0) → value l ≡ 0
unfolding value
all-zeros [] h = refl
all-zeros (w ∷ l) h = omega (arith, h 0 (omega arith), all-zeros l (λ k b. h (suc k) (omega (arith, b))))

pub all-ones : (l : List ℕ) → ((k : ℕ) → k < length l → get_or l k 0 ≡ 18446744073709551615) → value l + 1 ≡ 2 ^ (64 * length l)
unfolding value
all-ones [] h = refl
all-ones (w ∷ l) h =
    omega (arith, h 0 (omega arith), all-ones l (λ k b. h (suc k) (omega (arith, b))), pow-suc (length l))

-- ---- the number by its two words, what lies below them and what lies above

module _ (l : List ℕ) (at : ℕ) where
  parts : value l ≡ low l at + (get_or l at 0 * 2 ^ (64 * at) + get_or l (at + 1) 0 * (2 ^ (64 * at) * 18446744073709551616)) + value (drop (at + 2) l) * 2 ^ (64 * (at + 2))
  parts =
      cut l (at + 2)
      ∙ ap (λ (n : ℕ). n + value (drop (at + 2) l) * 2 ^ (64 * (at + 2)))
      (ap (low l) two ∙ low-next l (at + 1) ∙ ap₃ (low l (at + 1)) (low-next l at) (get_or l (at + 1) 0) (2 ^ (64 * (at + 1))) (pow-next at))
    where
      two : at + 2 ≡ at + 1 + 1
      two = omega arith

      ap₃ : (x : ℕ) → x ≡ low l at + get_or l at 0 * 2 ^ (64 * at) → (w p : ℕ) → p ≡ 2 ^ (64 * at) * 18446744073709551616
          → x + w * p ≡ low l at + (get_or l at 0 * 2 ^ (64 * at) + w * (2 ^ (64 * at) * 18446744073709551616))
      ap₃ x e w p f = omega (arith, e, ap (λ (n : ℕ). w * n) f)

  unit : 2 ^ (64 * (at + 2)) ≡ 340282366920938463463374607431768211456 * 2 ^ (64 * at)
  unit = ap (λ (n : ℕ). 2 ^ n) (place at) ∙ pow-add 2 128 (64 * at)
    where
      place : (n : ℕ) → 64 * (n + 2) ≡ 128 + 64 * n
      place n = omega arith

  tail-at : (k : ℕ) → get_or (drop (at + 2) l) k 0 ≡ get_or l (at + 2 + k) 0
  tail-at k = get_or-drop (at + 2) l k 0

-- plain numbers: L below the unit P, the words w₀ and w₁, X the magnitude
plus-stands : (sticky : Bool) (L P w₀ w₁ X : ℕ) → X ≡ L + (w₀ * P + w₁ * (P * 18446744073709551616)) → L < P → (sticky ≡ false → L ≡ 0) → (sticky ≡ true → 0 < L)
    → StandsAt sticky (w₀ + w₁ * 18446744073709551616) P X
plus-stands false L P w₀ w₁ X e s z p = omega (arith, e, z refl, product)
  where
    product : (w₀ + w₁ * 18446744073709551616) * P ≡ w₀ * P + w₁ * (P * 18446744073709551616)
    product = omega arith
plus-stands true L P w₀ w₁ X e s z p = (omega (arith, e, p refl, product), omega (arith, e, s, more))
  where
    product : (w₀ + w₁ * 18446744073709551616) * P ≡ w₀ * P + w₁ * (P * 18446744073709551616)
    product = omega arith

    more : (w₀ + w₁ * 18446744073709551616 + 1) * P ≡ w₀ * P + w₁ * (P * 18446744073709551616) + P
    more = omega arith

-- of a number below 0: X and the number make 2^128 units
minus-sticky : (L P w₀ w₁ X a b : ℕ) → X + (L + (w₀ * P + w₁ * (P * 18446744073709551616))) ≡ 340282366920938463463374607431768211456 * P → L < P → 0 < L
    → a + w₀ ≡ 18446744073709551615 → b + w₁ ≡ 18446744073709551615 → StandsAt true (a + b * 18446744073709551616) P X
minus-sticky L P w₀ w₁ X a b e s p f g = (omega (arith, e, p, s, low_one, high_one, product), omega (arith, e, s, p, low_one, high_one, more))
  where
    low_one : a * P + w₀ * P ≡ 18446744073709551615 * P
    low_one = sym (add-mul a w₀ P) ∙ ap (λ (n : ℕ). n * P) f

    high_one : b * P + w₁ * P ≡ 18446744073709551615 * P
    high_one = sym (add-mul b w₁ P) ∙ ap (λ (n : ℕ). n * P) g

    product : (a + b * 18446744073709551616) * P ≡ a * P + b * P * 18446744073709551616
    product = omega arith

    more : (a + b * 18446744073709551616 + 1) * P ≡ a * P + b * P * 18446744073709551616 + P
    more = omega arith

minus-exact : (P w₀ w₁ X a b x xc y yc : ℕ) → X + (0 + (w₀ * P + w₁ * (P * 18446744073709551616))) ≡ 340282366920938463463374607431768211456 * P
    → a + w₀ ≡ 18446744073709551615 → b + w₁ ≡ 18446744073709551615 → (w₀ ≡ 0 → w₁ ≡ 0 → ⊥)
    → x + xc * 18446744073709551616 ≡ a + 1 + 0 → y + yc * 18446744073709551616 ≡ b + 0 + xc → yc ≤ 1 → X ≡ (x + y * 18446744073709551616) * P
minus-exact P w₀ w₁ X a b x xc y yc e f g n h k s = omega (arith, e, ap (λ (n : ℕ). n * P) whole, product)
  where
    no_carry : (yc : ℕ) → yc ≤ 1 → y + yc * 18446744073709551616 ≡ b + 0 + xc → yc ≡ 0
    no_carry zero s k = refl
    no_carry (suc zero) s k = absurd (n (omega (arith, f, g, h, k)) (omega (arith, f, g, h, k)))
    no_carry (suc (suc m)) s k = let j : ⊥ = omega (arith, s) in absurd j

    whole : (x + y * 18446744073709551616) + (w₀ + w₁ * 18446744073709551616) ≡ 340282366920938463463374607431768211456
    whole = omega (arith, f, g, h, k, no_carry yc s k)

    product : ((x + y * 18446744073709551616) + (w₀ + w₁ * 18446744073709551616)) * P
        ≡ (x + y * 18446744073709551616) * P + (w₀ * P + w₁ * (P * 18446744073709551616))
    product = omega arith

-- ---- the words beyond repeat the sign

module _ (l : List ℕ) (at : ℕ) (inside : at + 2 ≤ length l) where
  beyond-length : length (drop (at + 2) l) ≡ length l - (at + 2)
  beyond-length = length-drop (at + 2) l

  beyond : (sign : ℕ) → ((k : ℕ) → at + 2 ≤ k → k < length l → get_or l k 0 ≡ sign) → (k : ℕ) → k < length (drop (at + 2) l) → get_or (drop (at + 2) l) k 0 ≡ sign
  beyond sign h k b = tail-at l at k ∙ h (at + 2 + k) (omega arith) (omega (arith, b, beyond-length, inside))

  pub plus-parts : ((k : ℕ) → at + 2 ≤ k → k < length l → get_or l k 0 ≡ 0)
      → value l ≡ low l at + (get_or l at 0 * 2 ^ (64 * at) + get_or l (at + 1) 0 * (2 ^ (64 * at) * 18446744073709551616))
  plus-parts h = omega (arith, parts l at, ap (λ (n : ℕ). n * 2 ^ (64 * (at + 2))) (all-zeros (drop (at + 2) l) (beyond 0 h)), zero-mul (2 ^ (64 * (at + 2))))

  pub minus-parts : ((k : ℕ) → at + 2 ≤ k → k < length l → get_or l k 0 ≡ 18446744073709551615) → value l ≤ 2 ^ (64 * length l)
      → (2 ^ (64 * length l) - value l) + (low l at + (get_or l at 0 * 2 ^ (64 * at) + get_or l (at + 1) 0 * (2 ^ (64 * at) * 18446744073709551616)))
      ≡ 340282366920938463463374607431768211456 * 2 ^ (64 * at)
  minus-parts h v =
      omega (
        arith,
        parts l at,
        v,
        unit l at,
        add-mul (value (drop (at + 2) l)) 1 (2 ^ (64 * (at + 2))),
        one-mul (2 ^ (64 * (at + 2))),
        ap (λ (n : ℕ). n * 2 ^ (64 * (at + 2))) (all-ones (drop (at + 2) l) (beyond 18446744073709551615 h)),
        whole,
      )
    where
      places : (m : ℕ) → m ≡ length l - (at + 2) → 64 * m + 64 * (at + 2) ≡ 64 * length l
      places m e = omega (arith, e, inside)

      whole : 2 ^ (64 * length (drop (at + 2) l)) * 2 ^ (64 * (at + 2)) ≡ 2 ^ (64 * length l)
      whole =
          sym (pow-add 2 (64 * length (drop (at + 2) l)) (64 * (at + 2)))
          ∙ ap (λ (n : ℕ). 2 ^ n) (places (length (drop (at + 2) l)) (length-drop (at + 2) l))

-- ---- the four ends of the function: `m` is the number of the words that count, at least two

module _ (l : List ℕ) (fits : (k : ℕ) → Fits w64 (get_or l k 0)) (long : 2 ≤ length l) (neg : Bool) (sign sig m : ℕ) (es : sign ≡ flip neg 0)
    (above : (k : ℕ) → sig ≤ k → k < length l → get_or l k 0 ≡ sign) (most : sig ≤ length l) (em : m ≡ max sig 2) (sticky : Bool)
    (est : sticky ≡ not (eqb (low l (m - 2)) 0)) where
  inner : m - 2 + 2 ≤ length l
  inner = omega (arith, em, most, long)

  further : (k : ℕ) → m - 2 + 2 ≤ k → k < length l → get_or l k 0 ≡ sign
  further k h b = above k (omega (arith, em, h)) b

  small : low l (m - 2) < 2 ^ (64 * (m - 2))
  small = low-lt l (λ k. (fits k).fits) (m - 2)

  within : value l ≤ 2 ^ (64 * length l)
  within = le_of_lt (value-lt (slice-words l fits))

  none-low : sticky ≡ false → low l (m - 2) ≡ 0
  none-low e = eqb-true (low l (m - 2)) 0 (not-false (eqb (low l (m - 2)) 0) (sym est ∙ e))

  some-low : sticky ≡ true → 0 < low l (m - 2)
  some-low e =
      let z : low l (m - 2) ≡ 0 → ⊥ = eqb-false (low l (m - 2)) 0 (not-true (eqb (low l (m - 2)) 0) (sym est ∙ e)) in
      omega (arith, z)

  pub plus-case : neg ≡ false
      → StandsAt sticky (get_or l (m - 2) 0 + get_or l (m - 2 + 1) 0 * 18446744073709551616) (2 ^ (64 * (m - 2))) (magnitude_in neg l)
  plus-case n =
      subst (λ (b : Bool). StandsAt sticky (get_or l (m - 2) 0 + get_or l (m - 2 + 1) 0 * 18446744073709551616) (2 ^ (64 * (m - 2))) (magnitude_in b l)) (sym n)
      (plus-stands sticky (low l (m - 2)) (2 ^ (64 * (m - 2))) (get_or l (m - 2) 0) (get_or l (m - 2 + 1) 0) (value l)
      (plus-parts l (m - 2) inner (λ k h b. further k h b ∙ es ∙ ap (λ (b : Bool). flip b 0) n)) small none-low some-low)

  minus-of : neg ≡ true → (2 ^ (64 * length l) - value l)
      + (low l (m - 2) + (get_or l (m - 2) 0 * 2 ^ (64 * (m - 2)) + get_or l (m - 2 + 1) 0 * (2 ^ (64 * (m - 2)) * 18446744073709551616)))
      ≡ 340282366920938463463374607431768211456 * 2 ^ (64 * (m - 2))
  minus-of n = minus-parts l (m - 2) inner (λ k h b. further k h b ∙ es ∙ ap (λ (b : Bool). flip b 0) n) within

  lacks : (w : ℕ) → w < 18446744073709551616 → (18446744073709551615 - w) + w ≡ 18446744073709551615
  lacks w h = omega (arith, h)

  pub sticky-case : neg ≡ true → sticky ≡ true
      → StandsAt sticky ((18446744073709551615 - get_or l (m - 2) 0) + (18446744073709551615 - get_or l (m - 2 + 1) 0) * 18446744073709551616)
      (2 ^ (64 * (m - 2))) (magnitude_in neg l)
  sticky-case n t =
      subst (λ (b : Bool). StandsAt sticky ((18446744073709551615 - get_or l (m - 2) 0) + (18446744073709551615 - get_or l (m - 2 + 1) 0) * 18446744073709551616)
      (2 ^ (64 * (m - 2))) (magnitude_in b l)) (sym n)
      (subst (λ (b : Bool). StandsAt b ((18446744073709551615 - get_or l (m - 2) 0) + (18446744073709551615 - get_or l (m - 2 + 1) 0) * 18446744073709551616)
      (2 ^ (64 * (m - 2))) (2 ^ (64 * length l) - value l)) (sym t)
      (minus-sticky (low l (m - 2)) (2 ^ (64 * (m - 2))) (get_or l (m - 2) 0) (get_or l (m - 2 + 1) 0) (2 ^ (64 * length l) - value l) _ _ (minus-of n) small (some-low t)
      (lacks (get_or l (m - 2) 0) (fits (m - 2)).fits) (lacks (get_or l (m - 2 + 1) 0) (fits (m - 2 + 1)).fits)))

  pub zero-case : neg ≡ true → sticky ≡ false → get_or l (m - 2) 0 ≡ 0 → get_or l (m - 2 + 1) 0 ≡ 0
      → StandsAt sticky (1 + 0 * 18446744073709551616) (2 ^ (64 * (m - 2 + 2))) (magnitude_in neg l)
  zero-case n t a b =
      subst (λ (b : Bool). StandsAt sticky (1 + 0 * 18446744073709551616) (2 ^ (64 * (m - 2 + 2))) (magnitude_in b l)) (sym n)
      (subst (λ (b : Bool). StandsAt b (1 + 0 * 18446744073709551616) (2 ^ (64 * (m - 2 + 2))) (2 ^ (64 * length l) - value l)) (sym t)
      (omega (
        arith,
        minus-of n,
        none-low t,
        ap (λ (w : ℕ). w * 2 ^ (64 * (m - 2))) a,
        ap (λ (w : ℕ). w * (2 ^ (64 * (m - 2)) * 18446744073709551616)) b,
        zero-mul (2 ^ (64 * (m - 2))),
        zero-mul (2 ^ (64 * (m - 2)) * 18446744073709551616),
        unit l (m - 2),
      )))

  pub exact-case : neg ≡ true → sticky ≡ false → (x xc y yc : ℕ)
      → ((get_or l (m - 2) 0 ≡ 0) × (get_or l (m - 2 + 1) 0 ≡ 0 → ⊥)) ⊎ (get_or l (m - 2) 0 ≡ 0 → ⊥)
      → x + xc * 18446744073709551616 ≡ (18446744073709551615 - get_or l (m - 2) 0) + 1 + 0
      → y + yc * 18446744073709551616 ≡ (18446744073709551615 - get_or l (m - 2 + 1) 0) + 0 + xc → yc ≤ 1
      → StandsAt sticky (x + y * 18446744073709551616) (2 ^ (64 * (m - 2))) (magnitude_in neg l)
  exact-case n t x xc y yc d e f g =
      subst (λ (b : Bool). StandsAt sticky (x + y * 18446744073709551616) (2 ^ (64 * (m - 2))) (magnitude_in b l)) (sym n)
      (subst (λ (b : Bool). StandsAt b (x + y * 18446744073709551616) (2 ^ (64 * (m - 2))) (2 ^ (64 * length l) - value l)) (sym t)
      (minus-exact (2 ^ (64 * (m - 2))) (get_or l (m - 2) 0) (get_or l (m - 2 + 1) 0) (2 ^ (64 * length l) - value l) _ _ x xc y yc
      (subst (λ (n : ℕ). (2 ^ (64 * length l) - value l) + (n + (get_or l (m - 2) 0 * 2 ^ (64 * (m - 2)) + get_or l (m - 2 + 1) 0 * (2 ^ (64 * (m - 2)) * 18446744073709551616)))
      ≡ 340282366920938463463374607431768211456 * 2 ^ (64 * (m - 2))) (none-low t) (minus-of n))
      (lacks (get_or l (m - 2) 0) (fits (m - 2)).fits) (lacks (get_or l (m - 2 + 1) 0) (fits (m - 2 + 1)).fits) (either d) e f g))
    where
      either : ((get_or l (m - 2) 0 ≡ 0) × (get_or l (m - 2 + 1) 0 ≡ 0 → ⊥)) ⊎ (get_or l (m - 2) 0 ≡ 0 → ⊥) → get_or l (m - 2) 0 ≡ 0 → get_or l (m - 2 + 1) 0 ≡ 0 → ⊥
      either (inl p) a b = p.1 b
      either (inr p) a b = p a

  -- with a sticky bit the higher word is not 0: there are at least 65 bits
  top-word : sticky ≡ true → (0 < sig → get_or l (sig - 1) 0 ≡ sign → ⊥) → get_or l (m - 2 + 1) 0 ≡ sign → ⊥
  top-word t last e = go (m - 2) refl
    where
      go : (at : ℕ) → m - 2 ≡ at → ⊥
      go zero z = let a = some-low t in let b : low l (m - 2) ≡ 0 = ap (low l) z ∙ low-zero l in let j : ⊥ = omega (arith, a, b) in j
      go (suc n) z = last (omega (arith, em, z)) (ap (λ (k : ℕ). get_or l k 0) (let k : sig - 1 ≡ m - 2 + 1 = omega (arith, em, z) in k) ∙ e)

  pub long-plus : neg ≡ false → (0 < sig → get_or l (sig - 1) 0 ≡ sign → ⊥) → sticky ≡ true → 0 < get_or l (m - 2 + 1) 0
  long-plus n last t =
      let z : get_or l (m - 2 + 1) 0 ≡ 0 → ⊥ = λ e. top-word t last (e ∙ sym (es ∙ ap (λ (b : Bool). flip b 0) n)) in
      omega (arith, z)

  pub long-minus : neg ≡ true → (0 < sig → get_or l (sig - 1) 0 ≡ sign → ⊥) → sticky ≡ true → 0 < 18446744073709551615 - get_or l (m - 2 + 1) 0
  long-minus n last t =
      let z : get_or l (m - 2 + 1) 0 ≡ 18446744073709551615 → ⊥ = λ e. top-word t last (e ∙ sym (es ∙ ap (λ (b : Bool). flip b 0) n)) in
      let f = (fits (m - 2 + 1)).fits in
      omega (arith, z, f)
