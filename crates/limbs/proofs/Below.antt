-- Whether one of the lowest c bits of a list's number is set: in a word that lies below c as a
-- whole, or in the word after these.
use Rattle.std.proofs.Common.{◌≡◌, ℕ, ◌+◌, ◌-◌, ◌*◌, ◌/◌, ◌%◌, ◌^◌, ◌<◌, ◌≤◌, min, lt_of_not-le, true, not, eqb, ◌⊎◌, inl, inr, List, get_or, sym, ap, refl}
use Rattle.std.proofs.Common.{◌∙◌, ap₂, add-zero, mod-eq_of_lt, le_of_lt, sub-add_cancel, mul-le-mul_right, eq-zero-or-pos, zero-mul, arith, pow_pos}
use Rattle.std.proofs.Common.{eq-eqb, ne_eqb}
use native.Mathlib.Nat.{add-mul-mod_self_right}
use native.Mathlib.Decide.{dec_le}
use lib.Bits.{bit_or, or_add_and, and_le_l, and_le_r}
use lib.ListN.{get_or-eq_default}
use lib.Pow.{mod-pow-add, mod-mod-pow}
use Rattle.limbs.specs.declared.word.Place.{Place}
use Rattle.limbs.specs.Splits.{Splits}
use Rattle.limbs.specs.Value.{Words, value}
use Rattle.limbs.proofs.Words.{low, low-lt, low-some, low-none, cut}
use Rattle.limbs.proofs.Digits.{word-digit, placed}

-- a product by a number that is not 0 is 0 where the number multiplied is
pub same-zero : (x P : ℕ) → 0 < P → eqb x 0 ≡ eqb (x * P) 0
same-zero x P h = go (eq-zero-or-pos x)
  where
    go : (x ≡ 0) ⊎ (0 < x) → eqb x 0 ≡ eqb (x * P) 0
    go (inl z) = eq-eqb x 0 z ∙ sym (eq-eqb (x * P) 0 (ap (λ (y : ℕ). y * P) z ∙ zero-mul P))
    go (inr g) = ne_eqb x 0 (λ d. omega arith) ∙ sym (ne_eqb (x * P) 0 (λ d. omega (arith, mul-le-mul_right P g)))

-- the first i words are a remainder
low-mod : (l : List ℕ) → ((k : ℕ) → get_or l k 0 < 2 ^ 64) → (i : ℕ) → value l % 2 ^ (64 * i) ≡ low l i
low-mod l f i = ap (λ (n : ℕ). n % 2 ^ (64 * i)) (cut l i) ∙ add-mul-mod_self_right (low l i) _ (2 ^ (64 * i)) ∙ mod-eq_of_lt (low-lt l f i)

-- the first i words in one: 0 where they all are
pub record Gathered (l : List ℕ) (i word : ℕ) : Type 0 where
  pub none : word ≡ 0 → (k : ℕ) → k < i → get_or l k 0 ≡ 0
  pub some : (word ≡ 0 → ⊥) → (k : ℕ) × (k < i) × (get_or l k 0 ≡ 0 → ⊥)

or-none : (a b : ℕ) → bit_or a b ≡ 0 → (a ≡ 0) × (b ≡ 0)
or-none a b e =
    let sum = or_add_and a b in
    (omega (arith, sum, and_le_r a b), omega (arith, sum, and_le_l a b))

pub gather_none : (l : List ℕ) → Gathered l 0 0
gather_none l = record { none = λ e k h. absurd (omega (arith, h)); some = λ n. absurd (n refl) }

pub gather-next : {l : List ℕ} {i word : ℕ} → Gathered l i word → Gathered l (i + 1) (bit_or word (get_or l i 0))
gather-next {l} {i} {word} g = record {
  none = λ e k h. let z = or-none word (get_or l i 0) e in last z.0 z.1 k h (dec_le i k);
  some = λ e. go e (eq-zero-or-pos word);
}
  where
    last : word ≡ 0 → get_or l i 0 ≡ 0 → (k : ℕ) → k < i + 1 → Dec (i ≤ k) → get_or l k 0 ≡ 0
    last z y k h (yes b) = let same : k ≡ i = omega arith in rw same y
    last z y k h (no b) = g.none z k (lt_of_not-le b)

    go : (bit_or word (get_or l i 0) ≡ 0 → ⊥) → (word ≡ 0) ⊎ (0 < word) → (k : ℕ) × (k < i + 1) × (get_or l k 0 ≡ 0 → ⊥)
    go e (inl z) = (i, omega arith, λ y. e (ap₂ bit_or z y))
    go e (inr p) = let s = g.some (λ d. omega (arith, d, p)) in (s.0, omega (arith, s.1), s.2)

module _ {n : ℕ} (l : List ℕ) (w : Words n l) {c : ℕ} {p : Place} (s : Splits c p) where
  -- the lowest c bits: those of the word at the place of c, above the words below it
  low_bits : value l % 2 ^ c ≡ get_or l p.word 0 % 2 ^ p.bit * 2 ^ (64 * p.word) + low l p.word
  low_bits =
      let v = value l in
      let q = 64 * p.word in
      let b = p.bit in
      ap (λ (x : ℕ). v % 2 ^ x) (sym (placed s) ∙ omega arith) ∙ mod-pow-add v b q
      ∙ ap₂ (λ (x y : ℕ). x * 2 ^ q + y) (sym digit) (low-mod l w.fit p.word)
    where
      digit : get_or l p.word 0 % 2 ^ p.bit ≡ value l / 2 ^ (64 * p.word) % 2 ^ p.bit
      digit =
          ap (λ (x : ℕ). x % 2 ^ p.bit)
          (word-digit l w.fit p.word ∙ ap (λ (x : ℕ). value l / 2 ^ (64 * p.word) % 2 ^ x) (sym (sub-add_cancel (le_of_lt s.small))))
          ∙ mod-mod-pow (value l / 2 ^ (64 * p.word)) (64 - p.bit) p.bit

  -- a word that is not 0, of those that lie below c as a whole
  pub some_below : (k : ℕ) → k < p.word → (get_or l k 0 ≡ 0 → ⊥) → true ≡ not (eqb (value l % 2 ^ c) 0)
  some_below k h z = ap not (sym (ne_eqb (value l % 2 ^ c) 0 (λ e. low-some l p.word k h z (omega (arith, low_bits, e)))))

  -- none of them, as far as there are words
  pub rest_below : ((k : ℕ) → k < min p.word n → get_or l k 0 ≡ 0) → not (eqb (get_or l p.word 0 % 2 ^ p.bit) 0) ≡ not (eqb (value l % 2 ^ c) 0)
  rest_below z =
      ap not
      (same-zero _ _ (pow_pos (64 * p.word))
      ∙ ap (λ (x : ℕ). eqb x 0) (sym (low_bits ∙ ap (λ (x : ℕ). get_or l p.word 0 % 2 ^ p.bit * 2 ^ (64 * p.word) + x) (low-none l p.word all) ∙ add-zero _)))
    where
      go : (k : ℕ) → k < p.word → Dec (n ≤ k) → get_or l k 0 ≡ 0
      go k h (yes b) = get_or-eq_default l 0 (omega (arith, w.long))
      go k h (no b) = z k (omega (arith, lt_of_not-le b))

      all : (k : ℕ) → k < p.word → get_or l k 0 ≡ 0
      all k h = go k h (dec_le n k)
