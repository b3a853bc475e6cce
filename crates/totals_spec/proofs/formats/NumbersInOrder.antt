-- The numbers of a format lie in the order of their bits below the sign. Such bits are an exponent
-- field and t bits of fraction.
use mathlib.Core.Path.{◌≡◌, refl, sym, ap, ◌∙◌, subst, ap₂}
use mathlib.Core.List.{[]}
use Prim.Native.Nat.{ℕ, zero, suc, ◌+◌, ◌*◌, ◌^◌, ◌/◌, ◌%◌, ◌≤◌, ◌<◌, zero-le}
use mathlib.Core.Bool.{Bool, true, false, cond, ◌&&◌}
use native.Mathlib.Nat.{mul-one, le_refl, le_of_lt, le_antisymm, lt_of_lt_of_le, le_trans}
use native.Mathlib.Nat.{mul-le-mul_left, mul-le-mul_right, mul-lt-mul_of_pos_right, mul_assoc}
use native.Mathlib.Nat.{div-add-mod', mod-lt, pow-succ', add-zero, zero-add, zero-div, zero-mod}
use native.Mathlib.Omega.{arith}
use lib.Dec.{leb, ltb, T, eqb}
use lib.Pow.{pow_pos, pow_mono, shr_mono, field}
use borrow.Author.Tests.{le-leb, lt-leb, ltb-true, ltb-false, eq-eqb, ne_eqb}
use Rattle.totals_spec.specs.formats.Format.{binary64, ieee, kind_of, Format, Kind, fraction_bits}
use Rattle.totals_spec.specs.Basics.{plus_of, minus_of}
use Rattle.totals_spec.specs.formats.Decode.{number, Unpacked, infinity, nan, sign_bit, field_of}
use Rattle.totals_spec.specs.formats.Decode.{fraction_of, top_field, decode_fields, is_number}
use Rattle.totals_spec.specs.formats.Decode.{decode}
use Rattle.totals_spec.specs.formats.Ordered.{worth}

pub is-ieee : kind_of binary64.kind ≡ ieee
unfolding binary64
is-ieee = refl

-- the magnitude of a field x and a fraction m, in least numbers
abbrev pub magnitude_at : (t x m : ℕ) → ℕ
magnitude_at t zero m = m
magnitude_at t (suc k) m = (2 ^ t + m) * 2 ^ k

pub number-plus : (t : ℕ) (s : Bool) (x m : ℕ) → plus_of (worth (number t s x m)) ≡ cond s 0 (magnitude_at t x m)
number-plus t true zero zero = refl
number-plus t false zero zero = refl
number-plus t true zero (suc m) = refl
number-plus t false zero (suc m) = mul-one (suc m)
number-plus t s (suc x) m = refl

pub number-minus : (t : ℕ) (s : Bool) (x m : ℕ) → minus_of (worth (number t s x m)) ≡ cond s (magnitude_at t x m) 0
number-minus t true zero zero = refl
number-minus t false zero zero = refl
number-minus t true zero (suc m) = mul-one (suc m)
number-minus t false zero (suc m) = refl
number-minus t s (suc x) m = refl

module _ (t : ℕ) where
  -- a field of x stays below 2^(t + x), and the next one begins there
  pub below : (x m : ℕ) → m < 2 ^ t → magnitude_at t x m < 2 ^ t * 2 ^ x
  below zero m h = rw (mul-one (2 ^ t)) h
  below (suc k) m h = subst (λ (n : ℕ). (2 ^ t + m) * 2 ^ k < n) twice (mul-lt-mul_of_pos_right more (pow_pos k))
    where
      more : 2 ^ t + m < 2 ^ t * 2
      more = omega (arith, h)

      twice : 2 ^ t * 2 * 2 ^ k ≡ 2 ^ t * 2 ^ suc k
      twice = mul_assoc (2 ^ t) 2 (2 ^ k) ∙ ap (λ (n : ℕ). 2 ^ t * n) (sym (pow-succ' 2 k))

  from : (x k m : ℕ) → x ≤ k → 2 ^ t * 2 ^ x ≤ (2 ^ t + m) * 2 ^ k
  from x k m h = le_trans (mul-le-mul_left (2 ^ t) (pow_mono h)) (mul-le-mul_right (2 ^ k) (let l : 2 ^ t ≤ 2 ^ t + m = omega arith in l))

  higher : (x y m n : ℕ) → m < 2 ^ t → x < y → magnitude_at t x m < magnitude_at t y n
  higher x zero m n h l = let e : ⊥ = omega arith in absurd e
  higher x (suc k) m n h l = lt_of_lt_of_le (below x m h) (from x k n (let i : x ≤ k = omega arith in i))

  same-field : (x m n : ℕ) → m < n → magnitude_at t x m < magnitude_at t x n
  same-field zero m n h = h
  same-field (suc k) m n h = mul-lt-mul_of_pos_right (let l : 2 ^ t + m < 2 ^ t + n = omega arith in l) (pow_pos k)

  -- of the bits u below the sign
  abbrev pub magnitude_of : ℕ → ℕ
  magnitude_of u = magnitude_at t (u / 2 ^ t) (u % 2 ^ t)

  strictly : (u v : ℕ) → u < v → magnitude_of u < magnitude_of v
  strictly u v h = go (ltb (u / 2 ^ t) (v / 2 ^ t)) refl
    where
      mu : u % 2 ^ t < 2 ^ t
      mu = mod-lt u (pow_pos t)

      go : (b : Bool) → ltb (u / 2 ^ t) (v / 2 ^ t) ≡ b → magnitude_of u < magnitude_of v
      go true e = higher (u / 2 ^ t) (v / 2 ^ t) (u % 2 ^ t) (v % 2 ^ t) mu (ltb-true (u / 2 ^ t) (v / 2 ^ t) e)
      go false e = subst (λ (x : ℕ). magnitude_at t x (u % 2 ^ t) < magnitude_of v) (sym one_field) (same-field (v / 2 ^ t) (u % 2 ^ t) (v % 2 ^ t) rest)
        where
          not-above : u / 2 ^ t ≤ v / 2 ^ t
          not-above = shr_mono t (le_of_lt h)

          one_field : u / 2 ^ t ≡ v / 2 ^ t
          one_field = le_antisymm not-above (ltb-false (u / 2 ^ t) (v / 2 ^ t) e)

          rest : u % 2 ^ t < v % 2 ^ t
          rest = omega (arith, h, div-add-mod' u (2 ^ t), div-add-mod' v (2 ^ t), ap (λ (x : ℕ). x * 2 ^ t) one_field)

  -- THE LAW
  pub in_order : (u v : ℕ) → leb (magnitude_of u) (magnitude_of v) ≡ leb u v
  in_order u v = go (ltb u v) (ltb v u) refl refl
    where
      go : (a b : Bool) → ltb u v ≡ a → ltb v u ≡ b → leb (magnitude_of u) (magnitude_of v) ≡ leb u v
      go true b e i = le-leb _ _ (le_of_lt (strictly u v (ltb-true u v e))) ∙ sym (le-leb u v (le_of_lt (ltb-true u v e)))
      go false true e i = lt-leb _ _ (strictly v u (ltb-true v u i)) ∙ sym (lt-leb u v (ltb-true v u i))
      go false false e i =
          subst (λ (w : ℕ). leb (magnitude_of u) (magnitude_of w) ≡ leb u w) one (le-leb _ _ (le_refl (magnitude_of u)) ∙ sym (le-leb u u (le_refl u)))
        where
          one : u ≡ v
          one = le_antisymm (ltb-false v u i) (ltb-false u v e)

-- ---- the parts of a decoded number, by its fields

module _ (f : Format) (kind : kind_of f.kind ≡ ieee) (n : ℕ) (finite-one : T (is_number (decode f n))) where
  by-fields : decode f n ≡ number (fraction_bits f) (sign_bit f n) (field_of f n) (fraction_of f n)
  unfolding decode
  by-fields =
      ap (λ (k : Kind). decode_fields k f (sign_bit f n) (field_of f n) (fraction_of f n)) kind
      ∙ go (top_field f (field_of f n)) (eqb (fraction_of f n) 0) _ _ _ is-number
    where
      is-number : T (is_number (decode_fields ieee f (sign_bit f n) (field_of f n) (fraction_of f n)))
      is-number = subst (λ (k : Kind). T (is_number (decode_fields k f (sign_bit f n) (field_of f n) (fraction_of f n)))) kind finite-one

      go : (a z h : Bool) (m : ℕ) (v : Unpacked) → T (is_number (cond a (cond z (infinity (sign_bit f n)) (nan (sign_bit f n) h m)) v))
          → cond a (cond z (infinity (sign_bit f n)) (nan (sign_bit f n) h m)) v ≡ v
      go true true h m v t = absurd t
      go true false h m v t = absurd t
      go false z h m v t = refl

  pub plus-by-fields : plus_of (worth (decode f n)) ≡ cond (sign_bit f n) 0 (magnitude_at (fraction_bits f) (field_of f n) (fraction_of f n))
  plus-by-fields = ap (λ (v : Unpacked). plus_of (worth v)) by-fields ∙ number-plus (fraction_bits f) (sign_bit f n) (field_of f n) (fraction_of f n)

  pub minus-by-fields : minus_of (worth (decode f n)) ≡ cond (sign_bit f n) (magnitude_at (fraction_bits f) (field_of f n) (fraction_of f n)) 0
  minus-by-fields = ap (λ (v : Unpacked). minus_of (worth v)) by-fields ∙ number-minus (fraction_bits f) (sign_bit f n) (field_of f n) (fraction_of f n)

-- u and v, of the signs s and t
abbrev pub ordered_bits : (s t : Bool) (u v : ℕ) → Bool
ordered_bits false false u v = leb u v
ordered_bits true true u v = leb v u
ordered_bits true false u v = true
ordered_bits false true u v = eqb u 0 && eqb v 0

pub bits-ordered : (n : ℕ) (s t : Bool) (u v : ℕ) → (let x = magnitude_of n u in let y = magnitude_of n v in
    leb (cond s 0 x + cond t y 0) (cond t 0 y + cond s x 0) ≡ ordered_bits s t u v)
bits-ordered n false false u v = ap₂ leb (add-zero (magnitude_of n u)) (add-zero (magnitude_of n v)) ∙ in_order n u v
bits-ordered n true true u v = ap₂ leb (zero-add (magnitude_of n v)) (zero-add (magnitude_of n u)) ∙ in_order n v u
bits-ordered n true false u v = le-leb 0 (magnitude_of n v + magnitude_of n u) zero-le
bits-ordered n false true u v = both (magnitude_of n u) (magnitude_of n v) ∙ ap₂ ◌&&◌ (none u) (none v)
  where
    none : (w : ℕ) → leb (magnitude_of n w) 0 ≡ eqb w 0
    none w = ap (leb (magnitude_of n w)) (sym nought) ∙ in_order n w 0 ∙ go (ltb 0 w) refl
      where
        nought : magnitude_of n 0 ≡ 0
        nought = ap₂ (magnitude_at n) (zero-div (2 ^ n)) (zero-mod (2 ^ n))

        go : (b : Bool) → ltb 0 w ≡ b → leb w 0 ≡ eqb w 0
        go true e = let h = ltb-true 0 w e in lt-leb w 0 h ∙ sym (ne_eqb w 0 (λ i. omega (arith, h, i)))
        go false e = let h = ltb-false 0 w e in le-leb w 0 h ∙ sym (eq-eqb w 0 (omega (arith, h)))

    both : (x y : ℕ) → leb (x + y) (0 + 0) ≡ (leb x 0 && leb y 0)
    both x y = go (ltb 0 x) (ltb 0 y) refl refl
      where
        go : (a b : Bool) → ltb 0 x ≡ a → ltb 0 y ≡ b → leb (x + y) (0 + 0) ≡ (leb x 0 && leb y 0)
        go true b e i = let h = ltb-true 0 x e in rw (lt-leb x 0 h, lt-leb (x + y) (0 + 0) (omega (arith, h)))
        go false true e i = let h = ltb-true 0 y i in rw (lt-leb y 0 h, lt-leb (x + y) (0 + 0) (omega (arith, h)), le-leb x 0 (ltb-false 0 x e))
        go false false e i =
            let h = ltb-false 0 x e in
            let k = ltb-false 0 y i in
            rw (le-leb x 0 h, le-leb y 0 k, le-leb (x + y) (0 + 0) (omega (arith, h, k)))
