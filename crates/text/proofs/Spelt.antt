-- Numbers as text: the definitions' digits are those that `io` writes, and how many they are.
use mathlib.Core.Path.{◌≡◌, refl, sym, ap, ap₂, ◌∙◌, subst}
use mathlib.Core.Bool.{Bool, true, false, not, cond}
use mathlib.Core.List.{List, [], ◌∷◌, ◌++◌}
use Prim.Native.Nat.{ℕ, zero, suc, ◌+◌, ◌-◌, ◌/◌, ◌%◌, ◌^◌, ◌≤◌, ◌<◌, min, max}
use native.Mathlib.Nat.{add_comm, pow-suc, pow-le-pow_left, pow-le-pow_right, div-lt_iff_lt-mul, le-div_iff_mul-le, mod-eq_of_lt, mod-lt, mod-mod}
use native.Mathlib.Nat.{le_trans, lt_of_lt_of_le}
use native.Mathlib.Numerals.{add-one}
use native.Mathlib.Omega.{arith}
use lib.Dec.{T, ltb, ltb→lt, nltb→le, lit≤}
use lib.Ieee.{size}
use lib.Ieee.Digits.{size-lt}
use lib.ListN.{length, length-append}
use lib.Pow.{field, mod-mod-pow}
use borrow.Author.Tests.{lt-ltb}
use Rattle.io.specs.Digits.{hex_digit_ascii, last_digits, IsDigitCount}
use Rattle.totals_spec.specs.program.Program.{hex_byte, hex_text, decimal_from, decimal_text}

-- ---- hex

glyph-is : (d : ℕ) → hex_digit_ascii d ≡ hex_byte d
glyph-is d = ap₂ (λ (x y : ℕ). cond (ltb d 10) x y) (add_comm 48 d) (add_comm 87 d)

hex-digits : (n x : ℕ) → last_digits 16 n x ≡ hex_text n x
unfolding hex_text
hex-digits zero x = refl
hex-digits (suc n) x = ap₂ (λ (l : List ℕ) (b : ℕ). l ++ (b ∷ [])) (hex-digits n (x / 16)) (glyph-is (x % 16))

pub hex_length : (n x : ℕ) → length (hex_text n x) ≡ n
unfolding hex_text
hex_length zero x = refl
hex_length (suc n) x = length-append (hex_text n (x / 16)) (hex_byte (x % 16) ∷ []) ∙ add-one (length (hex_text n (x / 16))) ∙ ap suc (hex_length n (x / 16))

-- the last two digits
pub low_byte : (x : ℕ) → hex_text 2 (x % 256) ≡ hex_text 2 x
unfolding hex_text
low_byte x = ap₂ (λ (m n : ℕ). hex_byte m ∷ hex_byte n ∷ []) (ap (λ (n : ℕ). n % 16) (field x 4 4) ∙ mod-mod (x / 16) 16) (mod-mod-pow x 4 4)

-- a number below b^n, where no fewer than n digits are asked for, has n
fewest-least : (b n x k : ℕ) → 0 < b → x < b ^ n → IsDigitCount b n x k → k ≡ n
fewest-least b n x k p h f = go (ltb n k) (ltb→lt n k) (nltb→le n k)
  where
    go : (t : Bool) → (T t → n < k) → (T (not t) → k ≤ n) → k ≡ n
    go true u v =
        let l : n ≤ k - 1 = omega (arith, u tt) in
        absurd (omega (arith, h, f.2 (u tt), pow-le-pow_right {n = b} p l))
    go false u v = omega (arith, v tt, f.0)

pub hex-spelt : (n x k : ℕ) {s : List ℕ} → (1 ≤ n) × (n ≤ 16) → x < 16 ^ n → IsDigitCount 16 (min (max n 1) 16) x k → s ≡ last_digits 16 k x → s ≡ hex_text n x
hex-spelt n x k w h f e =
    let g = subst (λ (j : ℕ). IsDigitCount 16 j x k) (width-kept n w.0 w.1) f in
    e ∙ ap (λ (j : ℕ). last_digits 16 j x) (fewest-least 16 n x k (omega arith) h g) ∙ hex-digits n x
  where
    width-kept : (n : ℕ) → 1 ≤ n → n ≤ 16 → min (max n 1) 16 ≡ n
    width-kept n l u = omega arith

-- ---- decimal

digit-is : (d : ℕ) → d < 10 → hex_digit_ascii d ≡ d + 48
digit-is d h = rw (lt-ltb d 10 h) (add_comm 48 d)

tenth : (x k : ℕ) → x < 10 ^ suc k → x / 10 < 10 ^ k
tenth x k h = (div-lt_iff_lt-mul {k = 10} (omega arith)).1 (subst (λ (n : ℕ). x < n) (pow-suc 10 k) h)

one-digit : (x k : ℕ) → x < 10 → IsDigitCount 10 1 x k → (x + 48) ∷ [] ≡ last_digits 10 k x
one-digit x k h f =
    ap (λ (b : ℕ). b ∷ []) (sym (ap hex_digit_ascii (mod-eq_of_lt h) ∙ digit-is x h))
    ∙ ap (λ (n : ℕ). last_digits 10 n x) (sym (fewest-least 10 1 x k (omega arith) h f))

-- the digits in front of the last
fewer : (x j : ℕ) → IsDigitCount 10 1 x (suc (suc j)) → IsDigitCount 10 1 (x / 10) (suc j)
fewer x j f =
    let g = rw (one-back (suc j), pow-suc 10 j) at (f.2 (omega arith)) in
    (omega arith, tenth x (suc j) f.1, λ h. rw (one-back j) ((le-div_iff_mul-le {k = 10} (omega arith)).1 g))
  where
    one-back : (j : ℕ) → suc j - 1 ≡ j
    one-back j = omega arith

more-digits : (f x k : ℕ) → 10 ≤ x → IsDigitCount 10 1 x k → ((k : ℕ) → IsDigitCount 10 1 (x / 10) k → decimal_from f (x / 10) ≡ last_digits 10 k (x / 10))
    → decimal_from f (x / 10) ++ ((x % 10 + 48) ∷ []) ≡ last_digits 10 k x
more-digits f x zero l w front = absurd (omega (arith, w.0))
more-digits f x (suc zero) l w front = absurd (omega (arith, l, w.1))
more-digits f x (suc (suc j)) l w front =
    ap₂ (λ (s : List ℕ) (b : ℕ). s ++ (b ∷ [])) (front (suc j) (fewer x j w)) (sym (digit-is (x % 10) (mod-lt x (omega arith))))

decimal-from : (f x k : ℕ) → x < 10 ^ suc f → IsDigitCount 10 1 x k → decimal_from f x ≡ last_digits 10 k x
unfolding decimal_from
decimal-from zero x k h w = ap (λ (b : ℕ). (b + 48) ∷ []) (mod-eq_of_lt h) ∙ one-digit x k h w
decimal-from (suc f) x k h w = go (ltb x 10) (ltb→lt x 10) (nltb→le x 10) (λ j. decimal-from f (x / 10) j (tenth x (suc f) h))
  where
    go : (t : Bool) → (T t → x < 10) → (T (not t) → 10 ≤ x) → ((j : ℕ) → IsDigitCount 10 1 (x / 10) j → decimal_from f (x / 10) ≡ last_digits 10 j (x / 10))
        → cond t ((x + 48) ∷ []) (decimal_from f (x / 10) ++ ((x % 10 + 48) ∷ [])) ≡ last_digits 10 k x
    go true u v front = one-digit x k (u tt) w
    go false u v front = more-digits f x k (v tt) w front

pub decimal-spelt : (x k : ℕ) {s : List ℕ} → IsDigitCount 10 1 x k → s ≡ last_digits 10 k x → s ≡ decimal_text x
decimal-spelt x k f e = e ∙ sym (decimal-from (size x) x k (lt_of_lt_of_le (size-lt x) (le_trans by-base by_place)) f)
  where
    by-base : 2 ^ size x ≤ 10 ^ size x
    by-base = pow-le-pow_left {n = 2} {m = 10} (omega arith) (size x)

    by_place : 10 ^ size x ≤ 10 ^ suc (size x)
    by_place = pow-le-pow_right {n = 10} (omega arith) (omega arith)

length_from : (f x n : ℕ) → x < 10 ^ suc n → length (decimal_from f x) ≤ suc n
unfolding decimal_from
length_from zero x n h = omega arith
length_from (suc f) x n h = go (ltb x 10) (nltb→le x 10) n h (length_from f (x / 10))
  where
    go : (t : Bool) → (T (not t) → 10 ≤ x) → (n : ℕ) → x < 10 ^ suc n → ((n : ℕ) → x / 10 < 10 ^ suc n → length (decimal_from f (x / 10)) ≤ suc n)
        → length (cond t ((x + 48) ∷ []) (decimal_from f (x / 10) ++ ((x % 10 + 48) ∷ []))) ≤ suc n
    go true v n h front = omega arith
    go false v zero h front = absurd (omega (arith, v tt, h))
    go false v (suc n) h front = rw length-append (omega (arith, front n (tenth x (suc n) h)))

pub decimal_length : (x : ℕ) → x < 2 ^ 64 → length (decimal_text x) ≤ 20
decimal_length x h = length_from (size x) x 19 (lt_of_lt_of_le h (lit≤ tt))
