-- The values in a list of bytes, by their index: what a walk over bytes reads.
use mathlib.Core.Path.{◌≡◌, refl, sym, ap, ◌∙◌}
use mathlib.Core.List.{List, ◌∷◌}
use Prim.Native.Nat.{ℕ, zero, suc, ◌+◌, ◌*◌, ◌<◌, ◌/◌, ◌≤◌}
use native.Mathlib.Nat.{le_of_suc-le-suc, mul-suc, mul-zero, not-suc-le-zero}
use native.Mathlib.Omega.{arith}
use lib.ListN.{length, take, drop, get_or, get_or-eq_default}
use lib.Seq.{drop-drop, drop-cons}
use mathlib.Core.Bool.{Bool, true, false, not}
use lib.Dec.{T, ltb, ltb→lt, nltb→le}
use Rattle.totals_spec.specs.entries.Bytes.{from_bytes, wide_from, values_from, values_in}

module _ (w : ℕ) where
  pub wide-length : (n : ℕ) (bytes : List ℕ) → length (wide_from w n bytes) ≡ n
  wide-length zero bytes = refl
  wide-length (suc n) bytes = ap suc (wide-length n (drop w bytes))

  pub wide_at : (n : ℕ) (bytes : List ℕ) (i : ℕ) → i < n → get_or (wide_from w n bytes) i 0 ≡ from_bytes (take w (drop (w * i) bytes))
  wide_at zero bytes i h = absurd (not-suc-le-zero h)
  wide_at (suc n) bytes zero h = ap (λ (k : ℕ). from_bytes (take w (drop k bytes))) (sym (mul-zero w))
  wide_at (suc n) bytes (suc i) h =
      wide_at n (drop w bytes) i (le_of_suc-le-suc h) ∙ ap (λ l. from_bytes (take w l)) (drop-drop (w * i) w bytes ∙ ap (λ (k : ℕ). drop k bytes) place)
    where
      place : w + w * i ≡ w * suc i
      place = omega (arith, mul-suc w i)

pub from-length : (n : ℕ) (bytes : List ℕ) → length (values_from n bytes) ≡ n
from-length = wide-length 8

pub values_length : (bytes : List ℕ) → length (values_in bytes) ≡ length bytes / 8
unfolding values_in
values_length bytes = from-length (length bytes / 8) bytes

-- the i-th value stands in the bytes from 8 × i on
pub values-at : (bytes : List ℕ) (i : ℕ) → i < length bytes / 8 → get_or (values_in bytes) i 0 ≡ from_bytes (take 8 (drop (8 * i) bytes))
unfolding values_in
values-at bytes i h = wide_at 8 (length bytes / 8) bytes i h

-- ---- eight bytes as a number, in two halves

pub one_byte : (l : List ℕ) (k j n : ℕ) → suc k ≡ j → k < length l → from_bytes (take (suc n) (drop k l)) ≡ get_or l k 0 + 256 * from_bytes (take n (drop j l))
one_byte l k j n e h = ap (λ (s : List ℕ). from_bytes (take (suc n) s)) (drop-cons l k 0 h ∙ ap (λ (i : ℕ). get_or l k 0 ∷ drop i l) e)

pub eight-bytes : (l : List ℕ) (k : ℕ) → k + 8 ≤ length l → from_bytes (take 8 (drop k l))
    ≡ get_or l k 0 + 256 * (get_or l (k + 1) 0 + 256 * (get_or l (k + 2) 0 + 256 * get_or l (k + 3) 0))
    + 4294967296 * (get_or l (k + 4) 0 + 256 * (get_or l (k + 4 + 1) 0 + 256 * (get_or l (k + 4 + 2) 0 + 256 * get_or l (k + 4 + 3) 0)))
eight-bytes l k h =
    omega (
      arith,
      one_byte l k (k + 1) 7 (omega arith) (omega arith),
      one_byte l (k + 1) (k + 2) 6 (omega arith) (omega arith),
      one_byte l (k + 2) (k + 3) 5 (omega arith) (omega arith),
      one_byte l (k + 3) (k + 4) 4 (omega arith) (omega arith),
      one_byte l (k + 4) (k + 4 + 1) 3 (omega arith) (omega arith),
      one_byte l (k + 4 + 1) (k + 4 + 2) 2 (omega arith) (omega arith),
      one_byte l (k + 4 + 2) (k + 4 + 3) 1 (omega arith) (omega arith),
      one_byte l (k + 4 + 3) (k + 8) 0 (omega arith) (omega arith),
    )

-- ---- a value in bytes is below 2^64

pub values-small : (l : List ℕ) → ((k : ℕ) → get_or l k 0 < 256) → (i : ℕ) → get_or (values_in l) i 0 < 18446744073709551616
values-small l f i = go (ltb i (length l / 8)) (ltb→lt i (length l / 8)) (nltb→le i (length l / 8))
  where
    there : i < length l / 8 → get_or (values_in l) i 0 < 18446744073709551616
    there h =
        let k = 8 * i in
        omega (
          arith,
          values-at l i h,
          eight-bytes l (8 * i) (omega arith),
          f k,
          f (k + 1),
          f (k + 2),
          f (k + 3),
          f (k + 4),
          f (k + 4 + 1),
          f (k + 4 + 2),
          f (k + 4 + 3),
        )

    past : length l / 8 ≤ i → get_or (values_in l) i 0 < 18446744073709551616
    past h = omega (arith, get_or-eq_default (values_in l) 0 {n = i} (omega (arith, values_length l)))

    go : (b : Bool) → (T b → i < length l / 8) → (T (not b) → length l / 8 ≤ i) → get_or (values_in l) i 0 < 18446744073709551616
    go true h k = there (h tt)
    go false h k = past (k tt)
