-- A list of bytes in chunks: each is a value, and what the bytes of one are worth.
use mathlib.Core.Path.{◌≡◌, refl, sym, ap, ◌∙◌}
use mathlib.Core.List.{List, []}
use Prim.Native.Nat.{ℕ, zero, suc, ◌+◌, ◌*◌, ◌/◌, ◌≤◌, ◌<◌}
use native.Mathlib.Nat.{le_of_suc-le-suc, not-suc-le-zero}
use native.Mathlib.Omega.{arith}
use lib.ListN.{length, drop, get_or, length-take, length-drop}
use lib.Seq.{take_all}
use Rattle.std.specs.Int.{w64, from_le_bytes}
use Rattle.std.specs.Simd.{first_chunks}
use Rattle.totals_spec.specs.entries.Bytes.{from_bytes, wide_from, values_in}
use Rattle.totals_spec.specs.ten_bytes.Extended.{tens_in}
use Rattle.totals_spec.specs.ten_bytes.TwoWords.{joined}
use Rattle.totals_spec.proofs.entries.ValuesInBytes.{one_byte, eight-bytes}

chunk_at : (w n : ℕ) (bytes : List ℕ) (i : ℕ) → i < n → get_or (wide_from w n bytes) i 0 ≡ from_bytes (get_or (first_chunks w n bytes) i [])
chunk_at w zero bytes i h = absurd (not-suc-le-zero h)
chunk_at w (suc n) bytes zero h = refl
chunk_at w (suc n) bytes (suc i) h = chunk_at w n (drop w bytes) i (le_of_suc-le-suc h)

chunk-length : (w n : ℕ) (bytes : List ℕ) (i : ℕ) → n * w ≤ length bytes → i < n → length (get_or (first_chunks w n bytes) i []) ≡ w
chunk-length w zero bytes i r h = absurd (not-suc-le-zero h)
chunk-length w (suc n) bytes zero r h = omega (arith, length-take w bytes)
chunk-length w (suc n) bytes (suc i) r h = chunk-length w n (drop w bytes) i (omega (arith, length-drop w bytes)) (le_of_suc-le-suc h)

pub eight_bytes : (c : List ℕ) → length c ≡ 8 → from_bytes c ≡ from_le_bytes w64 c
eight_bytes c e = ap from_bytes (sym (take_all 8 c (omega arith))) ∙ omega (arith, eight-bytes c 0 (omega arith))

-- a chunk of eight bytes is the value at its index
pub value-chunk : (l : List ℕ) (i : ℕ) → i < length l / 8
    → get_or (values_in l) i 0 ≡ from_le_bytes w64 (get_or (first_chunks 8 (length l / 8) l) i [])
unfolding values_in
value-chunk l i h =
    let n = length l / 8 in
    chunk_at 8 n l i h ∙ eight_bytes (get_or (first_chunks 8 n l) i []) (chunk-length 8 n l i (omega arith) h)

-- a chunk of ten bytes: its last two are the head, and the first eight the significand
abbrev pub ten_bytes : List ℕ → ℕ
ten_bytes c = joined (get_or c 8 0 + get_or c 9 0 * 256) (from_le_bytes w64 c)

pub ten-chunk : (l : List ℕ) (i : ℕ) → i < length l / 10 → get_or (tens_in l) i 0 ≡ ten_bytes (get_or (first_chunks 10 (length l / 10) l) i [])
unfolding tens_in
ten-chunk l i h =
    let n = length l / 10 in
    let c = get_or (first_chunks 10 n l) i [] in
    chunk_at 10 n l i h ∙ summed c (chunk-length 10 n l i (omega arith) h)
  where
    summed : (c : List ℕ) → length c ≡ 10 → from_bytes c ≡ ten_bytes c
    summed c e =
        ap from_bytes (sym (take_all 10 c (omega arith)))
        ∙ omega (
          arith,
          one_byte c 0 1 9 refl (omega arith),
          one_byte c 1 2 8 refl (omega arith),
          one_byte c 2 3 7 refl (omega arith),
          one_byte c 3 4 6 refl (omega arith),
          one_byte c 4 5 5 refl (omega arith),
          one_byte c 5 6 4 refl (omega arith),
          one_byte c 6 7 3 refl (omega arith),
          one_byte c 7 8 2 refl (omega arith),
          one_byte c 8 9 1 refl (omega arith),
          one_byte c 9 10 0 refl (omega arith),
        )
