-- The byte entries of a sum and of a dot: how values stand in bytes, which number comes back, and
-- what is written. Kind 4 has ten bytes a value and 32 of an answer, every other kind eight and 24.
use Rattle.std.specs.Prelude.{◌≡◌, ◌≢◌, ◌⊎◌, List, ◌∷◌, ◌++◌, ℕ, ◌+◌, ◌*◌, ◌/◌, ◌%◌, ◌^◌, ◌≤◌, ◌<◌}
use Rattle.std.specs.Prelude.{length, replicate, take, drop, get_or}
use Rattle.totals_spec.specs.formats.Format.{Format}
use Rattle.totals_spec.specs.formats.Settings.{Settings}
use Rattle.totals_spec.specs.sums.Totals.{Answer, sum_answer, dot_answer}
use Rattle.totals_spec.specs.entries.Bytes.{from_bytes, to_bytes, values_in, Entry}
use Rattle.totals_spec.specs.refusals.Conditions.{Uneven}
use Rattle.totals_spec.specs.ten_bytes.Conditions.{UnevenTens}
use Rattle.totals_spec.specs.ten_bytes.Extended.{tens_in, extended_sum_answer, extended_dot_answer}
use Rattle.totals_spec.specs.ten_bytes.Extended.{sum_call, dot_call}

-- ---- numbers in bytes, the least first

-- byte i of n bytes of a number
abbrev pub Bytes-of : Type 0
Bytes-of = (n x : ℕ) → (length (to_bytes n x) ≡ n)
    × ((i : ℕ) → i < n → get_or (to_bytes n x) i 0 ≡ x / 256 ^ i % 256)

-- a value stands in each eight bytes
abbrev pub Eights-values : Type 0
Eights-values = (bytes : List ℕ)
    → (length (values_in bytes) ≡ length bytes / 8)
    × ((i : ℕ) → i < length bytes / 8 → get_or (values_in bytes) i 0
    ≡ from_bytes (take 8 (drop (8 * i) bytes)))

-- ---- an answer in bytes

-- the result in 0 to 7, the flags in 8, the side in 10, the passes in 16 to 23; 9 and 11 to 15 are
-- 0
abbrev pub eights_of : Answer → List ℕ
eights_of a = to_bytes 8 a.result
    ++ (a.flags ∷ 0 ∷ a.side ∷ 0 ∷ 0 ∷ 0 ∷ 0 ∷ 0 ∷ to_bytes 8 a.passes)

-- of kind 4 the result in 0 to 9, the flags in 10, the side in 11, the passes in 24 to 31; 12 to 23
-- are 0
abbrev pub tens_of : Answer → List ℕ
tens_of a = to_bytes 10 a.result ++ (a.flags ∷ a.side ∷ (replicate 12 0 ++ to_bytes 8 a.passes))

-- ---- what an entry does with the answer a, which takes so many bytes: its number, and the buffer

pub record Does (cut : Type 0) (needed : ℕ) (a : Answer) (told old : List ℕ)
    (x : Entry) : Type 0 where
  -- a last value is cut short
  pub uneven : cut → x ≡ record { code = 1; buffer = old }
  pub short : ¬ cut → length old < needed → x ≡ record { code = 2; buffer = old }
  -- the total's own refusal, and from the second byte of the number on its place
  pub refused : ¬ cut → needed ≤ length old → a.refusal ≢ 0
      → x ≡ record { code = a.refusal + 256 * a.place; buffer = old }
  -- what follows the answer stays
  pub accepted : ¬ cut → needed ≤ length old → a.refusal ≡ 0
      → x ≡ record { code = 0; buffer = told ++ drop needed old }

abbrev pub Sum-call-does : Type 0
Sum-call-does = (f : Format) (c : Settings) (u : ℕ) (bytes old : List ℕ) → f.kind ≢ 4
    → let a = sum_answer f c u (values_in bytes) in
    Does (Uneven bytes) 24 a (eights_of a) old (sum_call f c u bytes old)

abbrev pub Dot-call-does : Type 0
Dot-call-does = (f : Format) (c : Settings) (left right old : List ℕ) → f.kind ≢ 4
    → let a = dot_answer f c (values_in left) (values_in right) in
    Does (Uneven left ⊎ Uneven right) 24 a (eights_of a) old (dot_call f c left right old)

abbrev pub Extended-sum-call-does : Type 0
Extended-sum-call-does = (f : Format) (c : Settings) (u : ℕ) (bytes old : List ℕ) → f.kind ≡ 4
    → let a = extended_sum_answer f c u (tens_in bytes) in
    Does (UnevenTens bytes) 32 a (tens_of a) old (sum_call f c u bytes old)

abbrev pub Extended-dot-call-does : Type 0
Extended-dot-call-does = (f : Format) (c : Settings) (left right old : List ℕ) → f.kind ≡ 4
    → let a = extended_dot_answer f c (tens_in left) (tens_in right) in
    Does (UnevenTens left ⊎ UnevenTens right) 32 a (tens_of a) old (dot_call f c left right old)
