-- What the byte entries return and write.
use mathlib.Core.Path.{◌≡◌, refl, sym, ap, ap₂, ◌∙◌}
use mathlib.Core.Logic.{◌≢◌, ◌⊎◌, inl, inr}
use mathlib.Core.Bool.{Bool, true, false, not, ◌||◌, cond, true≢false}
use mathlib.Core.List.{List, [], ◌∷◌, ◌++◌}
use Prim.Native.Nat.{ℕ, zero, suc, ◌+◌, ◌*◌, ◌/◌, ◌%◌, ◌^◌, ◌<◌}
use native.Mathlib.Nat.{div-one, div-div-eq-div-mul, pow-succ'}
use native.Mathlib.Omega.{arith}
use lib.Dec.{eqb, ltb}
use lib.ListN.{length, drop, get_or, replicate}
use borrow.Author.Tests.{eq-eqb, ne_eqb, eqb-false, lt-ltb, le-ltb}
use Rattle.std.proofs.lemmas.List.{append_assoc}
use Rattle.totals_spec.specs.sums.Totals.{Answer, sum_answer, dot_answer}
use Rattle.totals_spec.specs.entries.Bytes.{to_bytes, values_in, Entry, written, entered, uneven}
use Rattle.totals_spec.specs.entries.Bytes.{sum_entry, dot_entry}
use Rattle.totals_spec.specs.refusals.Conditions.{Uneven}
use Rattle.totals_spec.specs.ten_bytes.Conditions.{UnevenTens}
use Rattle.totals_spec.specs.ten_bytes.Extended.{tens_in, uneven_tens, extended_written}
use Rattle.totals_spec.specs.ten_bytes.Extended.{extended_entered}
use Rattle.totals_spec.specs.ten_bytes.Extended.{extended_sum_answer, extended_dot_answer}
use Rattle.totals_spec.specs.ten_bytes.Extended.{extended_sum_entry, extended_dot_entry, sum_call}
use Rattle.totals_spec.specs.ten_bytes.Extended.{dot_call}
use Rattle.totals_spec.proofs.sums.FieldsFit.{sum-fits, dot-fits}
use Rattle.totals_spec.proofs.entries.ValuesInBytes.{wide-length, wide_at}
use Rattle.totals_spec.proofs.ten_bytes.Totals.{extended-fits, extended-refused}
use Rattle.promises.specs.Entries.{Bytes-of, Eights-values, eights_of, tens_of, Does}
use Rattle.promises.specs.Entries.{Sum-call-does, Dot-call-does, Extended-sum-call-does, Extended-dot-call-does}

-- ---- numbers

pub bytes-of : Bytes-of
bytes-of n x = (long n x, each n x)
  where
    long : (n x : ℕ) → length (to_bytes n x) ≡ n
    long zero x = refl
    long (suc n) x = ap suc (long n (x / 256))

    each : (n x i : ℕ) → i < n → get_or (to_bytes n x) i 0 ≡ x / 256 ^ i % 256
    each zero x i h = absurd (let z : ⊥ = omega (arith, h) in z)
    each (suc n) x zero h = ap (λ (k : ℕ). k % 256) (sym (div-one x))
    each (suc n) x (suc i) h =
        each n (x / 256) i (let z : i < n = omega (arith, h) in z)
        ∙ ap (λ (k : ℕ). k % 256) (div-div-eq-div-mul x 256 (256 ^ i) ∙ ap (λ (k : ℕ). x / k) (sym (pow-succ' 256 i)))

pub eights-values : Eights-values
unfolding values_in
eights-values bytes = (wide-length 8 (length bytes / 8) bytes, wide_at 8 (length bytes / 8) bytes)

-- ---- an answer

two-bytes : (n : ℕ) → n < 256 → to_bytes 2 n ≡ n ∷ 0 ∷ []
two-bytes n h = ap₂ (λ (a b : ℕ). a ∷ b ∷ []) (let z : n % 256 ≡ n = omega arith in z) (let z : n / 256 % 256 ≡ 0 = omega arith in z)

one-byte : (n : ℕ) → n < 256 → to_bytes 1 n ≡ n ∷ []
one-byte n h = ap (λ (a : ℕ). a ∷ []) (let z : n % 256 ≡ n = omega arith in z)

-- what follows a small number is 0
then-zeros : (k n : ℕ) → n < 256 → to_bytes (suc k) n ≡ n ∷ replicate k 0
then-zeros k n h = ap₂ (λ (a : ℕ) (l : List ℕ). a ∷ l) (let z : n % 256 ≡ n = omega arith in z) (ap (to_bytes k) (let z : n / 256 ≡ 0 = omega arith in z) ∙ zeros k)
  where
    zeros : (k : ℕ) → to_bytes k 0 ≡ replicate k 0
    zeros zero = refl
    zeros (suc k) = ap (λ (l : List ℕ). 0 ∷ l) (zeros k)

eights-written : (a : Answer) (old : List ℕ) → a.flags < 256 → a.side < 256 → written a old ≡ eights_of a ++ drop 24 old
unfolding written
eights-written a old hf hs =
    ap₂ (λ (l k : List ℕ). to_bytes 8 a.result ++ (l ++ (k ++ (to_bytes 8 a.passes ++ drop 24 old)))) (two-bytes a.flags hf) (then-zeros 5 a.side hs)
    ∙ sym (append_assoc (to_bytes 8 a.result) (a.flags ∷ 0 ∷ a.side ∷ 0 ∷ 0 ∷ 0 ∷ 0 ∷ 0 ∷ to_bytes 8 a.passes) (drop 24 old))

tens-written : (a : Answer) (old : List ℕ) → a.flags < 256 → a.side < 256 → extended_written a old ≡ tens_of a ++ drop 32 old
unfolding extended_written
tens-written a old hf hs =
    ap₂ (λ (l k : List ℕ). to_bytes 10 a.result ++ (l ++ (k ++ (to_bytes 8 a.passes ++ drop 32 old)))) (one-byte a.flags hf) (then-zeros 12 a.side hs)
    ∙ sym (append_assoc (to_bytes 10 a.result) (a.flags ∷ a.side ∷ (replicate 12 0 ++ to_bytes 8 a.passes)) (drop 32 old))

-- ---- an entry by its tests

abbrev tested : Bool → Bool → Bool → ℕ → List ℕ → List ℕ → Entry
tested b s r n new old =
    cond b (record { code = 1; buffer = old }) (cond s (record { code = 2; buffer = old }) (cond r (record { code = 0; buffer = new }) (record { code = n; buffer = old })))

module _ (cut : Type 0) (b : Bool) (needed n : ℕ) (a : Answer) (told new old : List ℕ) (is : b ≡ true → cut) (is-not : cut → b ≡ true)
    (number : a.refusal ≢ 0 → n ≡ a.refusal + 256 * a.place) (same : a.refusal ≡ 0 → new ≡ told ++ drop needed old) where
  whole : ¬ cut → b ≡ false
  whole h = go b refl
    where
      go : (t : Bool) → b ≡ t → t ≡ false
      go true e = absurd (h (is e))
      go false e = refl

  does : Does cut needed a told old (tested b (ltb (length old) needed) (eqb a.refusal 0) n new old)
  does = record {
    uneven = λ h. rw (is-not h) refl;
    short = λ h k. rw (whole h, lt-ltb (length old) needed k) refl;
    refused = λ h k r. rw (whole h, le-ltb (length old) needed k, ne_eqb a.refusal 0 r) (ap (λ (i : ℕ). record { code = i; buffer = old }) (number r));
    accepted = λ h k r. rw (whole h, le-ltb (length old) needed k, eq-eqb a.refusal 0 r) (ap (λ (l : List ℕ). record { code = 0; buffer = l }) (same r));
  }

-- whether a list ends within a value
module _ (n : ℕ) where
  found : (l : List ℕ) → not (eqb (length l % n) 0) ≡ true → length l % n ≢ 0
  found l h = go (eqb (length l % n) 0) refl h
    where
      go : (t : Bool) → eqb (length l % n) 0 ≡ t → not t ≡ true → length l % n ≢ 0
      go true e k = absurd (true≢false (sym k))
      go false e k = eqb-false (length l % n) 0 e

  found-back : (l : List ℕ) → length l % n ≢ 0 → not (eqb (length l % n) 0) ≡ true
  found-back l h = rw (ne_eqb (length l % n) 0 h) refl

  either-found : (l k : List ℕ) → (not (eqb (length l % n) 0) || not (eqb (length k % n) 0)) ≡ true
      → (length l % n ≢ 0) ⊎ (length k % n ≢ 0)
  either-found l k h = go (eqb (length l % n) 0) refl h
    where
      go : (t : Bool) → eqb (length l % n) 0 ≡ t → (not t || not (eqb (length k % n) 0)) ≡ true
          → (length l % n ≢ 0) ⊎ (length k % n ≢ 0)
      go true e i = inr (found k i)
      go false e i = inl (eqb-false (length l % n) 0 e)

  either-back : (l k : List ℕ) → (length l % n ≢ 0) ⊎ (length k % n ≢ 0)
      → (not (eqb (length l % n) 0) || not (eqb (length k % n) 0)) ≡ true
  either-back l k (inl h) = rw (ne_eqb (length l % n) 0 h) refl
  either-back l k (inr h) = rw (ne_eqb (length k % n) 0 h) (or-true (not (eqb (length l % n) 0)))
    where
      or-true : (t : Bool) → (t || true) ≡ true
      or-true true = refl
      or-true false = refl

-- ---- kinds 0 to 3

small : (n : ℕ) → n < 4 → n < 256
small n h = omega arith

pub sum-call-does : Sum-call-does
unfolding sum_call sum_entry entered
sum-call-does f c u bytes old k =
    let a = sum_answer f c u (values_in bytes) in
    let s = sum-fits f c u (values_in bytes) in
    rw (ne_eqb f.kind 4 k)
    (does (Uneven bytes) (uneven bytes) 24 (a.refusal + 256 * a.place) a (eights_of a) (written a old) old (found 8 bytes) (found-back 8 bytes)
    (λ h. refl) (λ h. eights-written a old s.flags (small a.side s.side)))

pub dot-call-does : Dot-call-does
unfolding dot_call dot_entry entered
dot-call-does f c left right old k =
    let a = dot_answer f c (values_in left) (values_in right) in
    let s = dot-fits f c (values_in left) (values_in right) in
    rw (ne_eqb f.kind 4 k)
    (does (Uneven left ⊎ Uneven right) (uneven left || uneven right) 24 (a.refusal + 256 * a.place) a (eights_of a) (written a old) old
    (either-found 8 left right) (either-back 8 left right)
    (λ h. refl) (λ h. eights-written a old s.flags (small a.side s.side)))

-- ---- kind 4, whose refusals have no place

pub extended-sum-call-does : Extended-sum-call-does
unfolding sum_call extended_sum_entry extended_entered
extended-sum-call-does f c u bytes old k =
    let a = extended_sum_answer f c u (tens_in bytes) in
    let s = extended-fits.0 f c u (tens_in bytes) in
    rw (eq-eqb f.kind 4 k)
    (does (UnevenTens bytes) (uneven_tens bytes) 32 a.refusal a (tens_of a) (extended_written a old) old (found 10 bytes) (found-back 10 bytes)
    (λ h. let z : a.place ≡ 0 = ap (λ (b : Answer). b.place) (extended-refused.0 f c u (tens_in bytes) h) in omega (arith, z))
    (λ h. tens-written a old s.flags (small a.side s.side)))

pub extended-dot-call-does : Extended-dot-call-does
unfolding dot_call extended_dot_entry extended_entered
extended-dot-call-does f c left right old k =
    let a = extended_dot_answer f c (tens_in left) (tens_in right) in
    let s = extended-fits.1 f c (tens_in left) (tens_in right) in
    rw (eq-eqb f.kind 4 k)
    (does (UnevenTens left ⊎ UnevenTens right) (uneven_tens left || uneven_tens right) 32 a.refusal a (tens_of a) (extended_written a old) old
    (either-found 10 left right) (either-back 10 left right)
    (λ h. let z : a.place ≡ 0 = ap (λ (b : Answer). b.place) (extended-refused.1 f c (tens_in left) (tens_in right) h) in omega (arith, z))
    (λ h. tens-written a old s.flags (small a.side s.side)))
