-- Kind 4: what an encoding stands for, by its sign, its field and its significand.
use mathlib.Core.Path.{◌≡◌, refl, sym, ap, ◌∙◌}
use mathlib.Core.Logic.{◌↔◌, ◌≢◌}
use mathlib.Core.Bool.{Bool, true, false, not, ◌&&◌, cond, true≢false}
use Prim.Native.Nat.{ℕ, zero, suc, ◌+◌, ◌-◌, ◌*◌, ◌%◌, ◌^◌, ◌≤◌, ◌<◌}
use native.Mathlib.Nat.{suc-ne-zero}
use native.Mathlib.Omega.{arith}
use lib.Dec.{eqb, ltb}
use borrow.Author.Tests.{eq-eqb, ne_eqb, eqb-true, eqb-false, lt-ltb, ltb-true, ltb-false}
use Rattle.totals_spec.specs.Basics.{flag}
use Rattle.totals_spec.specs.formats.Decode.{Unpacked, zero_of, finite, infinity, nan, is_nan}
use Rattle.totals_spec.specs.formats.Decode.{is_signaling, is_finite}
use Rattle.totals_spec.specs.formats.Encode.{encode, assembled}
use Rattle.totals_spec.specs.ten_bytes.Extended.{extended, spread, decode_extended}
use Rattle.totals_spec.specs.ten_bytes.Extended.{subnormal_extended, unsupported}
use Rattle.totals_spec.specs.ten_bytes.Extended.{unsupported_fields}
use Rattle.totals_spec.specs.ten_bytes.Extended.{extended_number, extended_fields, field_in}
use Rattle.totals_spec.specs.ten_bytes.Extended.{significand_in, sign_in}
use Rattle.totals_spec.proofs.ten_bytes.WrittenOut.{spread-assembled}
use Rattle.promises.specs.Special.{is_infinity, is_zero_value}
use Rattle.promises.specs.SpecialKind4.{Extended-reads, Extended-bits, Extended-subnormal-means}
use Rattle.promises.proofs.records.NanPatterns.{never, infinity-sign, nan-infinity}

module _ (s : Bool) where
  number-nan : (x m : ℕ) → is_nan (extended_number s x m) ≡ false
  number-nan zero zero = refl
  number-nan zero (suc m) = refl
  number-nan (suc x) m = refl

  number-signaling : (x m : ℕ) → is_signaling (extended_number s x m) ≡ false
  number-signaling zero zero = refl
  number-signaling zero (suc m) = refl
  number-signaling (suc x) m = refl

  number-infinity : (t : Bool) (x m : ℕ) → is_infinity t (extended_number s x m) ≡ false
  number-infinity true zero zero = refl
  number-infinity false zero zero = refl
  number-infinity true zero (suc m) = refl
  number-infinity false zero (suc m) = refl
  number-infinity true (suc x) m = refl
  number-infinity false (suc x) m = refl

  zero-sign : (t : Bool) → (is_zero_value t (zero_of s) ≡ true) ↔ (s ≡ t)
  zero-sign t = go t s
    where
      go : (t s : Bool) → (is_zero_value t (zero_of s) ≡ true) ↔ (s ≡ t)
      go true true = (λ e. refl, λ e. refl)
      go true false = (λ e. never e refl, λ e. never e refl)
      go false true = (λ e. never e refl, λ e. never (sym e) refl)
      go false false = (λ e. refl, λ e. refl)

  number-zero : (t : Bool) (x m : ℕ) → (is_zero_value t (extended_number s x m) ≡ true) ↔ ((x ≡ 0) × (m ≡ 0) × (s ≡ t))
  number-zero t zero zero = (λ e. (refl, refl, (zero-sign t).0 e), λ h. (zero-sign t).1 h.2)
  number-zero t zero (suc m) = (λ e. never e refl, λ h. absurd (suc-ne-zero m h.1))
  number-zero t (suc x) m = (λ e. never e refl, λ h. absurd (suc-ne-zero x h.0))

-- a field above 0 over a leading bit of 0
no-value : (x m : ℕ) → (unsupported_fields x m ≡ true) ↔ ((x ≢ 0) × (m < 2 ^ 63))
no-value x m = go (eqb x 0) (ltb m (2 ^ 63)) refl refl
  where
    go : (z d : Bool) → eqb x 0 ≡ z → ltb m (2 ^ 63) ≡ d → ((not z && d) ≡ true) ↔ ((x ≢ 0) × (m < 2 ^ 63))
    go true d i j = (λ e. never e refl, λ h. absurd (h.0 (eqb-true x 0 i)))
    go false true i j = (λ e. (eqb-false x 0 i, ltb-true m (2 ^ 63) j), λ h. refl)
    go false false i j = (λ e. never e refl, λ h. never (lt-ltb m (2 ^ 63) h.1) j)

module _ (s : Bool) (x m : ℕ) where
  abbrev read : (u a z g : Bool) → Unpacked
  read u a z g = cond u (nan s false 0) (cond a (cond z (infinity s) (nan s g (m % 2 ^ 62))) (extended_number s x m))

  abbrev Top : Type 0
  Top = x ≡ 2 ^ 15 - 1

  -- below a field of all ones that is supported the leading bit is set
  led : Top → unsupported_fields x m ≡ false → 2 ^ 63 ≤ m
  led e h = go (ltb m (2 ^ 63)) refl
    where
      go : (d : Bool) → ltb m (2 ^ 63) ≡ d → 2 ^ 63 ≤ m
      go true j =
          never ((no-value x m).1 (λ z. let w : ⊥ = omega (arith, z, e) in w, ltb-true m (2 ^ 63) j)) h
      go false j = ltb-false m (2 ^ 63) j

  infinity-at : (t u a z g : Bool) → unsupported_fields x m ≡ u → eqb x (2 ^ 15 - 1) ≡ a → eqb m (2 ^ 63) ≡ z
      → (is_infinity t (read u a z g) ≡ true) ↔ ((x ≡ 2 ^ 15 - 1) × (m ≡ 2 ^ 63) × (s ≡ t))
  infinity-at t true a z g h i j =
      (λ e. never e (nan-infinity t s false 0), λ k. let w : m < 2 ^ 63 = ((no-value x m).0 h).1 in absurd (let v : ⊥ = omega (arith, w, k.1) in v))
  infinity-at t false true true g h i j = (λ e. (eqb-true x _ i, eqb-true m _ j, (infinity-sign t s).0 e), λ k. (infinity-sign t s).1 k.2)
  infinity-at t false true false g h i j = (λ e. never e (nan-infinity t s g (m % 2 ^ 62)), λ k. never (eq-eqb m _ k.1) j)
  infinity-at t false false z g h i j = (λ e. never e (number-infinity s t x m), λ k. never (eq-eqb x _ k.0) i)

  nan-at : (u a z g : Bool) → unsupported_fields x m ≡ u → eqb x (2 ^ 15 - 1) ≡ a → eqb m (2 ^ 63) ≡ z
      → ((is_nan (read u a z g) ≡ true) × (u ≡ false)) ↔ ((x ≡ 2 ^ 15 - 1) × (2 ^ 63 < m))
  nan-at true a z g h i j =
      (λ e. absurd (true≢false e.1), λ k. let w : m < 2 ^ 63 = ((no-value x m).0 h).1 in absurd (let v : ⊥ = omega (arith, w, k.1) in v))
  nan-at false true true g h i j =
      (λ e. never e.0 refl, λ k. let w : m ≡ 2 ^ 63 = eqb-true m _ j in absurd (let v : ⊥ = omega (arith, w, k.1) in v))
  nan-at false true false g h i j = (
    λ e.
        let t : Top = eqb-true x _ i in
        let w : 2 ^ 63 ≤ m = led t h in
        let n : m ≢ 2 ^ 63 = eqb-false m _ j in
        (t, let v : 2 ^ 63 < m = omega (arith, w, n) in v),
    λ k. (refl, refl),
  )
  nan-at false false z g h i j = (λ e. never e.0 (number-nan s x m), λ k. never (eq-eqb x _ k.0) i)

  signaling-at : (u a z g : Bool) → unsupported_fields x m ≡ u → eqb x (2 ^ 15 - 1) ≡ a → eqb m (2 ^ 63) ≡ z
      → ltb m (2 ^ 63 + 2 ^ 62) ≡ g
      → ((is_signaling (read u a z g) ≡ true) × (u ≡ false)) ↔ ((x ≡ 2 ^ 15 - 1) × (2 ^ 63 < m) × (m < 2 ^ 63 + 2 ^ 62))
  signaling-at true a z g h i j l =
      (λ e. absurd (true≢false e.1), λ k. let w : m < 2 ^ 63 = ((no-value x m).0 h).1 in absurd (let v : ⊥ = omega (arith, w, k.1) in v))
  signaling-at false true true g h i j l =
      (λ e. never e.0 refl, λ k. let w : m ≡ 2 ^ 63 = eqb-true m _ j in absurd (let v : ⊥ = omega (arith, w, k.1) in v))
  signaling-at false true false true h i j l = (
    λ e. let n = (nan-at false true false true h i j).0 (refl, refl) in (n.0, n.1, ltb-true m (2 ^ 63 + 2 ^ 62) l),
    λ k. (refl, refl),
  )
  signaling-at false true false false h i j l = (λ e. never e.0 refl, λ k. never (lt-ltb m (2 ^ 63 + 2 ^ 62) k.2) l)
  signaling-at false false z g h i j l = (λ e. never e.0 (number-signaling s x m), λ k. never (eq-eqb x _ k.0) i)

  zero-at : (t u a z g : Bool) → unsupported_fields x m ≡ u → eqb x (2 ^ 15 - 1) ≡ a
      → (is_zero_value t (read u a z g) ≡ true) ↔ ((x ≡ 0) × (m ≡ 0) × (s ≡ t))
  zero-at t true a z g h i = (λ e. never e refl, λ k. absurd (((no-value x m).0 h).0 k.0))
  zero-at t false true true g h i = (
    λ e. never e refl,
    λ k. let w : x ≡ 2 ^ 15 - 1 = eqb-true x _ i in absurd (let v : ⊥ = omega (arith, w, k.0) in v),
  )
  zero-at t false true false g h i = (
    λ e. never e refl,
    λ k. let w : x ≡ 2 ^ 15 - 1 = eqb-true x _ i in absurd (let v : ⊥ = omega (arith, w, k.0) in v),
  )
  zero-at t false false z g h i = number-zero s t x m

  number-at : unsupported_fields x m ≡ false → x ≢ 2 ^ 15 - 1 → m ≢ 0 → extended_fields s x m ≡ finite s (x - 1) m
  number-at h n p = rw (h, ne_eqb x (2 ^ 15 - 1) n) (go x m p)
    where
      go : (y n : ℕ) → n ≢ 0 → extended_number s y n ≡ finite s (y - 1) n
      go zero zero q = absurd (q refl)
      go zero (suc n) q = refl
      go (suc y) n q = ap (λ (k : ℕ). finite s k n) (let w : y ≡ suc y - 1 = omega arith in w)

  subnormal-at : ((is_finite (extended_fields s x m) && eqb x 0) ≡ true) ↔ ((x ≡ 0) × (m ≢ 0))
  subnormal-at = go x m
    where
      none : (b : Bool) → (b && false) ≡ false
      none true = refl
      none false = refl

      go : (y n : ℕ) → ((is_finite (extended_fields s y n) && eqb y 0) ≡ true) ↔ ((y ≡ 0) × (n ≢ 0))
      go zero zero = (λ e. never e refl, λ k. absurd (k.1 refl))
      go zero (suc n) = (λ e. (refl, suc-ne-zero n), λ k. refl)
      go (suc y) n = (
        λ e. never e (ap (λ (t : Bool). is_finite (extended_fields s (suc y) n) && t) (ne_eqb (suc y) 0 (suc-ne-zero y)) ∙ none (is_finite (extended_fields s (suc y) n))),
        λ k. absurd (suc-ne-zero y k.0),
      )

pub extended-reads : Extended-reads
unfolding unsupported decode_extended
extended-reads b = record {
  nothing = no-value (field_in b) (significand_in b);
  infinite = λ t. infinity-at (sign_in b) (field_in b) (significand_in b) t _ _ _ _ refl refl refl;
  nans = nan-at (sign_in b) (field_in b) (significand_in b) _ _ _ _ refl refl refl;
  signaling = signaling-at (sign_in b) (field_in b) (significand_in b) _ _ _ _ refl refl refl refl;
  zeros = λ t. zero-at (sign_in b) (field_in b) (significand_in b) t _ _ _ _ refl refl;
  number = number-at (sign_in b) (field_in b) (significand_in b);
}

pub extended-subnormal-means : Extended-subnormal-means
unfolding subnormal_extended decode_extended
extended-subnormal-means b = subnormal-at (sign_in b) (field_in b) (significand_in b)

-- ---- in bits

zero-encoded : (s : Bool) → encode extended (zero_of s) ≡ assembled extended s 0 0
unfolding encode extended
zero-encoded s = refl

infinity-encoded : (s : Bool) → encode extended (infinity s) ≡ assembled extended s (2 ^ 15 - 1) 0
unfolding encode extended
infinity-encoded s = refl

nan-encoded : (s g : Bool) (m : ℕ)
    → encode extended (nan s g m) ≡ assembled extended s (2 ^ 15 - 1) (flag (2 ^ 62) (not g) + m)
unfolding encode extended
nan-encoded s g m = refl

pub extended-bits : Extended-bits
extended-bits s g m = (
  ap spread (zero-encoded s) ∙ spread-assembled s 0 0 (omega arith) (omega arith) ∙ plain s,
  ap spread (infinity-encoded s) ∙ spread-assembled s (2 ^ 15 - 1) 0 (omega arith) (omega arith) ∙ refl,
  λ h.
      ap spread (nan-encoded s g m)
      ∙ spread-assembled s (2 ^ 15 - 1) (flag (2 ^ 62) (not g) + m) (omega arith) (payload g h) ∙ refl,
)
  where
    plain : (s : Bool) → flag (2 ^ 79) s + 0 * 2 ^ 64 + (flag (2 ^ 63) (not (eqb 0 0)) + 0) ≡ flag (2 ^ 79) s
    plain true = refl
    plain false = refl

    payload : (g : Bool) → m < 2 ^ 62 → flag (2 ^ 62) (not g) + m < 2 ^ 63
    payload true h = omega arith
    payload false h = omega arith
