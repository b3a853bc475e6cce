-- What is encoded is decoded again: zeros but for their sign, numbers that the format holds,
-- infinities and NaNs.
use mathlib.Core.Path.{◌≡◌, refl, sym, ap, ◌∙◌, subst}
use mathlib.Core.Bool.{Bool, true, false, ◌&&◌, cond, not}
use Prim.Native.Nat.{ℕ, ◌+◌, ◌-◌, ◌*◌, ◌/◌, ◌%◌, ◌^◌, ◌≤◌, ◌<◌, suc, zero}
use native.Mathlib.Nat.{add-mul, one-mul, zero-mul, pow-succ'}
use native.Mathlib.Omega.{arith}
use lib.Dec.{eqb, T, eqb→eq, ltb, ltb→lt, nltb→le}
use lib.Arith.{digits_div, digits_mod, digits_lt}
use lib.Pow.{pow-add, pow_pos}
use borrow.Author.Tests.{ne_eqb, eq-eqb}
use Rattle.totals_spec.specs.Basics.{flag}
use Rattle.totals_spec.specs.formats.Bounds.{RangeBounds}
use Rattle.totals_spec.specs.formats.Format.{Format, kind_of, fraction_bits, ieee, no_inf, Kind}
use Rattle.totals_spec.specs.formats.Format.{fnuz, finite_only}
use Rattle.totals_spec.specs.formats.Decode.{sign_bit, field_of, fraction_of, decode_fields, decode}
use Rattle.totals_spec.specs.formats.Decode.{nan, number, Unpacked, zero_of, finite, infinity}
use Rattle.totals_spec.specs.formats.Decode.{is_number}
use Rattle.totals_spec.specs.formats.Encode.{assembled, zero_bits, nan_bits, encode}
use Rattle.totals_spec.specs.formats.KindValues.{has_nan}
use Rattle.totals_spec.specs.rounding.Promises.{kept_as}
use Rattle.totals_spec.proofs.numbers.Powers.{pow-next}
use Rattle.totals_spec.proofs.formats.ExponentRange.{four-fields}

-- ---- the three fields

module _ (f : Format) (b : RangeBounds f) (s : Bool) (x m : ℕ) (hx : x < 2 ^ f.E) (hm : m < 2 ^ fraction_bits f) where
  top : 2 ^ (f.W - 1) ≡ 2 ^ f.E * 2 ^ fraction_bits f
  top = ap (λ (n : ℕ). 2 ^ n) sum ∙ pow-add 2 f.E (fraction_bits f)
    where
      sum : f.W - 1 ≡ f.E + (f.W - f.E - 1)
      sum = omega (arith, b.w-ge)

  one-sign : (t : Bool) → flag (2 ^ (f.W - 1)) t ≡ flag 1 t * 2 ^ (f.W - 1)
  one-sign true = sym (one-mul (2 ^ (f.W - 1)))
  one-sign false = sym (zero-mul (2 ^ (f.W - 1)))

  pub body : x * 2 ^ fraction_bits f + m < 2 ^ (f.W - 1)
  body = rw top (digits_lt hx hm)

  pub by_sign : assembled f s x m ≡ flag 1 s * 2 ^ (f.W - 1) + (x * 2 ^ fraction_bits f + m)
  by_sign = omega (arith, one-sign s)

  by_field : assembled f s x m ≡ (flag 1 s * 2 ^ f.E + x) * 2 ^ fraction_bits f + m
  by_field = omega (arith, one-sign s, product, add-mul (flag 1 s * 2 ^ f.E) x (2 ^ fraction_bits f))
    where
      product : flag 1 s * 2 ^ (f.W - 1) ≡ flag 1 s * 2 ^ f.E * 2 ^ fraction_bits f
      product = go s
        where
          go : (t : Bool) → flag 1 t * 2 ^ (f.W - 1) ≡ flag 1 t * 2 ^ f.E * 2 ^ fraction_bits f
          go true = one-mul (2 ^ (f.W - 1)) ∙ top ∙ ap (λ (n : ℕ). n * 2 ^ fraction_bits f) (sym (one-mul (2 ^ f.E)))
          go false = zero-mul (2 ^ (f.W - 1)) ∙ sym (ap (λ (n : ℕ). n * 2 ^ fraction_bits f) (zero-mul (2 ^ f.E)) ∙ zero-mul (2 ^ fraction_bits f))

  pub sign-back : sign_bit f (assembled f s x m) ≡ s
  sign-back = ap (λ (n : ℕ). eqb (n % 2) 1) (ap (λ (n : ℕ). n / 2 ^ (f.W - 1)) by_sign ∙ digits_div (flag 1 s) body) ∙ go s
    where
      go : (t : Bool) → eqb (flag 1 t % 2) 1 ≡ t
      go true = refl
      go false = refl

  pub field_back : field_of f (assembled f s x m) ≡ x
  field_back =
      ap (λ (n : ℕ). n % 2 ^ f.E) (ap (λ (n : ℕ). n / 2 ^ fraction_bits f) by_field ∙ digits_div (flag 1 s * 2 ^ f.E + x) hm) ∙ digits_mod (flag 1 s) hx

  pub fraction-back : fraction_of f (assembled f s x m) ≡ m
  fraction-back = ap (λ (n : ℕ). n % 2 ^ fraction_bits f) by_field ∙ digits_mod (flag 1 s * 2 ^ f.E + x) hm

  pub fields_back : decode f (assembled f s x m) ≡ decode_fields (kind_of f.kind) f s x m
  unfolding decode
  fields_back = λ i. decode_fields (kind_of f.kind) f (sign-back i) (field_back i) (fraction-back i)

  -- they have W bits
  pub fields_fit : assembled f s x m < 2 ^ f.W
  fields_fit = omega (arith, body, one-sign s, sign_le s, pow-next f.W (omega (arith, b.w-ge)))
    where
      sign_le : (t : Bool) → flag (2 ^ (f.W - 1)) t ≤ 2 ^ (f.W - 1)
      sign_le true = omega arith
      sign_le false = omega arith

-- ---- numbers m × 2^k of at most p digits that the format holds

pub record Storable (f : Format) (k m : ℕ) : Type 0 where
  pub some : 0 < m
  pub short : m < 2 ^ suc (fraction_bits f)
  pub least : m < 2 ^ fraction_bits f → k ≡ 0
  pub field : suc k < 2 ^ f.E
  pub below : kind_of f.kind ≡ ieee → suc k ≡ 2 ^ f.E - 1 → ⊥
  pub other : kind_of f.kind ≡ no_inf → suc k ≡ 2 ^ f.E - 1 → m ≡ 2 ^ suc (fraction_bits f) - 1 → ⊥

-- the number law by kinds: x is the exponent field, m the fraction, not both 0
number-kind : (f : Format) (s : Bool) (x m : ℕ) (k : Kind) → (x ≡ 0 → m ≡ 0 → ⊥) → (k ≡ ieee → x ≡ 2 ^ f.E - 1 → ⊥)
    → (k ≡ no_inf → x ≡ 2 ^ f.E - 1 → m ≡ 2 ^ fraction_bits f - 1 → ⊥)
    → decode_fields k f s x m ≡ number (fraction_bits f) s x m
number-kind f s x m ieee z h g = rw (ne_eqb x (2 ^ f.E - 1) (h refl))
number-kind f s x m no_inf z h g =
    ap (λ (b : Bool). cond b (nan s false 0) (number (fraction_bits f) s x m)) (go (eqb x (2 ^ f.E - 1)) (eqb m (2 ^ fraction_bits f - 1)) refl refl)
  where
    go : (a c : Bool) → eqb x (2 ^ f.E - 1) ≡ a → eqb m (2 ^ fraction_bits f - 1) ≡ c → (a && c) ≡ false
    go true true p q = absurd (g refl (is_eq x (2 ^ f.E - 1) p) (is_eq m (2 ^ fraction_bits f - 1) q))
      where
        is_eq : (a b : ℕ) → eqb a b ≡ true → a ≡ b
        is_eq a b e = eqb→eq a b (subst T (sym e) tt)
    go true false p q = refl
    go false c p q = refl
number-kind f s x m fnuz z h g = ap (λ (b : Bool). cond b (nan s false 0) (number (fraction_bits f) s x m)) (go s (eqb x 0) (eqb m 0) refl refl)
  where
    go : (t a c : Bool) → eqb x 0 ≡ a → eqb m 0 ≡ c → (t && a && c) ≡ false
    go true true true p q = absurd (z (is_zero x p) (is_zero m q))
      where
        is_zero : (n : ℕ) → eqb n 0 ≡ true → n ≡ 0
        is_zero n e = eqb→eq n 0 (subst T (sym e) tt)
    go true true false p q = refl
    go true false c p q = refl
    go false a c p q = refl
number-kind f s x m finite_only z h g = refl

module _ (f : Format) (b : RangeBounds f) where
  pub back-finite : (s : Bool) (k m : ℕ) → Storable f k m → decode f (encode f (finite s k m)) ≡ finite s k m
  unfolding encode
  back-finite s k m h = go (ltb m (2 ^ fraction_bits f)) (ltb→lt m (2 ^ fraction_bits f)) (nltb→le m (2 ^ fraction_bits f))
    where
      zero_field : 0 < 2 ^ f.E
      zero_field = pow_pos f.E

      whole : 2 ^ suc (fraction_bits f) ≡ 2 * 2 ^ fraction_bits f
      whole = pow-succ' 2 (fraction_bits f)

      subnormal : (n : ℕ) → m ≡ n → 0 < n → number (fraction_bits f) s 0 n ≡ finite s 0 m
      subnormal zero e z = absurd (let y : ⊥ = omega arith in y)
      subnormal (suc n) e z = ap (finite s 0) (sym e)

      go : (t : Bool) → (T t → m < 2 ^ fraction_bits f) → (T (not t) → 2 ^ fraction_bits f ≤ m)
          → decode f (cond t (assembled f s 0 m) (assembled f s (suc k) (m - 2 ^ fraction_bits f))) ≡ finite s k m
      go true l g =
          fields_back f b s 0 m zero_field (l tt)
          ∙ number-kind f s 0 m (kind_of f.kind) (λ e z. omega (arith, z, h.some)) (λ e z. omega (arith, z, four-fields f b))
          (λ e z y. omega (arith, z, four-fields f b))
          ∙ subnormal m refl h.some ∙ ap (λ (n : ℕ). finite s n m) (sym (h.least (l tt)))
      go false l g =
          let n : 2 ^ fraction_bits f ≤ m = g tt in
          let u : m - 2 ^ fraction_bits f < 2 ^ fraction_bits f = omega (arith, whole, h.short, n) in
          let r : 2 ^ fraction_bits f + (m - 2 ^ fraction_bits f) ≡ m = omega (arith, n) in
          fields_back f b s (suc k) (m - 2 ^ fraction_bits f) h.field u
          ∙ number-kind f s (suc k) (m - 2 ^ fraction_bits f) (kind_of f.kind) (λ e z. omega (arith, e)) h.below
          (λ e z y. h.other e z (omega (arith, whole, y, n, pow_pos (fraction_bits f))))
          ∙ ap (finite s k) r

  pub zero-back : (s : Bool) → decode f (encode f (zero_of s)) ≡ kept_as (kind_of f.kind) (zero_of s)
  unfolding encode
  zero-back s = go (kind_of f.kind) refl
    where
      first : 0 ≡ 2 ^ f.E - 1 → ⊥
      first z = omega (arith, z, four-fields f b)

      at : (t : Bool) → decode f (assembled f t 0 0) ≡ decode_fields (kind_of f.kind) f t 0 0
      at t = fields_back f b t 0 0 (pow_pos f.E) (pow_pos (fraction_bits f))

      go : (k : Kind) → kind_of f.kind ≡ k → decode f (zero_bits k f s) ≡ kept_as k (zero_of s)
      go ieee e = at s ∙ rw (e, ne_eqb 0 (2 ^ f.E - 1) first)
      go no_inf e = at s ∙ rw (e, ne_eqb 0 (2 ^ f.E - 1) first)
      go fnuz e = at false ∙ rw e
      go finite_only e = at s ∙ rw e

  -- a zero of some sign
  pub back-zero : (P : Unpacked → Type 0) → ((t : Bool) → P (zero_of t)) → (s : Bool) → P (decode f (encode f (zero_of s)))
  back-zero P h s = subst P (sym (zero-back s)) (go (kind_of f.kind))
    where
      go : (k : Kind) → P (kept_as k (zero_of s))
      go ieee = h s
      go no_inf = h s
      go fnuz = h false
      go finite_only = h s

  pub back-infinity : (s : Bool) → kind_of f.kind ≡ ieee → decode f (encode f (infinity s)) ≡ infinity s
  unfolding encode
  back-infinity s e =
      fields_back f b s (2 ^ f.E - 1) 0 (omega (arith, pow_pos f.E)) (pow_pos (fraction_bits f)) ∙ rw (e, eq-eqb (2 ^ f.E - 1) (2 ^ f.E - 1) refl)

  -- below a field of all ones stands an infinity or a NaN
  topped : (s : Bool) (x : ℕ) (z : Bool) → is_number (cond z (infinity s) (nan s (ltb x (2 ^ (fraction_bits f - 1))) (x % 2 ^ (fraction_bits f - 1)))) ≡ false
  topped s x true = refl
  topped s x false = refl

  -- a payload below the quiet bit
  pub quiet-fits : (g : Bool) (m : ℕ) → m < 2 ^ (fraction_bits f - 1) → flag (2 ^ (fraction_bits f - 1)) (not g) + m < 2 ^ fraction_bits f
  quiet-fits g m small = omega (arith, bit (not g), small, pow-next (fraction_bits f) (omega (arith, b.w-ge)))
    where
      bit : (t : Bool) → flag (2 ^ (fraction_bits f - 1)) t ≤ 2 ^ (fraction_bits f - 1)
      bit true = omega arith
      bit false = omega arith

  pub back-nan : (s g : Bool) (m : ℕ) → T (has_nan (kind_of f.kind)) → m < 2 ^ (fraction_bits f - 1) → is_number (decode f (encode f (nan s g m))) ≡ false
  unfolding encode
  back-nan s g m h small = go (kind_of f.kind) refl h
    where
      top : 2 ^ f.E - 1 < 2 ^ f.E
      top = omega (arith, pow_pos f.E)

      is-top : eqb (2 ^ f.E - 1) (2 ^ f.E - 1) ≡ true
      is-top = eq-eqb (2 ^ f.E - 1) (2 ^ f.E - 1) refl

      go : (k : Kind) → kind_of f.kind ≡ k → T (has_nan k) → is_number (decode f (nan_bits k f s g m)) ≡ false
      go ieee e t =
          let x = flag (2 ^ (fraction_bits f - 1)) (not g) + m in
          ap is_number (fields_back f b s (2 ^ f.E - 1) x top (quiet-fits g m small)) ∙ rw (e, is-top) (topped s x (eqb x 0))
      go no_inf e t =
          ap is_number (fields_back f b s (2 ^ f.E - 1) (2 ^ fraction_bits f - 1) top (omega (arith, pow_pos (fraction_bits f))))
          ∙ rw (e, is-top, eq-eqb (2 ^ fraction_bits f - 1) (2 ^ fraction_bits f - 1) refl)
      go fnuz e t = ap is_number (fields_back f b true 0 0 (pow_pos f.E) (pow_pos (fraction_bits f))) ∙ rw e
      go finite_only e t = absurd t
