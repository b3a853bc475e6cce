-- MIRROR, of encodings: the one with the other sign bit has the same exponent field and fraction,
-- and stands for the opposite value; and the opposite of a result is encoded with the other sign
-- bit.
use mathlib.Core.Path.{◌≡◌, refl, sym, ap, ◌∙◌, subst}
use mathlib.Core.Bool.{Bool, not, true, false, ◌&&◌, cond}
use Prim.Native.Nat.{ℕ, zero, suc, ◌-◌, ◌%◌, ◌^◌, ◌+◌, ◌*◌, ◌/◌, ◌<◌, ◌≤◌}
use native.Mathlib.Nat.{suc-ne-zero, zero-mul, one-mul, mod-lt, pow-succ'}
use lib.Dec.{T, ltb, eqb, eqb→eq, ltb→lt, nltb→le}
use borrow.Author.Tests.{ne_eqb, eqb-false}
use native.Mathlib.Omega.{arith}
use lib.Pow.{pow_pos, shr_lt, split, mod-pow-add}
use Rattle.totals_spec.specs.formats.Decode.{number, Unpacked, infinity, nan, top_field, ones}
use Rattle.totals_spec.specs.formats.Decode.{decode_fields, is_number, sign_bit, field_of}
use Rattle.totals_spec.specs.formats.Decode.{fraction_of, decode, zero_of, finite}
use Rattle.totals_spec.specs.formats.Format.{Kind, ieee, no_inf, fnuz, finite_only, Format}
use Rattle.totals_spec.specs.formats.Format.{fraction_bits, kind_of}
use Rattle.totals_spec.specs.rounding.Promises.{kept_as}
use Rattle.totals_spec.specs.Basics.{flag}
use Rattle.totals_spec.specs.formats.Bounds.{RangeBounds}
use Rattle.totals_spec.specs.formats.Encode.{assembled, encode}
use Rattle.totals_spec.proofs.formats.DecodedBack.{sign-back, field_back, fraction-back, fields_fit}
use Rattle.totals_spec.proofs.formats.DecodedBack.{fields_back}
use Rattle.totals_spec.proofs.formats.Valid.{format-bounds}
use Rattle.totals_spec.proofs.rounding.RoundedNumbers.{Held}
use Rattle.totals_spec.proofs.rounding.RoundedBack.{held_back}
use Rattle.mirror_spec.specs.Mirror.{opposite, other_sign, negated_by, negated}
use Rattle.mirror_spec.specs.Mirror.{neither_zero_nor_nan}
use Rattle.mirror_spec.specs.Promises.{Negated-value}

-- ---- fields with the other sign

number-opposite : (t : ℕ) (s : Bool) (x m : ℕ) → number t (not s) x m ≡ opposite (number t s x m)
number-opposite t s zero zero = refl
number-opposite t s zero (suc m) = refl
number-opposite t s (suc x) m = refl

-- Fnuz's zero has no sign
abbrev ZeroUnsigned : Kind → Type 0
ZeroUnsigned ieee = ⊥
ZeroUnsigned no_inf = ⊥
ZeroUnsigned fnuz = Unit {0}
ZeroUnsigned finite_only = ⊥

module _ (f : Format) where
  abbrev Opposite : Kind → Bool → ℕ → ℕ → Type 0
  Opposite k s x m =
      (ZeroUnsigned k → s ≡ false → x ≡ 0 → m ≡ 0 → ⊥) → T (is_number (decode_fields k f s x m))
      → decode_fields k f (not s) x m ≡ kept_as k (opposite (decode_fields k f s x m))

  fields-opposite : (k : Kind) (s : Bool) (x m : ℕ) → Opposite k s x m
  fields-opposite ieee s x m z h = go (top_field f x) (eqb m 0) h
    where
      reserved : Bool → Bool → Unpacked
      reserved t e = cond e (infinity t) (nan t (ltb m (2 ^ (fraction_bits f - 1))) (m % 2 ^ (fraction_bits f - 1)))

      go : (a e : Bool) → T (is_number (cond a (reserved s e) (number (fraction_bits f) s x m)))
          → cond a (reserved (not s) e) (number (fraction_bits f) (not s) x m) ≡ opposite (cond a (reserved s e) (number (fraction_bits f) s x m))
      go true true k = absurd k
      go true false k = absurd k
      go false e k = number-opposite (fraction_bits f) s x m
  fields-opposite no_inf s x m z h = go (top_field f x && ones f m) h
    where
      go : (a : Bool) → T (is_number (cond a (nan s false 0) (number (fraction_bits f) s x m)))
          → cond a (nan (not s) false 0) (number (fraction_bits f) (not s) x m) ≡ opposite (cond a (nan s false 0) (number (fraction_bits f) s x m))
      go true k = absurd k
      go false k = number-opposite (fraction_bits f) s x m
  fields-opposite fnuz true zero zero z h = absurd h
  fields-opposite fnuz false zero zero z h = absurd (z tt refl refl refl)
  fields-opposite fnuz true zero (suc m) z h = rw (ne_eqb (suc m) 0 (suc-ne-zero m))
  fields-opposite fnuz false zero (suc m) z h = rw (ne_eqb (suc m) 0 (suc-ne-zero m))
  fields-opposite fnuz true (suc x) m z h = rw (ne_eqb (suc x) 0 (suc-ne-zero x))
  fields-opposite fnuz false (suc x) m z h = rw (ne_eqb (suc x) 0 (suc-ne-zero x))
  fields-opposite finite_only s x m z h = number-opposite (fraction_bits f) s x m

-- ---- an encoding of W bits

module _ (f : Format) (b : RangeBounds f) where
  -- it is put together from its fields
  whole : (n : ℕ) → n < 2 ^ f.W → assembled f (sign_bit f n) (field_of f n) (fraction_of f n) ≡ n
  whole n h = omega (arith, split n (f.W - 1), low, sign)
    where
      low : n % 2 ^ (f.W - 1) ≡ field_of f n * 2 ^ fraction_bits f + fraction_of f n
      low = ap (λ (k : ℕ). n % 2 ^ k) place ∙ mod-pow-add n f.E (fraction_bits f)
        where
          place : f.W - 1 ≡ f.E + fraction_bits f
          place = omega (arith, b.w-ge)

      sign : flag (2 ^ (f.W - 1)) (sign_bit f n) ≡ n / 2 ^ (f.W - 1) * 2 ^ (f.W - 1)
      sign = go (n / 2 ^ (f.W - 1)) (shr_lt 1 (f.W - 1) (subst (λ (k : ℕ). n < 2 ^ k) place h))
        where
          place : f.W ≡ 1 + (f.W - 1)
          place = omega (arith, b.w-ge)

          go : (q : ℕ) → q < 2 → flag (2 ^ (f.W - 1)) (eqb (q % 2) 1) ≡ q * 2 ^ (f.W - 1)
          go zero k = sym (zero-mul (2 ^ (f.W - 1)))
          go (suc zero) k = sym (one-mul (2 ^ (f.W - 1)))
          go (suc (suc q)) k = absurd (let z : ⊥ = omega (arith, k) in z)

  assembled-other : (s : Bool) (x m : ℕ) → x < 2 ^ f.E → m < 2 ^ fraction_bits f → other_sign f (assembled f s x m) ≡ assembled f (not s) x m
  assembled-other s x m hx hm = rw (sign-back f b s x m hx hm) (go s)
    where
      go : (t : Bool) → cond t (assembled f t x m - 2 ^ (f.W - 1)) (assembled f t x m + 2 ^ (f.W - 1)) ≡ assembled f (not t) x m
      go true = omega arith
      go false = omega arith

  nought : assembled f false 0 0 ≡ 0
  nought = omega (arith, zero-mul (2 ^ fraction_bits f))

  -- ---- its negative: an encoding o of the format, with the same exponent field, of the opposite
  -- value

  module _ (n : ℕ) (h : n < 2 ^ f.W) where
    record As (k : Kind) (o : ℕ) : Type 0 where
      inside : o < 2 ^ f.W
      value : decode_fields k f (sign_bit f o) (field_of f o) (fraction_of f o)
          ≡ kept_as k (opposite (decode_fields k f (sign_bit f n) (field_of f n) (fraction_of f n)))
      field : field_of f o ≡ field_of f n

    hx : field_of f n < 2 ^ f.E
    hx = mod-lt (n / 2 ^ fraction_bits f) (pow_pos f.E)

    hm : fraction_of f n < 2 ^ fraction_bits f
    hm = mod-lt n (pow_pos (fraction_bits f))

    flipped : (k : Kind) → (ZeroUnsigned k → n ≡ 0 → ⊥) → T (is_number (decode_fields k f (sign_bit f n) (field_of f n) (fraction_of f n)))
        → As k (other_sign f n)
    flipped k z i = subst (As k) (sym (assembled-other s x m hx hm) ∙ ap (other_sign f) (whole n h)) (record {
      inside = fields_fit f b (not s) x m hx hm;
      value = rw (sign-back f b (not s) x m hx hm, field_back f b (not s) x m hx hm, fraction-back f b (not s) x m hx hm) (fields-opposite f k s x m none i);
      field = field_back f b (not s) x m hx hm;
    })
      where
        s : Bool
        s = sign_bit f n

        x : ℕ
        x = field_of f n

        m : ℕ
        m = fraction_of f n

        none : ZeroUnsigned k → s ≡ false → x ≡ 0 → m ≡ 0 → ⊥
        none e es ex em = z e (sym (whole n h) ∙ (λ j. assembled f (es j) (ex j) (em j)) ∙ nought)

    zero-negative : n ≡ 0 → As fnuz 0
    zero-negative e = record { inside = pow_pos f.W; value = rw (e, s, x, m) refl; field = ap (field_of f) (sym e) }
      where
        s : sign_bit f 0 ≡ false
        s = ap (sign_bit f) (sym nought) ∙ sign-back f b false 0 0 (pow_pos f.E) (pow_pos (fraction_bits f))

        x : field_of f 0 ≡ 0
        x = ap (field_of f) (sym nought) ∙ field_back f b false 0 0 (pow_pos f.E) (pow_pos (fraction_bits f))

        m : fraction_of f 0 ≡ 0
        m = ap (fraction_of f) (sym nought) ∙ fraction-back f b false 0 0 (pow_pos f.E) (pow_pos (fraction_bits f))

    negates-as : (k : Kind) → T (is_number (decode_fields k f (sign_bit f n) (field_of f n) (fraction_of f n))) → As k (negated_by k f n)
    negates-as ieee i = flipped ieee (λ e z. e) i
    negates-as no_inf i = flipped no_inf (λ e z. e) i
    negates-as fnuz i = go (eqb n 0) (eqb→eq n 0) (eqb-false n 0)
      where
        go : (t : Bool) → (T t → n ≡ 0) → (t ≡ false → n ≡ 0 → ⊥) → As fnuz (cond t 0 (other_sign f n))
        go true e z = zero-negative (e tt)
        go false e z = flipped fnuz (λ k. z refl) i
    negates-as finite_only i = flipped finite_only (λ e z. e) i

    pub record Negates : Type 0 where
      pub inside : negated f n < 2 ^ f.W
      pub value : decode f (negated f n) ≡ kept_as (kind_of f.kind) (opposite (decode f n))
      pub field : field_of f (negated f n) ≡ field_of f n

    pub negates : T (is_number (decode f n)) → Negates
    unfolding negated decode
    negates i = let r = negates-as (kind_of f.kind) i in record { inside = r.inside; value = r.value; field = r.field }

-- the promise
pub negated-value : Negated-value
negated-value f n v h i = let r = negates f (format-bounds f v).range n h i in (r.inside, r.value)

-- ---- the opposite of what a format holds

-- no kind's way of keeping a value makes it a zero or a NaN
kept-neither : (k : Kind) (v : Unpacked) → neither_zero_nor_nan (kept_as k v) ≡ neither_zero_nor_nan v
kept-neither ieee v = refl
kept-neither no_inf v = refl
kept-neither fnuz (zero_of s) = refl
kept-neither fnuz (finite s k m) = refl
kept-neither fnuz (infinity s) = refl
kept-neither fnuz (nan s g m) = refl
kept-neither finite_only v = refl

module _ (f : Format) (b : RangeBounds f) where
  encode-other : (v : Unpacked) → Held f v → T (neither_zero_nor_nan v) → encode f (opposite v) ≡ other_sign f (encode f v)
  unfolding encode
  encode-other (zero_of s) h t = absurd t
  encode-other (finite s k m) h t = go (ltb m (2 ^ fraction_bits f)) (ltb→lt m (2 ^ fraction_bits f)) (nltb→le m (2 ^ fraction_bits f))
    where
      go : (l : Bool) → (T l → m < 2 ^ fraction_bits f) → (T (not l) → 2 ^ fraction_bits f ≤ m)
          → cond l (assembled f (not s) 0 m) (assembled f (not s) (suc k) (m - 2 ^ fraction_bits f))
          ≡ other_sign f (cond l (assembled f s 0 m) (assembled f s (suc k) (m - 2 ^ fraction_bits f)))
      go true l g = sym (assembled-other f b s 0 m (pow_pos f.E) (l tt))
      go false l g =
          sym (assembled-other f b s (suc k) (m - 2 ^ fraction_bits f) h.field (omega (arith, h.short, pow-succ' 2 (fraction_bits f), g tt)))
  encode-other (infinity s) h t = sym (assembled-other f b s (2 ^ f.E - 1) 0 (omega (arith, pow_pos f.E)) (pow_pos (fraction_bits f)))
  encode-other (nan s g m) h t = absurd t

  -- Fnuz's 0 is a zero
  negated-other : (n : ℕ) → T (neither_zero_nor_nan (decode f n)) → negated f n ≡ other_sign f n
  unfolding negated
  negated-other n t = go (kind_of f.kind) refl
    where
      some : kind_of f.kind ≡ fnuz → n ≡ 0 → ⊥
      some k e =
          subst (λ (v : Unpacked). T (neither_zero_nor_nan v))
          (ap (decode f) (e ∙ sym (nought f b)) ∙ fields_back f b false 0 0 (pow_pos f.E) (pow_pos (fraction_bits f))
          ∙ ap (λ (i : Kind). decode_fields i f false 0 0) k) t

      go : (k : Kind) → kind_of f.kind ≡ k → negated_by k f n ≡ other_sign f n
      go ieee k = refl
      go no_inf k = refl
      go fnuz k = rw (ne_eqb n 0 (some k))
      go finite_only k = refl

  pub encode-opposite : (v : Unpacked) → Held f v → T (neither_zero_nor_nan (decode f (encode f v))) → encode f (opposite v) ≡ negated f (encode f v)
  encode-opposite v h t = encode-other v h (subst T (ap neither_zero_nor_nan (held_back f b v h) ∙ kept-neither (kind_of f.kind) v) t)
      ∙ sym (negated-other (encode f v) t)
