-- The numbers of a format are what its encodings stand for, each once.
use mathlib.Core.Path.{◌≡◌, refl, sym, ap, ◌∙◌, subst}
use mathlib.Core.Logic.{◌≢◌}
use mathlib.Core.Bool.{Bool, true, false, ◌&&◌, cond, true≢false}
use Prim.Native.Nat.{ℕ, zero, suc, ◌+◌, ◌-◌, ◌*◌, ◌/◌, ◌%◌, ◌^◌, ◌≤◌, ◌<◌, zero-le}
use native.Mathlib.Nat.{one-mul, zero-mul, mod-lt, pow-succ', eq_of_mul-eq-mul_right, lt_of_le_of_lt, le_refl, not-le_of_lt, mul_comm, mul-le-mul_right, mul-lt-mul_of_pos_right}
use native.Mathlib.Omega.{arith}
use lib.Dec.{T, eqb, ltb}
use lib.Pow.{pow-lt, pow_pos, split, mod-pow-add, shr_lt}
use borrow.Author.Tests.{eqb-true, eqb-false, eq-eqb, lt-ltb, le-ltb}
use Rattle.totals_spec.specs.Basics.{flag}
use Rattle.totals_spec.specs.formats.Bounds.{RangeBounds, SettingsBounds}
use Rattle.totals_spec.specs.formats.Format.{Format, Kind, ieee, no_inf, fnuz, finite_only, kind_of}
use Rattle.totals_spec.specs.formats.Format.{digits, fraction_bits, exponent_range}
use Rattle.totals_spec.specs.formats.Settings.{no_settings, precision_of}
use Rattle.totals_spec.specs.formats.Decode.{Unpacked, zero_of, finite, infinity, nan, sign_bit}
use Rattle.totals_spec.specs.formats.Decode.{field_of, fraction_of, number, top_field, ones}
use Rattle.totals_spec.specs.formats.Decode.{decode_fields, decode, is_number}
use Rattle.totals_spec.specs.formats.Encode.{assembled, zero_bits, encode}
use Rattle.totals_spec.specs.rounding.Round.{round}
use Rattle.totals_spec.specs.rounding.Promises.{kept_as}
use Rattle.totals_spec.proofs.sums.FieldsFit.{encode-fits}
use Rattle.totals_spec.proofs.rounding.RoundedNumbers.{round-held, held-encodes}
use Rattle.totals_spec.proofs.formats.ExponentRange.{range-noinf}
use Rattle.totals_spec.proofs.rounding.RoundedBack.{held_back}
use Rattle.totals_spec.proofs.formats.Valid.{precision-least, precision-most}
use Rattle.promises.specs.Rounding.{grid_of, Finite, Canonical, Worth}
use Rattle.promises.specs.Amounts.{Encodings-are-numbers, Numbers-are-encoded, Encodes-back}
use Rattle.promises.proofs.roundings.OfEveryRounding.{held-exactly}
use Rattle.promises.proofs.roundings.RoundedByProperties.{round-once}

module _ (f : Format) (b : RangeBounds f) where
  t : ℕ
  t = fraction_bits f

  -- an encoding is put together from its fields
  whole : (n : ℕ) → n < 2 ^ f.W → assembled f (sign_bit f n) (field_of f n) (fraction_of f n) ≡ n
  whole n h = omega (arith, split n (f.W - 1), low, sign)
    where
      low : n % 2 ^ (f.W - 1) ≡ field_of f n * 2 ^ fraction_bits f + fraction_of f n
      low = ap (λ (k : ℕ). n % 2 ^ k) place ∙ mod-pow-add n f.E (fraction_bits f)
        where
          place : f.W - 1 ≡ f.E + fraction_bits f
          place = omega (arith, b.w-ge)

      sign : flag (2 ^ (f.W - 1)) (sign_bit f n) ≡ n / 2 ^ (f.W - 1) * 2 ^ (f.W - 1)
      sign = go (n / 2 ^ (f.W - 1)) (shr_lt 1 (f.W - 1) (subst (λ (k : ℕ). n < 2 ^ k) place h))
        where
          place : f.W ≡ 1 + (f.W - 1)
          place = omega (arith, b.w-ge)

          go : (q : ℕ) → q < 2 → flag (2 ^ (f.W - 1)) (eqb (q % 2) 1) ≡ q * 2 ^ (f.W - 1)
          go zero k = sym (zero-mul (2 ^ (f.W - 1)))
          go (suc zero) k = sym (one-mul (2 ^ (f.W - 1)))
          go (suc (suc q)) k = absurd (let z : ⊥ = omega (arith, k) in z)

  -- ---- fields that are those of a number

  -- nothing that the kind keeps for something else
  record Plain (k : Kind) (s : Bool) (x m : ℕ) : Type 0 where
    is : decode_fields k f s x m ≡ number (fraction_bits f) s x m
    below : k ≡ ieee → x ≢ 2 ^ f.E - 1
    other : k ≡ no_inf → x ≡ 2 ^ f.E - 1 → m ≢ 2 ^ fraction_bits f - 1
    positive : k ≡ fnuz → x ≡ 0 → m ≡ 0 → s ≡ false

  and-not : (x y : Bool) → (x && y) ≡ false → x ≡ true → y ≡ true → ⊥
  and-not true true e i j = true≢false e
  and-not true false e i j = true≢false (sym j)
  and-not false y e i j = true≢false (sym i)

  no-kind : {k a : Kind} (is : Kind → Bool) → k ≡ a → is k ≡ true → is a ≡ false → {A : Type 0} → A
  no-kind is e i j = absurd (true≢false (sym i ∙ ap is e ∙ j))

  abbrev is-ieee : Kind → Bool
  is-ieee ieee = true
  is-ieee no_inf = false
  is-ieee fnuz = false
  is-ieee finite_only = false

  abbrev is-no-inf : Kind → Bool
  is-no-inf ieee = false
  is-no-inf no_inf = true
  is-no-inf fnuz = false
  is-no-inf finite_only = false

  abbrev is-fnuz : Kind → Bool
  is-fnuz ieee = false
  is-fnuz no_inf = false
  is-fnuz fnuz = true
  is-fnuz finite_only = false

  abbrev is-only : Kind → Bool
  is-only ieee = false
  is-only no_inf = false
  is-only fnuz = false
  is-only finite_only = true

  never : {x : Bool} {A : Type 0} → x ≡ true → x ≡ false → A
  never i j = absurd (true≢false (sym i ∙ j))

  plain : (k : Kind) (s : Bool) (x m : ℕ) → T (is_number (decode_fields k f s x m)) → Plain k s x m
  plain ieee s x m h = go (top_field f x) refl h
    where
      reserved : Unpacked
      reserved = cond (eqb m 0) (infinity s) (nan s (ltb m (2 ^ (fraction_bits f - 1))) (m % 2 ^ (fraction_bits f - 1)))

      no-number : (e : Bool) (u : Bool) (n : ℕ) → T (is_number (cond e (infinity s) (nan s u n))) → ⊥
      no-number true u n h = h
      no-number false u n h = h

      go : (a : Bool) → top_field f x ≡ a
          → T (is_number (cond a (cond (eqb m 0) (infinity s) (nan s (ltb m (2 ^ (fraction_bits f - 1))) (m % 2 ^ (fraction_bits f - 1)))) (number (fraction_bits f) s x m)))
          → Plain ieee s x m
      go true e h = absurd (no-number (eqb m 0) _ _ h)
      go false e h = record {
        is = rw e;
        below = λ _ z. never (eq-eqb x (2 ^ f.E - 1) z) e;
        other = λ k. never refl (ap is-ieee k);
        positive = λ k. never refl (ap is-ieee k);
      }
  plain no_inf s x m h = go (top_field f x && ones f m) refl h
    where
      go : (a : Bool) → (top_field f x && ones f m) ≡ a → T (is_number (cond a (nan s false 0) (number (fraction_bits f) s x m))) → Plain no_inf s x m
      go true e h = absurd h
      go false e h = record {
        is = rw e;
        below = λ k. never refl (ap is-no-inf k);
        other = λ _ i j. and-not (top_field f x) (ones f m) e (eq-eqb x (2 ^ f.E - 1) i) (eq-eqb m (2 ^ fraction_bits f - 1) j);
        positive = λ k. never refl (ap is-no-inf k);
      }
  plain fnuz s x m h = go (s && eqb x 0 && eqb m 0) refl h
    where
      sign : (s : Bool) (y z : Bool) → (s && y && z) ≡ false → y ≡ true → z ≡ true → s ≡ false
      sign true true true e i j = e
      sign true true false e i j = never j refl
      sign true false z e i j = never i refl
      sign false y z e i j = refl

      go : (a : Bool) → (s && eqb x 0 && eqb m 0) ≡ a → T (is_number (cond a (nan s false 0) (number (fraction_bits f) s x m))) → Plain fnuz s x m
      go true e h = absurd h
      go false e h = record {
        is = rw e;
        below = λ k. never refl (ap is-fnuz k);
        other = λ k. never refl (ap is-fnuz k);
        positive = λ _ i j. sign s (eqb x 0) (eqb m 0) e (eq-eqb x 0 i) (eq-eqb m 0 j);
      }
  plain finite_only s x m h = record {
    is = refl;
    below = λ k. never refl (ap is-only k);
    other = λ k. never refl (ap is-only k);
    positive = λ k. never refl (ap is-only k);
  }

  -- ---- encoded again

  zero-again : (k : Kind) (s : Bool) → (k ≡ fnuz → s ≡ false) → zero_bits k f s ≡ assembled f s 0 0
  zero-again ieee s p = refl
  zero-again no_inf s p = refl
  zero-again fnuz s p = ap (λ (z : Bool). assembled f z 0 0) (sym (p refl))
  zero-again finite_only s p = refl

  again : (s : Bool) (x m : ℕ) → m < 2 ^ fraction_bits f → (kind_of f.kind ≡ fnuz → x ≡ 0 → m ≡ 0 → s ≡ false)
      → encode f (number (fraction_bits f) s x m) ≡ assembled f s x m
  unfolding encode
  again s zero zero h p = zero-again (kind_of f.kind) s (λ k. p k refl refl)
  again s zero (suc m) h p = rw (lt-ltb (suc m) (2 ^ fraction_bits f) h)
  again s (suc x) m h p =
      rw (le-ltb (2 ^ fraction_bits f + m) (2 ^ fraction_bits f) (omega arith))
      (ap (assembled f s (suc x)) (let e : 2 ^ fraction_bits f + m - 2 ^ fraction_bits f ≡ m = omega arith in e))

  encodes : (n : ℕ) → n < 2 ^ f.W → T (is_number (decode f n)) → encode f (decode f n) ≡ n
  unfolding decode
  encodes n h i =
      let p = plain (kind_of f.kind) (sign_bit f n) (field_of f n) (fraction_of f n) i in
      ap (encode f) p.is ∙ again (sign_bit f n) (field_of f n) (fraction_of f n) (mod-lt n (pow_pos (fraction_bits f))) p.positive ∙ whole n h

pub encodes-back : Encodes-back
encodes-back f n b h i = encodes f b n h i

-- ---- what is decoded is a number of the format, written in the one way

module _ (f : Format) (b : RangeBounds f) (g : ℕ) where
  t-is : digits f ≡ suc (fraction_bits f)
  t-is = omega (arith, b.w-ge)

  whole-is : 2 ^ digits f ≡ 2 * 2 ^ fraction_bits f
  whole-is = ap (λ (n : ℕ). 2 ^ n) t-is ∙ pow-succ' 2 (fraction_bits f)

  grid-is : (k m : ℕ) → m * 2 ^ (k + g) ≡ m * 2 ^ (k + grid_of f (digits f) g)
  grid-is k m = ap (λ (n : ℕ). m * 2 ^ n) (let e : k + g ≡ k + (g + (digits f - digits f)) = omega arith in e)

  abbrev Told : Unpacked → Type 0
  Told (zero_of s) = Unit {0}
  Told (finite s k m) = Finite f (digits f) g (m * 2 ^ (k + g)) × Canonical f k m
  Told (infinity s) = Unit {0}
  Told (nan s h m) = Unit {0}

  -- fewer than all ones at the largest exponent
  strictly : (k m : ℕ) → k ≤ exponent_range f → m < 2 ^ digits f → (k ≡ exponent_range f → m ≢ 2 ^ digits f - 1)
      → m * 2 ^ (k + g) ≢ (2 ^ digits f - 1) * 2 ^ (exponent_range f + g)
  strictly k m h l d e = go (eqb k (exponent_range f)) refl
    where
      go : (z : Bool) → eqb k (exponent_range f) ≡ z → ⊥
      go true z =
          let i : k ≡ exponent_range f = eqb-true k (exponent_range f) z in
          d i (eq_of_mul-eq-mul_right (2 ^ (exponent_range f + g)) (pow_pos (exponent_range f + g)) m (2 ^ digits f - 1)
          (ap (λ (n : ℕ). m * 2 ^ (n + g)) (sym i) ∙ e))
      go false z = not-le_of_lt small (subst (λ (n : ℕ). n ≤ m * 2 ^ (k + g)) e (le_refl (m * 2 ^ (k + g))))
        where
          ones-some : 0 < 2 ^ digits f - 1
          ones-some = omega (arith, whole-is, pow_pos (fraction_bits f))

          most : m ≤ 2 ^ digits f - 1
          most = omega (arith, l)

          less : 2 ^ (k + g) < 2 ^ (exponent_range f + g)
          less = pow-lt {i = k + g} {j = exponent_range f + g} (omega (arith, h, eqb-false k (exponent_range f) z))

          small : m * 2 ^ (k + g) < (2 ^ digits f - 1) * 2 ^ (exponent_range f + g)
          small =
              lt_of_le_of_lt (mul-le-mul_right (2 ^ (k + g)) most)
              (subst (λ (n : ℕ). (2 ^ digits f - 1) * 2 ^ (k + g) < n) (mul_comm (2 ^ (exponent_range f + g)) (2 ^ digits f - 1))
              (subst (λ (n : ℕ). n < 2 ^ (exponent_range f + g) * (2 ^ digits f - 1)) (mul_comm (2 ^ (k + g)) (2 ^ digits f - 1))
              (mul-lt-mul_of_pos_right less ones-some)))

  ranges : (k : Kind) → kind_of f.kind ≡ k → (x : ℕ) → suc x < 2 ^ f.E → (k ≡ ieee → suc x ≢ 2 ^ f.E - 1) → x ≤ exponent_range f
  unfolding exponent_range
  ranges ieee e x h d = rw e (omega (arith, h, d refl))
  ranges no_inf e x h d = rw e (omega (arith, h))
  ranges fnuz e x h d = rw e (omega (arith, h))
  ranges finite_only e x h d = rw e (omega (arith, h))

  -- the field of the largest exponent
  top-field-is : kind_of f.kind ≡ no_inf → (x : ℕ) → x ≡ exponent_range f → suc x ≡ 2 ^ f.E - 1
  top-field-is e x h = omega (arith, h, range-noinf f b e)

  fields : (s : Bool) (x m : ℕ) → x < 2 ^ f.E → m < 2 ^ fraction_bits f → (kind_of f.kind ≡ ieee → x ≢ 2 ^ f.E - 1)
      → (kind_of f.kind ≡ no_inf → x ≡ 2 ^ f.E - 1 → m ≢ 2 ^ fraction_bits f - 1) → Told (number (fraction_bits f) s x m)
  fields s zero zero hx hm d o = tt
  fields s zero (suc m) hx hm d o = (
    record {
      significand = suc m;
      exponent = 0;
      short = omega (arith, hm, whole-is);
      range = zero-le;
      is = grid-is 0 (suc m);
      other = λ e. strictly 0 (suc m) zero-le (omega (arith, hm, whole-is)) (λ _ z. omega (arith, z, hm, whole-is));
    },
    record { some = omega arith; short = omega (arith, hm, whole-is); full = λ _. refl },
  )
  fields s (suc x) m hx hm d o = (
    record {
      significand = 2 ^ fraction_bits f + m;
      exponent = x;
      short = omega (arith, hm, whole-is);
      range = ranges (kind_of f.kind) refl x hx d;
      is = grid-is x (2 ^ fraction_bits f + m);
      other = λ e. strictly x (2 ^ fraction_bits f + m) (ranges (kind_of f.kind) refl x hx d) (omega (arith, hm, whole-is))
          (λ i z. o e (top-field-is e x i) (omega (arith, z, whole-is)));
    },
    record {
      some = omega (arith, pow_pos (fraction_bits f));
      short = omega (arith, hm, whole-is);
      full = λ h. absurd (let z : ⊥ = omega (arith, h, ap (λ (n : ℕ). 2 ^ n) less) in z);
    },
  )
    where
      less : digits f - 1 ≡ fraction_bits f
      less = omega (arith, t-is)

  decoded-told : (n : ℕ) → Told (decode f n)
  unfolding decode
  decoded-told n = go (decode_fields (kind_of f.kind) f (sign_bit f n) (field_of f n) (fraction_of f n)) refl
    where
      go : (v : Unpacked) → decode_fields (kind_of f.kind) f (sign_bit f n) (field_of f n) (fraction_of f n) ≡ v → Told v
      go (zero_of s) e = tt
      go (infinity s) e = tt
      go (nan s h m) e = tt
      go (finite s k m) e =
          let p = plain f b (kind_of f.kind) (sign_bit f n) (field_of f n) (fraction_of f n) (subst (λ (v : Unpacked). T (is_number v)) (sym e) tt) in
          subst Told (sym p.is ∙ e)
          (fields (sign_bit f n) (field_of f n) (fraction_of f n) (mod-lt (n / 2 ^ fraction_bits f) (pow_pos f.E)) (mod-lt n (pow_pos (fraction_bits f))) p.below p.other)

pub encodings-are-numbers : Encodings-are-numbers
encodings-are-numbers f g n s k m b e = (subst (Told f b g) e (decoded-told f b g n)).0

pub decoded-canonical : (f : Format) → RangeBounds f → (g n : ℕ) (s : Bool) (k m : ℕ) → decode f n ≡ finite s k m → Canonical f k m
decoded-canonical f b g n s k m e = (subst (Told f b g) e (decoded-told f b g n)).1

-- ---- and each number is encoded: it is what a rounding makes of itself

module _ (f : Format) (b : RangeBounds f) where
  plain-settings : SettingsBounds f no_settings
  plain-settings = record {
    rounding-le = zero-le;
    tininess-le = zero-le;
    propagation-le = zero-le;
    sign_le = zero-le;
    flush-le = zero-le;
    denormals-le = zero-le;
    saturate-le = zero-le;
    precision-le = zero-le;
  }

  encoded : (g : ℕ) (s : Bool) (y : ℕ) → 0 < y → Finite f (digits f) g y → (n : ℕ) × (n < 2 ^ f.W) × Worth f g (decode f n) s y
  unfolding precision_of
  encoded g s y some h =
      let v = (round f no_settings g s y).value in
      let o = held-exactly f no_settings g s y _ _ h (λ z. true≢false (sym z.1)) (round-once f no_settings g s y b plain-settings) in
      let i = round-held f b no_settings (precision-least f no_settings b) (precision-most f no_settings plain-settings) g s y in
      (encode f v, encode-fits f b v (held-encodes f b v i), subst (λ (w : Unpacked). Worth f g w s y) (sym (held_back f b v i ∙ kept v o.0)) o.0)
    where
      kept : (v : Unpacked) → Worth f g v s y → kept_as (kind_of f.kind) v ≡ v
      kept (zero_of t) w = absurd (let z : ⊥ = omega (arith, some, w.1) in z)
      kept (finite t k m) w = by (kind_of f.kind)
        where
          by : (a : Kind) → kept_as a (finite t k m) ≡ finite t k m
          by ieee = refl
          by no_inf = refl
          by fnuz = refl
          by finite_only = refl
      kept (infinity t) w = absurd w
      kept (nan t z m) w = absurd w

pub numbers-are-encoded : Numbers-are-encoded
numbers-are-encoded f g s y b some h = encoded f b g s y some h
