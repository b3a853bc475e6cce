-- NaNs and infinities by the fields of their encodings.
use mathlib.Core.Path.{◌≡◌, refl, sym, ap₂, ◌∙◌, subst}
use mathlib.Core.Logic.{◌↔◌, ◌≢◌}
use mathlib.Core.Bool.{Bool, true, false, ◌&&◌, cond, true≢false}
use Prim.Native.Nat.{ℕ, zero, suc, ◌+◌, ◌-◌, ◌*◌, ◌%◌, ◌^◌, ◌<◌}
use native.Mathlib.Nat.{add-zero, zero-mul}
use native.Mathlib.Omega.{arith}
use lib.Dec.{T, eqb, ltb, ltb→lt}
use borrow.Author.Tests.{eq-eqb, eqb-true, eqb-false, lt-ltb}
use Rattle.totals_spec.specs.Basics.{flag}
use Rattle.totals_spec.specs.formats.Format.{Format, kind_of, fraction_bits}
use Rattle.totals_spec.specs.formats.Decode.{Unpacked, infinity, nan, number, decode_fields, decode}
use Rattle.totals_spec.specs.formats.Decode.{sign_bit, field_of, fraction_of, is_nan, is_signaling}
use Rattle.totals_spec.specs.formats.Encode.{encode}
use Rattle.promises.specs.Special.{is_infinity, is_infinite_value, IeeeReads, OtherReads, Special-reads, Special-bits}

-- a number is none of these
module _ (t : ℕ) (s : Bool) where
  number-nan : (x m : ℕ) → is_nan (number t s x m) ≡ false
  number-nan zero zero = refl
  number-nan zero (suc m) = refl
  number-nan (suc x) m = refl

  number-signaling : (x m : ℕ) → is_signaling (number t s x m) ≡ false
  number-signaling zero zero = refl
  number-signaling zero (suc m) = refl
  number-signaling (suc x) m = refl

  number-infinite : (x m : ℕ) → is_infinite_value (number t s x m) ≡ false
  number-infinite zero zero = refl
  number-infinite zero (suc m) = refl
  number-infinite (suc x) m = refl

  number-infinity : (u : Bool) (x m : ℕ) → is_infinity u (number t s x m) ≡ false
  number-infinity true zero zero = refl
  number-infinity false zero zero = refl
  number-infinity true zero (suc m) = refl
  number-infinity false zero (suc m) = refl
  number-infinity true (suc x) m = refl
  number-infinity false (suc x) m = refl

pub never : {b : Bool} {A : Type 0} → b ≡ true → b ≡ false → A
never i j = absurd (true≢false (sym i ∙ j))

pub infinity-sign : (u s : Bool) → (is_infinity u (infinity s) ≡ true) ↔ (s ≡ u)
infinity-sign true true = (λ e. refl, λ e. refl)
infinity-sign true false = (λ e. never e refl, λ e. never e refl)
infinity-sign false true = (λ e. never e refl, λ e. never (sym e) refl)
infinity-sign false false = (λ e. refl, λ e. refl)

pub nan-infinity : (u s g : Bool) (m : ℕ) → is_infinity u (nan s g m) ≡ false
nan-infinity true s g m = refl
nan-infinity false s g m = refl

module _ (f : Format) (s : Bool) (x m : ℕ) where
  top : ℕ
  top = 2 ^ f.E - 1

  half : ℕ
  half = 2 ^ (fraction_bits f - 1)

  abbrev value : Bool → Bool → Bool → Unpacked
  value a z g = cond a (cond z (infinity s) (nan s g (m % 2 ^ (fraction_bits f - 1)))) (number (fraction_bits f) s x m)

  nan-at : (a z g : Bool) → (eqb x (2 ^ f.E - 1) ≡ a) → (eqb m 0 ≡ z)
      → (is_nan (value a z g) ≡ true) ↔ ((x ≡ 2 ^ f.E - 1) × (m ≢ 0))
  nan-at true true g i j = (λ e. never e refl, λ h. absurd (h.1 (eqb-true m 0 j)))
  nan-at true false g i j = (λ e. (eqb-true x (2 ^ f.E - 1) i, eqb-false m 0 j), λ h. refl)
  nan-at false z g i j = (λ e. never e (number-nan (fraction_bits f) s x m), λ h. never (eq-eqb x (2 ^ f.E - 1) h.0) i)

  infinity-at : (u a z g : Bool) → (eqb x (2 ^ f.E - 1) ≡ a) → (eqb m 0 ≡ z)
      → (is_infinity u (value a z g) ≡ true) ↔ ((x ≡ 2 ^ f.E - 1) × (m ≡ 0) × (s ≡ u))
  infinity-at u true true g i j =
      (λ e. (eqb-true x (2 ^ f.E - 1) i, eqb-true m 0 j, (infinity-sign u s).0 e), λ h. (infinity-sign u s).1 h.2)
  infinity-at u true false g i j = (λ e. never e (nan-infinity u s g (m % 2 ^ (fraction_bits f - 1))), λ h. never (eq-eqb m 0 h.1) j)
  infinity-at u false z g i j = (λ e. never e (number-infinity (fraction_bits f) s u x m), λ h. never (eq-eqb x (2 ^ f.E - 1) h.0) i)

  signaling-at : (a z g : Bool) → (eqb x (2 ^ f.E - 1) ≡ a) → (eqb m 0 ≡ z) → (ltb m (2 ^ (fraction_bits f - 1)) ≡ g)
      → (is_signaling (value a z g) ≡ true) ↔ ((x ≡ 2 ^ f.E - 1) × (m ≢ 0) × (m < 2 ^ (fraction_bits f - 1)))
  signaling-at true true g i j k = (λ e. never e refl, λ h. absurd (h.1 (eqb-true m 0 j)))
  signaling-at true false true i j k = (λ e. (eqb-true x (2 ^ f.E - 1) i, eqb-false m 0 j, ltb→lt m _ (subst T (sym k) tt)), λ h. refl)
  signaling-at true false false i j k = (λ e. never e refl, λ h. never (lt-ltb m _ h.2) k)
  signaling-at false z g i j k = (λ e. never e (number-signaling (fraction_bits f) s x m), λ h. never (eq-eqb x (2 ^ f.E - 1) h.0) i)

  -- what a kind other than Ieee reads
  quiet-cond : (b : Bool) → is_signaling (cond b (nan s false 0) (number (fraction_bits f) s x m)) ≡ false
  quiet-cond true = refl
  quiet-cond false = number-signaling (fraction_bits f) s x m

  finite-cond : (b : Bool) → is_infinite_value (cond b (nan s false 0) (number (fraction_bits f) s x m)) ≡ false
  finite-cond true = refl
  finite-cond false = number-infinite (fraction_bits f) s x m

  nan-cond : (b : Bool) → is_nan (cond b (nan s false 0) (number (fraction_bits f) s x m)) ≡ b
  nan-cond true = refl
  nan-cond false = number-nan (fraction_bits f) s x m

  other-infinite : (k : ℕ) → is_infinite_value (decode_fields (kind_of (suc k)) f s x m) ≡ false
  other-infinite zero = finite-cond _
  other-infinite (suc zero) = finite-cond _
  other-infinite (suc (suc k)) = number-infinite (fraction_bits f) s x m

  other-quiet : (k : ℕ) → is_signaling (decode_fields (kind_of (suc k)) f s x m) ≡ false
  other-quiet zero = quiet-cond _
  other-quiet (suc zero) = quiet-cond _
  other-quiet (suc (suc k)) = number-signaling (fraction_bits f) s x m

both-true : (a b : Bool) → (a && b) ≡ true → (a ≡ true) × (b ≡ true)
both-true true b e = (refl, e)
both-true false b e = never e refl

pub special-reads : Special-reads
unfolding decode
special-reads f b = (of-ieee, of-other)
  where
    s : Bool
    s = sign_bit f b

    of-ieee : f.kind ≡ 0 → IeeeReads f b
    of-ieee e = record {
      infinite = λ u. rw e (infinity-at f (sign_bit f b) (field_of f b) (fraction_of f b) u _ _ _ refl refl);
      nans = rw e (nan-at f (sign_bit f b) (field_of f b) (fraction_of f b) _ _ _ refl refl);
      signaling = rw e (signaling-at f (sign_bit f b) (field_of f b) (fraction_of f b) _ _ _ refl refl refl);
    }

    of-other : 0 < f.kind → OtherReads f b
    of-other p = record {
      infinite = go-infinite f.kind p;
      quiet = go-quiet f.kind p;
      no-inf-nan = λ e. rw e (
        λ h.
            let z = both-true _ _ (sym (nan-cond f (sign_bit f b) (field_of f b) (fraction_of f b) _) ∙ h) in
            (eqb-true (field_of f b) _ z.0, eqb-true (fraction_of f b) _ z.1),
        λ h.
            nan-cond f (sign_bit f b) (field_of f b) (fraction_of f b) _
            ∙ ap₂ ◌&&◌ (eq-eqb (field_of f b) _ h.0) (eq-eqb (fraction_of f b) _ h.1),
      );
      fnuz-nan = λ e. rw e (
        λ h.
            let z = both-true _ _ (sym (nan-cond f (sign_bit f b) (field_of f b) (fraction_of f b) _) ∙ h) in
            let w = both-true _ _ z.0 in
            (w.0, eqb-true (field_of f b) _ w.1, eqb-true (fraction_of f b) _ z.1),
        λ h.
            nan-cond f (sign_bit f b) (field_of f b) (fraction_of f b) _
            ∙ ap₂ ◌&&◌ (ap₂ ◌&&◌ h.0 (eq-eqb (field_of f b) _ h.1)) (eq-eqb (fraction_of f b) _ h.2),
      );
      finite-nan = λ e. rw e (number-nan (fraction_bits f) (sign_bit f b) (field_of f b) (fraction_of f b));
    }
      where
        go-infinite : (k : ℕ) → 0 < k → is_infinite_value (decode_fields (kind_of k) f (sign_bit f b) (field_of f b) (fraction_of f b)) ≡ false
        go-infinite zero q = absurd (let z : ⊥ = omega (arith, q) in z)
        go-infinite (suc k) q = other-infinite f (sign_bit f b) (field_of f b) (fraction_of f b) k

        go-quiet : (k : ℕ) → 0 < k → is_signaling (decode_fields (kind_of k) f (sign_bit f b) (field_of f b) (fraction_of f b)) ≡ false
        go-quiet zero q = absurd (let z : ⊥ = omega (arith, q) in z)
        go-quiet (suc k) q = other-quiet f (sign_bit f b) (field_of f b) (fraction_of f b) k

pub special-bits : Special-bits
unfolding encode
special-bits f s g m = (
  λ e. add-zero (flag (2 ^ (f.W - 1)) s + (2 ^ f.E - 1) * 2 ^ fraction_bits f),
  λ e. rw e refl,
  λ e. rw e refl,
  λ e. rw e (let z : 2 ^ (f.W - 1) + 0 * 2 ^ fraction_bits f + 0 ≡ 2 ^ (f.W - 1) = omega (arith, zero-mul (2 ^ fraction_bits f)) in z),
)
