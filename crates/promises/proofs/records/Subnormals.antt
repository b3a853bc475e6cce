-- Flag 128: what a subnormal number is, and that no other flag reaches it.
use mathlib.Core.Path.{◌≡◌, refl, sym, ◌∙◌, subst}
use mathlib.Core.Logic.{◌↔◌}
use mathlib.Core.Bool.{Bool, true, false, ◌&&◌, ◌||◌, cond, true≢false}
use mathlib.Core.List.{List}
use Prim.Native.Nat.{ℕ, zero, suc, ◌+◌, ◌-◌, ◌*◌, ◌%◌, ◌^◌, ◌<◌, ◌≤◌}
use borrow.Author.Tests.{ne_eqb}
use native.Mathlib.Nat.{suc-ne-zero, mod-lt, mul-le-mul_left, mul-one}
use native.Mathlib.Omega.{arith}
use lib.Dec.{eqb, ltb}
use lib.Pow.{pow_pos}
use Rattle.totals_spec.specs.Basics.{any, flag}
use Rattle.totals_spec.specs.formats.Format.{Format, Kind, ieee, no_inf, fnuz, finite_only, kind_of}
use Rattle.totals_spec.specs.formats.Format.{fraction_bits, grid}
use Rattle.totals_spec.specs.formats.Settings.{Settings}
use Rattle.totals_spec.specs.formats.Decode.{Unpacked, infinity, nan, number, top_field, ones}
use Rattle.totals_spec.specs.formats.Decode.{decode_fields, decode, sign_bit, field_of, fraction_of}
use Rattle.totals_spec.specs.formats.Decode.{is_finite, is_subnormal}
use Rattle.totals_spec.specs.terms.Terms.{Item}
use Rattle.totals_spec.specs.sums.Totals.{Answer, special, reported, accepted, sum_accepted}
use Rattle.totals_spec.specs.sums.Totals.{sum_answer, pairs, dot_accepted, dot_answer}
use Rattle.totals_spec.proofs.sums.RecordRule.{accepted-has}
use Rattle.totals_spec.proofs.entries.AnswerFields.{few-sum, flag-less}
use Rattle.totals_spec.proofs.sums.FiniteLists.{pairs-any}
use Rattle.totals_spec.proofs.order.Order.{dot-lengths}
use Rattle.promises.specs.Special.{some_subnormal, SubnormalNumber, Subnormal-means, Sum-subnormal, Dot-subnormal}

-- ---- subnormal

abbrev Means : Format → ℕ → Unpacked → Type 0
Means f x v = ((is_finite v && eqb x 0) ≡ true) ↔ SubnormalNumber f v

module _ (f : Format) where
  of-cond : (x : ℕ) (b : Bool) (v w : Unpacked) → Means f x v → Means f x w → Means f x (cond b v w)
  of-cond x true v w h k = h
  of-cond x false v w h k = k

  of-infinity : (x : ℕ) (s : Bool) → Means f x (infinity s)
  of-infinity x s = (λ e. true≢false (sym e), λ e. absurd e)

  of-nan : (x : ℕ) (s g : Bool) (m : ℕ) → Means f x (nan s g m)
  of-nan x s g m = (λ e. true≢false (sym e), λ e. absurd e)

  of-number : (s : Bool) (x m : ℕ) → m < 2 ^ fraction_bits f → Means f x (number (fraction_bits f) s x m)
  of-number s zero zero h = (λ e. true≢false (sym e), λ e. absurd e)
  of-number s zero (suc m) h = (λ e. omega (arith, h, mul-one (suc m)), λ e. refl)
  of-number s (suc x) m h = (λ e. absurd (true≢false (sym e ∙ ne_eqb (suc x) 0 (suc-ne-zero x))), λ e. absurd (apart _ _ e large))
    where
      apart : (a b : ℕ) → a < b → b ≤ a → ⊥
      apart a b p q = omega (arith, p, q)

      times : (a b : ℕ) → 0 < b → a ≤ a * b
      times a b p = subst (λ (z : ℕ). z ≤ a * b) (mul-one a) (mul-le-mul_left a p)

      grows : (a b n : ℕ) → 0 < b → n ≤ a → n ≤ a * b
      grows a b n p l = omega (arith, l, times a b p)

      large : 2 ^ fraction_bits f ≤ (2 ^ fraction_bits f + m) * 2 ^ x
      large = grows (2 ^ fraction_bits f + m) (2 ^ x) (2 ^ fraction_bits f) (pow_pos x) (omega arith)

  of-fields : (k : Kind) (s : Bool) (x m : ℕ) → m < 2 ^ fraction_bits f → Means f x (decode_fields k f s x m)
  of-fields ieee s x m h =
      of-cond x (top_field f x) (cond (eqb m 0) (infinity s) (nan s (ltb m (2 ^ (fraction_bits f - 1))) (m % 2 ^ (fraction_bits f - 1))))
      (number (fraction_bits f) s x m)
      (of-cond x (eqb m 0) (infinity s) (nan s (ltb m (2 ^ (fraction_bits f - 1))) (m % 2 ^ (fraction_bits f - 1))) (of-infinity x s)
      (of-nan x s (ltb m (2 ^ (fraction_bits f - 1))) (m % 2 ^ (fraction_bits f - 1))))
      (of-number s x m h)
  of-fields no_inf s x m h = of-cond x (top_field f x && ones f m) (nan s false 0) (number (fraction_bits f) s x m) (of-nan x s false 0) (of-number s x m h)
  of-fields fnuz s x m h =
      of-cond x (s && eqb x 0 && eqb m 0) (nan s false 0) (number (fraction_bits f) s x m) (of-nan x s false 0) (of-number s x m h)
  of-fields finite_only s x m h = of-number s x m h

pub subnormal-means : Subnormal-means
unfolding is_subnormal decode
subnormal-means f b = of-fields f (kind_of f.kind) (sign_bit f b) (field_of f b) (fraction_of f b) (mod-lt b (pow_pos (fraction_bits f)))

-- ---- the other flags

abbrev Rest : Bool → Answer → Type 0
Rest sub a = (rest : ℕ) × (rest < 128) × (a.flags ≡ flag 128 sub + rest)

module _ (f : Format) (c : Settings) (sub products : Bool) (l : List Item) where
  pub rest-accepted : (first signaling : Bool) (v : Unpacked) → Rest sub (accepted f c sub products first signaling v l)
  unfolding special reported
  rest-accepted =
      accepted-has (Rest sub) f c sub products l (λ v i. (flag 1 i, omega (arith, flag-less 1 i), refl)) (_, few-sum f c (grid f products) _ _, refl)

pub sum-subnormal : Sum-subnormal
unfolding sum_answer sum_accepted
sum-subnormal f c u l r = rw r (rest-accepted f c (some_subnormal f l) _ _ _ _ _)

pub dot-subnormal : Dot-subnormal
unfolding dot_answer dot_accepted
dot-subnormal f c xs ys r =
    subst (λ (s : Bool). Rest s (dot_answer f c xs ys)) (pairs-any (is_subnormal f) xs ys (dot-lengths f c xs ys r))
    (rw r (rest-accepted f c (any (λ x. is_subnormal f x.0 || is_subnormal f x.1) (pairs xs ys)) _ _ _ _ _))
