-- A target is the exact sum rounded once in its own format, and a full answer within an allowance
-- is the total's.
use mathlib.Core.Path.{◌≡◌, refl, sym, ap, ◌∙◌, subst}
use mathlib.Core.Bool.{Bool, true, false, ◌||◌}
use mathlib.Core.List.{List, map}
use Prim.Native.Nat.{ℕ, zero, suc, ◌+◌, ◌*◌, ◌^◌, ◌<◌}
use native.Mathlib.Nat.{zero-mul, add-zero, suc-ne-zero, zero-lt-suc, mul-pos}
use native.Mathlib.Omega.{arith}
use lib.Dec.{ltb}
use lib.Pow.{pow_pos}
use borrow.Author.Tests.{eq-eqb, ltb-true, ltb-false}
use Rattle.totals_spec.specs.Basics.{Signed, raised, any, flag}
use Rattle.totals_spec.specs.formats.Bounds.{RangeBounds, SettingsBounds}
use Rattle.totals_spec.specs.formats.Format.{Format, depth, lift, origin, fall, room, rise, grid}
use Rattle.totals_spec.specs.formats.Settings.{Settings, value, summand_of}
use Rattle.totals_spec.specs.formats.Decode.{zero_of, operand, is_subnormal}
use Rattle.totals_spec.specs.terms.Terms.{Item, exact_sum, item, is_zero}
use Rattle.totals_spec.specs.sums.Totals.{Answer, on_grid, is_square, towards_negative, sum_rounded}
use Rattle.totals_spec.specs.sums.Totals.{sum_terms, sum_answer, dot_terms, dot_answer}
use Rattle.totals_spec.specs.sums.Promises.{zero_for}
use Rattle.totals_spec.proofs.numbers.SignedNumbers.{raised-none, raised-twice}
use Rattle.totals_spec.specs.rounding.IntoFormat.{reading_with, exact_total, target_grid, on_target}
use Rattle.totals_spec.specs.rounding.IntoFormat.{rounded_into, printed}
use Rattle.targets_spec.specs.several.Several.{target_refusal, target_answer}
use Rattle.targets_spec.specs.within.Estimate.{Estimate, full, sum_within, dot_within}
use Rattle.targets_spec.proofs.several.RoundedAsTheSum.{target-accepts, target-exact, target-zeros}
use Rattle.targets_spec.proofs.within.Answers.{within-in-time, within-unfinished}
use Rattle.promises.specs.Statements.{RoundedOnce}
use Rattle.promises.specs.Special.{Given, is_zero_value, some_subnormal, ZeroSign}
use Rattle.promises.specs.TargetRounding.{list_amount, amount_in, Target-rounded-once, Target-cancelled, Target-of-zeros}
use Rattle.promises.specs.TargetRounding.{Sum-within-full, Dot-within-full, Sum-within-once, Dot-within-once}
use Rattle.promises.proofs.roundings.SumsOfAmounts.{list-means}
use Rattle.promises.proofs.roundings.FinerUnits.{once-finer}
use Rattle.promises.proofs.roundings.SumsRoundedOnce.{some-terms, once-of, sum-rounded-once, dot-rounded-once}
use Rattle.promises.proofs.records.WithoutAPass.{any-map}
use Rattle.promises.proofs.records.OnlyZeros.{zero-given, zero-sign-is, toward-four, value-zero, no-terms}

-- ---- targets

-- counted in a coarser unit
coarser : (f : Format) (c : Settings) (g j : ℕ) (sub : Bool) (x : Signed) (a : Answer) → RangeBounds f → SettingsBounds f c → 0 < x.mag
    → RoundedOnce f c (g + j) sub (raised j x) a → RoundedOnce f c g sub x a
unfolding raised
coarser f c g j sub x a b w some o = record {
  value = o.value;
  set_flags = o.set_flags;
  once = (once-finer f c g j x.neg x.mag o.value o.set_flags b w some).0 o.once;
  result = o.result;
  back = o.back;
  flags = o.flags;
}

module _ (f t : Format) (d : ℕ) (l : List ℕ) where
  total-is : exact_total f d l ≡ raised room (list_amount f d l)
  total-is = list-means f (reading_with d) value l

  on-target-is : on_target f t (exact_total f d l) ≡ raised room (amount_in f t d l)
  on-target-is =
      ap (raised (depth t + fall f false)) total-is ∙ raised-twice (depth t + fall f false) room (list_amount f d l)
      ∙ ap (λ (n : ℕ). raised n (list_amount f d l)) places ∙ sym (raised-twice room (lift f + depth t) (list_amount f d l))
    where
      places : room + (depth t + fall f false) ≡ lift f + depth t + room
      places = unfold fall in omega arith

  target-grid-is : target_grid f t ≡ lift t + depth f + room
  target-grid-is = unfold origin in omega arith

  none-there : (list_amount f d l).mag ≡ 0 → (on_target f t (exact_total f d l)).mag ≡ 0
  unfolding raised
  none-there e =
      ap (λ (x : Signed). x.mag) on-target-is ∙ ap (λ (m : ℕ). m * 2 ^ (lift f + depth t) * 2 ^ room) e
      ∙ ap (λ (m : ℕ). m * 2 ^ room) (zero-mul (2 ^ (lift f + depth t))) ∙ zero-mul (2 ^ room)

-- a sum that is not 0 in the one unit is not in another
pos-left : (m n : ℕ) → 0 < m * n → 0 < m
pos-left zero n h = absurd (let z : ⊥ = omega (arith, h, zero-mul n) in z)
pos-left (suc m) n h = zero-lt-suc m

not-zero : (n : ℕ) (x : Signed) → 0 < x.mag → 0 < (raised n x).mag
unfolding raised
not-zero n x h = mul-pos h (pow_pos n)

was-not-zero : (n : ℕ) (x : Signed) → 0 < (raised n x).mag → 0 < x.mag
unfolding raised
was-not-zero n x h = pos-left x.mag (2 ^ n) h

module _ (f : Format) (d : ℕ) (l : List ℕ) (t : Format) (c : Settings) (r : target_refusal f d l t c ≡ 0) where
  abbrev sub : Bool
  sub = any (is_subnormal f) l

  once-there : 0 < (on_target f t (exact_total f d l)).mag
      → RoundedOnce t c (target_grid f t) sub (on_target f t (exact_total f d l)) (target_answer f d l t c)
  unfolding printed rounded_into
  once-there some =
      let a = target-accepts f d l t c r in
      let n = was-not-zero (depth t + fall f false) (exact_total f d l) some in
      let e = (target-exact f d l t c r).1 (some-terms (sum_terms f (reading_with d) value l) f false (listed n)) in
      once-of t c a.format.range a.settings (target_grid f t) sub (towards_negative c) (on_target f t (exact_total f d l)) some
      (target_answer f d l t c) (ap (λ (z : Answer). z.result) e) (ap (λ (z : Answer). z.flags) e)
    where
      listed : 0 < (exact_total f d l).mag → 0 < (on_grid f false (exact_total f d l)).mag
      listed h = unfold rise in subst (λ (x : Signed). 0 < x.mag) (sym (raised-none (exact_total f d l))) h

pub target-rounded-once : Target-rounded-once
target-rounded-once f d l t c r some =
    let a = target-accepts f d l t c r in
    coarser t c (lift t + depth f) room _ (amount_in f t d l) (target_answer f d l t c) a.format.range a.settings some
    (subst (λ (g : ℕ). RoundedOnce t c g (any (is_subnormal f) l) (raised room (amount_in f t d l)) (target_answer f d l t c)) (target-grid-is f t d l)
    (subst (λ (x : Signed). RoundedOnce t c (target_grid f t) (any (is_subnormal f) l) x (target_answer f d l t c)) (on-target-is f t d l)
    (once-there f d l t c r (subst (λ (x : Signed). 0 < x.mag) (sym (on-target-is f t d l)) (not-zero room (amount_in f t d l) some)))))

pub target-cancelled : Target-cancelled
unfolding printed rounded_into sum_rounded
target-cancelled f d l t c r some none =
    let e = (target-exact f d l t c r).1 some in
    let z = eq-eqb (on_target f t (exact_total f d l)).mag 0 (none-there f t d l none) in
    record {
      negative = towards_negative c;
      sign = toward-four c;
      result = ap (λ (x : Answer). x.result) e ∙ rw z refl;
      flags = ap (λ (x : Answer). x.flags) e ∙ rw z (add-zero (flag 128 (any (is_subnormal f) l)));
    }

pub target-of-zeros : Target-of-zeros
unfolding item
target-of-zeros f d l t c r h = (
  zero_for c items,
  subst (λ (x : Bool). ZeroSign c x (any (λ b. is_zero_value true (operand f (reading_with d) b)) l) (zero_for c items)) (signed false)
      (subst (λ (x : Bool). ZeroSign c (any (is_zero false) items) x (zero_for c items)) (signed true) (zero-sign-is c _ _)),
  subst (Given t (zero_of (zero_for c items)) (some_subnormal f l) false)
      (sym (target-zeros f d l t c r (no-terms f (reading_with d) value l h))) (zero-given t (some_subnormal f l) (zero_for c items)),
)
  where
    items : List Item
    items = map (item f (reading_with d) value) l

    signed : (s : Bool) → any (is_zero s) items ≡ any (λ b. is_zero_value s (operand f (reading_with d) b)) l
    signed s =
        any-map (is_zero s) (item f (reading_with d) value) (λ b. is_zero_value s (operand f (reading_with d) b))
        (λ b. value-zero s (operand f (reading_with d) b)) l

-- ---- within an allowance

pub sum-within-full : Sum-within-full
sum-within-full f c u l k k0 m = go (ltb k (sum_answer f c u l).passes) refl
  where
    go : (t : Bool) → ltb k (sum_answer f c u l).passes ≡ t → sum_within f c u l k ≡ full (sum_answer f c u l)
    go true e = absurd (suc-ne-zero 0 (sym (within-unfinished.0 f c u l k k0 (ltb-true k _ e)).mark ∙ m))
    go false e = within-in-time.0 f c u l k k0 (ltb-false k _ e)

pub dot-within-full : Dot-within-full
dot-within-full f c xs ys k k0 m = go (ltb k (dot_answer f c xs ys).passes) refl
  where
    go : (t : Bool) → ltb k (dot_answer f c xs ys).passes ≡ t → dot_within f c xs ys k ≡ full (dot_answer f c xs ys)
    go true e = absurd (suc-ne-zero 0 (sym (within-unfinished.1 f c xs ys k k0 (ltb-true k _ e)).mark ∙ m))
    go false e = within-in-time.1 f c xs ys k k0 (ltb-false k _ e)

pub sum-within-once : Sum-within-once
sum-within-once f c u l k k0 r h m some =
    subst
    (λ (e : Estimate). RoundedOnce f c (grid f (is_square (summand_of u))) (any (is_subnormal f) l)
    (on_grid f (is_square (summand_of u)) (exact_sum (sum_terms f c (summand_of u) l))) e.answer)
    (sym (sum-within-full f c u l k k0 m)) (sum-rounded-once f c u l r h some)

pub dot-within-once : Dot-within-once
dot-within-once f c xs ys k k0 r h i m some =
    subst
    (λ (e : Estimate). RoundedOnce f c (grid f true) (any (is_subnormal f) xs || any (is_subnormal f) ys)
    (on_grid f true (exact_sum (dot_terms f c xs ys))) e.answer)
    (sym (dot-within-full f c xs ys k k0 m)) (dot-rounded-once f c xs ys r h i some)
