-- The records of targets: their refusals, their places, the order of the list, the limit on the
-- passes, and that their fields fit.
use mathlib.Core.Path.{refl, ◌≡◌, sym, subst, ap₂, ◌∙◌}
use mathlib.Core.Bool.{Bool, true, false, not, ◌&&◌, ◌||◌}
use mathlib.Core.List.{List, map, Permᴰ}
use mathlib.Core.Logic.{◌≢◌, ◌↔◌}
use Prim.Native.Nat.{ℕ, ◌<◌, ◌≤◌, ◌^◌}
use native.Mathlib.Omega.{arith}
use lib.Dec.{T, leb, ltb, leb→le, ltb→lt, lt→ltb, nleb→lt, not_T, eqb, eqb→eq, eqb_refl}
use lib.ListN.{length}
use borrow.Author.Tests.{ltb-false, ne_eqb}
use Rattle.totals_spec.specs.Basics.{any, Signed}
use Rattle.totals_spec.specs.formats.Format.{Format, valid_format, digits}
use Rattle.totals_spec.specs.formats.Settings.{Settings, valid_settings, value}
use Rattle.totals_spec.specs.terms.Terms.{Item, terms, item, term_of, is_zero, exact_sum}
use Rattle.totals_spec.specs.rounding.IntoFormat.{printed, printed_items, reading_with, target_grid}
use Rattle.totals_spec.specs.rounding.IntoFormat.{on_target, rounded_into}
use Rattle.totals_spec.specs.formats.Decode.{decode, is_subnormal, zero_of}
use Rattle.totals_spec.specs.sums.Totals.{Answer, limit, stray, refuse_if, first_index, answered}
use Rattle.totals_spec.specs.sums.Totals.{sum_terms, special, sum_rounded, towards_negative}
use Rattle.totals_spec.specs.pence.Pence.{not_number}
use Rattle.totals_spec.specs.refusals.Conditions.{NoNumber}
use Rattle.totals_spec.specs.refusals.Places.{StrayAt}
use Rattle.totals_spec.specs.chain.Limit.{most_passes}
use Rattle.totals_spec.specs.formats.Bounds.{RangeBounds, SettingsBounds}
use Rattle.totals_spec.specs.formats.Encode.{encode}
use Rattle.totals_spec.specs.chain.Chain.{chain}
use Rattle.totals_spec.specs.rounding.Round.{Rounded}
use Rattle.totals_spec.specs.sums.Promises.{zero_for, FieldsFit}
use Rattle.totals_spec.proofs.sums.RecordRule.{cond_has}
use Rattle.totals_spec.proofs.refusals.RefusedRecords.{Unrefused, special-unrefused}
use Rattle.totals_spec.proofs.refusals.RefusedRecords.{answered-number, no_place, place_at, passed}
use Rattle.totals_spec.proofs.refusals.RefusedRecords.{small-number, Small, small-place}
use Rattle.totals_spec.proofs.refusals.RefusedRecords.{answered-whole}
use Rattle.totals_spec.proofs.refusals.Exactly.{Tests, last, test, either, not-both, format-fails}
use Rattle.totals_spec.proofs.refusals.Exactly.{settings-fail, many-found, stray-found, some-found}
use Rattle.totals_spec.proofs.refusals.Exactly.{no-number-found, exactly}
use Rattle.totals_spec.proofs.refusals.FirstIndex.{first-stray}
use Rattle.totals_spec.proofs.order.Order.{plus-perm, minus-perm, chain-perm}
use Rattle.totals_spec.proofs.order.Rearrangements.{any-perm, picked-perm, length-perm, map-perm}
use Rattle.totals_spec.proofs.order.Rearrangements.{perm-of-counts}
use Rattle.totals_spec.proofs.terms.GoodTerms.{AllGood, good-terms}
use Rattle.totals_spec.proofs.chain.PassLimit.{chain-limit}
use Rattle.totals_spec.proofs.chain.PassesOfRecords.{special-passes, answered-passes}
use Rattle.totals_spec.proofs.entries.AnswerFields.{without, few-sum, flag-less, side-less}
use Rattle.totals_spec.proofs.sums.FieldsFit.{encode-fits, few-passes, answered-fit}
use Rattle.totals_spec.proofs.rounding.RoundedNumbers.{sum-held, held-encodes}
use Rattle.totals_spec.proofs.formats.Valid.{precision-most, precision-least}
use Rattle.totals_spec.proofs.terms.HighestAndLowest.{sum_top}
use Rattle.targets_spec.specs.several.Conditions.{BadReading, target_conditions}
use Rattle.targets_spec.specs.several.Several.{target_refusal, target_answer}
use Rattle.targets_spec.specs.several.Promises.{Target-refusal, Target-refused, Target-place}
use Rattle.targets_spec.specs.several.Promises.{Target-order, Target-limit, Target-fits}
use Rattle.targets_spec.proofs.several.RoundedAsTheSum.{target-accepts}

-- ---- refusals

printed-unrefused : (f t : Format) (c : Settings) (sub : Bool) (l : List Item) → Unrefused (printed_items f t c sub l)
unfolding printed_items printed
printed-unrefused f t c sub l =
    cond_has Unrefused (any (λ x. true) (terms l)) _ _ (record { number = refl; place = refl }) (special-unrefused t sub _ _)

module _ (f : Format) (d : ℕ) (l : List ℕ) (t : Format) (c : Settings) where
  abbrev record_of : Answer
  record_of = printed_items f t c (any (is_subnormal f) l) (map (item f (reading_with d) value) l)

  unrefused : Unrefused record_of
  unrefused = printed-unrefused f t c (any (is_subnormal f) l) (map (item f (reading_with d) value) l)

  pub target-number : (target_answer f d l t c).refusal ≡ target_refusal f d l t c
  unfolding target_answer
  target-number = answered-number (target_refusal f d l t c) (first_index (stray f) l) record_of (λ _. unrefused)

  target-tests : Tests (target_conditions f d l t c) (target_refusal f d l t c)
  unfolding target_refusal
  target-tests =
      test (not (valid_format f && valid_format t)) (not-both (valid_format f) (valid_format t) (format-fails f) (format-fails t))
      (test (not (leb d 1 && valid_settings t c)) (not-both (leb d 1) (valid_settings t c) reading-fails (settings-fail t c))
      (test (ltb limit (length l)) (many-found l)
      (test (any (stray f) l) (stray-found f l)
      (test (ltb (digits f) (digits t) || any (not_number f) l)
      (either (ltb (digits f) (digits t)) (any (not_number f) l) (ltb→lt (digits f) (digits t), lt→ltb (digits f) (digits t))
      (some-found (not_number f) (λ b. NoNumber (decode f b)) (λ b. no-number-found (decode f b)) 0 l)) last))))
    where
      reading-fails : T (not (leb d 1)) ↔ BadReading d
      reading-fails = ((λ s. omega (arith, nleb→lt d 1 s)), λ h. not_T (leb d 1) (λ s. omega (arith, h, leb→le d 1 s)))

  pub target-seven : target_refusal f d l t c ≡ 7 → (length l ≤ limit) × T (any (stray f) l)
  unfolding target_refusal
  target-seven e =
      let a = passed (not (valid_format f && valid_format t)) 3 _ (λ q. omega (arith, q)) e in
      let b = passed (not (leb d 1 && valid_settings t c)) 4 _ (λ q. omega (arith, q)) a.1 in
      let g = passed (ltb limit (length l)) 6 _ (λ q. omega (arith, q)) b.1 in
      (ltb-false limit (length l) g.0, some (any (stray f) l) (ltb (digits f) (digits t) || any (not_number f) l) g.1)
    where
      some : (s k : Bool) → refuse_if s 7 (refuse_if k 17 0) ≡ 7 → T s
      some true k e = tt
      some false true e = omega (arith, e)
      some false false e = omega (arith, e)

  place_of : let r = target_answer f d l t c in (target_refusal f d l t c ≢ 7 → r.place ≡ 0) × (target_refusal f d l t c ≡ 7 → StrayAt f l r.place)
  unfolding target_answer
  place_of = (
    no_place (target_refusal f d l t c) (first_index (stray f) l) record_of (λ _. unrefused),
    λ h. subst (StrayAt f l) (sym (place_at (target_refusal f d l t c) (first_index (stray f) l) record_of h)) (first-stray f l (target-seven h).1),
  )

  pub target_small : Small (target_answer f d l t c)
  target_small = record {
    number = subst (λ (n : ℕ). n < 256) (sym target-number) small;
    place = small-place (target_refusal f d l t c) (target_answer f d l t c).place place_of.0
        (λ e. lt-le (place_of.1 e).inside (target-seven e).0);
  }
    where
      lt-le : {a b k : ℕ} → a < b → b ≤ k → a < k
      lt-le h k = omega arith

      small : target_refusal f d l t c < 256
      small = unfold target_refusal in
          small-number (not (valid_format f && valid_format t)) 3 _ (omega arith)
          (small-number (not (leb d 1 && valid_settings t c)) 4 _ (omega arith)
          (small-number (ltb limit (length l)) 6 _ (omega arith)
          (small-number (any (stray f) l) 7 _ (omega arith)
          (small-number (ltb (digits f) (digits t) || any (not_number f) l) 17 _ (omega arith) (omega arith)))))

pub target-refusal : Target-refusal
target-refusal f d l t c n = rw (target-number f d l t c) (exactly (target-tests f d l t c) n)

pub target-refused : Target-refused
unfolding target_answer
target-refused f d l t c h = answered-whole (target_refusal f d l t c) (first_index (stray f) l) (record_of f d l t c) h

pub target-place : Target-place
target-place f d l t c = rw (target-number f d l t c) (place_of f d l t c)

-- ---- the order

printed-perm : (f t : Format) (c : Settings) (sub : Bool) {l₁ l₂ : List Item} → Permᴰ l₁ l₂ → printed_items f t c sub l₁ ≡ printed_items f t c sub l₂
unfolding printed_items
printed-perm f t c sub d =
    let s = picked-perm term_of d in
    cc (any-perm (λ x. true) s, plus-perm s, minus-perm s, chain-perm s (digits f), any-perm (is_zero false) d, any-perm (is_zero true) d)

-- but for number 7 the place is not asked for
other_place : (n at at' : ℕ) (a : Answer) → n ≢ 7 → answered n at a ≡ answered n at' a
other_place n at at' a h = rw (ne_eqb n 7 h)

pub target-order : Target-order
unfolding target_answer
target-order f d l₁ l₂ t c h = (
  numbers,
  λ k.
      other_place (target_refusal f d l₁ t c) (first_index (stray f) l₁) (first_index (stray f) l₂) _ k
      ∙ ap₂ (λ (n : ℕ) (a : Answer). answered n (first_index (stray f) l₂) a) numbers records,
)
  where
    p : Permᴰ l₁ l₂
    p = perm-of-counts eqb eqb→eq eqb_refl l₁ l₂ h

    numbers : target_refusal f d l₁ t c ≡ target_refusal f d l₂ t c
    numbers = unfold target_refusal in cc (length-perm p, any-perm (stray f) p, any-perm (not_number f) p)

    records : record_of f d l₁ t c ≡ record_of f d l₂ t c
    records = rw (any-perm (is_subnormal f) p) (printed-perm f t c (any (is_subnormal f) l₂) (map-perm (item f (reading_with d) value) p))

-- ---- the limit

printed-passes : (f t : Format) (c : Settings) (sub : Bool) (l : List Item) → digits f ≤ 64 → AllGood (terms l)
    → (printed_items f t c sub l).passes ≤ most_passes f (terms l)
unfolding printed_items printed most_passes
printed-passes f t c sub l hp g =
    cond_has (λ a. a.passes ≤ most_passes f (terms l)) (any (λ x. true) (terms l)) _ _ (chain-limit (digits f) (terms l) hp g)
    (special-passes (most_passes f (terms l)) t sub _ _)

pub target-limit : Target-limit
unfolding target_answer
target-limit f d l t c = answered-passes _ (target_refusal f d l t c) (first_index (stray f) l) (record_of f d l t c) inside
  where
    inside : target_refusal f d l t c ≡ 0 → (record_of f d l t c).passes ≤ most_passes f (sum_terms f (reading_with d) value l)
    inside r =
        let b = (target-accepts f d l t c r).list in
        printed-passes f t c _ (map (item f (reading_with d) value) l) (omega (arith, b.w_le, b.e-ge)) (good-terms f (reading_with d) value l)

-- ---- the fields

module _ (f t : Format) (c : Settings) (b : RangeBounds t) (k : SettingsBounds t c) (sub : Bool) (l : List Item) where
  abbrev PrintedFit : Answer → Type 0
  PrintedFit a = (a.result < 2 ^ t.W) × (a.flags < 256) × (a.side < 4)

  printed-fit : PrintedFit (printed_items f t c sub l)
  unfolding printed_items printed rounded_into
  printed-fit = cond_has PrintedFit (any (λ x. true) (terms l)) _ _ by-passes alone
    where
      x : Signed
      x = on_target f t (exact_sum (terms l))

      r : Rounded
      r = sum_rounded t c (target_grid f t) (towards_negative c) (on_target f t (exact_sum (terms l)))

      by-passes : PrintedFit (printed f t sub (exact_sum (terms l)) (rounded_into f t c (exact_sum (terms l))) (chain (digits f) (terms l)))
      by-passes = unfold printed rounded_into in (
        encode-fits t b r.value
            (held-encodes t b r.value (sum-held t b c (precision-least t c b) (precision-most t c k) (target_grid f t) (towards_negative c) x)),
        omega (arith, flag-less 128 sub, few-sum t c (target_grid f t) (towards_negative c) x),
        side-less (target_grid f t) (decode t (encode t r.value)) x,
      )

      alone : PrintedFit (special t sub (zero_of (zero_for c l)) false)
      alone =
          let s = without t c sub false l (zero_of (zero_for c l)) false in
          ((unfold special in encode-fits t b (zero_of (zero_for c l)) tt), s.flags, s.side)

pub target-fits : Target-fits
unfolding target_answer
target-fits f d l t c = answered-fit t (target_refusal f d l t c) (first_index (stray f) l) (record_of f d l t c) inside
  where
    items : List Item
    items = map (item f (reading_with d) value) l

    inside : target_refusal f d l t c ≡ 0 → FieldsFit t (record_of f d l t c)
    inside r =
        let a = target-accepts f d l t c r in
        let b = a.list in
        let h = printed-fit f t c a.format.range a.settings (any (is_subnormal f) l) items in
        let n = printed-passes f t c (any (is_subnormal f) l) items (omega (arith, b.w_le, b.e-ge)) (good-terms f (reading_with d) value l) in
        record {
          result = h.0;
          flags = h.1;
          side = h.2;
          passes = omega (arith, n, few-passes f (terms items) b.range (sum_top f (reading_with d) value l));
        }
