-- One total, several formats: what a chain ends with rounds as the exact sum does in every target
-- of at most the list's digits, wherever the target's grid lies; and in the list's own format a
-- target's record is the plain sum's.
use mathlib.Core.Path.{◌≡◌, subst, ◌∙◌, refl, sym, ap}
use mathlib.Core.Bool.{false, Bool, true, not, ◌&&◌, ◌||◌}
use mathlib.Core.List.{List, [], ◌∷◌}
use Prim.Native.Nat.{ℕ, ◌≤◌, ◌+◌}
use lib.ListN.{length}
use lib.Dec.{T, leb, ltb, leb→le}
use borrow.Author.Tests.{ltb-false}
use native.Mathlib.Nat.{suc-ne-zero}
use Rattle.totals_spec.specs.Basics.{any}
use Rattle.totals_spec.specs.formats.Bounds.{FormatBounds, SettingsBounds}
use Rattle.totals_spec.specs.formats.Format.{Format, digits, valid_format}
use Rattle.totals_spec.specs.formats.Settings.{Settings, valid_settings, value}
use Rattle.totals_spec.specs.sums.Totals.{limit, stray, sum_terms, Answer}
use Rattle.totals_spec.specs.sums.Totals.{towards_negative, sum_refusal, refuse_if, finite_total}
use Rattle.totals_spec.specs.sums.Promises.{AllFinite, zero_for}
use Rattle.totals_spec.specs.formats.Decode.{decode, is_number, is_subnormal}
use Rattle.totals_spec.specs.pence.Pence.{not_number}
use Rattle.totals_spec.specs.rounding.IntoFormat.{unrounded_total, exact_total, printed_items}
use Rattle.totals_spec.specs.rounding.IntoFormat.{reading_with, target_grid, on_target}
use Rattle.totals_spec.specs.rounding.IntoFormat.{rounded_into, with_reading}
use Rattle.totals_spec.specs.terms.Terms.{Term, Item, terms}
use Rattle.totals_spec.proofs.order.Order.{or_split, first-zero}
use Rattle.totals_spec.proofs.formats.Valid.{and_left, and_right, format-bounds, settings-bounds}
use Rattle.totals_spec.proofs.chain.PassesOfRecords.{valid-of}
use Rattle.totals_spec.proofs.rounding.IntoFormat.{list_right, rounds-alike, printed-alike}
use Rattle.totals_spec.proofs.rounding.IntoFormat.{items_of, printed-side, rounded-reading}
use Rattle.totals_spec.proofs.rounding.IntoFormat.{toward-reading, settings-reading, items-reading}
use Rattle.totals_spec.proofs.rounding.IntoFormat.{own-items, printed-ran}
use Rattle.totals_spec.proofs.sums.FiniteLists.{some-term, sum-finite}
use Rattle.totals_spec.proofs.sums.ZeroTotals.{zero-record}
use Rattle.totals_spec.proofs.sums.Sides.{SideAt}
use Rattle.targets_spec.specs.several.Several.{target_refusal, target_answer}
use Rattle.targets_spec.specs.several.Promises.{Target-by-chain, Target-exact, Target-zeros}
use Rattle.targets_spec.specs.several.Promises.{Target-side, Target-passes, Target-reading}
use Rattle.targets_spec.specs.several.Promises.{Target-own}

-- ---- what an accepted target has shown

pub record TargetAccepts (f : Format) (d : ℕ) (l : List ℕ) (t : Format) (c : Settings) : Type 0 where
  pub list : FormatBounds f
  pub reading : d ≤ 1
  pub format : FormatBounds t
  pub settings : SettingsBounds t c
  pub few : length l ≤ limit
  pub unstray : any (stray f) l ≡ false
  pub digits_le : digits t ≤ digits f
  pub finite : AllFinite f l

pub all-finite : (f : Format) (l : List ℕ) → any (not_number f) l ≡ false → AllFinite f l
all-finite f [] e = tt
all-finite f (b ∷ l) e = let s = or_split (not_number f b) (any (not_number f) l) e in (number (is_number (decode f b)) s.0, all-finite f l s.1)
  where
    number : (n : Bool) → not n ≡ false → T n
    number true e = tt
    number false e = subst (λ (x : Bool). T x) e tt

pub target-accepts : (f : Format) (d : ℕ) (l : List ℕ) (t : Format) (c : Settings) → target_refusal f d l t c ≡ 0 → TargetAccepts f d l t c
unfolding target_refusal
target-accepts f d l t c e =
    let a = first-zero (not (valid_format f && valid_format t)) 2 _ e in
    let b = first-zero (not (leb d 1 && valid_settings t c)) 3 _ a.1 in
    let g = first-zero (ltb limit (length l)) 5 _ b.1 in
    let h = first-zero (any (stray f) l) 6 _ g.1 in
    let k = first-zero (ltb (digits f) (digits t) || any (not_number f) l) 16 0 h.1 in
    let s = or_split (ltb (digits f) (digits t)) (any (not_number f) l) k.0 in
    let v = valid-of (valid_format f && valid_format t) 2 _ e in
    let w = valid-of (leb d 1 && valid_settings t c) 3 _ a.1 in
    record {
      list = format-bounds f (and_left (valid_format f) (valid_format t) v);
      reading = leb→le d 1 (and_left (leb d 1) (valid_settings t c) w);
      format = format-bounds t (and_right (valid_format f) (valid_format t) v);
      settings = settings-bounds t c (and_right (leb d 1) (valid_settings t c) w);
      few = ltb-false limit (length l) g.0;
      unstray = h.0;
      digits_le = ltb-false (digits f) (digits t) s.0;
      finite = all-finite f l s.1;
    }

pub target-by-chain : Target-by-chain
target-by-chain f d l t c sub r =
    let a = target-accepts f d l t c r in
    printed-alike f t c sub (unrounded_total f d l) (exact_total f d l) _ a.format.range a.settings
    (rounds-alike f t c (unrounded_total f d l) (exact_total f d l) a.settings a.digits_le (list_right f d l a.list a.few))

target_is : (f : Format) (d : ℕ) (l : List ℕ) (t : Format) (c : Settings) → target_refusal f d l t c ≡ 0
    → target_answer f d l t c ≡ printed_items f t c (any (is_subnormal f) l) (items_of f d l)
unfolding target_answer
target_is f d l t c r = rw r

pub target-exact : Target-exact
unfolding printed_items
target-exact f d l t c r = (
  (target-accepts f d l t c r).finite,
  λ some. target_is f d l t c r ∙ rw (some-term (sum_terms f (reading_with d) value l) some),
)

no-term : (ts : List Term) → length ts ≡ 0 → any (λ x. true) ts ≡ false
no-term [] e = refl
no-term (t ∷ ts) e = absurd (suc-ne-zero (length ts) e)

pub target-zeros : Target-zeros
unfolding printed_items
target-zeros f d l t c r e =
    target_is f d l t c r ∙ rw (no-term (sum_terms f (reading_with d) value l) e)
    (zero-record t (any (is_subnormal f) l) (zero_for c (items_of f d l)) (target-accepts f d l t c r).format.range)

pub target-side : Target-side
target-side f d l t c r =
    subst (SideAt t (target_grid f t) (on_target f t (exact_total f d l))) (sym (target_is f d l t c r))
    (printed-side f t c (any (is_subnormal f) l) (items_of f d l) (target-accepts f d l t c r).format.range)

-- ---- one run of passes: the chain and its edge are the list's alone

pub target-passes : Target-passes
target-passes f d l t t' c c' r r' =
    let sub = any (is_subnormal f) l in
    let x = printed-ran f t c sub (items_of f d l) in
    let y = printed-ran f t' c' sub (items_of f d l) in
    let e = target_is f d l t c r in
    let e' = target_is f d l t' c' r' in (
      ap (λ (a : Answer). a.passes) e ∙ x.0 ∙ sym y.0 ∙ sym (ap (λ (a : Answer). a.passes) e'),
      ap (λ (a : Answer). a.last_edge) e ∙ x.1 ∙ sym y.1 ∙ sym (ap (λ (a : Answer). a.last_edge) e'),
    )

pub target-reading : Target-reading
unfolding target_answer target_refusal printed_items rounded_into
target-reading f d l t c n h k =
    rw (settings-reading n c t h k, toward-reading n c, rounded-reading n c t (target_grid f t) (towards_negative c) (on_target f t (exact_total f d l)))

own-accepted : (f : Format) (d : ℕ) (l : List ℕ) (c : Settings) → d ≤ 1 → c.denormals_are_zero ≤ 1 → target_refusal f d l f c ≡ 0
    → sum_refusal f (with_reading d c) 0 l ≡ 0
unfolding target_refusal sum_refusal
own-accepted f d l c h k r =
    rw (settings-reading d c f h k)
    (first-zeros (valid_format f) (valid_settings f c) (leb d 1) (ltb limit (length l)) (any (stray f) l) (ltb (digits f) (digits f) || any (not_number f) l) r)
  where
    first-zeros : (v s h n x k : Bool) → refuse_if (not (v && v)) 3 (refuse_if (not (h && s)) 4 (refuse_if n 6 (refuse_if x 7 (refuse_if k 17 0)))) ≡ 0
        → refuse_if (not v) 3 (refuse_if (not (s && true)) 4 (refuse_if n 6 (refuse_if x 7 0))) ≡ 0
    first-zeros true true true false false k e = refl
    first-zeros true true true false true k e = absurd (suc-ne-zero 6 e)
    first-zeros true true true true x k e = absurd (suc-ne-zero 5 e)
    first-zeros true true false n x k e = absurd (suc-ne-zero 3 e)
    first-zeros true false true n x k e = absurd (suc-ne-zero 3 e)
    first-zeros true false false n x k e = absurd (suc-ne-zero 3 e)
    first-zeros false s h n x k e = absurd (suc-ne-zero 2 e)

pub target-own : Target-own
target-own f d l c r =
    let a = target-accepts f d l f c r in
    let c' = with_reading d c in
    let sub = any (is_subnormal f) l in
    let accepted = own-accepted f d l c a.reading a.settings.denormals-le r in (
      accepted,
      target_is f d l f c r
          ∙ own-items f c d a.format.range a.settings sub (items_of f d l)
          ∙ ap (λ (i : List Item). finite_total f c' sub false (zero_for c' i) (terms i)) (sym (items-reading d c f l))
          ∙ sym (sum-finite f c' 0 l accepted a.finite),
    )
