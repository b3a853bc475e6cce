-- SQUARE: without a NaN the square sum of a list is its dot product with itself, record for record.
use mathlib.Core.Path.{◌≡◌, refl, ap₂, sym, ap, ◌∙◌}
use mathlib.Core.Bool.{true, false, Bool, ◌||◌, or_self, and-true, cond}
use mathlib.Core.List.{[], List, ◌∷◌, map}
use Prim.Native.Nat.{ℕ}
use lib.ListN.{length}
use borrow.Author.Tests.{eq-eqb}
use Rattle.totals_spec.specs.formats.Settings.{square, Settings, valid_settings}
use Rattle.totals_spec.specs.formats.Decode.{Unpacked, zero_of, finite, infinity, nan, operand}
use Rattle.totals_spec.specs.formats.Decode.{decode, is_nan, is_subnormal}
use Rattle.totals_spec.specs.terms.Terms.{item_of, pair_of, item, pair_item, Item, is_nan_item}
use Rattle.totals_spec.specs.formats.Format.{Format}
use Rattle.totals_spec.specs.sums.Totals.{pairs, accepted, without_nan, stray, sum_refusal}
use Rattle.totals_spec.specs.sums.Totals.{dot_refusal, first_index, dot_place, sum_accepted}
use Rattle.totals_spec.specs.sums.Totals.{dot_accepted, sum_answer, dot_answer}
use Rattle.totals_spec.specs.Basics.{any}
use Rattle.totals_spec.specs.order.Rearranged.{holds_nan}
use Rattle.totals_spec.specs.sums.Promises.{Square-dot}
use Rattle.totals_spec.proofs.order.Order.{item-nan, items-nan}

-- a square is the product of a number with itself, whose sign is positive
self-pair : (x : Unpacked) → pair_of x x ≡ item_of square x
self-pair (zero_of true) = refl
self-pair (zero_of false) = refl
self-pair (finite true k m) = refl
self-pair (finite false k m) = refl
self-pair (infinity true) = refl
self-pair (infinity false) = refl
self-pair (nan s g m) = refl

self-items : (f : Format) (c : Settings) (l : List ℕ) → map (pair_item f c) (pairs l l) ≡ map (item f c square) l
unfolding item pair_item
self-items f c [] = refl
self-items f c (b ∷ l) = ap₂ ◌∷◌ (self-pair (operand f c b)) (self-items f c l)

self-any : (t : ℕ → Bool) (l : List ℕ) → any (λ x. t x.0 || t x.1) (pairs l l) ≡ any t l
self-any t [] = refl
self-any t (b ∷ l) = ap₂ ◌||◌ (or_self (t b)) (self-any t l)

-- without a NaN neither the rule for NaNs nor the place of infinities is asked for
accepted-free : (f : Format) (c : Settings) (sub products first signaling : Bool) (v : Unpacked) (l : List Item) → any is_nan_item l ≡ false
    → accepted f c sub products first signaling v l ≡ without_nan f c sub products l
unfolding accepted
accepted-free f c sub products first signaling v l h = rw h

same-refusal : (f : Format) (c : Settings) (l : List ℕ) → sum_refusal f c 2 l ≡ dot_refusal f c l l
unfolding sum_refusal dot_refusal
same-refusal f c l = rw (and-true (valid_settings f c), eq-eqb (length l) (length l) refl, or_self (any (stray f) l))

same_place : (f : Format) (l : List ℕ) → dot_place f l l ≡ first_index (stray f) l
unfolding dot_place
same_place f l = go (any (stray f) l)
  where
    go : (b : Bool) → cond b (first_index (stray f) l) (first_index (stray f) l) ≡ first_index (stray f) l
    go true = refl
    go false = refl

same-accepted : (f : Format) (c : Settings) (l : List ℕ) → holds_nan f l ≡ false → sum_accepted f c square l ≡ dot_accepted f c (pairs l l)
unfolding sum_accepted dot_accepted
same-accepted f c l h =
    accepted-free f c (any (is_subnormal f) l) true true _ _ (map (item f c square) l) none
    ∙ ap₂ (λ (s : Bool) (i : List Item). without_nan f c s true i) (sym (self-any (is_subnormal f) l)) (sym (self-items f c l))
    ∙ sym (accepted-free f c _ true false _ _ (map (pair_item f c) (pairs l l)) (ap (any is_nan_item) (self-items f c l) ∙ none))
  where
    none : any is_nan_item (map (item f c square) l) ≡ false
    none = items-nan (item f c square) (λ b. is_nan (decode f b)) (item-nan f c square) l ∙ h

pub square-dot : Square-dot
unfolding sum_answer dot_answer
square-dot f c l h = rw (same-refusal f c l, same_place f l, same-accepted f c l h)
