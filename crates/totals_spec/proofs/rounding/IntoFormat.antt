-- A rounding into a target: it is the target's own rounding, a chain's outcome rounds as the exact
-- sum does, wherever the target's grid lies, and in the list's own format it is the plain sum's.
use mathlib.Core.Path.{◌≡◌, sym, ap, ap₂, ◌∙◌, refl}
use mathlib.Core.Bool.{false, Bool, true, cond}
use mathlib.Core.List.{[], List, map, ◌∷◌}
use Prim.Native.Nat.{ℕ, ◌+◌, ◌≤◌, ◌^◌}
use native.Mathlib.Omega.{arith}
use mathlib.Core.Logic.{inl, inr}
use lib.ListN.{length}
use lib.IntN.{ℤ, pos, sub_ℕ}
use native.Mathlib.Nat.{le_trans, zero-mul}
use borrow.Author.Tests.{le-leb}
use Rattle.totals_spec.specs.Basics.{Signed, raised, difference, any}
use Rattle.totals_spec.specs.formats.Format.{depth, room, origin, fall, grid, rise, Format, digits}
use Rattle.totals_spec.specs.sums.Totals.{sum_rounded, towards_negative, limit, sum_terms, special}
use Rattle.totals_spec.specs.sums.Totals.{reported, finite_total, on_grid, Answer}
use Rattle.totals_spec.specs.rounding.IntoFormat.{target_grid, on_target, rounded_into}
use Rattle.totals_spec.specs.rounding.IntoFormat.{reading_with, unrounded_total, exact_total}
use Rattle.totals_spec.specs.rounding.IntoFormat.{printed, printed_items, with_reading}
use Rattle.totals_spec.specs.rounding.Promises.{Target-means, Target-rounds, Target-zero}
use Rattle.totals_spec.specs.formats.Bounds.{FormatBounds, SettingsBounds, RangeBounds}
use Rattle.totals_spec.specs.formats.Settings.{value, Settings, valid_settings, precision_of}
use Rattle.totals_spec.specs.terms.Terms.{item, Item, Term, terms, exact_sum, plus_sum, minus_sum}
use Rattle.totals_spec.specs.chain.Chain.{Run, chain, zero_sum}
use Rattle.totals_spec.specs.formats.Decode.{Unpacked, zero_of, operand, decode}
use Rattle.totals_spec.specs.rounding.Side.{side_of, rounded_side}
use Rattle.totals_spec.specs.sums.Promises.{zero_for}
use Rattle.totals_spec.specs.rounding.Round.{overflow, finished, tiny_sum, round_to, round}
use Rattle.totals_spec.specs.formats.Encode.{encode}
use Rattle.totals_spec.proofs.formats.Valid.{format-bounds, settings-bounds, precision-most}
use Rattle.totals_spec.proofs.formats.Valid.{precision-least}
use Rattle.totals_spec.proofs.numbers.SignedNumbers.{raised-none, raised-twice}
use Rattle.totals_spec.proofs.rounding.FinerUnits.{sum-finer}
use Rattle.totals_spec.proofs.chain.AlikeNumbers.{Alike, alike-raised, alike-rounds}
use Rattle.totals_spec.proofs.terms.GoodTerms.{good-terms}
use Rattle.totals_spec.proofs.chain.RoundsAsTheSum.{chain-right}
use Rattle.totals_spec.proofs.chain.ByChain.{few-terms, same-side}
use Rattle.totals_spec.proofs.formats.DecodedBack.{back-zero}
use Rattle.totals_spec.proofs.sums.Sides.{SideAt}
use Rattle.totals_spec.proofs.rounding.SideByFlags.{sum-leans}

-- ---- the rounding does not depend on the unit, so it is the target's own

pub target-means : Target-means
unfolding rounded_into rise
target-means f t c x y vt vc e =
    sym (finer (target_grid f t) room (on_target f t x))
    ∙ ap₂ (λ (g : ℕ) (z : Signed). sum_rounded t c g (towards_negative c) z) place same
    ∙ finer (grid t false) (origin f false + fall t false) y
    ∙ ap (sum_rounded t c (grid t false) (towards_negative c)) (sym (raised-none y))
  where
    finer : (g j : ℕ) (z : Signed) → sum_rounded t c (g + j) (towards_negative c) (raised j z) ≡ sum_rounded t c g (towards_negative c) z
    finer g j z = sum-finer t c (format-bounds t vt).range (precision-most t c (settings-bounds t c vc)) g j (towards_negative c) z

    place : target_grid f t + room ≡ grid t false + (origin f false + fall t false)
    place = unfold origin grid fall in omega arith

    lower : depth t + fall f false + room ≡ origin t false + fall f false
    lower = unfold origin in omega arith

    same : raised room (on_target f t x) ≡ raised (origin f false + fall t false) y
    same = raised-twice room (depth t + fall f false) x ∙ ap (λ (n : ℕ). raised n x) lower ∙ e

-- ---- what a chain ends with

-- a number that is alike to zero is zero
alike-zero : (p : ℕ) (x y : Signed) → Alike p x y → x.mag ≡ 0 → y.mag ≡ 0
alike-zero p x y (inl e) z = ap (λ (s : Signed). s.mag) (sym e) ∙ z
alike-zero p x y (inr h) z = absurd (let k : ⊥ = omega (arith, h.x-is, h.a-pos) in k)

pub list_right : (f : Format) (d : ℕ) (l : List ℕ) → FormatBounds f → length l ≤ limit → Alike (digits f) (unrounded_total f d l) (exact_total f d l)
list_right f d l b n =
    chain-right (digits f) (sum_terms f (reading_with d) value l) (omega (arith, b.w_le, b.e-ge)) (good-terms f (reading_with d) value l)
    (few-terms (item f (reading_with d) value) l n)

pub rounds-alike : (f t : Format) (c : Settings) (x y : Signed) → SettingsBounds t c → digits t ≤ digits f → Alike (digits f) x y
    → rounded_into f t c x ≡ rounded_into f t c y
unfolding rounded_into
rounds-alike f t c x y b h a =
    alike-rounds t c (target_grid f t) (towards_negative c) (digits f) _ _ (le_trans (precision-most t c b) h) (alike-raised (digits f) _ x y a)

pub target-rounds : Target-rounds
target-rounds f d l t c vf n vt vc h =
    rounds-alike f t c (unrounded_total f d l) (exact_total f d l) (settings-bounds t c vc) h (list_right f d l (format-bounds f vf) n)

pub target-zero : Target-zero
target-zero f d l v n z = alike-zero (digits f) (unrounded_total f d l) (exact_total f d l) (list_right f d l (format-bounds f v) n) z

-- numbers that round alike have one record
pub printed-alike : (f t : Format) (c : Settings) (sub : Bool) (x y : Signed) (h : Run) → RangeBounds t → SettingsBounds t c
    → rounded_into f t c x ≡ rounded_into f t c y
    → printed f t sub x (rounded_into f t c x) h ≡ printed f t sub y (rounded_into f t c y) h
unfolding printed rounded_into
printed-alike f t c sub x y h b k e =
    cc (e, same-side t c (target_grid f t) (towards_negative c) (on_target f t x) (on_target f t y) b (precision-least t c b) (precision-most t c k) e)

-- ---- the record of an accepted target

abbrev pub items_of : Format → ℕ → List ℕ → List Item
items_of f d l = map (item f (reading_with d) value) l

-- without a term a zero stands beside 0, on whatever grid
pub printed-side : (f t : Format) (c : Settings) (sub : Bool) (l : List Item) → RangeBounds t
    → SideAt t (target_grid f t) (on_target f t (exact_sum (terms l))) (printed_items f t c sub l)
unfolding printed_items printed special difference plus_sum minus_sum side_of raised
printed-side f t c sub l b = go (terms l) (zero_for c l)
  where
    go : (ts : List Term) (minus : Bool) → SideAt t (target_grid f t) (on_target f t (exact_sum ts))
        (cond (any (λ x. true) ts) (printed f t sub (exact_sum ts) (rounded_into f t c (exact_sum ts)) (chain (digits f) ts))
        (special t sub (zero_of minus) false))
    go [] minus = unfold printed special difference plus_sum minus_sum side_of raised in
        rw (zero-mul (2 ^ (depth t + fall f false)))
        (back-zero t b (λ (v : Unpacked). side_of 0 v (record { neg = false; mag = 0 }) ≡ side_of (target_grid f t) v (record { neg = false; mag = 0 }))
        (λ s. refl) minus)
    go (x ∷ ts) minus = unfold printed in refl

-- the passes and the last edge are those of the list's own chain

abbrev pub ran_of : Format → List Term → Run
ran_of f ts = cond (any (λ x. true) ts) (chain (digits f) ts) (record { outcome = zero_sum; passes = 0; edge = 0 })

abbrev pub edge_of : Format → List Term → ℤ
edge_of f ts = cond (any (λ x. true) ts) (sub_ℕ ((chain (digits f) ts).edge + fall f false) (origin f false)) (pos 0)

pub printed-ran : (f t : Format) (c : Settings) (sub : Bool) (l : List Item) → let r = printed_items f t c sub l in
    (r.passes ≡ (ran_of f (terms l)).passes) × (r.last_edge ≡ edge_of f (terms l))
unfolding printed_items printed special
printed-ran f t c sub l = go (any (λ x. true) (terms l))
  where
    ts : List Term
    ts = terms l

    some : Answer
    some = printed f t sub (exact_sum (terms l)) (rounded_into f t c (exact_sum (terms l))) (chain (digits f) (terms l))

    none : Answer
    none = special t sub (zero_of (zero_for c l)) false

    go : (b : Bool) → ((cond b some none).passes ≡ (cond b (chain (digits f) ts) (record { outcome = zero_sum; passes = 0; edge = 0 })).passes)
        × ((cond b some none).last_edge ≡ cond b (sub_ℕ ((chain (digits f) ts).edge + fall f false) (origin f false)) (pos 0))
    go true = unfold printed in (refl, refl)
    go false = unfold special in (refl, refl)

-- ---- denormals-are-zero has no part in a rounding, and nothing else has one in reading a list

module _ (d : ℕ) (c : Settings) where
  pub rounded-reading : (f : Format) (g : ℕ) (towards : Bool) (x : Signed) → sum_rounded f (with_reading d c) g towards x ≡ sum_rounded f c g towards x
  unfolding sum_rounded round round_to finished overflow tiny_sum precision_of with_reading
  rounded-reading f g towards x = refl

  precision-reading : (f : Format) → precision_of f (with_reading d c) ≡ precision_of f c
  unfolding precision_of with_reading
  precision-reading f = refl

  pub toward-reading : towards_negative (with_reading d c) ≡ towards_negative c
  unfolding with_reading
  toward-reading = refl

  pub items-reading : (f : Format) (l : List ℕ) → map (item f (with_reading d c) value) l ≡ items_of f d l
  unfolding item operand with_reading reading_with
  items-reading f [] = refl
  items-reading f (b ∷ l) = ap (λ (r : List Item). item f (reading_with d) value b ∷ r) (items-reading f l)

  pub settings-reading : (f : Format) → d ≤ 1 → c.denormals_are_zero ≤ 1 → valid_settings f (with_reading d c) ≡ valid_settings f c
  unfolding valid_settings with_reading
  settings-reading f h k = rw (le-leb d 1 h, le-leb c.denormals_are_zero 1 k)

-- ---- in the list's own format

module _ (f : Format) (c : Settings) (d : ℕ) (b : RangeBounds f) (k : SettingsBounds f c) where
  own-rounded : (x : Signed)
      → rounded_into f f c x ≡ sum_rounded f (with_reading d c) (grid f false) (towards_negative (with_reading d c)) (on_grid f false x)
  unfolding rounded_into rise
  own-rounded x =
      ap (λ (g : ℕ). sum_rounded f c g (towards_negative c) (on_target f f x)) place
      ∙ sum-finer f c b (precision-most f c k) (grid f false) (depth f + fall f false) (towards_negative c) x
      ∙ ap (sum_rounded f c (grid f false) (towards_negative c)) (sym (raised-none x))
      ∙ rw (toward-reading d c) (sym (rounded-reading d c f (grid f false) (towards_negative c) (raised 0 x)))
    where
      place : target_grid f f ≡ grid f false + (depth f + fall f false)
      place = unfold origin grid fall in omega arith

  own-leans : (x : Signed) → let r = rounded_into f f c x in
      side_of (target_grid f f) (decode f (encode f r.value)) (on_target f f x) ≡ rounded_side r.value r.flags
  unfolding rounded_into
  own-leans x = sum-leans f c (target_grid f f) (towards_negative c) (on_target f f x) b (precision-least f c b) (precision-most f c k)

  own-side : (x : Signed) → side_of (target_grid f f) (decode f (encode f (rounded_into f f c x).value)) (on_target f f x)
      ≡ side_of (grid f false) (decode f (encode f (rounded_into f f c x).value)) (on_grid f false x)
  own-side x =
      let c' = with_reading d c in
      let most : precision_of f c' ≤ digits f = rw (precision-reading d c f) (precision-most f c k) in
      own-leans x ∙ rw (own-rounded x) (sym (sum-leans f c' (grid f false) (towards_negative c') (on_grid f false x) b (precision-least f c' b) most))

  pub own-items : (sub : Bool) (l : List Item)
      → printed_items f f c sub l ≡ finite_total f (with_reading d c) sub false (zero_for (with_reading d c) l) (terms l)
  unfolding printed_items finite_total printed reported
  own-items sub l = rw (toward-reading d c, own-side (exact_sum (terms l)), own-rounded (exact_sum (terms l)), toward-reading d c)
