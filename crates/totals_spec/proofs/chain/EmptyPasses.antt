-- Empty passes may be counted. A pass at the edge w with S = 0, whose lost bit lies more than 64
-- below w, is followed by passes at w − 766, w − 1532, .. with S = 0, the same lost bit and the
-- same boundary, until an edge is at most 64 above the lost bit: no term straddles w, so each is a
-- multiple of 2^w, or lies below every one of these edges. So a program that walks a chain may
-- count them and walk the last alone.
use mathlib.Core.Path.{◌≡◌, sym, ap, ◌∙◌, refl, ap₂, subst, subst₂}
use mathlib.Core.List.{[], List, ◌∷◌}
use Prim.Native.Nat.{ℕ, ◌+◌, ◌-◌, ◌*◌, ◌/◌, ◌%◌, ◌^◌, ◌≤◌, ◌<◌, max, zero, suc}
use native.Mathlib.Nat.{div-add-mod', mul_assoc, mul-div_cancel, add-zero, le_trans, lt_of_lt_of_le}
use native.Mathlib.Nat.{not-le_of_lt, zero-mul, div-eq_of_lt, le-add_right, le-max_left}
use native.Mathlib.Nat.{le-max_right, add-mul, zero-mod, le_refl}
use lib.Pow.{pow_pos, pow_mono}
use mathlib.Core.Bool.{Bool, true, false, not, cond}
use lib.Dec.{T, ltb, eqb, ltb→lt, nltb→le, eqb→eq}
use lib.Ieee.{size}
use lib.Ieee.Digits.{size-lt}
use borrow.Author.Tests.{lt-ltb, le-ltb, lt-leb}
use native.Mathlib.Omega.{arith}
use lib.ListN.{length}
use Rattle.totals_spec.specs.chain.Chain.{lost_end, lost_of, cut_plus, cut_minus, Boundary}
use Rattle.totals_spec.specs.chain.Chain.{no_boundary, boundary, boundary_plus, boundary_minus}
use Rattle.totals_spec.specs.chain.Chain.{look_at, sum_of, next, decide, pass}
use Rattle.totals_spec.specs.Basics.{total, greatest, difference, Signed}
use Rattle.totals_spec.specs.terms.Terms.{Term, plus_sum, minus_sum}
use Rattle.totals_spec.specs.formats.Format.{room}
use Rattle.totals_spec.proofs.numbers.Bits.{pow-split, multiple-mod, size_none}
use Rattle.totals_spec.proofs.chain.Invariant.{Placed, Inv}
use Rattle.totals_spec.proofs.chain.Reached.{Reached, Onward, at_next, at_onward}
use Rattle.totals_spec.proofs.terms.GoodTerms.{AllGood}
use Rattle.totals_spec.proofs.chain.PassLimit.{fair-look}
use Rattle.totals_spec.proofs.chain.Margin.{terms-max}
use Rattle.totals_spec.proofs.chain.AlikeNumbers.{diff-plus}
use Rattle.totals_spec.proofs.chain.RoundsAsTheSum.{sum_is}

-- ---- one magnitude, at an edge w and at a lower one, v, that is not below its lost bit

-- a multiple of 2^w
finer : (x v w : ℕ) → v ≤ w → x % 2 ^ w ≡ 0 → x / 2 ^ v ≡ x / 2 ^ w * 2 ^ (w - v)
finer x v w h e = ap (λ (y : ℕ). y / 2 ^ v) whole ∙ mul-div_cancel (x / 2 ^ w * 2 ^ (w - v)) (pow_pos v)
  where
    whole : x ≡ x / 2 ^ w * 2 ^ (w - v) * 2 ^ v
    whole =
        sym (div-add-mod' x (2 ^ w)) ∙ ap (λ (y : ℕ). x / 2 ^ w * 2 ^ w + y) e ∙ add-zero (x / 2 ^ w * 2 ^ w)
        ∙ ap (λ (y : ℕ). x / 2 ^ w * y) (pow-split v w h) ∙ sym (mul_assoc (x / 2 ^ w) (2 ^ (w - v)) (2 ^ v))

record Kept (v w m : ℕ) : Type 0 where
  pub part : m / 2 ^ v ≡ m / 2 ^ w * 2 ^ (w - v)
  pub lost : lost_end v m ≡ lost_end w m

kept : (v w m L : ℕ) → v ≤ w → L ≤ v → L < w → lost_end w m ≤ L → Kept v w m
unfolding lost_end
kept v w m L h l d e = go (ltb m (2 ^ w)) (ltb→lt m (2 ^ w)) (nltb→le m (2 ^ w)) (eqb (m % 2 ^ w) 0) (eqb→eq (m % 2 ^ w) 0) e refl
  where
    -- below both edges
    under : size m ≤ L → m < 2 ^ v
    under k = lt_of_lt_of_le (size-lt m) (pow_mono (le_trans k l))

    go : (b : Bool) → (T b → m < 2 ^ w) → (T (not b) → 2 ^ w ≤ m) → (z : Bool) → (T z → m % 2 ^ w ≡ 0) → cond b (size m) (cond z 0 w) ≤ L
        → lost_end w m ≡ cond b (size m) (cond z 0 w) → Kept v w m
    go true p q z r k f = record {
      part = div-eq_of_lt (under k) ∙ sym (zero-mul (2 ^ (w - v))) ∙ ap (λ (x : ℕ). x * 2 ^ (w - v)) (sym (div-eq_of_lt (p tt)));
      lost = ap (λ (b : Bool). cond b (size m) (cond (eqb (m % 2 ^ v) 0) 0 v)) (lt-ltb _ _ (under k)) ∙ sym f;
    }
    go false p q true r k f = record {
      part = finer m v w h (r tt);
      lost = ap₂ (λ (b z : Bool). cond b (size m) (cond z 0 v)) (le-ltb _ _ (le_trans (pow_mono h) (q tt))) none ∙ sym f;
    }
      where
        multiple : m ≡ m / 2 ^ w * 2 ^ w
        multiple = sym (div-add-mod' m (2 ^ w)) ∙ ap (λ (y : ℕ). m / 2 ^ w * 2 ^ w + y) (r tt) ∙ add-zero (m / 2 ^ w * 2 ^ w)

        none : eqb (m % 2 ^ v) 0 ≡ true
        none = ap (λ (y : ℕ). eqb y 0) (multiple-mod m (m / 2 ^ w) w v multiple h)
    go false p q false r k f = absurd (not-le_of_lt d k)

-- ---- the terms of a list

module _ (v w L : ℕ) (h : v ≤ w) (l : L ≤ v) (d : L < w) where
  zero-part : 0 / 2 ^ v ≡ 0 / 2 ^ w * 2 ^ (w - v)
  zero-part = finer 0 v w h (zero-mod (2 ^ w))

  plus-term : (t : Term) → lost_of w t ≤ L → cut_plus v t ≡ cut_plus w t * 2 ^ (w - v)
  plus-term t e = go t.neg
    where
      go : (s : Bool) → cond s 0 t.mag / 2 ^ v ≡ cond s 0 t.mag / 2 ^ w * 2 ^ (w - v)
      go true = zero-part
      go false = (kept v w t.mag L h l d e).part

  minus-term : (t : Term) → lost_of w t ≤ L → cut_minus v t ≡ cut_minus w t * 2 ^ (w - v)
  minus-term t e = go t.neg
    where
      go : (s : Bool) → cond s t.mag 0 / 2 ^ v ≡ cond s t.mag 0 / 2 ^ w * 2 ^ (w - v)
      go true = (kept v w t.mag L h l d e).part
      go false = zero-part

  totals : (f g : Term → ℕ) → ((t : Term) → lost_of w t ≤ L → f t ≡ g t * 2 ^ (w - v)) → (ts : List Term) → greatest (lost_of w) ts ≤ L
      → total f ts ≡ total g ts * 2 ^ (w - v)
  totals f g e [] k = sym (zero-mul (2 ^ (w - v)))
  totals f g e (t ∷ ts) k =
      ap₂ ◌+◌ (e t (le_trans (le-max_left (lost_of w t) (greatest (lost_of w) ts)) k))
      (totals f g e ts (le_trans (le-max_right (lost_of w t) (greatest (lost_of w) ts)) k))
      ∙ sym (add-mul (g t) (total g ts) (2 ^ (w - v)))

  losses : (ts : List Term) → greatest (lost_of w) ts ≤ L → greatest (lost_of v) ts ≡ greatest (lost_of w) ts
  losses [] k = refl
  losses (t ∷ ts) k =
      ap₂ max (kept v w t.mag L h l d (le_trans (le-max_left (lost_of w t) (greatest (lost_of w) ts)) k)).lost
      (losses ts (le_trans (le-max_right (lost_of w t) (greatest (lost_of w) ts)) k))

  -- the boundary
  bound-plus-at : (p : ℕ) (b : Boundary) (A C : ℕ) → Placed p w b A C → boundary_plus b v ≡ boundary_plus b w * 2 ^ (w - v)
  bound-plus-at p no_boundary A C q = sym (zero-mul (2 ^ (w - v)))
  bound-plus-at p (boundary true m e) A C q = finer (m * 2 ^ e) v w h (multiple-mod (m * 2 ^ e) m e w refl (le_trans (le-add_right w 768) q.far))
  bound-plus-at p (boundary false m e) A C q = sym (zero-mul (2 ^ (w - v)))

  bound-minus-at : (p : ℕ) (b : Boundary) (A C : ℕ) → Placed p w b A C → boundary_minus b v ≡ boundary_minus b w * 2 ^ (w - v)
  bound-minus-at p no_boundary A C q = sym (zero-mul (2 ^ (w - v)))
  bound-minus-at p (boundary true m e) A C q = sym (zero-mul (2 ^ (w - v)))
  bound-minus-at p (boundary false m e) A C q = finer (m * 2 ^ e) v w h (multiple-mod (m * 2 ^ e) m e w refl (le_trans (le-add_right w 768) q.far))

-- ---- an empty pass

-- a − c is 0
equal-sides : (a c : ℕ) → (difference a c).mag ≡ 0 → a ≡ c
unfolding difference
equal-sides a c e = omega arith

no_difference : (a c : ℕ) → a ≡ c → (difference a c).mag ≡ 0
unfolding difference
no_difference a c e = omega arith

size-zero : (n : ℕ) → n ≡ 0 → size n ≡ 0
size-zero n e = ap size e ∙ size_none

-- S is 0 at the edge w, and the lost bit plus one is `lost`
pub record Empty (ts : List Term) (b : Boundary) (w lost : ℕ) : Type 0 where
  pub none : (sum_of b w (look_at ts w)).mag ≡ 0
  pub lost-is : (look_at ts w).lost ≡ lost

-- the edge after k passes more: reached, and a true difference
pub record Skipped (p : ℕ) (ts : List Term) (i : ℕ) (b : Boundary) (w k : ℕ) : Type 0 where
  pub reached : Reached p ts (i + k) b (w - 766 * k)
  pub above : 766 * k ≤ w

module _ (p : ℕ) (ts : List Term) (hp : p ≤ 64) (good : AllGood ts) (len : length ts ≤ terms-max) where
  -- it goes on, with the same boundary, 766 lower
  decide-empty : (b : Boundary) (w lost : ℕ) (x : Signed) (n : ℕ) → n ≡ 0 → 0 < lost → lost + 63 < w → decide p b w lost x n ≡ next b (w - 766)
  unfolding decide
  decide-empty no_boundary w zero x n e k h = absurd (not-le_of_lt k (le_refl 0))
  decide-empty no_boundary w (suc lost) x n e k h = rw (lt-leb (p + 70) n (omega arith)) (ap (λ (y : ℕ). next no_boundary (y - 766)) top)
    where
      top : max (w + n) (suc lost + 64) ≡ w
      top = omega arith
  decide-empty (boundary s m q) w zero x n e k h = absurd (not-le_of_lt k (le_refl 0))
  decide-empty (boundary s m q) w (suc lost) x n e k h = rw (lt-leb 66 n (omega arith)) (ap (λ (y : ℕ). next (boundary s m q) (y - 766)) top)
    where
      top : max (w + n) (suc lost + 64) ≡ w
      top = omega arith

  pub pass-empty : (b : Boundary) (w lost : ℕ) → Empty ts b w lost → 0 < lost → lost + 63 < w → pass p b w (look_at ts w) ≡ next b (w - 766)
  unfolding pass
  pass-empty b w lost e k h =
      ap (λ (y : ℕ). decide p b w y (sum_of b w (look_at ts w)) (size (sum_of b w (look_at ts w)).mag)) e.lost-is
      ∙ decide-empty b w lost (sum_of b w (look_at ts w)) (size (sum_of b w (look_at ts w)).mag) (size-zero _ e.none) k h

  -- a lower edge that is not below the lost bit finds S = 0 too, and the same lost bit
  pub still-empty : (b : Boundary) (v w lost : ℕ) → Inv p (plus_sum ts) (minus_sum ts) b w → Inv p (plus_sum ts) (minus_sum ts) b v → Empty ts b w lost
      → v ≤ w → lost ≤ v → lost < w → Empty ts b v lost
  unfolding look_at
  still-empty b v w lost iw iv e h l d = record {
    none = ap (λ (x : Signed). x.mag) (sum_is p ts hp good len b v iv) ∙ no_difference _ _ same;
    lost-is = losses v w lost h l d ts (subst (λ (x : ℕ). x ≤ lost) (sym e.lost-is) (le_refl lost)) ∙ e.lost-is;
  }
    where
      most : greatest (lost_of w) ts ≤ lost
      most = subst (λ (x : ℕ). x ≤ lost) (sym e.lost-is) (le_refl lost)

      sides : total (cut_plus w) ts + boundary_plus b w ≡ total (cut_minus w) ts + boundary_minus b w
      sides = equal-sides _ _ (ap (λ (x : Signed). x.mag) (sym (sum_is p ts hp good len b w iw)) ∙ e.none)

      same : total (cut_plus v) ts + boundary_plus b v ≡ total (cut_minus v) ts + boundary_minus b v
      same =
          ap₂ ◌+◌ (totals v w lost h l d (cut_plus v) (cut_plus w) (plus-term v w lost h l d) ts most) (bound-plus-at v w lost h l d p b _ _ iw.placed)
          ∙ sym (add-mul (total (cut_plus w) ts) (boundary_plus b w) (2 ^ (w - v)))
          ∙ ap (λ (x : ℕ). x * 2 ^ (w - v)) sides
          ∙ add-mul (total (cut_minus w) ts) (boundary_minus b w) (2 ^ (w - v))
          ∙ sym (ap₂ ◌+◌ (totals v w lost h l d (cut_minus v) (cut_minus w) (minus-term v w lost h l d) ts most)
          (bound-minus-at v w lost h l d p b _ _ iw.placed))

  -- ---- k empty passes in a row

  high : (b : Boundary) (w lost : ℕ) → Empty ts b w lost → 0 < lost → room < w
  high b w lost e k = (fair-look ts good w).high (subst (λ (x : ℕ). 0 < x) (sym e.lost-is) k)

  once : (i : ℕ) (b : Boundary) (w lost : ℕ) → Reached p ts i b w → Empty ts b w lost → 0 < lost → lost + 63 < w → Reached p ts (suc i) b (w - 766)
  once i b w lost r e k h = at_next p ts hp good len i b w b (w - 766) r (pass-empty b w lost e k h)

  pub steps : (j i : ℕ) (b : Boundary) (w lost : ℕ) → Reached p ts i b w → Empty ts b w lost → 0 < lost → 766 * j + lost + 63 < w → Skipped p ts i b w (suc j)
  steps zero i b w lost r e k h = record {
    reached = subst (λ (x : ℕ). Reached p ts x b (w - 766)) (first i) (once i b w lost r e k (omega arith));
    above = omega (arith, high b w lost e k);
  }
    where
      first : (i : ℕ) → suc i ≡ i + 1
      first i = omega arith
  steps (suc j) i b w lost r e k h =
      let r₁ : Reached p ts (suc i) b (w - 766) = once i b w lost r e k (omega arith) in
      let e₁ : Empty ts b (w - 766) lost = still-empty b (w - 766) w lost r.inv r₁.inv e (omega arith) (omega arith) (omega arith) in
      let s : Skipped p ts (suc i) b (w - 766) (suc j) = steps j (suc i) b (w - 766) lost r₁ e₁ k (omega arith) in
      record { reached = subst₂ (λ (x y : ℕ). Reached p ts x b y) (count i j) (edge w j) s.reached; above = omega (arith, s.above) }
    where
      count : (i j : ℕ) → suc i + suc j ≡ i + suc (suc j)
      count i j = omega arith

      edge : (w j : ℕ) → w - 766 - 766 * suc j ≡ w - 766 * suc (suc j)
      edge w j = omega arith

  -- EMPTY PASSES ARE COUNTED: from an empty pass at the edge w whose lost bit lies more than 64
  -- below w, k passes lead to w − 766 × k, with the same boundary
  pub skip : (i : ℕ) (b : Boundary) (w lost : ℕ) → Reached p ts i b w → Empty ts b w lost → 0 < lost → lost + 63 < w
      → Skipped p ts i b w ((w - lost + 702) / 766)
  skip i b w lost r e k h = subst (λ (x : ℕ). Skipped p ts i b w x) one_more (steps ((w - lost + 702) / 766 - 1) i b w lost r e k (omega arith))
    where
      one_more : suc ((w - lost + 702) / 766 - 1) ≡ (w - lost + 702) / 766
      one_more = omega arith

  -- S of an empty pass is 0, without a sign
  pub empty-sum : (b : Boundary) (w lost : ℕ) → Inv p (plus_sum ts) (minus_sum ts) b w → Empty ts b w lost
      → sum_of b w (look_at ts w) ≡ record { neg = false; mag = 0 }
  empty-sum b w lost i e =
      sum_is p ts hp good len b w i
      ∙ diff-plus _ _ 0 (equal-sides _ _ (ap (λ (x : Signed). x.mag) (sym (sum_is p ts hp good len b w i)) ∙ e.none) ∙ sym (add-zero _))

  -- an empty pass inside the stretch: pass number i + j + 1 stands 766 × j lower, with S = 0 and
  -- the same boundary, and goes on
  pub record EmptyAt (k : ℕ) (b : Boundary) (w : ℕ) : Type 0 where
    pub onward : Onward p ts hp good len k b w
    pub none : sum_of b w (look_at ts w) ≡ record { neg = false; mag = 0 }

  pub inside : (j i : ℕ) (b : Boundary) (w lost : ℕ) → Reached p ts i b w → Empty ts b w lost → 0 < lost → 766 * j + lost + 63 < w
      → EmptyAt (suc (i + j)) b (w - 766 * j)
  inside zero i b w lost r e k h =
      subst₂ (λ (n v : ℕ). EmptyAt (suc n) b v) (sym (add-zero i)) (sym same)
      (record {
        onward = at_onward p ts hp good len i b w b (w - 766) r (pass-empty b w lost e k (omega arith));
        none = empty-sum b w lost r.inv e;
      })
    where
      same : w - 766 * 0 ≡ w
      same = omega arith
  inside (suc j) i b w lost r e k h =
      let s : Skipped p ts i b w (suc j) = steps j i b w lost r e k (omega arith) in
      let below = still-empty b (w - 766 * suc j) w lost r.inv s.reached.inv e in
      let d : Empty ts b (w - 766 * suc j) lost = below (omega arith) (omega arith) (omega arith) in
      record {
        onward = at_onward p ts hp good len (i + suc j) b (w - 766 * suc j) b (w - 766 * suc j - 766) s.reached
            (pass-empty b (w - 766 * suc j) lost d k (omega arith));
        none = empty-sum b (w - 766 * suc j) lost s.reached.inv d;
      }
