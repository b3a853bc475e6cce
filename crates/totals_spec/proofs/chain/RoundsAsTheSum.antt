-- THE ROUNDING: a chain's outcome, rounded once, is the exact sum rounded once.
use Prim.Native.Nat.{ℕ, ◌^◌, ◌*◌, ◌+◌, ◌-◌, ◌≤◌, ◌/◌, zero, suc, ◌<◌}
use mathlib.Core.Path.{◌≡◌, refl, ◌∙◌, sym, ap, subst}
use native.Mathlib.Nat.{mul_comm, mul_assoc, mul-div_cancel, le-add_right, add-zero, le_trans}
use native.Mathlib.Nat.{mul-le-mul_right, le_refl, le_of_lt}
use lib.Pow.{pow-add, pow_pos, pow_mono}
use lib.Dec.{lit≤}
use mathlib.Core.Bool.{true, false, Bool}
use native.Mathlib.Omega.{arith}
use mathlib.Core.List.{List}
use lib.ListN.{length}
use lib.Ieee.{size}
use Rattle.totals_spec.specs.chain.Chain.{half, Boundary, no_boundary, boundary, boundary_plus}
use Rattle.totals_spec.specs.chain.Chain.{boundary_minus, look_at, Step, done, next, decide, sum_of}
use Rattle.totals_spec.specs.chain.Chain.{pass, follow, run, chain, cut_plus, cut_minus, lost_of}
use Rattle.totals_spec.specs.Basics.{Signed, difference, raised, total, greatest}
use Rattle.totals_spec.specs.formats.Format.{Format}
use Rattle.totals_spec.specs.formats.Settings.{Settings, precision_of}
use Rattle.totals_spec.specs.sums.Totals.{sum_rounded}
use Rattle.totals_spec.specs.terms.Terms.{Term, plus_sum, minus_sum, top_of}
use Rattle.totals_spec.specs.chain.Promises.{Finished}
use Rattle.totals_spec.specs.chain.Settled.{settled}
use Rattle.totals_spec.proofs.chain.Margin.{terms-max, Close, cut-close}
use Rattle.totals_spec.proofs.numbers.Bits.{pow-split}
use Rattle.totals_spec.proofs.chain.Invariant.{with_plus, with_minus, Placed, Inv, Right, View}
use Rattle.totals_spec.proofs.chain.Invariant.{view, rests-unit}
use Rattle.totals_spec.proofs.terms.GoodTerms.{AllGood}
use Rattle.totals_spec.proofs.chain.PassLimit.{losses-le, fair-look, chain-ends}
use Rattle.totals_spec.proofs.chain.WrappedSums.{wrapped-is}
use Rattle.totals_spec.proofs.chain.CutParts.{rest_plus, rest_minus, plus-split, minus-split}
use Rattle.totals_spec.proofs.chain.CutParts.{rests-le, mags-le}
use Rattle.totals_spec.proofs.chain.AlikeNumbers.{alike-rounds, alike-raised, Alike}
use Rattle.totals_spec.proofs.chain.FreePass.{free-right}
use Rattle.totals_spec.proofs.chain.NearPass.{near-right}

-- ---- every pass of a chain

-- 2^765, kept shut: 2^767 is four times it
quarter : ℕ
quarter = 2 ^ 765

half_is : half ≡ 4 * quarter
unfolding half quarter
half_is = refl

quarter-at : (w : ℕ) → 2 ^ (w + 765) ≡ quarter * 2 ^ w
unfolding quarter
quarter-at w = pow-add 2 w 765 ∙ mul_comm (2 ^ w) (2 ^ 765)

quarter-large : terms-max ≤ quarter
unfolding quarter
quarter-large = lit≤ tt

-- a boundary that is whole at the edge, in units of the edge
whole-at : (m w x : ℕ) → w ≤ x → m * 2 ^ x / 2 ^ w * 2 ^ w ≡ m * 2 ^ x
whole-at m w x h = ap (λ (y : ℕ). y / 2 ^ w * 2 ^ w) e ∙ ap (λ (y : ℕ). y * 2 ^ w) (mul-div_cancel (m * 2 ^ (x - w)) (pow_pos w)) ∙ sym e
  where
    e : m * 2 ^ x ≡ m * 2 ^ (x - w) * 2 ^ w
    e = ap (λ (y : ℕ). m * y) (pow-split w x h) ∙ sym (mul_assoc m (2 ^ (x - w)) (2 ^ w))

pub bound-plus : (p w : ℕ) (b : Boundary) (P N : ℕ) → Placed p w b (with_plus b P) (with_minus b N) → (Q R : ℕ) → Q * 2 ^ w + R ≡ P
    → with_plus b P ≡ (Q + boundary_plus b w) * 2 ^ w + R
bound-plus p w no_boundary P N h Q R e = sym e ∙ ap (λ (x : ℕ). x * 2 ^ w + R) (sym (add-zero Q))
bound-plus p w (boundary true m x) P N h Q R e = omega (arith, e, whole-at m w x (le_trans (le-add_right w 768) h.far))
bound-plus p w (boundary false m x) P N h Q R e = sym e ∙ ap (λ (x : ℕ). x * 2 ^ w + R) (sym (add-zero Q))

pub bound-minus : (p w : ℕ) (b : Boundary) (P N : ℕ) → Placed p w b (with_plus b P) (with_minus b N) → (Q R : ℕ) → Q * 2 ^ w + R ≡ N
    → with_minus b N ≡ (Q + boundary_minus b w) * 2 ^ w + R
bound-minus p w no_boundary P N h Q R e = sym e ∙ ap (λ (x : ℕ). x * 2 ^ w + R) (sym (add-zero Q))
bound-minus p w (boundary true m x) P N h Q R e = sym e ∙ ap (λ (x : ℕ). x * 2 ^ w + R) (sym (add-zero Q))
bound-minus p w (boundary false m x) P N h Q R e = omega (arith, e, whole-at m w x (le_trans (le-add_right w 768) h.far))

module _ (p : ℕ) (ts : List Term) (hp : p ≤ 64) (good : AllGood ts) (len : length ts ≤ terms-max) where
  rests : (w : ℕ) → total (rest_plus w) ts + total (rest_minus w) ts ≤ terms-max * (2 ^ greatest (lost_of w) ts - 1)
  rests w = le_trans (rests-le w (greatest (lost_of w) ts) ts (le_refl _)) (mul-le-mul_right (2 ^ greatest (lost_of w) ts - 1) len)

  -- S is the cut sum itself
  pub sum_is : (b : Boundary) (w : ℕ) → Inv p (plus_sum ts) (minus_sum ts) b w
      → sum_of b w (look_at ts w) ≡ difference ((look_at ts w).plus + boundary_plus b w) ((look_at ts w).minus + boundary_minus b w)
  unfolding sum_of look_at
  sum_is b w h = wrapped-is half _ _ pos up down
    where
      e_a : with_plus b (plus_sum ts) ≡ (total (cut_plus w) ts + boundary_plus b w) * 2 ^ w + total (rest_plus w) ts
      e_a = bound-plus p w b (plus_sum ts) (minus_sum ts) h.placed (total (cut_plus w) ts) (total (rest_plus w) ts) (plus-split w ts)

      e_c : with_minus b (minus_sum ts) ≡ (total (cut_minus w) ts + boundary_minus b w) * 2 ^ w + total (rest_minus w) ts
      e_c = bound-minus p w b (plus_sum ts) (minus_sum ts) h.placed (total (cut_minus w) ts) (total (rest_minus w) ts) (minus-split w ts)

      R : total (rest_plus w) ts + total (rest_minus w) ts ≤ terms-max * 2 ^ w
      R = rests-unit w (greatest (lost_of w) ts) _ (losses-le w ts) (rests w)

      R' : total (rest_minus w) ts + total (rest_plus w) ts ≤ terms-max * 2 ^ w
      R' = omega (arith, R)

      close : Close (with_plus b (plus_sum ts)) (with_minus b (minus_sum ts)) (3 * (quarter * 2 ^ w))
      close = subst (λ (x : ℕ). Close (with_plus b (plus_sum ts)) (with_minus b (minus_sum ts)) (3 * x)) (quarter-at w) h.within

      pos : 0 < half
      pos = omega (arith, half_is, quarter-large)

      up : total (cut_plus w) ts + boundary_plus b w < total (cut_minus w) ts + boundary_minus b w + half
      up = subst (λ (x : ℕ). total (cut_plus w) ts + boundary_plus b w < total (cut_minus w) ts + boundary_minus b w + x) (sym half_is)
          (cut-close w _ _ (total (rest_plus w) ts) (total (rest_minus w) ts) quarter _ _ e_a e_c R quarter-large close.0)

      down : total (cut_minus w) ts + boundary_minus b w ≤ total (cut_plus w) ts + boundary_plus b w + half
      down = subst (λ (x : ℕ). total (cut_minus w) ts + boundary_minus b w ≤ total (cut_plus w) ts + boundary_plus b w + x) (sym half_is)
          (le_of_lt (cut-close w _ _ (total (rest_minus w) ts) (total (rest_plus w) ts) quarter _ _ e_c e_a R' quarter-large close.1))

  decide-right : (b : Boundary) (w : ℕ) → Inv p (plus_sum ts) (minus_sum ts) b w
      → (v : View (total (cut_plus w) ts + boundary_plus b w) (total (cut_minus w) ts + boundary_minus b w))
      → Right p (plus_sum ts) (minus_sum ts) (decide p b w (greatest (lost_of w) ts) (record { neg = v.s; mag = v.k }) (size v.k))
  unfolding look_at
  decide-right no_boundary w h v =
      free-right p w (plus_sum ts) (minus_sum ts) _ _ (total (rest_plus w) ts) (total (rest_minus w) ts) hp
      (bound-plus p w no_boundary (plus_sum ts) (minus_sum ts) tt _ _ (plus-split w ts))
      (bound-minus p w no_boundary (plus_sum ts) (minus_sum ts) tt _ _ (minus-split w ts))
      v.s v.k v.sum (greatest (lost_of w) ts) (rests w) (losses-le w ts) (fair-look ts good w).high
  decide-right (boundary z m e) w h v =
      near-right p w (plus_sum ts) (minus_sum ts) _ _ (total (rest_plus w) ts) (total (rest_minus w) ts) z m e h.placed
      (bound-plus p w (boundary z m e) (plus_sum ts) (minus_sum ts) h.placed _ _ (plus-split w ts))
      (bound-minus p w (boundary z m e) (plus_sum ts) (minus_sum ts) h.placed _ _ (minus-split w ts))
      v.s v.k v.sum (greatest (lost_of w) ts) (rests w) (losses-le w ts) (fair-look ts good w).high

  pub pass-right : (b : Boundary) (w : ℕ) → Inv p (plus_sum ts) (minus_sum ts) b w → Right p (plus_sum ts) (minus_sum ts) (pass p b w (look_at ts w))
  unfolding pass look_at
  pass-right b w h =
      let v = view (total (cut_plus w) ts + boundary_plus b w) (total (cut_minus w) ts + boundary_minus b w) in
      subst (λ (x : Signed). Right p (plus_sum ts) (minus_sum ts) (decide p b w (greatest (lost_of w) ts) x (size x.mag))) (sym (sum_is b w h ∙ v.is))
      (decide-right b w h v)

  run-right : (fuel : ℕ) (b : Boundary) (w : ℕ) → Inv p (plus_sum ts) (minus_sum ts) b w → Finished (run (look_at ts) p fuel b w).outcome
      → Alike p (settled (run (look_at ts) p fuel b w).outcome) (difference (plus_sum ts) (minus_sum ts))
  unfolding run
  run-right zero b w h f = absurd f
  run-right (suc fuel) b w h f = go (pass p b w (look_at ts w)) (pass-right b w h) (run-right fuel) f
    where
      go : (x : Step) → Right p (plus_sum ts) (minus_sum ts) x
          → ((b : Boundary) (w : ℕ) → Inv p (plus_sum ts) (minus_sum ts) b w → Finished (run (look_at ts) p fuel b w).outcome
          → Alike p (settled (run (look_at ts) p fuel b w).outcome) (difference (plus_sum ts) (minus_sum ts)))
          → Finished (follow x (run (look_at ts) p fuel) w).outcome
          → Alike p (settled (follow x (run (look_at ts) p fuel) w).outcome) (difference (plus_sum ts) (minus_sum ts))
      go (done o) r ih f = r
      go (next b' v) r ih f = ih b' v r f

  pub start : Inv p (plus_sum ts) (minus_sum ts) no_boundary (top_of ts - 702)
  start = record { within = (omega (arith, all, few, pow_pos (top_of ts - 702 + 765)), omega (arith, all, few, pow_pos (top_of ts - 702 + 765))); placed = tt }
    where
      all : plus_sum ts + minus_sum ts ≤ length ts * 2 ^ suc (top_of ts)
      all = mags-le ts good

      few : length ts * 2 ^ suc (top_of ts) ≤ 2 ^ (top_of ts - 702 + 765)
      few =
          le_trans (mul-le-mul_right (2 ^ suc (top_of ts)) len)
          (subst (λ (x : ℕ). x ≤ 2 ^ (top_of ts - 702 + 765)) (pow-add 2 28 (suc (top_of ts))) (pow_mono place))
        where
          place : 28 + suc (top_of ts) ≤ top_of ts - 702 + 765
          place = omega arith

  -- the chain's outcome lies where the exact sum lies
  pub chain-right : Alike p (settled (chain p ts).outcome) (difference (plus_sum ts) (minus_sum ts))
  unfolding chain
  chain-right = run-right (suc (top_of ts)) no_boundary (top_of ts - 702) start (unfold chain in chain-ends p ts hp good)

  -- THE ROUNDING: in every format, for every setting of at most p digits, and wherever the grid
  -- lies, n positions below the unit too
  pub chain-rounds : (f : Format) (c : Settings) (g n : ℕ) (towards : Bool) → precision_of f c ≤ p
      → sum_rounded f c g towards (raised n (settled (chain p ts).outcome)) ≡ sum_rounded f c g towards (raised n (difference (plus_sum ts) (minus_sum ts)))
  chain-rounds f c g n towards q = alike-rounds f c g towards p _ _ q (alike-raised p n _ _ chain-right)
