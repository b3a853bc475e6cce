-- Promise 3, the limit: a chain takes at most 1 + ⌈(T − 702 − B) / (697 − p)⌉ passes, and 1 where T
-- − 702 − B is negative. Each pass that goes on lowers the edge by at least 697 − p, and a pass
-- whose edge is at B or below is exact. So the fuel of `chain` is always enough.
use mathlib.Core.Bool.{Bool, true, false, cond, true≢false, not, ◌&&◌}
use mathlib.Core.List.{[], List, ◌∷◌}
use Prim.Native.Nat.{ℕ, ◌-◌, ◌%◌, ◌^◌, ◌≤◌, ◌<◌, ◌*◌, ◌/◌, max, min, zero, suc, ◌+◌, suc-le-suc}
use native.Mathlib.Nat.{le_refl, max-le, max-zero, lt_of_lt_of_le, not-le_of_lt, not-suc-le-zero}
use native.Mathlib.Nat.{lt_of_not-le, suc-mul, le_of_suc-le-suc, lt-div-mul-add, mul-one}
use native.Mathlib.Nat.{mul-le-mul_left}
use native.Mathlib.Omega.{arith}
use lib.Dec.{T, ltb, eqb, ltb→lt, leb, nleb→lt}
use lib.Ieee.{size}
use lib.Ieee.Digits.{size-le, size-lt}
use mathlib.Core.Path.{◌≡◌, refl, sym, ap₂, ◌∙◌, ap}
use borrow.Author.Tests.{le-ltb}
use lib.Pow.{pow_mono}
use native.Mathlib.Numerals.{one-add}
use Rattle.totals_spec.specs.chain.Chain.{lost_end, lost_of, look_at, Look, Step, done, next}
use Rattle.totals_spec.specs.chain.Chain.{Boundary, no_boundary, boundary, zero_sum, exactly}
use Rattle.totals_spec.specs.chain.Chain.{nearly, beside, next_edge, final_or_boundary, decide}
use Rattle.totals_spec.specs.chain.Chain.{sum_of, side_of, pass, follow, run, chain}
use Rattle.totals_spec.specs.Basics.{greatest, least, Signed}
use Rattle.totals_spec.specs.terms.Terms.{Term, top_of}
use Rattle.totals_spec.specs.chain.Limit.{low_bit, low_of, ceil_div, bottom_of}
use Rattle.totals_spec.specs.formats.Format.{room}
use Rattle.totals_spec.specs.chain.Promises.{Finished}
use Rattle.totals_spec.proofs.numbers.Bits.{multiple-mod, multiple-ge, low-divides}
use Rattle.totals_spec.proofs.terms.GoodTerms.{AllGood}

-- ---- the lost bit lies below the edge, and nothing is lost at B or below it

lost-le : (w m : ℕ) → lost_end w m ≤ w
unfolding lost_end
lost-le w m = go (ltb m (2 ^ w)) (ltb→lt m (2 ^ w)) (eqb (m % 2 ^ w) 0)
  where
    go : (b : Bool) → (T b → m < 2 ^ w) → (e : Bool) → cond b (size m) (cond e 0 w) ≤ w
    go true h e = size-le m w (h tt)
    go false h true = omega arith
    go false h false = le_refl w

lost-none : (w m q j : ℕ) → m ≡ q * 2 ^ j → w ≤ j → 0 < m → lost_end w m ≡ 0
unfolding lost_end
lost-none w m q j e h k = rw (le-ltb _ _ (multiple-ge m q j w e h k), multiple-mod m q j w e h)

pub losses-le : (w : ℕ) (ts : List Term) → greatest (lost_of w) ts ≤ w
losses-le w [] = omega arith
losses-le w (t ∷ ts) = max-le (lost-le w t.mag) (losses-le w ts)

losses-none : (w b : ℕ) (ts : List Term) → AllGood ts → w ≤ least b low_of ts → greatest (lost_of w) ts ≡ 0
losses-none w b [] g h = refl
losses-none w b (t ∷ ts) g h =
    ap₂ max (lost-none w t.mag (t.mag / 2 ^ low_bit t.mag) (low_bit t.mag) (sym (low-divides t.mag))
    (le-of-min-left w (low_of t) (least b low_of ts) h) g.0.positive)
    (losses-none w b ts g.1 (le-of-min-right w (low_of t) (least b low_of ts) h))
    ∙ max-zero 0
  where
    le-of-min-left : (w x y : ℕ) → w ≤ min x y → w ≤ x
    le-of-min-left w x y h = omega arith

    le-of-min-right : (w x y : ℕ) → w ≤ min x y → w ≤ y
    le-of-min-right w x y h = omega arith

losses-room : (w : ℕ) (ts : List Term) → AllGood ts → w ≤ room → greatest (lost_of w) ts ≡ 0
losses-room w [] g h = refl
losses-room w (t ∷ ts) g h =
    ap₂ max (lost-none w t.mag g.0.units room g.0.whole h g.0.positive) (losses-room w ts g.1 h) ∙ max-zero 0

-- a lost bit lies above `room`
deep-max : (a b : ℕ) → (0 < a → room < a) → (0 < b → room < b) → 0 < max a b → room < max a b
deep-max zero zero f g h = absurd (let z : ⊥ = omega arith in z)
deep-max zero (suc b) f g h = omega (arith, g (omega arith))
deep-max (suc a) b f g h = omega (arith, f (omega arith))

lost-deep-one : (w m q : ℕ) → m ≡ q * 2 ^ room → 0 < m → 0 < lost_end w m → room < lost_end w m
unfolding lost_end
lost-deep-one w m q e k h = go (ltb m (2 ^ w)) (eqb (m % 2 ^ w) 0) refl h
  where
    go : (b z : Bool) → eqb (m % 2 ^ w) 0 ≡ z → 0 < cond b (size m) (cond z 0 w) → room < cond b (size m) (cond z 0 w)
    go true z f h = lt_of_not-le (λ (g : size m ≤ room). not-le_of_lt (lt_of_lt_of_le (size-lt m) (pow_mono g)) (multiple-ge m q room room e (le_refl room) k))
    go false true f h = absurd (not-suc-le-zero h)
    go false false f h = lt_of_not-le (λ (g : w ≤ room). true≢false (sym (ap (λ (x : ℕ). eqb x 0) (multiple-mod m q room w e g)) ∙ f))

losses-deep : (w : ℕ) (ts : List Term) → AllGood ts → 0 < greatest (lost_of w) ts → room < greatest (lost_of w) ts
losses-deep w [] g h = absurd (not-suc-le-zero h)
losses-deep w (t ∷ ts) g h =
    deep-max (lost_of w t) (greatest (lost_of w) ts) (lost-deep-one w t.mag g.0.units g.0.whole g.0.positive) (losses-deep w ts g.1) h

pub lost-deep : (ts : List Term) (w : ℕ) → AllGood ts → 0 < (look_at ts w).lost → room < (look_at ts w).lost
unfolding look_at
lost-deep ts w g h = losses-deep w ts g h

-- ---- a pass that goes on has lost something, and lowers the edge by 697 − p at least

-- what a look has to say of its edge
pub record Fair (B w : ℕ) (l : Look) : Type 0 where
  pub below : l.lost ≤ w
  pub low : 0 < l.lost → B < w
  pub high : 0 < l.lost → room < w

abbrev pub GoesOn : ℕ → ℕ → ℕ → Step → Type 0
GoesOn p w lost (done o) = Unit {0}
GoesOn p w lost (next b v) = (0 < lost) × (v + (697 - p) ≤ w)

module _ (p w : ℕ) (hp : p ≤ 64) where
  down-701 : room < w → w - 701 + (697 - p) ≤ w
  down-701 h = omega arith

  down-lower : (n lost : ℕ) → room < w → lost ≤ w → n < p + 70 → next_edge w n lost + (697 - p) ≤ w
  down-lower n lost h g e = omega arith

  down-near : (n lost : ℕ) → room < w → lost ≤ w → n < 66 → next_edge w n lost + (697 - p) ≤ w
  down-near n lost h g e = omega arith

  goes-settle : (lost : ℕ) (x : Signed) (r d : ℕ) → room < w → GoesOn p w (suc lost) (final_or_boundary w x r d)
  goes-settle lost x r d h = go (leb (2 ^ 65) d && leb d (2 ^ r - 2 ^ 65))
    where
      go : (b : Bool)
          → GoesOn p w (suc lost)
          (cond b (done (nearly x.neg x.mag w))
          (next (boundary x.neg (cond (ltb (2 ^ r - 2 ^ 65) d) (suc (x.mag / 2 ^ r)) (x.mag / 2 ^ r)) (w + r)) (w - 701)))
      go true = tt
      go false = (omega arith, down-701 h)

  goes_on : (b : Boundary) (lost : ℕ) (x : Signed) (n : ℕ) → lost ≤ w → (0 < lost → room < w) → GoesOn p w lost (decide p b w lost x n)
  unfolding decide
  goes_on no_boundary zero x n g h = go (eqb x.mag 0)
    where
      go : (b : Bool) → GoesOn p w 0 (cond b (done zero_sum) (done (exactly x.neg x.mag w)))
      go true = tt
      go false = tt
  goes_on no_boundary (suc lost) x n g h = go (leb (p + 70) n) (nleb→lt (p + 70) n)
    where
      r : room < w
      r = h (omega arith)

      go : (b : Bool) → (T (not b) → n < p + 70)
          → GoesOn p w (suc lost) (cond b (final_or_boundary w x (n - p - 1) (x.mag % 2 ^ (n - p - 1))) (next no_boundary (next_edge w n (suc lost))))
      go true e = goes-settle lost x (n - p - 1) (x.mag % 2 ^ (n - p - 1)) r
      go false e = (omega arith, down-lower n (suc lost) r g (e tt))
  goes_on (boundary s m q) zero x n g h = tt
  goes_on (boundary s m q) (suc lost) x n g h = go (leb 66 n) (nleb→lt 66 n)
    where
      r : room < w
      r = h (omega arith)

      go : (b : Bool) → (T (not b) → n < 66)
          → GoesOn p w (suc lost) (cond b (done (beside (side_of s x) s m q)) (next (boundary s m q) (next_edge w n (suc lost))))
      go true e = tt
      go false e = (omega arith, down-near n (suc lost) r g (e tt))

  pub pass-goes-on : (b : Boundary) (B : ℕ) (l : Look) → Fair B w l → GoesOn p w l.lost (pass p b w l)
  unfolding pass
  pass-goes-on b B l f = goes_on b l.lost (sum_of b w l) (size (sum_of b w l).mag) f.below f.high

-- ---- the chain ends in an outcome

abbrev Ends : Step → Type 0
Ends (done o) = Finished o
Ends (next b v) = Unit {0}

ends-cond : (b : Bool) (s t : Step) → Ends s → Ends t → Ends (cond b s t)
ends-cond true s t h k = h
ends-cond false s t h k = k

decide-ends : (p : ℕ) (b : Boundary) (w lost : ℕ) (x : Signed) (n : ℕ) → Ends (decide p b w lost x n)
unfolding decide
decide-ends p no_boundary w zero x n = ends-cond (eqb x.mag 0) (done zero_sum) (done (exactly x.neg x.mag w)) tt tt
decide-ends p no_boundary w (suc lost) x n =
    ends-cond (leb (p + 70) n) _ (next no_boundary (next_edge w n (suc lost))) (settles (n - p - 1) (x.mag % 2 ^ (n - p - 1))) tt
  where
    settles : (r d : ℕ) → Ends (final_or_boundary w x r d)
    settles r d = ends-cond (leb (2 ^ 65) d && leb d (2 ^ r - 2 ^ 65)) (done (nearly x.neg x.mag w)) _ tt tt
decide-ends p (boundary s m e) w zero x n = tt
decide-ends p (boundary s m e) w (suc lost) x n =
    ends-cond (leb 66 n) (done (beside (side_of s x) s m e)) (next (boundary s m e) (next_edge w n (suc lost))) tt tt

module _ (look : ℕ → Look) (p B : ℕ) (hp : p ≤ 64) (fair : (w : ℕ) → Fair B w (look w)) where
  -- where w is at most j falls above B, at most j + 1 passes
  passes-le : (fuel j : ℕ) (b : Boundary) (w : ℕ) → w ≤ B + j * (697 - p) → (run look p fuel b w).passes ≤ suc j
  unfolding run
  passes-le zero j b w h = omega arith
  passes-le (suc fuel) zero b w h = go (pass p b w (look w)) (pass-goes-on p w hp b B (look w) (fair w))
    where
      go : (s : Step) → GoesOn p w (look w).lost s → (follow s (run look p fuel) w).passes ≤ 1
      go (done o) g = le_refl 1
      go (next b' v) g = absurd (not-le_of_lt ((fair w).low g.0) flat)
        where
          flat : w ≤ B
          flat = omega arith
  passes-le (suc fuel) (suc j) b w h = go (pass p b w (look w)) (pass-goes-on p w hp b B (look w) (fair w)) (passes-le fuel j)
    where
      go : (s : Step) → GoesOn p w (look w).lost s
          → ((b : Boundary) (w : ℕ) → w ≤ B + j * (697 - p) → (run look p fuel b w).passes ≤ suc j)
          → (follow s (run look p fuel) w).passes ≤ suc (suc j)
      go (done o) g ih = omega arith
      go (next b' v) g ih = suc-le-suc (ih b' v fall)
        where
          fall : v ≤ B + j * (697 - p)
          fall = omega (arith, g.1, h, suc-mul j (697 - p))

  pass-finishes : (b : Boundary) (w : ℕ) (l : Look) → Ends (pass p b w l)
  unfolding pass
  pass-finishes b w l = decide-ends p b w l.lost (sum_of b w l) (size (sum_of b w l).mag)

  -- and with that much fuel the chain ends
  enough : (fuel j : ℕ) (b : Boundary) (w : ℕ) → w ≤ B + j * (697 - p) → j < fuel → Finished (run look p fuel b w).outcome
  unfolding run
  enough zero j b w h k = absurd (not-suc-le-zero k)
  enough (suc fuel) zero b w h k = go (pass p b w (look w)) (pass-goes-on p w hp b B (look w) (fair w)) (pass-finishes b w (look w))
    where
      go : (s : Step) → GoesOn p w (look w).lost s → Ends s → Finished (follow s (run look p fuel) w).outcome
      go (done o) g e = e
      go (next b' v) g e = absurd (not-le_of_lt ((fair w).low g.0) flat)
        where
          flat : w ≤ B
          flat = omega arith
  enough (suc fuel) (suc j) b w h k =
      go (pass p b w (look w)) (pass-goes-on p w hp b B (look w) (fair w)) (pass-finishes b w (look w)) (λ b' v f. enough fuel j b' v f (le_of_suc-le-suc k))
    where
      go : (s : Step) → GoesOn p w (look w).lost s → Ends s
          → ((b : Boundary) (w : ℕ) → w ≤ B + j * (697 - p) → Finished (run look p fuel b w).outcome)
          → Finished (follow s (run look p fuel) w).outcome
      go (done o) g e ih = e
      go (next b' v) g e ih = ih b' v fall
        where
          fall : v ≤ B + j * (697 - p)
          fall = omega (arith, g.1, h, suc-mul j (697 - p))

ceil-enough : (w B d : ℕ) → 0 < d → w ≤ B + ceil_div (w - B) d * d
unfolding ceil_div
ceil-enough w B d h = omega (arith, lt-div-mul-add {a = w - B + (d - 1)} h)

-- ---- the look of good terms

zero-not : (n : ℕ) → n ≡ 0 → 0 < n → ⊥
zero-not n e h = omega arith

pub fair-look : (ts : List Term) → AllGood ts → (w : ℕ) → Fair (bottom_of ts) w (look_at ts w)
unfolding look_at bottom_of
fair-look ts g w = record {
  below = losses-le w ts;
  low = λ h. lt_of_not-le (λ k. zero-not _ (losses-none w (top_of ts) ts g k) h);
  high = λ h. lt_of_not-le (λ k. zero-not _ (losses-room w ts g k) h);
}

-- ---- THE LIMIT of a chain, and that its fuel suffices

pub chain-limit : (p : ℕ) (ts : List Term) → p ≤ 64 → AllGood ts
    → (chain p ts).passes ≤ 1 + ceil_div (top_of ts - 702 - bottom_of ts) (697 - p)
unfolding chain
chain-limit p ts hp g =
    rw one-add
    (passes-le (look_at ts) p (bottom_of ts) hp (fair-look ts g) (suc (top_of ts)) (ceil_div (top_of ts - 702 - bottom_of ts) (697 - p)) no_boundary
    (top_of ts - 702)
    (ceil-enough (top_of ts - 702) (bottom_of ts) (697 - p) wide))
  where
    wide : 0 < 697 - p
    wide = omega arith

pub chain-ends : (p : ℕ) (ts : List Term) → p ≤ 64 → AllGood ts → Finished (chain p ts).outcome
unfolding chain
chain-ends p ts hp g =
    enough (look_at ts) p (bottom_of ts) hp (fair-look ts g) (suc (top_of ts)) (top_of ts - 702) no_boundary (top_of ts - 702) many room-left
  where
    room-left : top_of ts - 702 < suc (top_of ts)
    room-left = omega arith

    wide : 1 ≤ 697 - p
    wide = omega arith

    many : top_of ts - 702 ≤ bottom_of ts + (top_of ts - 702) * (697 - p)
    many = omega (arith, mul-le-mul_left (top_of ts - 702) wide, mul-one (top_of ts - 702))
