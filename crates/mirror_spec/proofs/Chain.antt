-- MIRROR, of the chain: over the terms with the other signs it takes the same passes at the same
-- edges.
use mathlib.Core.Path.{◌≡◌, refl, ap₂, ap, sym, ◌∙◌, subst}
use mathlib.Core.Bool.{Bool, true, false, not, cond, ◌&&◌, beq}
use mathlib.Core.List.{[], List, ◌∷◌, map}
use Prim.Native.Nat.{◌-◌, ℕ, ◌+◌, max, ◌/◌, ◌^◌, ◌≤◌, ◌<◌, ◌*◌, zero, suc, ◌%◌}
use lib.Dec.{eqb, T, ltb, ltb→lt, nltb→le, leb, leb→le}
use native.Mathlib.Nat.{not-le_of_lt}
use native.Mathlib.Omega.{arith}
use borrow.Author.Tests.{eq-eqb, ne_eqb}
use lib.Ieee.{size}
use lib.Ieee.Digits.{size-le}
use lib.ListN.{length, length-map}
use Rattle.totals_spec.specs.terms.Terms.{Term, plus_part, minus_part, plus_sum, minus_sum, top_of}
use Rattle.totals_spec.specs.terms.Terms.{top_of_term, exact_sum}
use Rattle.totals_spec.specs.Basics.{total, greatest, Signed, difference, raised}
use Rattle.totals_spec.specs.chain.Chain.{Look, look_at, cut_plus, cut_minus, lost_of, Boundary}
use Rattle.totals_spec.specs.chain.Chain.{no_boundary, boundary, Outcome, zero_sum, exactly, nearly}
use Rattle.totals_spec.specs.chain.Chain.{beside, unfinished, Step, done, next, Run}
use Rattle.totals_spec.specs.chain.Chain.{final_or_boundary, side_of, below, on, above, next_edge}
use Rattle.totals_spec.specs.chain.Chain.{decide, boundary_plus, boundary_minus, sum_of, pass}
use Rattle.totals_spec.specs.chain.Chain.{one_more, follow, run, chain}
use Rattle.totals_spec.proofs.terms.GoodTerms.{AllGood}
use Rattle.totals_spec.proofs.numbers.SignedNumbers.{difference-raised}
use Rattle.totals_spec.proofs.chain.Margin.{close-swap, terms-max}
use Rattle.totals_spec.proofs.chain.Invariant.{Placed, Inv, Right}
use Rattle.totals_spec.proofs.chain.RoundsAsTheSum.{sum_is, pass-right, start}
use Rattle.mirror_spec.proofs.Terms.{turned}

-- ---- what a pass sees of the terms with the other signs

turned-plus : (t : Term) → plus_part (turned t) ≡ minus_part t
turned-plus t = go t.neg
  where
    go : (s : Bool) → cond (not s) 0 t.mag ≡ cond s t.mag 0
    go true = refl
    go false = refl

turned-minus : (t : Term) → minus_part (turned t) ≡ plus_part t
turned-minus t = go t.neg
  where
    go : (s : Bool) → cond (not s) t.mag 0 ≡ cond s 0 t.mag
    go true = refl
    go false = refl

totals-turned : (g h : Term → ℕ) → ((t : Term) → g (turned t) ≡ h t) → (ts : List Term) → total g (map turned ts) ≡ total h ts
totals-turned g h e [] = refl
totals-turned g h e (t ∷ ts) = ap₂ ◌+◌ (e t) (totals-turned g h e ts)

greatest-turned : (g : Term → ℕ) → ((t : Term) → g (turned t) ≡ g t) → (ts : List Term) → greatest g (map turned ts) ≡ greatest g ts
greatest-turned g e [] = refl
greatest-turned g e (t ∷ ts) = ap₂ max (e t) (greatest-turned g e ts)

abbrev swapped : Look → Look
swapped l = record { plus = l.minus; minus = l.plus; lost = l.lost }

look-turned : (ts : List Term) (w : ℕ) → look_at (map turned ts) w ≡ swapped (look_at ts w)
unfolding look_at
look-turned ts w = λ i. record {
  plus = totals-turned (cut_plus w) (cut_minus w) (λ t. ap (λ (x : ℕ). x / 2 ^ w) (turned-plus t)) ts i;
  minus = totals-turned (cut_minus w) (cut_plus w) (λ t. ap (λ (x : ℕ). x / 2 ^ w) (turned-minus t)) ts i;
  lost = greatest-turned (lost_of w) (λ t. refl) ts i;
}

plus-turned : (ts : List Term) → plus_sum (map turned ts) ≡ minus_sum ts
unfolding plus_sum minus_sum
plus-turned ts = totals-turned plus_part minus_part turned-plus ts

minus-turned : (ts : List Term) → minus_sum (map turned ts) ≡ plus_sum ts
unfolding plus_sum minus_sum
minus-turned ts = totals-turned minus_part plus_part turned-minus ts

top-turned : (ts : List Term) → top_of (map turned ts) ≡ top_of ts
unfolding top_of
top-turned ts = greatest-turned top_of_term (λ t. refl) ts

good-turned : (ts : List Term) → AllGood ts → AllGood (map turned ts)
good-turned [] g = tt
good-turned (t ∷ ts) g = (record { positive = g.0.positive; fits = g.0.fits; units = g.0.units; whole = g.0.whole }, good-turned ts g.1)

-- ---- the opposite of a signed number; 0 has no sign

abbrev pub opposed : Signed → Signed
opposed x = record { neg = cond (eqb x.mag 0) false (not x.neg); mag = x.mag }

difference-turned : (a b : ℕ) → difference b a ≡ opposed (difference a b)
unfolding difference
difference-turned a b = λ i. record { neg = sign i; mag = same i }
  where
    same : b - a + (a - b) ≡ a - b + (b - a)
    same = omega arith

    sign : ltb b a ≡ cond (eqb (a - b + (b - a)) 0) false (not (ltb a b))
    sign = go (ltb a b) (ltb→lt a b) (nltb→le a b) (ltb b a) (ltb→lt b a) (nltb→le b a)
      where
        go : (s : Bool) → (T s → a < b) → (T (not s) → b ≤ a) → (t : Bool) → (T t → b < a) → (T (not t) → a ≤ b)
            → t ≡ cond (eqb (a - b + (b - a)) 0) false (not s)
        go true k g true k' g' = absurd (not-le_of_lt (k tt) (omega (arith, k' tt)))
        go true k g false k' g' = rw (ne_eqb (a - b + (b - a)) 0 (λ e. omega (arith, k tt)))
        go false k g true k' g' = rw (ne_eqb (a - b + (b - a)) 0 (λ e. omega (arith, k' tt)))
        go false k g false k' g' = rw (eq-eqb (a - b + (b - a)) 0 (omega (arith, g tt, g' tt)))

-- of the exact sum, in units n positions lower
pub exact-turned : (n : ℕ) (ts : List Term) → raised n (exact_sum (map turned ts)) ≡ opposed (raised n (exact_sum ts))
exact-turned n ts =
    ap (raised n) (ap₂ difference (plus-turned ts) (minus-turned ts)) ∙ sym (difference-raised n (minus_sum ts) (plus_sum ts))
    ∙ difference-turned (plus_sum ts * 2 ^ n) (minus_sum ts * 2 ^ n) ∙ ap opposed (difference-raised n (plus_sum ts) (minus_sum ts))

-- ---- a pass of the opposite

abbrev turned_bound : Boundary → Boundary
turned_bound no_boundary = no_boundary
turned_bound (boundary s m e) = boundary (not s) m e

abbrev turned_end : Outcome → Outcome
turned_end zero_sum = zero_sum
turned_end (exactly s m w) = exactly (not s) m w
turned_end (nearly s m w) = nearly (not s) m w
turned_end (beside x s m e) = beside x (not s) m e
turned_end unfinished = unfinished

abbrev turned_step : Step → Step
turned_step (done o) = done (turned_end o)
turned_step (next b v) = next (turned_bound b) v

abbrev pub turned_run : Run → Run
turned_run r = record { outcome = turned_end r.outcome; passes = r.passes; edge = r.edge }

cond-turned : (t : Bool) (x y x' y' : Step) → x' ≡ turned_step x → y' ≡ turned_step y → cond t x' y' ≡ turned_step (cond t x y)
cond-turned true x y x' y' h k = h
cond-turned false x y x' y' h k = k

-- with a magnitude above 0 the sign turns
some-opposed : (x : Signed) → (x.mag ≡ 0 → ⊥) → opposed x ≡ record { neg = not x.neg; mag = x.mag }
some-opposed x h = rw (ne_eqb x.mag 0 h)

final-turned : (w : ℕ) (x : Signed) (r d : ℕ) → final_or_boundary w (record { neg = not x.neg; mag = x.mag }) r d ≡ turned_step (final_or_boundary w x r d)
final-turned w x r d = cond-turned (leb (2 ^ 65) d && leb d (2 ^ r - 2 ^ 65)) (done (nearly x.neg x.mag w)) _ _ _ refl refl

beq-not : (a b : Bool) → beq (not a) (not b) ≡ beq a b
beq-not true true = refl
beq-not true false = refl
beq-not false true = refl
beq-not false false = refl

side-turned : (s : Bool) (x : Signed) → side_of (not s) (opposed x) ≡ side_of s x
side-turned s x = go (eqb x.mag 0)
  where
    go : (z : Bool) → cond z on (cond (beq (cond z false (not x.neg)) (not s)) above below) ≡ cond z on (cond (beq x.neg s) above below)
    go true = refl
    go false = ap (λ (b : Bool). cond b above below) (beq-not x.neg s)

decide-turned : (p : ℕ) (b : Boundary) (w lost : ℕ) (x : Signed) (n : ℕ) → (0 < n → x.mag ≡ 0 → ⊥)
    → decide p (turned_bound b) w lost (opposed x) n ≡ turned_step (decide p b w lost x n)
unfolding decide
decide-turned p no_boundary w zero x n h = go (eqb x.mag 0)
  where
    go : (z : Bool) → cond z (done zero_sum) (done (exactly (cond z false (not x.neg)) x.mag w))
        ≡ turned_step (cond z (done zero_sum) (done (exactly x.neg x.mag w)))
    go true = refl
    go false = refl
decide-turned p no_boundary w (suc lost) x n h = go (leb (p + 70) n) (leb→le (p + 70) n)
  where
    go : (t : Bool) → (T t → p + 70 ≤ n)
        → cond t (final_or_boundary w (opposed x) (n - p - 1) (x.mag % 2 ^ (n - p - 1))) (next no_boundary (next_edge w n (suc lost)))
        ≡ turned_step (cond t (final_or_boundary w x (n - p - 1) (x.mag % 2 ^ (n - p - 1))) (next no_boundary (next_edge w n (suc lost))))
    go true k =
        ap (λ (y : Signed). final_or_boundary w y (n - p - 1) (x.mag % 2 ^ (n - p - 1))) (some-opposed x (h (omega (arith, k tt))))
        ∙ final-turned w x (n - p - 1) (x.mag % 2 ^ (n - p - 1))
    go false k = refl
decide-turned p (boundary s m e) w zero x n h = ap (λ (y : _). done (beside y (not s) m e)) (side-turned s x)
decide-turned p (boundary s m e) w (suc lost) x n h =
    cond-turned (leb 66 n) (done (beside (side_of s x) s m e)) (next (boundary s m e) (next_edge w n (suc lost))) _ _
    (ap (λ (y : _). done (beside y (not s) m e)) (side-turned s x)) refl

-- ---- a boundary of the opposite, and the invariant

bound-plus-turned : (b : Boundary) (w : ℕ) → boundary_plus (turned_bound b) w ≡ boundary_minus b w
bound-plus-turned no_boundary w = refl
bound-plus-turned (boundary true m e) w = refl
bound-plus-turned (boundary false m e) w = refl

bound-minus-turned : (b : Boundary) (w : ℕ) → boundary_minus (turned_bound b) w ≡ boundary_plus b w
bound-minus-turned no_boundary w = refl
bound-minus-turned (boundary true m e) w = refl
bound-minus-turned (boundary false m e) w = refl

inv-turned : (p P N : ℕ) (b : Boundary) (w : ℕ) → Inv p P N b w → Inv p N P (turned_bound b) w
inv-turned p P N no_boundary w h = record { within = close-swap P N _ h.within; placed = tt }
inv-turned p P N (boundary true m e) w h = record { within = close-swap (P + m * 2 ^ e) N _ h.within; placed = swap h.placed }
  where
    swap : Placed p w (boundary true m e) (P + m * 2 ^ e) N → Placed p w (boundary false m e) N (P + m * 2 ^ e)
    swap r = record { far = r.far; deep = r.deep; many = r.many; close = close-swap (P + m * 2 ^ e) N _ r.close }
inv-turned p P N (boundary false m e) w h = record { within = close-swap P (N + m * 2 ^ e) _ h.within; placed = swap h.placed }
  where
    swap : Placed p w (boundary false m e) P (N + m * 2 ^ e) → Placed p w (boundary true m e) (N + m * 2 ^ e) P
    swap r = record { far = r.far; deep = r.deep; many = r.many; close = close-swap P (N + m * 2 ^ e) _ r.close }

-- ---- THE CHAIN of the opposite

some_bits : (m : ℕ) → 0 < size m → m ≡ 0 → ⊥
some_bits m h e = let k : size m ≤ 0 = size-le m 0 (subst (λ (x : ℕ). x < 2 ^ 0) (sym e) (omega arith)) in omega arith

module _ (p : ℕ) (ts : List Term) (hp : p ≤ 64) (good : AllGood ts) (len : length ts ≤ terms-max) where
  abbrev Holds : Boundary → ℕ → Type 0
  Holds b w = Inv p (plus_sum ts) (minus_sum ts) b w

  sum-turned-at : (b : Boundary) (w : ℕ) → Holds b w → sum_of (turned_bound b) w (look_at (map turned ts) w) ≡ opposed (sum_of b w (look_at ts w))
  sum-turned-at b w h =
      sum_is p (map turned ts) hp (good-turned ts good) (rw (length-map ts turned) len) (turned_bound b) w
      (rw (plus-turned ts, minus-turned ts) (inv-turned p (plus_sum ts) (minus_sum ts) b w h))
      ∙ ap₂ difference
      (ap₂ ◌+◌ (ap (λ (l : Look). l.plus) (look-turned ts w)) (bound-plus-turned b w))
      (ap₂ ◌+◌ (ap (λ (l : Look). l.minus) (look-turned ts w)) (bound-minus-turned b w))
      ∙ difference-turned ((look_at ts w).plus + boundary_plus b w) ((look_at ts w).minus + boundary_minus b w)
      ∙ ap opposed (sym (sum_is p ts hp good len b w h))

  pass-turned : (b : Boundary) (w : ℕ) → Holds b w → pass p (turned_bound b) w (look_at (map turned ts) w) ≡ turned_step (pass p b w (look_at ts w))
  unfolding pass
  pass-turned b w h =
      ap₂ (λ (x : Signed) (n : ℕ). decide p (turned_bound b) w n x (size x.mag)) (sum-turned-at b w h) (ap (λ (l : Look). l.lost) (look-turned ts w))
      ∙ decide-turned p b w (look_at ts w).lost (sum_of b w (look_at ts w)) (size (sum_of b w (look_at ts w)).mag) (some_bits (sum_of b w (look_at ts w)).mag)

  abbrev Turns : ℕ → Type 0
  Turns fuel = (b : Boundary) (w : ℕ) → Holds b w → run (look_at (map turned ts)) p fuel (turned_bound b) w ≡ turned_run (run (look_at ts) p fuel b w)

  run-turned : (fuel : ℕ) → Turns fuel
  unfolding run
  run-turned zero b w h = refl
  run-turned (suc fuel) b w h =
      ap (λ (s : Step). follow s (run (look_at (map turned ts)) p fuel) w) (pass-turned b w h)
      ∙ go (pass p b w (look_at ts w)) (pass-right p ts hp good len b w h) (run-turned fuel)
    where
      go : (s : Step) → Right p (plus_sum ts) (minus_sum ts) s → Turns fuel
          → follow (turned_step s) (run (look_at (map turned ts)) p fuel) w ≡ turned_run (follow s (run (look_at ts) p fuel) w)
      go (done o) r ih = refl
      go (next b' v) r ih = ap one_more (ih b' v r)

  pub chain-turned : chain p (map turned ts) ≡ turned_run (chain p ts)
  unfolding chain
  chain-turned =
      ap (λ (t : ℕ). run (look_at (map turned ts)) p (suc t) no_boundary (t - 702)) (top-turned ts)
      ∙ run-turned (suc (top_of ts)) no_boundary (top_of ts - 702) (start p ts hp good len)
