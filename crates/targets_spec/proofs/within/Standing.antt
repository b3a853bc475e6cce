-- Where the passes of a chain stand: what a pass shows is off from the exact sum by fewer units of
-- its edge than there are terms, edges fall, and the numbers that a pass shows are small.
use mathlib.Core.List.{[], List, ◌∷◌}
use Prim.Native.Nat.{ℕ, ◌+◌, ◌-◌, ◌<◌, ◌*◌, ◌^◌, zero, suc, ◌≤◌}
use native.Mathlib.Omega.{arith}
use mathlib.Core.Path.{◌≡◌, refl, sym, ap, ◌∙◌, subst}
use mathlib.Core.Bool.{Bool, true, false, cond}
use native.Mathlib.Nat.{zero-mul, mul-suc, le_refl, not-suc-le-zero, add-mul, mul-le-mul_left}
use native.Mathlib.Nat.{le_of_suc-le-suc, suc-add, le_trans, div-eq_of_lt, zero-lt-suc}
use lib.ListN.{length}
use lib.Pow.{pow_pos, pow_mono}
use Rattle.totals_spec.specs.Basics.{Signed, plus_of, minus_of, difference, raised, is_set, total}
use Rattle.totals_spec.specs.Basics.{greatest}
use Rattle.totals_spec.specs.chain.Chain.{Boundary, no_boundary, boundary, look_at, lost_of}
use Rattle.totals_spec.specs.chain.Chain.{cut_plus, cut_minus, boundary_plus, boundary_minus, Step}
use Rattle.totals_spec.specs.chain.Chain.{done, next, sum_of, pass, follow, run, chain}
use Rattle.totals_spec.specs.terms.Terms.{Term, plus_sum, minus_sum, top_of, exact_sum}
use Rattle.totals_spec.specs.chain.Standing.{Stand, onward, standing, pass_of}
use Rattle.totals_spec.specs.chain.Promises.{Finished}
use Rattle.totals_spec.specs.chain.Limit.{bottom_of, ceil_div}
use Rattle.totals_spec.proofs.chain.Invariant.{with_plus, with_minus, Inv, Right}
use Rattle.totals_spec.proofs.terms.GoodTerms.{AllGood}
use Rattle.totals_spec.proofs.chain.PassLimit.{losses-le, chain-ends, GoesOn, pass-goes-on}
use Rattle.totals_spec.proofs.chain.PassLimit.{fair-look, chain-limit}
use Rattle.totals_spec.proofs.chain.CutParts.{rest_plus, rest_minus, plus-split, minus-split}
use Rattle.totals_spec.proofs.chain.CutParts.{rests-le}
use Rattle.totals_spec.proofs.chain.Margin.{terms-max}
use Rattle.totals_spec.proofs.chain.RoundsAsTheSum.{bound-plus, bound-minus, sum_is, pass-right}
use Rattle.totals_spec.proofs.chain.RoundsAsTheSum.{start}
use Rattle.totals_spec.proofs.chain.Sizes.{Kept, KeptStep, kept-pass, kept-start}
use Rattle.totals_spec.proofs.numbers.SignedNumbers.{difference-parts}
use Rattle.targets_spec.specs.within.Estimate.{apart, whole_of, sign_of, together, widest}

-- ---- signed numbers by their two parts

apart-lt : (x y : Signed) (n : ℕ) → plus_of x + minus_of y < minus_of x + plus_of y + n → minus_of x + plus_of y < plus_of x + minus_of y + n → apart x y < n
unfolding difference
apart-lt x y n h k = under (plus_of x + minus_of y) (minus_of x + plus_of y) h k
  where
    under : (a b : ℕ) → a < b + n → b < a + n → a - b + (b - a) < n
    under a b h k = omega arith

raised-plus : (w : ℕ) (x : Signed) → plus_of (raised w x) ≡ plus_of x * 2 ^ w
unfolding raised
raised-plus w x = go x.neg
  where
    go : (s : Bool) → cond s 0 (x.mag * 2 ^ w) ≡ cond s 0 x.mag * 2 ^ w
    go true = sym (zero-mul (2 ^ w))
    go false = refl

raised-minus : (w : ℕ) (x : Signed) → minus_of (raised w x) ≡ minus_of x * 2 ^ w
unfolding raised
raised-minus w x = go x.neg
  where
    go : (s : Bool) → cond s (x.mag * 2 ^ w) 0 ≡ cond s x.mag 0 * 2 ^ w
    go true = refl
    go false = sym (zero-mul (2 ^ w))

-- ---- the boundary as a signed number, from its three numbers

abbrev pub place_of : Boundary → ℕ
place_of no_boundary = 0
place_of (boundary s m e) = e

abbrev pub bound_of : Boundary → Signed
bound_of b = raised (place_of b) (record { neg = is_set (sign_of b); mag = whole_of b })

with-plus-is : (b : Boundary) (P : ℕ) → with_plus b P ≡ P + minus_of (bound_of b)
unfolding raised
with-plus-is no_boundary P = let h : P ≡ P + 0 = omega arith in h
with-plus-is (boundary true m e) P = refl
with-plus-is (boundary false m e) P = let h : P ≡ P + 0 = omega arith in h

with-minus-is : (b : Boundary) (N : ℕ) → with_minus b N ≡ N + plus_of (bound_of b)
unfolding raised
with-minus-is no_boundary N = let h : N ≡ N + 0 = omega arith in h
with-minus-is (boundary true m e) N = let h : N ≡ N + 0 = omega arith in h
with-minus-is (boundary false m e) N = refl

-- ---- one pass

module _ (p : ℕ) (ts : List Term) (hp : p ≤ 64) (good : AllGood ts) (len : length ts ≤ terms-max) where
  -- what is dropped is less than one unit a term
  rests-lt : (w : ℕ) → 0 < length ts → total (rest_plus w) ts + total (rest_minus w) ts < widest ts w
  rests-lt w some =
      strict (length ts) (2 ^ greatest (lost_of w) ts) (2 ^ w) _ some (pow_pos (greatest (lost_of w) ts)) (pow_mono (losses-le w ts))
      (rests-le w (greatest (lost_of w) ts) ts (le_refl _))
    where
      up : (a c : ℕ) → 0 < a → a ≤ c → suc (a - 1) ≤ c
      up a c h k = omega arith

      strict : (n a c r : ℕ) → 0 < n → 0 < a → a ≤ c → r ≤ n * (a - 1) → r < n * c
      strict n a c r n0 a0 h q = omega (arith, q, mul-le-mul_left n (up a c a0 h), mul-suc n (a - 1))

  module _ (b : Boundary) (w : ℕ) (h : Inv p (plus_sum ts) (minus_sum ts) b w) where
    abbrev a : ℕ
    a = total (cut_plus w) ts + boundary_plus b w

    abbrev c : ℕ
    c = total (cut_minus w) ts + boundary_minus b w

    abbrev S : Signed
    S = sum_of b w (look_at ts w)

    abbrev shown_at : Signed
    shown_at = together (raised w S) (bound_of b)

    S-units : plus_of (raised w S) + c * 2 ^ w ≡ minus_of (raised w S) + a * 2 ^ w
    unfolding look_at
    S-units =
        ap (λ (n : ℕ). n + c * 2 ^ w) (raised-plus w S) ∙ sym (add-mul (plus_of S) c (2 ^ w)) ∙ ap (λ (n : ℕ). n * 2 ^ w) parts
        ∙ add-mul (minus_of S) a (2 ^ w) ∙ ap (λ (n : ℕ). n + a * 2 ^ w) (sym (raised-minus w S))
      where
        parts : plus_of S + c ≡ minus_of S + a
        parts =
            subst (λ (s : Signed). plus_of s + c ≡ minus_of s + a) (sym (sum_is p ts hp good len b w h)) (difference-parts a c)

    P-is : plus_sum ts + minus_of (bound_of b) ≡ a * 2 ^ w + total (rest_plus w) ts
    P-is =
        sym (with-plus-is b (plus_sum ts))
        ∙ bound-plus p w b (plus_sum ts) (minus_sum ts) h.placed (total (cut_plus w) ts) (total (rest_plus w) ts) (plus-split w ts)

    N-is : minus_sum ts + plus_of (bound_of b) ≡ c * 2 ^ w + total (rest_minus w) ts
    N-is =
        sym (with-minus-is b (minus_sum ts))
        ∙ bound-minus p w b (plus_sum ts) (minus_sum ts) h.placed (total (cut_minus w) ts) (total (rest_minus w) ts) (minus-split w ts)

    shown-parts : plus_of shown_at + (minus_of (raised w S) + minus_of (bound_of b)) ≡ minus_of shown_at + (plus_of (raised w S) + plus_of (bound_of b))
    shown-parts = difference-parts (plus_of (raised w S) + plus_of (bound_of b)) (minus_of (raised w S) + minus_of (bound_of b))

    pub shown-near : 0 < length ts → apart (exact_sum ts) shown_at < widest ts w
    shown-near some =
        apart-lt (exact_sum ts) shown_at (widest ts w)
        (omega (arith, difference-parts (plus_sum ts) (minus_sum ts), shown-parts, S-units, P-is, N-is, rests-lt w some))
        (omega (arith, difference-parts (plus_sum ts) (minus_sum ts), shown-parts, S-units, P-is, N-is, rests-lt w some))

  -- ---- the passes of a chain

  -- what holds of the first pass, and is kept by each pass that goes on, holds of every pass that
  -- is run
  module _ (Q : Boundary → ℕ → Type 0) (Kept-by : Step → Type 0) (keeps : (b : Boundary) (v : ℕ) → Kept-by (next b v) → Q b v)
      (by-pass : (b : Boundary) (w : ℕ) → Q b w → Kept-by (pass p b w (look_at ts w))) where
    standing-has : (i fuel : ℕ) (b : Boundary) (w : ℕ) → Q b w → i < (run (look_at ts) p fuel b w).passes
        → let s = standing (look_at ts) p i b w in Q s.bound s.edge
    unfolding standing run
    standing-has zero fuel b w h k = h
    standing-has (suc i) zero b w h k = absurd (not-suc-le-zero k)
    standing-has (suc i) (suc fuel) b w h k = go (pass p b w (look_at ts w)) (by-pass b w h) (standing-has i fuel) k
      where
        go : (s : Step) → Kept-by s
            → ((b : Boundary) (w : ℕ) → Q b w → i < (run (look_at ts) p fuel b w).passes
            → let t = standing (look_at ts) p i b w in Q t.bound t.edge)
            → suc i < (follow s (run (look_at ts) p fuel) w).passes
            → let t = onward s (standing (look_at ts) p i) (record { bound = b; edge = w }) in Q t.bound t.edge
        go (done o) r ih l = absurd (not-suc-le-zero (le_of_suc-le-suc l))
        go (next b' v) r ih l = ih b' v (keeps b' v r) (le_of_suc-le-suc l)

  abbrev at : ℕ → Stand
  at k = pass_of p ts k

  -- pass number k, where the chain is longer
  module _ (k : ℕ) (k0 : 0 < k) (longer : k < (chain p ts).passes) where
    enough : k - 1 < (run (look_at ts) p (suc (top_of ts)) no_boundary (top_of ts - 702)).passes
    enough = unfold chain in omega (arith, longer)

    pass-inv : Inv p (plus_sum ts) (minus_sum ts) (at k).bound (at k).edge
    unfolding pass_of
    pass-inv =
        standing-has (Inv p (plus_sum ts) (minus_sum ts)) (Right p (plus_sum ts) (minus_sum ts)) (λ b v r. r) (pass-right p ts hp good len) (k - 1) _ _ _
        (start p ts hp good len) enough

    pub pass_kept : 0 < length ts → Kept p (top_of ts) (at k).bound (at k).edge
    unfolding pass_of
    pass_kept some =
        standing-has (Kept p (top_of ts)) (KeptStep p (top_of ts)) (λ b v r. r) (λ b w h. kept-pass p ts b w hp good h) (k - 1) _ _ _
        (kept-start p ts good some) enough

    pub pass-near : 0 < length ts
        → apart (exact_sum ts) (together (raised (at k).edge (sum_of (at k).bound (at k).edge (look_at ts (at k).edge))) (bound_of (at k).bound))
        < widest ts (at k).edge
    pass-near some = shown-near (at k).bound (at k).edge pass-inv some

-- ---- edges fall, of any number of terms

module _ (p : ℕ) (ts : List Term) (hp : p ≤ 64) (good : AllGood ts) where
  standing-le : (i : ℕ) (b : Boundary) (w : ℕ) → (standing (look_at ts) p i b w).edge ≤ w
  unfolding standing
  standing-le zero b w = le_refl w
  standing-le (suc i) b w = go (pass p b w (look_at ts w)) (pass-goes-on p w hp b _ (look_at ts w) (fair-look ts good w)) (standing-le i)
    where
      go : (s : Step) → GoesOn p w (look_at ts w).lost s → ((b : Boundary) (w : ℕ) → (standing (look_at ts) p i b w).edge ≤ w)
          → (onward s (standing (look_at ts) p i) (record { bound = b; edge = w })).edge ≤ w
      go (done o) g ih = le_refl w
      go (next b' v) g ih = le_trans (ih b' v) (omega (arith, g.1))

  standing-falls : (i j : ℕ) (b : Boundary) (w : ℕ) → (standing (look_at ts) p (i + j) b w).edge ≤ (standing (look_at ts) p i b w).edge
  unfolding standing
  standing-falls zero j b w = subst (λ (n : ℕ). (standing (look_at ts) p n b w).edge ≤ w) (none j) (standing-le j b w)
    where
      none : (j : ℕ) → j ≡ 0 + j
      none j = omega arith
  standing-falls (suc i) j b w =
      let first : Stand = record { bound = b; edge = w } in
      subst (λ (n : ℕ). (standing (look_at ts) p n b w).edge ≤ (onward (pass p b w (look_at ts w)) (standing (look_at ts) p i) first).edge) (sym (suc-add i j))
      (go (pass p b w (look_at ts w)) (standing-falls i j))
    where
      go : (s : Step) → ((b : Boundary) (w : ℕ) → (standing (look_at ts) p (i + j) b w).edge ≤ (standing (look_at ts) p i b w).edge)
          → let first : Stand = record { bound = b; edge = w } in
          (onward s (standing (look_at ts) p (i + j)) first).edge ≤ (onward s (standing (look_at ts) p i) first).edge
      go (done o) ih = le_refl w
      go (next b' v) ih = ih b' v

  pub pass-falls : (k n : ℕ) → k ≤ n → (pass_of p ts n).edge ≤ (pass_of p ts k).edge
  unfolding pass_of
  pass-falls k n h =
      let lower : ℕ → Type 0 = λ i. (standing (look_at ts) p i no_boundary (top_of ts - 702)).edge ≤ (pass_of p ts k).edge in
      subst lower count (standing-falls (k - 1) (n - 1 - (k - 1)) no_boundary (top_of ts - 702))
    where
      count : k - 1 + (n - 1 - (k - 1)) ≡ n - 1
      count = omega arith

  pub pass-high : (k : ℕ) → (pass_of p ts k).edge ≤ top_of ts
  unfolding pass_of
  pass-high k = omega (arith, standing-le (k - 1) no_boundary (top_of ts - 702))

  -- the last pass of a chain has the chain's edge
  standing-last : (fuel : ℕ) (b : Boundary) (w : ℕ) → let h = run (look_at ts) p fuel b w in
      Finished h.outcome → (standing (look_at ts) p (h.passes - 1) b w).edge ≡ h.edge
  unfolding standing run
  standing-last zero b w f = absurd f
  standing-last (suc fuel) b w f = go (pass p b w (look_at ts w)) refl (standing-last fuel) f
    where
      some : (fuel : ℕ) (b : Boundary) (w : ℕ) → Finished (run (look_at ts) p fuel b w).outcome → 0 < (run (look_at ts) p fuel b w).passes
      some zero b w f = absurd f
      some (suc fuel) b w f = any (pass p b w (look_at ts w))
        where
          any : (s : Step) → 0 < (follow s (run (look_at ts) p fuel) w).passes
          any (done o) = omega arith
          any (next b v) = omega arith

      go : (s : Step) → pass p b w (look_at ts w) ≡ s
          → ((b : Boundary) (w : ℕ) → let h = run (look_at ts) p fuel b w in
          Finished h.outcome → (standing (look_at ts) p (h.passes - 1) b w).edge ≡ h.edge)
          → let h = follow s (run (look_at ts) p fuel) w in Finished h.outcome → (standing (look_at ts) p (h.passes - 1) b w).edge ≡ h.edge
      go (done o) e ih f = refl
      go (next b' v) e ih f =
          ap (λ (i : ℕ). (standing (look_at ts) p i b w).edge) count
          ∙ ap (λ (s : Step). (onward s (standing (look_at ts) p ((run (look_at ts) p fuel b' v).passes - 1)) (record { bound = b; edge = w })).edge) e
          ∙ ih b' v f
        where
          count : suc (run (look_at ts) p fuel b' v).passes - 1 ≡ suc ((run (look_at ts) p fuel b' v).passes - 1)
          count = omega (arith, some fuel b' v f)

  pub pass-last : (pass_of p ts (chain p ts).passes).edge ≡ (chain p ts).edge
  unfolding pass_of chain
  pass-last = standing-last (suc (top_of ts)) no_boundary (top_of ts - 702) (unfold chain in chain-ends p ts hp good)

-- no term, one pass
no-terms : (p : ℕ) → p ≤ 64 → (chain p []).passes ≤ 1
no-terms p hp = subst (λ (n : ℕ). (chain p []).passes ≤ 1 + n) none (chain-limit p [] hp tt)
  where
    none : ceil_div (top_of [] - 702 - bottom_of []) (697 - p) ≡ 0
    none = unfold ceil_div top_of in div-eq_of_lt (omega (arith, hp))

-- so a chain that is longer than an allowance has a term
pub some-terms : (p : ℕ) (ts : List Term) (k : ℕ) → p ≤ 64 → 0 < k → k < (chain p ts).passes → 0 < length ts
some-terms p [] k hp k0 h = absurd (let z : ⊥ = omega (arith, h, no-terms p hp, k0) in z)
some-terms p (t ∷ ts) k hp k0 h = zero-lt-suc (length ts)
