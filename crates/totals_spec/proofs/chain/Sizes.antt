-- How large the numbers of a chain are, from pass to pass: its edges lie from 322 up to T, a
-- boundary has p + 1 bits or is the next power of two, and what it ends with has the bits that a
-- rounding asks for.
use Prim.Native.Nat.{ℕ, suc, ◌+◌, ◌^◌, ◌≤◌, ◌<◌, ◌-◌, zero, ◌*◌, ◌/◌, ◌%◌}
use mathlib.Core.Bool.{Bool, true, false, not, cond, ◌&&◌}
use native.Mathlib.Nat.{le_of_lt, lt_of_le_of_lt, mod-lt, le-div_iff_mul-le, div-lt_iff_lt-mul}
use native.Mathlib.Omega.{arith}
use lib.Dec.{T, ltb, ltb→lt, nltb→le, lit<, eqb, leb, leb→le, nleb→lt}
use lib.Pow.{pow_pos, pow-add}
use lib.Ieee.{size}
use lib.Ieee.Digits.{size-le, size-lt, size_reaches}
use mathlib.Core.Path.{◌≡◌, refl, sym, ap, ◌∙◌, subst}
use mathlib.Core.List.{List}
use lib.ListN.{length}
use Rattle.totals_spec.specs.chain.Chain.{Boundary, no_boundary, boundary, Outcome, zero_sum}
use Rattle.totals_spec.specs.chain.Chain.{exactly, nearly, beside, unfinished, Step, done, next}
use Rattle.totals_spec.specs.chain.Chain.{half, signed_from, Look, residue, wrapped, sum_of}
use Rattle.totals_spec.specs.chain.Chain.{side_of, next_edge, final_or_boundary, decide, look_at}
use Rattle.totals_spec.specs.chain.Chain.{pass}
use Rattle.totals_spec.specs.Basics.{Signed}
use Rattle.totals_spec.specs.formats.Format.{room}
use Rattle.totals_spec.specs.terms.Terms.{Term, top_of}
use Rattle.totals_spec.proofs.terms.GoodTerms.{AllGood}
use Rattle.totals_spec.proofs.chain.PassLimit.{fair-look, lost-deep}
use Rattle.totals_spec.proofs.chain.TrueEdges.{top-deep}

-- a boundary's number and place
abbrev pub KeptBoundary : ℕ → ℕ → Boundary → Type 0
KeptBoundary p top no_boundary = Unit {0}
KeptBoundary p top (boundary s m e) = (2 ^ p ≤ m) × (m ≤ 2 ^ suc p) × (322 ≤ e) × (e ≤ top + 768)

pub record Kept (p top : ℕ) (b : Boundary) (w : ℕ) : Type 0 where
  pub low : 322 ≤ w
  pub high : w ≤ top
  pub bound : KeptBoundary p top b

-- What is known of the numbers that a chain ends with, for terms with T = `top`: S or the boundary
-- has the digits that a rounding to p digits asks for, and lies well above the unit
abbrev pub EndsAs : ℕ → ℕ → Outcome → Type 0
EndsAs p top zero_sum = Unit {0}
EndsAs p top (exactly s m w) = (0 < m) × (322 ≤ w) × (w ≤ top)
EndsAs p top (nearly s m w) = (2 ^ (p + 69) ≤ m) × (322 ≤ w) × (w ≤ top)
EndsAs p top (beside x s m e) = (2 ^ p ≤ m) × (m ≤ 2 ^ suc p) × (322 ≤ e) × (e ≤ top + 768)
EndsAs p top unfinished = ⊥

abbrev pub KeptStep : ℕ → ℕ → Step → Type 0
KeptStep p top (done o) = EndsAs p top o
KeptStep p top (next b v) = Kept p top b v

-- ---- S has at most 768 bits

signed_le : (x : ℕ) → x < half + half → (signed_from half x).mag ≤ half
unfolding signed_from
signed_le x h = go (ltb x half) (ltb→lt x half) (nltb→le x half)
  where
    back : half ≤ x → half + half - x ≤ half
    back g = omega arith

    go : (b : Bool) → (T b → x < half) → (T (not b) → half ≤ x)
        → (cond {A = Signed} b (record { neg = false; mag = x }) (record { neg = true; mag = half + half - x })).mag ≤ half
    go true k g = le_of_lt (k tt)
    go false k g = back (g tt)

pub sum-size : (b : Boundary) (w : ℕ) (l : Look) → size (sum_of b w l).mag ≤ 768
unfolding sum_of wrapped residue
sum-size b w l = size-le _ 768 (lt_of_le_of_lt (signed_le _ (mod-lt _ (omega (arith, pos)))) small)
  where
    pos : 0 < half
    pos = unfold half in pow_pos 767

    small : half < 2 ^ 768
    small = unfold half in lit< tt

-- ---- one step

pos-of-neqb : (m : ℕ) → T (not (eqb m 0)) → 0 < m
pos-of-neqb zero t = absurd t
pos-of-neqb (suc m) t = omega arith

module _ (p top w : ℕ) (x : Signed) (low : 322 ≤ w) (high : w ≤ top) where
  -- the quotient by 2^r, r = n − p − 1, has p + 1 bits
  module _ (n : ℕ) (xn : size x.mag ≡ n) (big : p + 70 ≤ n) where
    quotient-ge : 2 ^ p ≤ x.mag / 2 ^ (n - p - 1)
    quotient-ge =
        (le-div_iff_mul-le (pow_pos (n - p - 1))).1
        (subst (λ (z : ℕ). z ≤ x.mag) e (size_reaches x.mag (n - 1) (subst (λ (z : ℕ). n - 1 < z) (sym xn) less)))
      where
        less : n - 1 < n
        less = omega arith

        place : n - 1 ≡ p + (n - p - 1)
        place = omega arith

        e : 2 ^ (n - 1) ≡ 2 ^ p * 2 ^ (n - p - 1)
        e = ap (λ (z : ℕ). 2 ^ z) place ∙ pow-add 2 p (n - p - 1)

    quotient-lt : x.mag / 2 ^ (n - p - 1) < 2 ^ suc p
    quotient-lt = (div-lt_iff_lt-mul (pow_pos (n - p - 1))).1 (subst (λ (z : ℕ). x.mag < z) e (subst (λ (z : ℕ). x.mag < 2 ^ z) xn (size-lt x.mag)))
      where
        place : n ≡ suc p + (n - p - 1)
        place = omega arith

        e : 2 ^ n ≡ 2 ^ suc p * 2 ^ (n - p - 1)
        e = ap (λ (z : ℕ). 2 ^ z) place ∙ pow-add 2 (suc p) (n - p - 1)

    whole_le : (up : Bool) → (2 ^ p ≤ cond up (suc (x.mag / 2 ^ (n - p - 1))) (x.mag / 2 ^ (n - p - 1)))
        × (cond up (suc (x.mag / 2 ^ (n - p - 1))) (x.mag / 2 ^ (n - p - 1)) ≤ 2 ^ suc p)
    whole_le true = (omega (arith, quotient-ge), quotient-lt)
    whole_le false = (quotient-ge, le_of_lt quotient-lt)

    kept-final : n ≤ 768 → 1024 < w → (d : ℕ) → KeptStep p top (final_or_boundary w x (n - p - 1) d)
    kept-final small deep d = go (leb (2 ^ 65) d && leb d (2 ^ (n - p - 1) - 2 ^ 65))
      where
        go : (b : Bool)
            → KeptStep p top
            (cond b (done (nearly x.neg x.mag w))
            (next (boundary x.neg (cond (ltb (2 ^ (n - p - 1) - 2 ^ 65) d) (suc (x.mag / 2 ^ (n - p - 1))) (x.mag / 2 ^ (n - p - 1)))
            (w + (n - p - 1))) (w - 701)))
        go true = (size_reaches x.mag (p + 69) (subst (λ (z : ℕ). p + 69 < z) (sym xn) (omega arith)), low, high)
        go false =
            let q = whole_le (ltb (2 ^ (n - p - 1) - 2 ^ 65) d) in
            record { low = omega arith; high = omega arith; bound = (q.0, q.1, omega arith, omega arith) }

  kept-lower : (b : Boundary) (n lost : ℕ) → KeptBoundary p top b → p ≤ 64 → n < p + 70 → room < lost → lost ≤ w → Kept p top b (next_edge w n lost)
  kept-lower b n lost k hp h d l = record { low = omega (arith, hp, h, d, l, low); high = omega (arith, hp, h, d, l, high); bound = k }

  pub kept-decide : (b : Boundary) (lost : ℕ) → p ≤ 64 → KeptBoundary p top b → size x.mag ≤ 768 → lost ≤ w → (0 < lost → room < lost)
      → KeptStep p top (decide p b w lost x (size x.mag))
  unfolding decide
  kept-decide no_boundary zero hp k s l d = go (eqb x.mag 0) (pos-of-neqb x.mag)
    where
      go : (b : Bool) → (T (not b) → 0 < x.mag) → KeptStep p top (cond b (done zero_sum) (done (exactly x.neg x.mag w)))
      go true g = tt
      go false g = (g tt, low, high)
  kept-decide no_boundary (suc lost) hp k s l d = go (leb (p + 70) (size x.mag)) (leb→le (p + 70) (size x.mag)) (nleb→lt (p + 70) (size x.mag))
    where
      deep : room < suc lost
      deep = d (omega arith)

      go : (b : Bool) → (T b → p + 70 ≤ size x.mag) → (T (not b) → size x.mag < p + 70)
          → KeptStep p top
          (cond b (final_or_boundary w x (size x.mag - p - 1) (x.mag % 2 ^ (size x.mag - p - 1)))
          (next no_boundary (next_edge w (size x.mag) (suc lost))))
      go true g f = kept-final (size x.mag) refl (g tt) s (omega (arith, deep, l)) (x.mag % 2 ^ (size x.mag - p - 1))
      go false g f = kept-lower no_boundary (size x.mag) (suc lost) tt hp (f tt) deep l
  kept-decide (boundary z m e) zero hp k s l d = k
  kept-decide (boundary z m e) (suc lost) hp k s l d = go (leb 66 (size x.mag)) (nleb→lt 66 (size x.mag))
    where
      deep : room < suc lost
      deep = d (omega arith)

      go : (b : Bool) → (T (not b) → size x.mag < 66)
          → KeptStep p top (cond b (done (beside (side_of z x) z m e)) (next (boundary z m e) (next_edge w (size x.mag) (suc lost))))
      go true f = k
      go false f = kept-lower (boundary z m e) (size x.mag) (suc lost) k hp (omega (arith, f tt)) deep l

-- ---- every pass of a chain

pub kept-pass : (p : ℕ) (ts : List Term) (b : Boundary) (w : ℕ) → p ≤ 64 → AllGood ts → Kept p (top_of ts) b w
    → KeptStep p (top_of ts) (pass p b w (look_at ts w))
unfolding pass
kept-pass p ts b w hp g k =
    kept-decide p (top_of ts) w (sum_of b w (look_at ts w)) k.low k.high b (look_at ts w).lost hp k.bound (sum-size b w (look_at ts w))
    (fair-look ts g w).below (lost-deep ts w g)

-- the first edge
pub kept-start : (p : ℕ) (ts : List Term) → AllGood ts → 0 < length ts → Kept p (top_of ts) no_boundary (top_of ts - 702)
kept-start p ts g h = record { low = omega (arith, top-deep ts g h); high = omega arith; bound = tt }
