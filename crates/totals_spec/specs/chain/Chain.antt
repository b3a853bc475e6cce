-- The chain of passes. A pass at edge w sees three numbers of the terms, and nothing else: the cut
-- positive parts, the cut negative parts, and how far the lost bits reach. So the chain is a
-- function of these three numbers at every edge, and of p and T.
use Rattle.std.specs.Prelude.{ℕ, ◌%◌, ◌^◌, cond, ltb, eqb, ◌/◌, List, ◌+◌, ◌-◌, true, false, Bool}
use Rattle.std.specs.Prelude.{◌*◌, max, suc, ◌&&◌, leb, zero}
use Rattle.std.specs.Float.Ieee.{size}
use Rattle.std.specs.Bool.{beq}
use Rattle.totals_spec.specs.terms.Terms.{Term, plus_part, minus_part, top_of}
use Rattle.totals_spec.specs.Basics.{total, greatest, Signed}

-- ---- what a pass sees

pub record Look : Type 0 where
  pub plus : ℕ
  pub minus : ℕ
  pub lost : ℕ

-- The lost bit of one magnitude, plus one; 0 where nothing is lost. Below 2^w all of it is lost,
-- from its top bit on; else what is lost begins right below w.
unfoldable pub lost_end : ℕ → ℕ → ℕ
lost_end w m = cond (ltb m (2 ^ w)) (size m) (cond (eqb (m % 2 ^ w) 0) 0 w)

-- the part of a term: how many times 2^w goes into its magnitude
abbrev pub cut_plus : ℕ → Term → ℕ
cut_plus w t = plus_part t / 2 ^ w

abbrev pub cut_minus : ℕ → Term → ℕ
cut_minus w t = minus_part t / 2 ^ w

abbrev pub lost_of : ℕ → Term → ℕ
lost_of w t = lost_end w t.mag

unfoldable pub look_at : List Term → ℕ → Look
look_at ts w = record {
  plus = total (cut_plus w) ts;
  minus = total (cut_minus w) ts;
  lost = greatest (lost_of w) ts;
}

-- ---- S: a − b modulo 2^768, as a signed number

unfoldable pub half : ℕ
half = 2 ^ 767

-- in a window of 2h values: what a − b leaves by 2h, and that as a signed number
unfoldable pub residue : ℕ → ℕ → ℕ → ℕ
residue h a b = (a + (h + h - b % (h + h))) % (h + h)

unfoldable pub signed_from : ℕ → ℕ → Signed
signed_from h x = cond (ltb x h) (record { neg = false; mag = x })
    (record { neg = true; mag = h + h - x })

unfoldable pub wrapped : ℕ → ℕ → ℕ → Signed
unfolding residue signed_from
wrapped h a b = signed_from h (residue h a b)

-- ---- the boundary: a whole number of units of 2^place, with a sign

pub data Boundary : Type 0 where
  no_boundary : Boundary
  boundary : (negative : Bool) (whole place : ℕ) → Boundary

-- what a boundary adds to the positive and to the negative parts when it is taken off, in units of
-- 2^w
abbrev pub boundary_plus : Boundary → ℕ → ℕ
boundary_plus no_boundary w = 0
boundary_plus (boundary s m e) w = cond s (m * 2 ^ e / 2 ^ w) 0

abbrev pub boundary_minus : Boundary → ℕ → ℕ
boundary_minus no_boundary w = 0
boundary_minus (boundary s m e) w = cond s 0 (m * 2 ^ e / 2 ^ w)

-- ---- the outcome of a chain: zero, S units of 2^w exactly, S units inexactly, or the side of the
-- boundary on which the sum's magnitude lies

pub data Side : Type 0 where
  below on above : Side

pub data Outcome : Type 0 where
  zero_sum : Outcome
  exactly : (negative : Bool) (magnitude edge : ℕ) → Outcome
  nearly : (negative : Bool) (magnitude edge : ℕ) → Outcome
  beside : Side → (negative : Bool) (whole place : ℕ) → Outcome
  unfinished : Outcome

-- S and the boundary have the same sign: above; S = 0: on it
abbrev pub side_of : Bool → Signed → Side
side_of s x = cond (eqb x.mag 0) on (cond (beq x.neg s) above below)

-- ---- a pass's end: the chain is done, or goes on with a boundary at the next edge

pub data Step : Type 0 where
  done : Outcome → Step
  next : Boundary → ℕ → Step

-- the edge after an undecided pass; `lost` is one more than the lost bit
abbrev pub next_edge : ℕ → ℕ → ℕ → ℕ
next_edge w n lost = max (w + n) (lost + 64) - 766

-- a pass with enough digits and nothing to compare with: M = kept × 2^r + d. Far from both
-- neighbours it is the last one, else the nearer one becomes the boundary
abbrev pub final_or_boundary : ℕ → Signed → ℕ → ℕ → Step
final_or_boundary w x r d =
    cond (leb (2 ^ 65) d && leb d (2 ^ r - 2 ^ 65))
    (done (nearly x.neg x.mag w))
    (next (boundary x.neg (cond (ltb (2 ^ r - 2 ^ 65) d) (suc (x.mag / 2 ^ r)) (x.mag / 2 ^ r))
    (w + r)) (w - 701))

-- x is S, n the bit length of its magnitude, `lost` the lost bit plus one
unfoldable pub decide : ℕ → Boundary → ℕ → ℕ → Signed → ℕ → Step
decide p no_boundary w zero x n = cond (eqb x.mag 0) (done zero_sum) (done (exactly x.neg x.mag w))
decide p no_boundary w (suc lost) x n =
    cond (leb (p + 70) n)
    (final_or_boundary w x (n - p - 1) (x.mag % 2 ^ (n - p - 1)))
    (next no_boundary (next_edge w n (suc lost)))
decide p (boundary s m e) w zero x n = done (beside (side_of s x) s m e)
decide p (boundary s m e) w (suc lost) x n =
    cond (leb 66 n)
    (done (beside (side_of s x) s m e))
    (next (boundary s m e) (next_edge w n (suc lost)))

-- S of a pass
unfoldable pub sum_of : Boundary → ℕ → Look → Signed
sum_of b w l = wrapped half (l.plus + boundary_plus b w) (l.minus + boundary_minus b w)

unfoldable pub pass : ℕ → Boundary → ℕ → Look → Step
pass p b w l = let x = sum_of b w l in decide p b w l.lost x (size x.mag)

-- ---- the chain: its outcome, how many passes it took, and where the last one cut

pub record Run : Type 0 where
  pub outcome : Outcome
  pub passes : ℕ
  pub edge : ℕ

abbrev pub one_more : Run → Run
one_more r = record { outcome = r.outcome; passes = suc r.passes; edge = r.edge }

abbrev pub follow : Step → (Boundary → ℕ → Run) → ℕ → Run
follow (done o) rest w = record { outcome = o; passes = 1; edge = w }
follow (next b v) rest w = one_more (rest b v)

-- at most `fuel` passes
unfoldable pub run : (ℕ → Look) → ℕ → ℕ → Boundary → ℕ → Run
run look p zero b w = record { outcome = unfinished; passes = 0; edge = w }
run look p (suc fuel) b w = follow (pass p b w (look w)) (run look p fuel) w

-- A chain begins 702 below T. As many passes as there are positions up to T are always enough
-- (`PassLimit` of proofs/).
unfoldable pub chain : ℕ → List Term → Run
chain p ts = run (look_at ts) p (suc (top_of ts)) no_boundary (top_of ts - 702)
