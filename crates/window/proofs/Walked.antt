-- The loop of passes: the code's chain holds what `Reached` of further_spec and `Kept` of
-- totals_spec say, from one pass to the next, and where it is done it is the chain of the
-- definitions.
use mathlib.Core.Path.{◌≡◌, refl, sym, ap, ap₂, ◌∙◌, subst}
use mathlib.Core.Bool.{Bool, true, false, cond}
use mathlib.Core.List.{List}
use Prim.Native.Nat.{ℕ, suc, ◌+◌, ◌-◌, ◌*◌, ◌/◌, ◌≤◌, ◌<◌}
use native.Mathlib.Nat.{add-zero}
use native.Mathlib.Numerals.{add-one}
use native.Mathlib.Omega.{arith}
use lib.Dec.{T, eqb, ltb, eqb→eq, ltb→lt}
use lib.ListN.{length}
use lib.Ieee.{size}
use Rattle.std.specs.declared.ops.ControlFlow.TheVariants.{Continue, Break}
use Rattle.totals_spec.specs.Basics as basics
use Rattle.totals_spec.specs.terms.Terms as terms
use Rattle.totals_spec.specs.chain.Chain as chain
use Rattle.totals_spec.proofs.terms.GoodTerms.{AllGood}
use Rattle.totals_spec.proofs.chain.Margin.{terms-max}
use Rattle.totals_spec.proofs.chain.Invariant.{Inv}
use Rattle.totals_spec.proofs.chain.PassLimit.{GoesOn, fair-look, pass-goes-on, lost-deep}
use Rattle.totals_spec.proofs.chain.VanishingBoundary.{vanishes}
use Rattle.totals_spec.proofs.chain.Reached.{Reached, at-start, at_next, at_done, at_onward}
use Rattle.totals_spec.proofs.chain.Sizes.{Kept, KeptStep, EndsAs, kept-start, kept-pass}
use Rattle.totals_spec.proofs.chain.EmptyPasses.{Empty, Skipped, pass-empty, skip, empty-sum, inside}
use Rattle.window.specs.declared.Pass.{Pass}
use Rattle.window.specs.declared.Chain.{Chain}
use Rattle.window.specs.declared.Outcome.{Outcome}
use Rattle.window.specs.declared.Outcome.TheVariants as out
use Rattle.window.specs.declared.ExactSum.{ExactSum}
use Rattle.window.specs.Chain.{Passed, bound_of, outcome_by, run_of, Ready, Follows, total_of, width_of, Steps, Deep, EndsWith, Ended, started, StoppedAt}
use Rattle.window.proofs.Decided.{no_bits}

-- S without the boundary is S
total-seen : (p : ℕ) (ts : List terms.Term) (b : chain.Boundary) (w : ℕ) (q : Pass) → Inv p (terms.plus_sum ts) (terms.minus_sum ts) b w → Passed ts w q
    → chain.sum_of b w (chain.look_at ts w) ≡ total_of q
total-seen p ts b w q i h = vanishes b w _ _ p (chain.look_at ts w) i.placed ∙ free
  where
    free : chain.sum_of chain.no_boundary w (chain.look_at ts w) ≡ total_of q
    free = unfold chain.sum_of chain.wrapped in
        ap₂ (λ (x y : ℕ). chain.signed_from chain.half (chain.residue chain.half x y)) (add-zero (chain.look_at ts w).plus)
        (add-zero (chain.look_at ts w).minus)
        ∙ ap (chain.signed_from chain.half) (sym h.total)

-- so what the code decides by is the pass of the definitions
pass-seen : (p : ℕ) (ts : List terms.Term) (b : chain.Boundary) (w : ℕ) (q : Pass) → Inv p (terms.plus_sum ts) (terms.minus_sum ts) b w → Passed ts w q
    → chain.pass p b w (chain.look_at ts w) ≡ chain.decide p b w q.lost (total_of q) (width_of q)
unfolding chain.pass
pass-seen p ts b w q i h =
    ap₂ (λ (x : basics.Signed) (n : ℕ). chain.decide p b w n x (size x.mag)) (total-seen p ts b w q i h) (sym h.lost)

-- what is decided after the pass q
abbrev says : ℕ → Chain → Pass → chain.Step
says p c q = chain.decide p (bound_of c) c.edge q.lost (total_of q) (width_of q)

-- what the loop holds of its chain
pub record Walked (p : ℕ) (ts : List terms.Term) (c : Chain) : Type 0 where
  pub reached : Reached p ts c.passes (bound_of c) c.edge
  pub kept : Kept p (terms.top_of ts) (bound_of c) c.edge
  pub most : c.passes + c.edge ≤ terms.top_of ts

-- the chain at a lower edge
pub record Lower (p : ℕ) (ts : List terms.Term) (c r : Chain) : Type 0 where
  pub walked : Walked p ts r
  pub falls : r.edge < c.edge

next-bound : (b b' : chain.Boundary) (v v' : ℕ) → chain.next b v ≡ chain.next b' v' → b ≡ b'
next-bound b b' v v' e = cc

next_edge : (b b' : chain.Boundary) (v v' : ℕ) → chain.next b v ≡ chain.next b' v' → v ≡ v'
next_edge b b' v v' e = cc

-- what a chain ends with, by the code's outcome
deep-place : (top e k : ℕ) → top < 2147483648 → 322 ≤ e → e ≤ top + k → k ≤ 768 → Deep e
deep-place top e k s l h g = record { high = omega arith; small = omega arith }

ends_with : (o : Outcome) (p top : ℕ) → top < 2147483648 → EndsAs p top (outcome_by o) → EndsWith p o
ends_with out.Zero p top s h = tt
ends_with (out.Exact x) p top s h = (h.0, deep-place top x.place 0 s h.1 (omega (arith, h.2)) (omega arith))
ends_with (out.Inexact x) p top s h = (h.0, deep-place top x.place 0 s h.1 (omega (arith, h.2)) (omega arith))
ends_with (out.Below b) p top s h = (record { many = h.0; few = h.1 }, deep-place top b.place 768 s h.2 h.3 (omega arith))
ends_with (out.On b) p top s h = (record { many = h.0; few = h.1 }, deep-place top b.place 768 s h.2 h.3 (omega arith))
ends_with (out.Above b) p top s h = (record { many = h.0; few = h.1 }, deep-place top b.place 768 s h.2 h.3 (omega arith))

module _ (p : ℕ) (ts : List terms.Term) (hp : p ≤ 64) (good : AllGood ts) (len : length ts ≤ terms-max) (small : terms.top_of ts < 2147483648) where
  -- the first edge
  pub walked_start : 0 < length ts → Walked p ts (started (terms.top_of ts))
  walked_start some = record { reached = at-start p ts hp good len; kept = kept-start p ts good some; most = omega arith }

  module _ (c : Chain) (q : Pass) (h : Walked p ts c) (g : Passed ts c.edge q) where
    pub walked-ready : Ready c q.lost
    walked-ready = record {
      passes = omega (arith, h.most, small);
      edge = omega (arith, h.most, small);
      high = λ k. subst (λ (n : ℕ). 1024 < n) (sym g.lost) (lost-deep ts c.edge good (subst (λ (n : ℕ). 0 < n) g.lost k));
      low = subst (λ (n : ℕ). n ≤ c.edge) (sym g.lost) (fair-look ts good c.edge).below;
    }

    seen : chain.pass p (bound_of c) c.edge (chain.look_at ts c.edge) ≡ says p c q
    seen = pass-seen p ts (bound_of c) c.edge q h.reached.inv g

    -- a step that goes on: 0 < lost, and the edge falls
    going : (b : chain.Boundary) (v : ℕ) → says p c q ≡ chain.next b v
        → (0 < (chain.look_at ts c.edge).lost) × (v + (697 - p) ≤ c.edge)
    going b v e =
        subst (λ (s : chain.Step). GoesOn p c.edge (chain.look_at ts c.edge).lost s) (seen ∙ e)
        (pass-goes-on p c.edge hp (bound_of c) _ (chain.look_at ts c.edge) (fair-look ts good c.edge))

    -- one pass
    one : (r : Chain) → says p c q ≡ chain.next (bound_of r) r.edge → r.passes ≡ c.passes + 1 → Lower p ts c r
    one r e k =
        let l = going (bound_of r) r.edge e in
        record {
          walked = record {
            reached =
                subst (λ (i : ℕ). Reached p ts i (bound_of r) r.edge) (sym (k ∙ add-one c.passes))
                (at_next p ts hp good len c.passes (bound_of c) c.edge (bound_of r) r.edge h.reached (seen ∙ e));
            kept = subst (λ (s : chain.Step). KeptStep p (terms.top_of ts) s) (seen ∙ e) (kept-pass p ts (bound_of c) c.edge hp good h.kept);
            most = omega (arith, k, l.1, h.most, hp);
          };
          falls = omega (arith, l.1, hp);
        }

    -- empty passes, counted
    empty : width_of q ≡ 0 → Empty ts (bound_of c) c.edge q.lost
    empty z = record {
      none = ap (λ (s : basics.Signed). s.mag) (total-seen p ts (bound_of c) c.edge q h.reached.inv g) ∙ no_bits _ z;
      lost-is = sym g.lost;
    }

    many : (r : Chain) (k : ℕ) → k ≡ (c.edge - q.lost + 702) / 766 → width_of q ≡ 0 → q.lost + 63 < c.edge
        → says p c q ≡ chain.next (bound_of r) (r.edge + 766 * (k - 1)) → r.passes ≡ c.passes + k → Lower p ts c r
    many r k ek z far e kp =
        let some : 0 < q.lost = subst (λ (n : ℕ). 0 < n) (sym g.lost) (going (bound_of r) (r.edge + 766 * (k - 1)) e).0 in
        let s : Skipped p ts c.passes (bound_of c) c.edge k =
        rw ek (skip p ts hp good len c.passes (bound_of c) c.edge q.lost h.reached (empty z) some far) in
        let f : chain.next (bound_of r) (r.edge + 766 * (k - 1)) ≡ chain.next (bound_of c) (c.edge - 766) =
        sym e ∙ sym seen ∙ pass-empty p ts hp good len (bound_of c) c.edge q.lost (empty z) some far in
        let bs : bound_of r ≡ bound_of c = next-bound _ _ _ _ f in
        let ws : r.edge + 766 * (k - 1) ≡ c.edge - 766 = next_edge _ _ _ _ f in
        let pos : 0 < k = omega (arith, ek, far) in
        let deep : 1024 < q.lost = walked-ready.high some in
        let edge : r.edge ≡ c.edge - 766 * k = omega (arith, ws, pos, s.above) in
        record {
          walked = record {
            reached = rw (bs, edge, kp) s.reached;
            kept = rw (bs) (record { low = omega (arith, edge, ek, deep, far); high = omega (arith, edge, h.kept.high); bound = h.kept.bound });
            most = omega (arith, edge, kp, pos, s.above, h.most);
          };
          falls = omega (arith, edge, pos, s.above);
        }

    pub walked_next : (r : Chain) → Steps p c q (Continue r) → Lower p ts c r
    walked_next r s = go (eqb (width_of q) 0) (eqb→eq (width_of q) 0) (ltb (q.lost + 63) c.edge) (ltb→lt (q.lost + 63) c.edge) s
      where
        go : (a : Bool) → (T a → width_of q ≡ 0) → (b : Bool) → (T b → q.lost + 63 < c.edge)
            → Follows (Continue r) (says p c q) (cond a (cond b ((c.edge - q.lost + 702) / 766) 1) 1) c → Lower p ts c r
        go true z true l f = many r ((c.edge - q.lost + 702) / 766) refl (z tt) (l tt) f.0 f.1
        go true z false l f = one r (f.0 ∙ ap (chain.next (bound_of r)) (add-zero r.edge)) f.1
        go false z b l f = one r (f.0 ∙ ap (chain.next (bound_of r)) (add-zero r.edge)) f.1

    -- done: the chain of the definitions, and what it ended with
    abbrev ended_as : Outcome → ExactSum
    ended_as o = record { outcome = o; passes = c.passes + 1; edge = c.edge }

    pub walked-done : (o : Outcome) → Steps p c q (Break o) → (run_of (ended_as o) ≡ chain.chain p ts) × Ended p (ended_as o)
    walked-done o s = (
      sym (at_done p ts hp good len c.passes (bound_of c) c.edge (outcome_by o) h.reached (seen ∙ s)),
      record {
        ends = ends_with o p (terms.top_of ts) small (rw (seen ∙ s) at (kept-pass p ts (bound_of c) c.edge hp good h.kept));
        edge = omega (arith, h.most, small);
      },
    )

    -- a step that goes on past the allowance: pass number a is the pass at hand, or an empty one
    -- that was counted with it, 766 lower each
    module _ (r : Chain) (s : Steps p c q (Continue r)) (a : ℕ) (l : c.passes < a) (m : a ≤ r.passes) where
      abbrev down : ℕ
      down = 766 * (a - c.passes - 1)

      -- the pass at hand
      at-hand : (b : chain.Boundary) (w : ℕ) → says p c q ≡ chain.next b w → r.passes ≡ c.passes + 1
          → (down ≤ c.edge) × StoppedAt p ts a (bound_of c) (c.edge - down) (total_of q)
      at-hand b w e k =
          let n : suc c.passes ≡ a = omega (arith, l, m, k) in
          let d : c.edge ≡ c.edge - down = omega (arith, n) in
          let o = at_onward p ts hp good len c.passes (bound_of c) c.edge b w h.reached (seen ∙ e) in (
            omega (arith, n),
            subst (λ (y : ℕ). StoppedAt p ts a (bound_of c) y (total_of q)) d
                (subst (λ (x : ℕ). StoppedAt p ts x (bound_of c) c.edge (total_of q)) n
                (record { stands = o.stands; longer = o.longer; sum = total-seen p ts (bound_of c) c.edge q h.reached.inv g })),
          )

      -- an empty one
      hollow : width_of q ≡ 0 → q.lost + 63 < c.edge → 0 < q.lost → r.passes ≡ c.passes + (c.edge - q.lost + 702) / 766
          → (down ≤ c.edge) × StoppedAt p ts a (bound_of c) (c.edge - down) (total_of q)
      hollow z far some k =
          let n : suc (c.passes + (a - c.passes - 1)) ≡ a = omega (arith, l) in
          let room : down + q.lost + 63 < c.edge = omega (arith, l, m, k, far) in
          let e = inside p ts hp good len (a - c.passes - 1) c.passes (bound_of c) c.edge q.lost h.reached (empty z) some room in
          let none : total_of q ≡ record { neg = false; mag = 0 } =
          sym (total-seen p ts (bound_of c) c.edge q h.reached.inv g)
          ∙ empty-sum p ts hp good len (bound_of c) c.edge q.lost h.reached.inv (empty z) in (
            omega (arith, room),
            subst (λ (x : ℕ). StoppedAt p ts x (bound_of c) (c.edge - down) (total_of q)) n
                (record { stands = e.onward.stands; longer = e.onward.longer; sum = e.none ∙ sym none }),
          )

      pub walked-stopped : (down ≤ c.edge) × StoppedAt p ts a (bound_of c) (c.edge - down) (total_of q)
      walked-stopped = go (eqb (width_of q) 0) (eqb→eq (width_of q) 0) (ltb (q.lost + 63) c.edge) (ltb→lt (q.lost + 63) c.edge) s
        where
          go : (x : Bool) → (T x → width_of q ≡ 0) → (b : Bool) → (T b → q.lost + 63 < c.edge)
              → Follows (Continue r) (says p c q) (cond x (cond b ((c.edge - q.lost + 702) / 766) 1) 1) c
              → (down ≤ c.edge) × StoppedAt p ts a (bound_of c) (c.edge - down) (total_of q)
          go true z true y f = hollow (z tt) (y tt) (subst (λ (n : ℕ). 0 < n) (sym g.lost) (going _ _ f.0).0) f.1
          go true z false y f = at-hand _ _ f.0 f.1
          go false z b y f = at-hand _ _ f.0 f.1
