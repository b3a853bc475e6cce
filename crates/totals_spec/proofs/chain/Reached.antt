-- A chain from inside, as a loop walks it: after i passes that went on, the boundary is b and the
-- next edge w. A loop holds `Reached p ts i b w`; a pass that ends gives the whole chain, and one
-- that goes on keeps it, at a lower edge. For an allowance of passes it also says that this is pass
-- number i + 1 (`Standing` of specs/).
use Prim.Native.Nat.{ℕ, ◌+◌, ◌-◌, zero, suc, ◌≤◌, ◌<◌}
use mathlib.Core.Path.{◌≡◌, refl, sym, ap, ◌∙◌, subst}
use mathlib.Core.List.{List}
use native.Mathlib.Omega.{arith}
use native.Mathlib.Nat.{zero-add, add-suc, suc-add}
use lib.ListN.{length}
use Rattle.totals_spec.specs.chain.Chain.{Run, Boundary, no_boundary, look_at, pass, run, chain}
use Rattle.totals_spec.specs.chain.Chain.{Look, Step, Outcome, done, next, follow}
use Rattle.totals_spec.specs.terms.Terms.{Term, plus_sum, minus_sum, top_of}
use Rattle.totals_spec.specs.chain.Standing.{standing, Stand, onward, pass_of}
use Rattle.totals_spec.specs.chain.Promises.{Finished}
use Rattle.totals_spec.proofs.chain.Invariant.{Inv, Right}
use Rattle.totals_spec.proofs.terms.GoodTerms.{AllGood}
use Rattle.totals_spec.proofs.chain.PassLimit.{chain-ends}
use Rattle.totals_spec.proofs.chain.Margin.{terms-max}
use Rattle.totals_spec.proofs.chain.RoundsAsTheSum.{start, pass-right}

-- i passes before those of r
abbrev pub after : ℕ → Run → Run
after i r = record { outcome = r.outcome; passes = i + r.passes; edge = r.edge }

pub record Reached (p : ℕ) (ts : List Term) (i : ℕ) (b : Boundary) (w : ℕ) : Type 0 where
  pub fuel : ℕ
  pub left : chain p ts ≡ after i (run (look_at ts) p fuel b w)
  pub inv : Inv p (plus_sum ts) (minus_sum ts) b w
  -- this is pass number i + 1
  pub stands : standing (look_at ts) p i no_boundary (top_of ts - 702) ≡ record { bound = b; edge = w }

abbrev stands_at : Boundary → ℕ → Stand
stands_at b w = record { bound = b; edge = w }

-- the pass that a pass at s leads to
abbrev step_at : (ℕ → Look) → ℕ → Stand → Step
step_at look p s = pass p s.bound s.edge (look s.edge)

done_next : (o : Outcome) (b : Boundary) (v : ℕ) → done o ≡ next b v → ⊥
done_next o b v e = let z : ◌≡◌ {A = ℕ} 0 1 = cc in omega (arith, z)

-- one pass more
standing-next : (look : ℕ → Look) (p i : ℕ) (b₀ : Boundary) (w₀ : ℕ) (b : Boundary) (w : ℕ) (b' : Boundary) (v : ℕ)
    → standing look p i b₀ w₀ ≡ stands_at b w → pass p b w (look w) ≡ next b' v → standing look p (suc i) b₀ w₀ ≡ stands_at b' v
unfolding standing
standing-next look p zero b₀ w₀ b w b' v e q = ap (λ (s : Step). onward s (standing look p zero) (stands_at b₀ w₀)) (ap (step_at look p) e ∙ q)
standing-next look p (suc i) b₀ w₀ b w b' v e q = go (pass p b₀ w₀ (look w₀)) refl e (λ b₁ w₁. standing-next look p i b₁ w₁ b w b' v)
  where
    go : (s : Step) → pass p b₀ w₀ (look w₀) ≡ s → onward s (standing look p i) (stands_at b₀ w₀) ≡ stands_at b w
        → ((b₁ : Boundary) (w₁ : ℕ) → standing look p i b₁ w₁ ≡ stands_at b w → pass p b w (look w) ≡ next b' v
        → standing look p (suc i) b₁ w₁ ≡ stands_at b' v)
        → onward s (standing look p (suc i)) (stands_at b₀ w₀) ≡ stands_at b' v
    go (done o) h e ih = absurd (done_next o b' v (sym h ∙ ap (step_at look p) e ∙ q))
    go (next b₁ w₁) h e ih = ih b₁ w₁ e q

module _ (p : ℕ) (ts : List Term) (hp : p ≤ 64) (good : AllGood ts) (len : length ts ≤ terms-max) where
  pub at-start : Reached p ts 0 no_boundary (top_of ts - 702)
  unfolding chain
  at-start = record {
    fuel = suc (top_of ts);
    left = λ j. record {
      outcome = (run (look_at ts) p (suc (top_of ts)) no_boundary (top_of ts - 702)).outcome;
      passes = sym (zero-add (run (look_at ts) p (suc (top_of ts)) no_boundary (top_of ts - 702)).passes) j;
      edge = (run (look_at ts) p (suc (top_of ts)) no_boundary (top_of ts - 702)).edge;
    };
    inv = start p ts hp good len;
    stands = unfold standing in refl;
  }

  -- the chain is not at its fuel's end
  fuelled : (i w : ℕ) (b : Boundary) → chain p ts ≡ after i (run (look_at ts) p zero b w) → ⊥
  unfolding run
  fuelled i w b e = subst (λ (r : Run). Finished r.outcome) e (chain-ends p ts hp good)

  pub at_done : (i : ℕ) (b : Boundary) (w : ℕ) (o : Outcome) → Reached p ts i b w → pass p b w (look_at ts w) ≡ done o
      → chain p ts ≡ record { outcome = o; passes = i + 1; edge = w }
  unfolding run
  at_done i b w o h e = go h.fuel h.left
    where
      go : (k : ℕ) → chain p ts ≡ after i (run (look_at ts) p k b w) → chain p ts ≡ record { outcome = o; passes = i + 1; edge = w }
      go zero q = absurd (fuelled i w b q)
      go (suc k) q = q ∙ ap (λ (s : Step). after i (follow s (run (look_at ts) p k) w)) e

  pub at_next : (i : ℕ) (b : Boundary) (w : ℕ) (b' : Boundary) (v : ℕ) → Reached p ts i b w → pass p b w (look_at ts w) ≡ next b' v → Reached p ts (suc i) b' v
  unfolding run
  at_next i b w b' v h e = go h.fuel h.left
    where
      go : (k : ℕ) → chain p ts ≡ after i (run (look_at ts) p k b w) → Reached p ts (suc i) b' v
      go zero q = absurd (fuelled i w b q)
      go (suc k) q = record {
        fuel = k;
        left = q ∙ ap (λ (s : Step). after i (follow s (run (look_at ts) p k) w)) e
            ∙ (λ j. record {
              outcome = (run (look_at ts) p k b' v).outcome;
              passes = (add-suc i (run (look_at ts) p k b' v).passes ∙ sym (suc-add i (run (look_at ts) p k b' v).passes)) j;
              edge = (run (look_at ts) p k b' v).edge;
            });
        inv = subst (λ (s : Step). Right p (plus_sum ts) (minus_sum ts) s) e (pass-right p ts hp good len b w h.inv);
        stands = standing-next (look_at ts) p i no_boundary (top_of ts - 702) b w b' v h.stands e;
      }

  -- ---- a pass that goes on is not the last: pass number i + 1 stands here, and the chain is
  -- longer

  pub record Onward (k : ℕ) (b : Boundary) (w : ℕ) : Type 0 where
    pub stands : pass_of p ts k ≡ record { bound = b; edge = w }
    pub longer : k < (chain p ts).passes

  longer-than : (i : ℕ) (b : Boundary) (w : ℕ) → Reached p ts i b w → i < (chain p ts).passes
  unfolding run
  longer-than i b w h = go h.fuel h.left
    where
      some : (k : ℕ) (s : Step) → 0 < (follow s (run (look_at ts) p k) w).passes
      some k (done o) = omega arith
      some k (next b v) = omega arith

      go : (k : ℕ) → chain p ts ≡ after i (run (look_at ts) p k b w) → i < (chain p ts).passes
      go zero q = absurd (fuelled i w b q)
      go (suc k) q = omega (arith, ap (λ (r : Run). r.passes) q, some k (pass p b w (look_at ts w)))

  pub at_onward : (i : ℕ) (b : Boundary) (w : ℕ) (b' : Boundary) (v : ℕ) → Reached p ts i b w → pass p b w (look_at ts w) ≡ next b' v → Onward (suc i) b w
  unfolding pass_of
  at_onward i b w b' v h e = record {
    stands = subst (λ (n : ℕ). standing (look_at ts) p n no_boundary (top_of ts - 702) ≡ stands_at b w) count h.stands;
    longer = longer-than (suc i) b' v (at_next i b w b' v h e);
  }
    where
      count : i ≡ suc i - 1
      count = omega arith
