-- Where the passes of a chain stand: the boundary that a pass is compared against, and its edge.
use Rattle.std.specs.Prelude.{ℕ, zero, suc, ◌-◌, List}
use Rattle.totals_spec.specs.chain.Chain.{Boundary, Step, done, next, Look, pass, look_at}
use Rattle.totals_spec.specs.chain.Chain.{no_boundary}
use Rattle.totals_spec.specs.terms.Terms.{Term, top_of}

-- ---- where a pass of a chain stands: the boundary that it is compared against, and its edge. A
-- pass that sets a boundary is not compared against it

pub record Stand : Type 0 where
  pub bound : Boundary
  pub edge : ℕ

abbrev pub onward : Step → (Boundary → ℕ → Stand) → Stand → Stand
onward (done o) rest s = s
onward (next b w) rest s = rest b w

-- the pass after i passes that went on; behind the last there is none
unfoldable pub standing : (ℕ → Look) → ℕ → ℕ → Boundary → ℕ → Stand
standing look p zero b w = record { bound = b; edge = w }
standing look p (suc i) b w = onward (pass p b w (look w)) (standing look p i)
    (record { bound = b; edge = w })

-- pass number k of the chain, counted from 1
unfoldable pub pass_of : ℕ → List Term → ℕ → Stand
pass_of p ts k = standing (look_at ts) p (k - 1) no_boundary (top_of ts - 702)
