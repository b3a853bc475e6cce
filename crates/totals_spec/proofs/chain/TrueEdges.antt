-- `room` is enough: no edge of a chain lies below the unit, so each difference by which an edge is
-- defined (`Chain` of specs/) is a true one, and the edge that a record reports is the
-- specification's.
use mathlib.Core.List.{List, [], ◌∷◌}
use Prim.Native.Nat.{◌≤◌, ◌<◌, ℕ, ◌+◌, max}
use native.Mathlib.Nat.{le_trans, le-max_left, not-suc-le-zero}
use lib.ListN.{length}
use native.Mathlib.Omega.{arith}
use Rattle.totals_spec.specs.Basics.{greatest}
use Rattle.totals_spec.specs.formats.Format.{room}
use Rattle.totals_spec.specs.terms.Terms.{Term, top_of, top_of_term}
use Rattle.totals_spec.specs.chain.Chain.{look_at}
use Rattle.totals_spec.specs.chain.Promises.{EdgesTrue}
use Rattle.totals_spec.proofs.terms.GoodTerms.{AllGood}
use Rattle.totals_spec.proofs.terms.HighestAndLowest.{top-high}
use Rattle.totals_spec.proofs.chain.PassLimit.{fair-look}

-- T lies `room` above the unit at least
pub top-deep : (ts : List Term) → AllGood ts → 0 < length ts → room ≤ top_of ts
unfolding top_of
top-deep [] g h = absurd (not-suc-le-zero h)
top-deep (t ∷ ts) g h = le_trans (top-high t g.0) (le-max_left t.top (greatest top_of_term ts))

-- the first edge, T − 702
pub first_edge : (ts : List Term) → AllGood ts → 0 < length ts → 702 ≤ top_of ts
first_edge ts g h = omega (arith, top-deep ts g h)

-- a pass that goes on has lost something: then its edge lies above `room`, and so w − 701, and 766
-- below w + n or more, are true differences
pub later_edge : (ts : List Term) (w n : ℕ) → AllGood ts → 0 < (look_at ts w).lost → (701 ≤ w) × (766 ≤ max (w + n) ((look_at ts w).lost + 64))
later_edge ts w n g h = (omega (arith, (fair-look ts g w).high h), omega (arith, (fair-look ts g w).high h))

pub edges-true : (ts : List Term) → AllGood ts → EdgesTrue ts
edges-true ts g = (first_edge ts g, λ w n. later_edge ts w n g)
