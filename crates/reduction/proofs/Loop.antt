-- What the loop of passes may count on, for the terms of an accepted list, of words or of bytes.
use mathlib.Core.Path.{◌≡◌}
use mathlib.Core.List.{List, [], ◌∷◌}
use Prim.Native.Nat.{ℕ, ◌+◌, ◌-◌, ◌*◌, ◌≤◌, ◌<◌}
use native.Mathlib.Nat.{le_trans, not-suc-le-zero, zero-lt-suc}
use native.Mathlib.Omega.{arith}
use lib.Dec.{lit≤}
use lib.ListN.{length}
use lib.Pow.{pow_mono}
use Rattle.std.specs.declared.ops.ControlFlow.TheVariants.{Continue, Break}
use Rattle.std.specs.Prelude.{Ok, Err}
use Rattle.totals_spec.specs.formats.Format.{Format}
use Rattle.totals_spec.specs.formats.Settings.{Settings}
use Rattle.totals_spec.specs.formats.Bounds.{RangeBounds}
use Rattle.totals_spec.specs.terms.Terms.{Item, Term, term_of, terms, top_of}
use Rattle.totals_spec.specs.sums.Totals.{limit}
use Rattle.totals_spec.specs.pence.Hundredfold.{hundred_terms}
use Rattle.totals_spec.proofs.terms.GoodTerms.{AllGood, picked-length}
use Rattle.totals_spec.proofs.pence.HundredfoldChain.{good-hundred, few-hundred}
use Rattle.totals_spec.proofs.pence.HundredfoldTop.{top-most}
use Rattle.totals_spec.proofs.chain.Margin.{terms-max}
use Rattle.totals_spec.proofs.chain.TrueEdges.{first_edge}
use Rattle.window.specs.declared.Pass.{Pass}
use Rattle.window.specs.declared.Chain.{Chain}
use Rattle.window.specs.declared.Outcome.{Outcome}
use Rattle.window.specs.declared.Stopped.{Stopped}
use Rattle.window.specs.Chain.{Passed, Ready, Steps, Stops, started}
use Rattle.window.proofs.Walked.{Walked, Lower, walked_start, walked-ready, walked_next, walked-done, walked-stopped}
use Rattle.reduction.specs.Held.{Base, Summable, SumsWithin}
use Rattle.totals_spec.proofs.terms.HighestAndLowest.{top_most, top_product}

some_of : (ts : List Term) → 0 < top_of ts → 0 < length ts
unfolding top_of
some_of [] h = absurd (not-suc-le-zero h)
some_of (t ∷ ts) h = zero-lt-suc (length ts)

limit-le : (n : ℕ) → n ≤ limit → n ≤ terms-max
limit-le n h = le_trans h (lit≤ tt)

le-add : {a b : ℕ} → a ≤ b → a ≤ b + 7
le-add h = omega (arith, h)

most-product : (f : Format) → top_most f + 7 ≤ top_product f + 7
most-product f = omega arith

pub top_small : (f : Format) {t : ℕ} → RangeBounds f → t ≤ top_product f + 7 → t < 2147483648
top_small f b h = omega (arith, b.e-ge, b.w-ge, b.p-le, pow_mono {j = 28} b.e-le, h)

pub summable-few : (f : Format) (l : List Item) → Summable f l → length (terms l) ≤ terms-max
summable-few f l s = limit-le _ (le_trans (picked-length term_of l) s.few)

module _ {p : ℕ} (d : p ≤ 64) (f : Format) (b : RangeBounds f) where
  base-of : (ts : List Term) → AllGood ts → length ts ≤ limit → top_of ts ≤ top_product f + 7 → 0 < top_of ts → Base p ts
  base-of ts g n t h = record { digits_le = d; good = g; few = limit-le _ n; small = top_small f b t; some = some_of ts h }

  -- of items that can be added up, where there is a term
  pub summable-base : (l : List Item) → Summable f l → 0 < top_of (terms l) → Base p (terms l)
  summable-base l s h = base-of (terms l) s.good (le_trans (picked-length term_of l) s.few) (le-add s.top) h

  -- and of values a hundred times each
  pub hundred-base : (c : Settings) (l : List ℕ) → length l ≤ limit → 0 < top_of (hundred_terms f c l) → Base p (hundred_terms f c l)
  hundred-base c l n h =
      base-of (hundred_terms f c l) (good-hundred f c l) (le_trans (few-hundred f c l) n) (le_trans (top-most f c l) (most-product f)) h

-- ---- the loop: its start, a turn, its end

pub loop-start : {p : ℕ} {ts : List Term} → Base p ts → 702 ≤ top_of ts
loop-start {ts} b = first_edge ts b.good b.some

module _ {p : ℕ} {ts : List Term} (b : Base p ts) where
  pub loop-holds-at : (c : Chain) {top : ℕ} → top ≡ top_of ts → c ≡ started top → Walked p ts c
  loop-holds-at c e h = rw (h, e) (walked_start p ts b.digits_le b.good b.few b.small b.some)

  module _ (c : Chain) (q : Pass) (h : Walked p ts c) (g : Passed ts c.edge q) where
    pub loop-ready : (p ≤ 64) × Ready c q.lost
    loop-ready = (b.digits_le, walked-ready p ts b.digits_le b.good b.few b.small c q h g)

    pub loop-next : (r : Chain) → Steps p c q (Continue r) → Lower p ts c r
    loop-next r s = walked_next p ts b.digits_le b.good b.few b.small c q h g r s

    module _ (a : ℕ) (l : c.passes < a) where
      pub loop-done : (o : Outcome) → Steps p c q (Break o)
          → SumsWithin p ts a (Ok (record { outcome = o; passes = c.passes + 1; edge = c.edge }))
      loop-done o s =
          let d = walked-done p ts b.digits_le b.good b.few b.small c q h g o s in
          (record { run = d.0; ended = d.1 }, omega (arith, l))

      module _ (r : Chain) (s : Steps p c q (Continue r)) (m : a ≤ r.passes) where
        -- there is room for the passes that are counted up to the allowance
        pub loop-room : 766 * (a - c.passes - 1) ≤ c.edge
        loop-room = (walked-stopped p ts b.digits_le b.good b.few b.small c q h g r s a l m).0

        pub loop-stopped : (x : Stopped) → Stops a c q x → SumsWithin p ts a (Err x)
        loop-stopped x y =
            let w = walked-stopped p ts b.digits_le b.good b.few b.small c q h g r s a l m in
            record {
              stands = rw (y.edge, y.sum, y.boundary) w.1;
              bound = rw y.boundary h.kept.bound;
              edge = omega (arith, y.edge, h.most, b.small);
              small = b.small;
              few = omega (arith, w.0, l, h.most, b.small);
            }
