-- The total of a list of items: what its scan and its chain ask and tell; and the totals of numbers in the definitions' words.
use Rattle.std.proofs.Common.{◌≡◌, refl, ap, ◌∙◌, ℕ, Bool, false, List, [], ◌∷◌, map, ◌≤◌, zero-le, subst, arith}
use Rattle.std.specs.Prelude.{Option, Some, None, Ok, Err}
use Rattle.totals_spec.specs.formats.Format as spec
use Rattle.totals_spec.specs.formats.Settings as env
use Rattle.totals_spec.specs.formats.Bounds.{SettingsBounds}
use Rattle.totals_spec.specs.formats.KindValues.{Alone}
use Rattle.totals_spec.specs.formats.Decode.{decode}
use Rattle.totals_spec.specs.terms.Terms.{Item, item, pair_item, terms, top_of}
use Rattle.totals_spec.specs.sums.Totals as totals
use Rattle.totals_spec.specs.ten_bytes.Extended.{both_of}
use Rattle.totals_spec.specs.chain.Settled.{settled, chain_total}
use Rattle.totals_spec.proofs.chain.ByChain.{finite-by-chain}
use Rattle.format.specs.declared.shape.Shape.{Shape}
use Rattle.format.specs.declared.layout.Layout.{Layout}
use Rattle.format.specs.Shapes.{shape_of}
use Rattle.format.specs.Layouts.{layout_of}
use Rattle.format.specs.Unpacked.{unpacked_of}
use Rattle.format.specs.Fits.{Encodes}
use Rattle.format.proofs.Shapes.{range_bounds}
use Rattle.reduction.specs.declared.scan.Scan.{Scan}
use Rattle.reduction.specs.declared.scan.Given.{Given}
use Rattle.reduction.specs.Scan.{Decides}
use Rattle.reduction.specs.Encodings.{of_layout}
use Rattle.window.specs.declared.ExactSum.{ExactSum}
use Rattle.window.specs.declared.Stopped.{Stopped}
use Rattle.window.specs.Chain.{outcome_of, run_of}
use Rattle.reduction.specs.declared.total.Wide.{Wide}
use Rattle.reduction.specs.Held.{Base, Summable, SumsWithin}
use Rattle.reduction.specs.Answered.{wide, answer_as, given_as}
use Rattle.reduction.proofs.Loop.{summable-base, summable-few}
use Rattle.reduction.proofs.Reduce.{given, given_is, top-is, chain-passes, finish-is}
use Rattle.totals.specs.Walked.{Scans, Totals, sum_in, dot_in}

module _ (s : Shape) (c : env.Settings) (products first : Bool) (l : List Item) (n : Scan) (d : Option Given) (h : Decides d c first n) where
  abbrev f : spec.Format
  f = shape_of s

  -- where the scan decides
  module _ (v : Given) (is : d ≡ Some v) where
    pub early-asks : Summable f l → Scans f c l n → Encodes f (unpacked_of v.value) × Alone (spec.kind_of f.kind) (unpacked_of v.value)
    early-asks a g = let t = given g.gathered products first d h v is in (t.encodes, t.alone a.gives)

    pub early-told : (a : ℕ) (r : Wide) → answer_as (wide f) r ≡ given_as (wide f) (totals.special f n.subnormal (unpacked_of v.value) v.invalid)
        → Totals f c products first l a n (Ok r)
    unfolding totals.special
    early-told a r t sub sig ops g =
        let e = given_is g products first d h v is _ refl in
        (t ∙ ap (given_as (wide f)) e, subst (λ (x : totals.Answer). x.passes ≤ a) e zero-le)

  -- and where it leaves terms
  module _ (is : d ≡ None) (a : Summable f l) where
    pub exact-asks : Scans f c l n → {p : ℕ} → p ≡ spec.digits f → Base p (terms l) × (n.top ≡ top_of (terms l))
    exact-asks g {p} e =
        let b = range_bounds s in
        let t = top-is g.gathered products first d h is in
        (summable-base {p = p} (omega (arith, b.w-ge, b.p-le, e)) f b l a (rw t.0 at t.1), t.0)

    -- the chain is that of the definitions
    by-chain : SettingsBounds f c → (sub : Bool) → chain_total f c sub products false (terms l) ≡ totals.finite_total f c sub products false (terms l)
    by-chain k sub = finite-by-chain f c sub products false (terms l) (range_bounds s) k a.good (summable-few f l a)

    pub end-told : SettingsBounds f c → (n₀ : ℕ) (e : ExactSum) → SumsWithin (spec.digits f) (terms l) n₀ (Ok e) → (r : Wide)
        → answer_as (wide f) r
        ≡ given_as (wide f)
        (totals.reported f n.subnormal products (totals.on_grid f products (settled (outcome_of e)))
        (totals.sum_rounded f c (spec.grid f products) (totals.towards_negative c) (totals.on_grid f products (settled (outcome_of e)))) (run_of e))
        → Totals f c products first l n₀ n (Ok r)
    end-told k n₀ e m r t sub sig ops g = (
      t ∙ ap (given_as (wide f)) (finish-is g products first d h is e m.0.run (by-chain k sub) _ refl),
      rw (chain-passes g products first d h is (by-chain k sub), ← m.0.run) m.1,
    )

    pub stopped-told : SettingsBounds f c → (n₀ : ℕ) (x : Stopped) → SumsWithin (spec.digits f) (terms l) n₀ (Err x) → Totals f c products first l n₀ n (Err x)
    stopped-told k n₀ x m sub sig ops g = (m, chain-passes g products first d h is (by-chain k sub))

-- ---- the totals of numbers of an offered format

both-operands : (f : spec.Format) (l : List (ℕ × ℕ)) → map (decode f) (both_of l) ≡ totals.operands f l
both-operands f [] = refl
both-operands f (x ∷ l) = ap (λ r. decode f x.0 ∷ decode f x.1 ∷ r) (both-operands f l)

module _ (l : Layout) (c : env.Settings) where
  pub sum-is : (u : env.Summand) (xs : List ℕ) → sum_in (of_layout l) c u xs ≡ totals.sum_accepted (layout_of l) c u xs
  unfolding totals.sum_accepted item
  sum-is u xs = refl

  pub dot-is : (ps : List (ℕ × ℕ)) → dot_in (of_layout l) c ps ≡ totals.dot_accepted (layout_of l) c ps
  unfolding totals.dot_accepted pair_item
  dot-is ps = rw (both-operands (layout_of l) ps) refl
