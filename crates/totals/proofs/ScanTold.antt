-- What the scan of a plain sum tells: whether a NaN or an infinity is met, the room above T, and what the chain asks.
use Rattle.std.proofs.Common.{◌≡◌, ◌≢◌, sym, ◌∙◌, ℕ, List, map, length, ◌+◌, ◌^◌, ◌<◌, ◌≤◌, arith}
use Rattle.totals_spec.specs.Basics.{any}
use Rattle.totals_spec.specs.formats.Format as spec
use Rattle.totals_spec.specs.formats.Settings.{Settings, value}
use Rattle.totals_spec.specs.terms.Terms.{item, terms, top_of}
use Rattle.totals_spec.specs.sums.Totals.{limit}
use Rattle.totals_spec.specs.pence.Pence.{not_number}
use Rattle.totals_spec.proofs.pence.PenceOfLists.{odd-items}
use Rattle.totals_spec.proofs.terms.HighestAndLowest.{sum_top}
use Rattle.format.specs.declared.layout.Layout.{Layout}
use Rattle.format.specs.Layouts.{layout_of}
use Rattle.format.proofs.Layouts.{layout_bounds}
use Rattle.reduction.specs.declared.scan.Scan.{Scan}
use Rattle.reduction.specs.Scan.{Scanned}
use Rattle.reduction.specs.Encodings.{of_layout, item_in, ScannedAs}
use Rattle.reduction.specs.Held.{Base}
use Rattle.reduction.proofs.Items.{sum-summable}
use Rattle.reduction.proofs.Loop.{summable-base, top_small}
use Rattle.totals.specs.Walked.{met}

module _ (l : Layout) (c : Settings) (xs : List ℕ) (s : Scan) (g : ScannedAs (of_layout l) c value xs s) where
  abbrev f : spec.Format
  f = layout_of l

  pub scanned : Scanned f c value xs s
  unfolding item
  scanned = g

  -- there is room above T for seven bits more
  pub top-room : s.top + 7 < 2 ^ 64
  top-room = omega (arith, top_small f {t = s.top + 7} (layout_bounds l).range (omega (arith, scanned.top, sum_top f c value xs)))

  pub special-is : any (not_number f) xs ≡ met s
  special-is = odd-items f c xs ∙ sym (rw (scanned.some, scanned.positive-infinity, scanned.negative-infinity))

  module _ (some : s.top ≢ 0) where
    pub exact-asks : length xs ≤ limit → {p : ℕ} → p ≡ spec.digits f
        → Base p (terms (map (item_in (of_layout l) c value) xs)) × (s.top ≡ top_of (terms (map (item_in (of_layout l) c value) xs)))
    exact-asks n {p} e =
        let b = (layout_bounds l).range in
        (summable-base {p = p} (omega (arith, b.w-ge, b.p-le, e)) f b _ (sum-summable l c value xs n) (omega (arith, g.top, some)), g.top)
