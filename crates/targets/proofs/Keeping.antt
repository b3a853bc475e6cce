-- What is kept of a plain sum, by the scan of its values.
use Rattle.std.proofs.Common.{◌≡◌, ◌≢◌, sym, ◌∙◌, subst, ℕ, true, false, List, [], ◌∷◌, map, length, ◌<◌, arith, true≢false}
use Rattle.std.specs.Prelude.{Option, Some, None}
use Rattle.totals_spec.specs.formats.Format as spec
use Rattle.totals_spec.specs.formats.Settings.{Settings, value}
use Rattle.totals_spec.specs.terms.Terms.{Term, item, terms, top_of}
use Rattle.totals_spec.specs.sums.Totals.{sum_terms}
use Rattle.format.specs.declared.layout.Layout.{Layout}
use Rattle.format.specs.Layouts.{layout_of}
use Rattle.reduction.specs.declared.scan.Scan.{Scan}
use Rattle.reduction.specs.Scan.{Scanned}
use Rattle.reduction.specs.Encodings.{of_layout, item_in, ScannedAs}
use Rattle.window.specs.declared.ExactSum.{ExactSum}
use Rattle.reduction.specs.Held.{Sums}
use Rattle.targets.specs.declared.kept.Kept.{Kept}
use Rattle.totals.specs.Walked.{met}
use Rattle.totals.proofs.ScanTold.{scanned, special-is}
use Rattle.targets.specs.Kept.{KeepsSum, Keeps}

-- ---- what is kept, by whether there is a sum

module _ (f : spec.Format) (c : Settings) (l : List ℕ) (k : Kept) (h : Keeps f c l k) where
  pub kept-sum : (e : ExactSum) → k.sum ≡ Some e → (met k.scan ≡ false) × (0 < length (sum_terms f c value l)) × Sums (spec.digits f) (sum_terms f c value l) e
  kept-sum e is = subst (λ (o : Option ExactSum). KeepsSum o (met k.scan) (spec.digits f) (sum_terms f c value l)) is h.sum

  pub kept-none : k.sum ≡ None → met k.scan ≡ false → sum_terms f c value l ≡ []
  kept-none is = subst (λ (o : Option ExactSum). KeepsSum o (met k.scan) (spec.digits f) (sum_terms f c value l)) is h.sum

-- ---- what is to be kept, by the scan

some-term : (ts : List Term) (n : ℕ) → n ≡ top_of ts → n ≢ 0 → 0 < length ts
unfolding top_of
some-term [] n e h = absurd (h e)
some-term (x ∷ ts) n e h = omega arith

module _ (l : Layout) (c : Settings) (xs : List ℕ) (s : Scan) (g : ScannedAs (of_layout l) c value xs s) where
  abbrev f : spec.Format
  f = layout_of l

  gathered : Scanned f c value xs s
  gathered = scanned l c xs s g

  keeping : (sum : Option ExactSum) → KeepsSum sum (met s) (spec.digits f) (sum_terms f c value xs) → Keeps f c xs (record { scan = s; sum = sum })
  keeping sum k = record {
    subnormal = gathered.subnormal;
    positive-zero = gathered.positive-zero;
    negative-zero = gathered.negative-zero;
    special = special-is l c xs s g;
    sum = k;
  }

  pub keeps-special : met s ≡ true → Keeps f c xs (record { scan = s; sum = None })
  keeps-special e = keeping None (λ n. absurd (true≢false (sym e ∙ n)))

  pub keeps-none : s.top ≡ 0 → Keeps f c xs (record { scan = s; sum = None })
  keeps-none z = keeping None (λ n. gathered.no-term z)

  module _ (some : s.top ≢ 0) where
    pub keeps-sum : met s ≡ false → (e : ExactSum) → Sums (spec.digits f) (terms (map (item_in (of_layout l) c value) xs)) e
        → Keeps f c xs (record { scan = s; sum = Some e })
    unfolding item
    keeps-sum n e m = keeping (Some e) (n, some-term _ s.top gathered.top some, m)
