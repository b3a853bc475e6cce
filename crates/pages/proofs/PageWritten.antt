-- The refusals of a span of a page test by test, its bytes, its total as the sum of its bytes, and what its entry leaves.
use mathlib.Core.Path.{◌≡◌, refl, sym, ap, ◌∙◌, subst}
use mathlib.Core.Logic.{◌≢◌}
use mathlib.Core.Bool.{Bool, true, false, cond}
use mathlib.Core.List.{List}
use Prim.Native.Nat.{ℕ, ◌+◌, ◌-◌, ◌*◌, ◌%◌, ◌<◌, ◌≤◌}
use native.Mathlib.Omega.{arith}
use lib.Dec.{eqb}
use lib.ListN.{length, take, drop, length-drop}
use lib.Seq.{length-take-le}
use borrow.Author.Tests.{lt-ltb, le-ltb, eq-eqb, ne_eqb}
use Rattle.totals_spec.specs.formats.Format.{Format, binary64}
use Rattle.totals_spec.specs.formats.Settings.{Settings}
use Rattle.totals_spec.specs.sums.Totals.{Answer, refused, sum_answer}
use Rattle.totals_spec.specs.entries.Bytes.{values_in, Entry, entered, sum_entry}
use Rattle.pages_spec.specs.Pages.{page_length, count_in, opens, page_refusal, page_answer, page_entry}
use Rattle.pages_spec.proofs.Pages.{span-accepted}
use Rattle.pages_spec.proofs.PartsOfAPage.{span-bytes, open-parts}
use Rattle.totals_spec.proofs.entries.ValuesInBytes.{from-length}
use Rattle.totals.specs.declared.refusal.Refusal.{Refusal}
use Rattle.totals.specs.declared.refusal.Refusal.TheVariants.{NotAPage, BadSpan}
use Rattle.totals.specs.Entered.{Enters}
use Rattle.totals.specs.Refusal.{number_of, place_of}
use Rattle.pages.specs.Spans.{SpanIn, RefusesSpan}
use Rattle.totals.proofs.Refusals.{number-some}
use Rattle.totals.proofs.Written.{enters-refused}

-- ---- test by test

module _ (page : List ℕ) (start end : ℕ) where
  pub no-page : opens page ≡ false → RefusesSpan page start end NotAPage
  unfolding page_refusal
  no-page o = record { number_is = rw o; placeless = refl }

  module _ (o : opens page ≡ true) where
    pub span-reversed : end < start → RefusesSpan page start end BadSpan
    unfolding page_refusal
    span-reversed h = record { number_is = rw (o, lt-ltb end start h); placeless = refl }

    module _ (a : start ≤ end) where
      pub span-beyond : count_in page < end → RefusesSpan page start end BadSpan
      unfolding page_refusal
      span-beyond h = record { number_is = rw (o, le-ltb end start a, lt-ltb (count_in page) end h); placeless = refl }

      module _ (h : end ≤ count_in page) where
        pub span-few : end ≤ 268435456
        span-few = omega (arith, h, (open-parts page o).few)

        count_long : 8 * count_in page ≤ length page
        count_long = unfold page_length in omega (arith, (open-parts page o).long)

        pub span-long : 8 * end ≤ length page
        span-long = omega (arith, h, count_long)

        -- its bytes
        abbrev part : List ℕ
        part = take (8 * end - 8 * start) (drop (8 * start) page)

        part-even : length part % 8 ≡ 0
        part-even =
            let long = length-take-le (8 * end - 8 * start) (drop (8 * start) page) (omega (arith, length-drop (8 * start) page, span-long)) in
            omega (arith, long)

        pub span_in : SpanIn page start end part
        span_in = record {
          accepted = span-accepted page start end o a (rw (from-length (count_in page) page) h);
          even = part-even;
          values_are = span-bytes (count_in page) start end page a h count_long;
        }

-- ---- its total, and the entry

-- the format of a page is not kind 4
pub binary64-plain : (f : Format) → f ≡ binary64 → f.kind ≢ 4
unfolding binary64
binary64-plain f is h = let e = sym (ap (λ (g : Format). g.kind) is) ∙ h in omega (arith, e)

module _ (c : Settings) (u : ℕ) (page : List ℕ) (start end : ℕ) where
  module _ (bytes : List ℕ) (s : SpanIn page start end bytes) where
    pub span-summed : (f : Format) → f ≡ binary64 → sum_answer f c u (values_in bytes) ≡ page_answer c u page start end
    unfolding page_answer
    span-summed f is = rw (s.accepted, is, s.values_are)

    pub span-enters : (f : Format) → f ≡ binary64 → (old : List ℕ) → 24 ≤ length old → (n : ℕ) (b : List ℕ)
        → Enters (sum_entry f c u bytes old) n b → Enters (page_entry c u page start end old) n b
    span-enters f is old h n b = subst (λ (e : Entry). Enters e n b) same
      where
        same : sum_entry f c u bytes old ≡ page_entry c u page start end old
        same =
            unfold sum_entry in unfold page_entry in
            rw (eq-eqb (length bytes % 8) 0 s.even, le-ltb (length old) 24 h) (ap (λ (a : Answer). entered a old) (span-summed f is))

  module _ (r : Refusal) (k : RefusesSpan page start end r) where
    pub span-refused : refused (number_of r) (place_of r) ≡ page_answer c u page start end
    unfolding page_answer
    span-refused = rw (k.placeless, sym k.number_is, ne_eqb (number_of r) 0 (number-some r)) (go (eqb (number_of r) 7))
      where
        go : (b : Bool) → refused (number_of r) 0 ≡ refused (number_of r) (cond b 0 0)
        go true = refl
        go false = refl

  module _ (old : List ℕ) where
    pub page-short : length old < 24 → Enters (page_entry c u page start end old) 2 old
    unfolding page_entry
    page-short h = rw (lt-ltb (length old) 24 h) (record { code_is = refl; buffer-is = refl })

    pub page-refused : 24 ≤ length old → (r : Refusal) → RefusesSpan page start end r → Enters (page_entry c u page start end old) (number_of r) old
    unfolding page_entry
    page-refused h r k =
        rw (le-ltb (length old) 24 h, ← span-refused r k, k.placeless) (rw code at (enters-refused (refused (number_of r) 0) old (number-some r)))
      where
        code : number_of r + 256 * 0 ≡ number_of r
        code = omega arith
