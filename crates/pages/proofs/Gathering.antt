-- What is seen of a group, one value more at a time; with the lowest bit it is the summary.
use mathlib.Core.Path.{◌≡◌, refl, sym, ap, ap₂, ◌∙◌, subst}
use mathlib.Core.Logic.{◌≢◌}
use mathlib.Core.Bool.{Bool, true, false, ◌||◌, or-true, or-false}
use mathlib.Core.List.{List, [], ◌∷◌, ◌++◌, map-append}
use Prim.Native.Nat.{ℕ, suc, ◌+◌, ◌-◌, ◌*◌, ◌%◌, ◌≤◌, ◌<◌, max, zero-le, suc-le-suc}
use native.Mathlib.Nat.{le_trans, max-zero}
use native.Mathlib.Omega.{arith}
use lib.ListN.{length, take, get_or}
use lib.Seq.{take-suc}
use Rattle.totals_spec.specs.Basics.{flag, any, greatest, least}
use Rattle.totals_spec.specs.entries.Bytes.{to_bytes}
use Rattle.totals_spec.specs.formats.Decode.{Unpacked, operand}
use Rattle.totals_spec.specs.formats.Format.{Format, binary64}
use Rattle.totals_spec.specs.chain.Limit.{low_of, bottom_of}
use Rattle.pages_spec.specs.Pages.{class_of, page_items}
use Rattle.totals_spec.specs.formats.Settings.{Settings, no_settings, value}
use Rattle.totals_spec.specs.terms.Terms.{Item, nan_item, invalid_item, infinite, zero_item, term}
use Rattle.totals_spec.specs.terms.Terms.{item_of as item_of_value}
use Rattle.totals_spec.specs.terms.Terms.{Term, item, is_nan_item, is_infinite, is_zero, term_of, terms, top_of, top_of_term}
use Rattle.totals_spec.proofs.sums.FiniteLists.{or-mix}
use Rattle.totals_spec.proofs.terms.GoodTerms.{AllGood, good-terms}
use Rattle.pages_spec.proofs.PartsOfAPage.{position-word, summary-word, summary-zero}
use Rattle.totals_spec.proofs.terms.HighestAndLowest.{single-sum-top, top-high}
use Rattle.totals_spec.proofs.lists.FirstElements.{any_append, greatest-append, least-le, picked-append}
use Rattle.binary.specs.declared.term.Item as code
use Rattle.binary.specs.declared.term.Item.TheVariants as variant
use Rattle.binary.specs.Terms.{item_of}
use Rattle.pages.specs.declared.Content.{Content}
use Rattle.pages.specs.Paged.{seen_among, seen_of, both, Summarized}

-- ---- one value more

either-append : (p q : Item → Bool) (l m : List Item) → (any p (l ++ m) || any q (l ++ m)) ≡ ((any p l || any q l) || (any p m || any q m))
either-append p q l m = ap₂ ◌||◌ (any_append p l m) (any_append q l m) ∙ or-mix (any p l) (any p m) (any q l) (any q m)

among-append : (l m : List Item) → seen_among (l ++ m) ≡ both (seen_among l) (seen_among m)
unfolding top_of
among-append l m = λ j. record {
  top = (ap (greatest top_of_term) (picked-append term_of l m) ∙ greatest-append top_of_term (terms l) (terms m)) j;
  nan = any_append is_nan_item l m j;
  infinite = either-append (is_infinite false) (is_infinite true) l m j;
  zero = either-append (is_zero false) (is_zero true) l m j;
}

-- the first i values, and one more
pub seen_next : (l : List ℕ) (i : ℕ) → i < length l → seen_of (take (suc i) l) ≡ both (seen_of (take i l)) (seen_of (get_or l i 0 ∷ []))
seen_next l i h =
    ap seen_of (take-suc l i 0 h) ∙ ap seen_among (map-append (item binary64 no_settings value) (take i l) (get_or l i 0 ∷ []))
    ∙ among-append (page_items (take i l)) (page_items (get_or l i 0 ∷ []))

-- what a program sets for an item
abbrev pub also : code.Item → Content → Content
also variant.Nan s = record { top = s.top; nan = true; infinite = s.infinite; zero = s.zero }
also variant.Invalid s = s
also (variant.Infinite b) s = record { top = s.top; nan = s.nan; infinite = true; zero = s.zero }
also (variant.Zero b) s = record { top = s.top; nan = s.nan; infinite = s.infinite; zero = true }
also (variant.Top n) s = record { top = max s.top n; nan = s.nan; infinite = s.infinite; zero = s.zero }

pub also-is : (i : Item) (s : Content) → also (item_of i) s ≡ both s (seen_among (i ∷ []))
unfolding top_of
also-is nan_item s = rw (max-zero s.top, or-true s.nan, or-false s.infinite, or-false s.zero)
also-is invalid_item s = rw (max-zero s.top, or-false s.nan, or-false s.infinite, or-false s.zero)
also-is (infinite true) s = rw (max-zero s.top, or-false s.nan, or-true s.infinite, or-false s.zero)
also-is (infinite false) s = rw (max-zero s.top, or-false s.nan, or-true s.infinite, or-false s.zero)
also-is (zero_item true) s = rw (max-zero s.top, or-false s.nan, or-false s.infinite, or-true s.zero)
also-is (zero_item false) s = rw (max-zero s.top, or-false s.nan, or-false s.infinite, or-true s.zero)
also-is (term t) s = rw (max-zero t.top, or-false s.nan, or-false s.infinite, or-false s.zero)

-- a value's item, as a program reads it
pub also-value : (x : ℕ) (s : Content) {f : Format} {c : Settings} {v : Unpacked} {i : code.Item} → f ≡ binary64 → c ≡ no_settings → v ≡ operand f c x
    → i ≡ item_of (item_of_value value v) → also i s ≡ both s (seen_of (x ∷ []))
unfolding item
also-value x s a b d e = ap (λ (i : code.Item). also i s) (e ∙ rw (d, a, b)) ∙ also-is (item binary64 no_settings value x) s

-- ---- the summary

-- a term lies above position 0
no-term : (ts : List Term) → AllGood ts → top_of ts ≡ 0 → ts ≡ []
unfolding top_of
no-term [] g e = refl
no-term (t ∷ ts) g e = absurd (none t.top (greatest top_of_term ts) (top-high t g.0) e)
  where
    none : (m n : ℕ) → 1024 ≤ m → max m n ≡ 0 → ⊥
    none m n h e = omega (arith, h, e)

module _ (l : List ℕ) (s : Content) (g : s ≡ seen_of l) where
  abbrev ts : List Term
  ts = terms (page_items l)

  highest : s.top ≡ top_of ts
  highest = ap (λ (s : Content). s.top) g

  pub top-most : s.top ≤ 3122
  unfolding binary64
  top-most = subst (λ (n : ℕ). n ≤ 3122) (sym highest) (single-sum-top binary64 no_settings value tt l)

  -- three flags are the class
  module _ (a b d : ℕ) (e₁ : a ≡ flag 1 s.nan) (e₂ : b ≡ flag 2 s.infinite) (e₃ : d ≡ flag 4 s.zero) where
    class-is : a + b + d ≡ class_of (page_items l)
    unfolding class_of
    class-is = ap₂ ◌+◌ (ap₂ ◌+◌ e₁ e₂) e₃ ∙ ap (λ (s : Content). flag 1 s.nan + flag 2 s.infinite + flag 4 s.zero) g

    module _ (less : a + b + d < 8) where
      pub without-term : s.top ≡ 0 → Summarized l (record { extent = 0; class = a + b + d })
      without-term z = record {
        bytes = ap (λ (k : ℕ). to_bytes 8 0 ++ to_bytes 4 k) class-is ∙ summary-zero l (no-term ts (good-terms binary64 no_settings value l) (sym highest ∙ z));
        class-less = less;
      }

      pub with-term : s.top ≢ 0 → (bottom h o : ℕ) → bottom ≡ least s.top low_of ts → h ≡ (4294967296 + s.top - 2098) % 4294967296
          → o ≡ (4294967296 + bottom - 2098) % 4294967296 → Summarized l (record { extent = h + 4294967296 * o; class = a + b + d })
      with-term some bottom h o eb eh eo = record {
        bytes =
            ap (λ (k : ℕ). to_bytes 8 (h + 4294967296 * o) ++ to_bytes 4 k) class-is
            ∙ summary-word l h o (omega (arith, eh)) (there ts (λ e. some (highest ∙ e)))
            (position-word (top_of ts) h (eh ∙ ap (λ (n : ℕ). (4294967296 + n - 2098) % 4294967296) highest))
            (position-word (bottom_of ts) o (eo ∙ ap (λ (n : ℕ). (4294967296 + n - 2098) % 4294967296) lowest));
        class-less = less;
      }
        where
          lowest : bottom ≡ bottom_of ts
          lowest = unfold bottom_of in eb ∙ ap (λ (m : ℕ). least m low_of ts) highest

          there : (ts : List Term) → top_of ts ≢ 0 → 0 < length ts
          there [] k = absurd (k (unfold top_of in refl))
          there (t ∷ ts) k = suc-le-suc zero-le

  pub bottom-most : (bottom : ℕ) → bottom ≡ least s.top low_of ts → bottom ≤ 3122
  bottom-most bottom e = le_trans (subst (λ (n : ℕ). n ≤ s.top) (sym e) (least-le s.top low_of ts)) top-most
