-- The items of numbers, one by one, and what a total may count on.
use mathlib.Core.Path.{◌≡◌, refl, ap, ◌∙◌, sym}
use mathlib.Core.List.{List, [], ◌∷◌, map}
use Prim.Native.Nat.{ℕ, zero, suc, ◌≤◌, ◌<◌, min}
use native.Mathlib.Nat.{le_of_suc-le-suc, not-suc-le-zero, suc-min-suc}
use native.Mathlib.Omega.{arith}
use lib.ListN.{length, get_or, length-map}
use Rattle.totals_spec.specs.formats.Settings.{Settings, Summand}
use Rattle.totals_spec.specs.terms.Terms.{item, pair_item}
use Rattle.totals_spec.specs.sums.Totals.{limit, pairs}
use Rattle.totals_spec.specs.ten_bytes.Extended.{extended, extended_item, extended_pair}
use Rattle.totals_spec.proofs.formats.KindValues.{list-gives, pairs-give}
use Rattle.totals_spec.proofs.ten_bytes.Terms.{extended-good, extended-good-pairs, extended-top, extended-dot-top}
use Rattle.totals_spec.proofs.terms.GoodTerms.{good-terms, good-pairs}
use Rattle.totals_spec.proofs.ten_bytes.TwoWords.{ieee-give}
use Rattle.totals_spec.proofs.order.Order.{pairs-length}
use Rattle.totals_spec.proofs.terms.HighestAndLowest.{sum_top, dot-top}
use Rattle.format.specs.declared.layout.Layout.{Layout}
use Rattle.format.specs.Layouts.{layout_of}
use Rattle.reduction.specs.Encodings.{of_layout, of_tens, item_in, pair_in}
use Rattle.reduction.specs.Held.{Summable}

pub mapped : {A B : Type 0} (g : A → B) (l : List A) (i : ℕ) (d : A) (e : B) → i < length l → get_or (map g l) i e ≡ g (get_or l i d)
mapped g [] i d e h = absurd (not-suc-le-zero h)
mapped g (x ∷ l) zero d e h = refl
mapped g (x ∷ l) (suc i) d e h = mapped g l i d e (le_of_suc-le-suc h)

-- of the pairs of two lists
module _ {B : Type 0} (g : ℕ × ℕ → B) where
  pub pairs-count : (l r : List ℕ) → length (map g (pairs l r)) ≡ min (length l) (length r)
  pairs-count [] r = omega arith
  pairs-count (x ∷ l) [] = omega arith
  pairs-count (x ∷ l) (y ∷ r) = ap suc (pairs-count l r) ∙ sym (suc-min-suc (length l) (length r))

  pub pairs-mapped : (l r : List ℕ) (i : ℕ) (e : B) → i < length l → i < length r → get_or (map g (pairs l r)) i e ≡ g (get_or l i 0, get_or r i 0)
  pairs-mapped [] r i e h k = absurd (not-suc-le-zero h)
  pairs-mapped (x ∷ l) [] i e h k = absurd (not-suc-le-zero k)
  pairs-mapped (x ∷ l) (y ∷ r) zero e h k = refl
  pairs-mapped (x ∷ l) (y ∷ r) (suc i) e h k = pairs-mapped l r i e (le_of_suc-le-suc h) (le_of_suc-le-suc k)

  pub pairs-many : (l r : List ℕ) → length r ≡ length l → length (map g (pairs l r)) ≡ length l
  pairs-many l r alike = length-map (pairs l r) g ∙ pairs-length l r (sym alike)

-- ---- what can be added up: sums and dots of an offered format

module _ (l : Layout) (c : Settings) where
  pub sum-summable : (u : Summand) (xs : List ℕ) → length xs ≤ limit → Summable (layout_of l) (map (item_in (of_layout l) c u) xs)
  unfolding item
  sum-summable u xs n =
      let f = layout_of l in
      record { good = good-terms f c u xs; few = rw (length-map xs (item f c u)) n; top = sum_top f c u xs; gives = list-gives f c u xs }

  pub dot-summable : (xs ys : List ℕ) → length ys ≡ length xs → length xs ≤ limit
      → Summable (layout_of l) (map (pair_in (of_layout l) c) (pairs xs ys))
  unfolding pair_item
  dot-summable xs ys e n =
      let f = layout_of l in
      record {
        good = good-pairs f c (pairs xs ys);
        few = rw (pairs-many (pair_item f c) xs ys e) n;
        top = dot-top f c xs ys;
        gives = pairs-give f c (pairs xs ys);
      }

-- and of kind 4
module _ (c : Settings) where
  pub tens-summable : (u : Summand) (xs : List ℕ) → length xs ≤ limit → Summable extended (map (item_in of_tens c u) xs)
  unfolding extended_item extended
  tens-summable u xs n = record {
    good = extended-good c u xs;
    few = rw (length-map xs (extended_item c u)) n;
    top = extended-top c u xs;
    gives = ieee-give (map (extended_item c u) xs);
  }

  pub ten-pairs-summable : (xs ys : List ℕ) → length ys ≡ length xs → length xs ≤ limit → Summable extended (map (pair_in of_tens c) (pairs xs ys))
  unfolding extended_pair extended
  ten-pairs-summable xs ys e n = record {
    good = extended-good-pairs c (pairs xs ys);
    few = rw (pairs-many (extended_pair c) xs ys e) n;
    top = extended-dot-top c (pairs xs ys);
    gives = ieee-give (map (extended_pair c) (pairs xs ys));
  }
