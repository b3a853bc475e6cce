-- T of the terms, a hundred times each, lies 7 positions above T of the list's own, since 100 has 7
-- bits: the scan of a list finds both.
use mathlib.Core.List.{[], List, ◌∷◌}
use Prim.Native.Nat.{ℕ, zero, suc, ◌+◌, ◌-◌, ◌<◌, max, ◌≤◌}
use mathlib.Core.Path.{◌≡◌, refl, sym, ap, ◌∙◌, ap₂}
use lib.Ieee.{size, span, climb}
use native.Mathlib.Omega.{arith}
use Rattle.totals_spec.specs.Basics.{greatest, keep}
use Rattle.totals_spec.specs.formats.Format.{Format, room}
use Rattle.totals_spec.specs.formats.Settings.{Settings, value}
use Rattle.totals_spec.specs.formats.Decode.{Unpacked, zero_of, finite, infinity, nan, operand}
use Rattle.totals_spec.specs.terms.Terms.{Term, single, product, item, item_of, term_of}
use Rattle.totals_spec.specs.terms.Terms.{top_of_term, top_of}
use Rattle.totals_spec.specs.sums.Totals.{sum_terms}
use Rattle.totals_spec.specs.pence.Hundredfold.{hundred_of, hundred_item, hundred_terms}
use Rattle.totals_spec.proofs.terms.HighestAndLowest.{top_most, single-sum-top}

-- 7 more, where there is a term at all
abbrev pub raised_top : ℕ → ℕ
raised_top zero = 0
raised_top (suc t) = suc t + 7

seven : size 100 ≡ 7
unfolding size span climb
seven = refl

-- a term's position t, and the greatest r behind it
max-raised : (t r : ℕ) → 0 < t → max (t + 7) (raised_top r) ≡ raised_top (max t r)
max-raised zero r h = absurd (let z : ⊥ = omega arith in z)
max-raised (suc t) zero h = omega arith ∙ ap raised_top (sym top)
  where
    top : max (suc t) 0 ≡ suc t
    top = omega arith
max-raised (suc t) (suc r) h = by (max (suc t) (suc r)) refl
  where
    by : (n : ℕ) → max (suc t) (suc r) ≡ n → max (suc t + 7) (suc r + 7) ≡ raised_top n
    by zero e = absurd (let z : ⊥ = omega (arith, e) in z)
    by (suc n) e = omega (arith, e)

pub top-hundred : (f : Format) (c : Settings) (l : List ℕ) → top_of (hundred_terms f c l) ≡ raised_top (top_of (sum_terms f c value l))
unfolding top_of hundred_item item product single
top-hundred f c [] = refl
top-hundred f c (b ∷ l) = go (operand f c b) (hundred_terms f c l) (sum_terms f c value l) (top-hundred f c l)
  where
    up : (z k r : ℕ) → 0 < r → z + 7 + k + 0 + r - 1 ≡ z + k + r - 1 + 7
    up z k r h = omega arith

    some : (z k r : ℕ) → 1 < r → 0 < z + k + r - 1
    some z k r h = omega arith

    go : (x : Unpacked) (hs ts : List Term) → greatest top_of_term hs ≡ raised_top (greatest top_of_term ts)
        → greatest top_of_term (keep (term_of (hundred_of x)) hs) ≡ raised_top (greatest top_of_term (keep (term_of (item_of value x)) ts))
    go (zero_of s) hs ts h = h
    go (finite s k m) hs ts h =
        ap₂ max (ap (λ (z : ℕ). size m + z + k + 0 + room - 1) seven ∙ up (size m) k room (omega arith)) h
        ∙ max-raised (size m + k + room - 1) (greatest top_of_term ts) (some (size m) k room (omega arith))
    go (infinity s) hs ts h = h
    go (nan s g m) hs ts h = h

module _ (f : Format) (c : Settings) (l : List ℕ) where
  -- where the scan finds a term
  pub top-some : 0 < top_of (sum_terms f c value l) → top_of (hundred_terms f c l) ≡ top_of (sum_terms f c value l) + 7
  top-some h = top-hundred f c l ∙ raised (top_of (sum_terms f c value l)) h
    where
      raised : (t : ℕ) → 0 < t → raised_top t ≡ t + 7
      raised zero k = absurd (let z : ⊥ = omega arith in z)
      raised (suc t) k = refl

  pub top-most : top_of (hundred_terms f c l) ≤ top_most f + 7
  top-most = rw (top-hundred f c l) (within (top_of (sum_terms f c value l)) (single-sum-top f c value tt l))
    where
      within : (t : ℕ) → t ≤ top_most f → raised_top t ≤ top_most f + 7
      within zero h = omega arith
      within (suc t) h = omega (arith, h)
