-- The order of a range's entries does not matter: the two plain sums are those of rearranged lists.
use mathlib.Core.Path.{◌≡◌, refl, sym, ◌∙◌}
use mathlib.Core.Bool.{◌&&◌, false, not, ◌||◌, true}
use mathlib.Core.List.{[], List, ◌∷◌, map, Permᴰ}
use Prim.Native.Nat.{ℕ, ◌≤◌}
use lib.Dec.{T, eqb, eqb→eq}
use borrow.Author.Tests.{eq-eqb}
use lib.ListN.{length, length-map}
use Rattle.totals_spec.specs.formats.Format.{binary64}
use Rattle.totals_spec.specs.formats.Decode.{Unpacked, zero_of, finite, infinity, nan, is_nan}
use Rattle.totals_spec.specs.formats.Decode.{is_number, decode}
use Rattle.totals_spec.specs.order.Rearranged.{holds_nan}
use Rattle.totals_spec.specs.sums.Totals.{stray, limit, sum_answer}
use Rattle.totals_spec.specs.formats.Settings.{with_rounding, valid_settings}
use Rattle.totals_spec.proofs.formats.Valid.{and_left, and_right}
use Rattle.totals_spec.proofs.order.Rearrangements.{map-perm, any-perm, length-perm, perm-of-counts}
use Rattle.totals_spec.proofs.order.Order.{sum-perm}
use Rattle.figures_spec.specs.ranges.Allowed.{same_triple}
use Rattle.figures_spec.specs.ranges.Ranges.{Amount, triples, entry_of, entries, low_of, high_of}
use Rattle.figures_spec.specs.ranges.Ranges.{good_amount, range_refusal, lower_total, upper_total}
use Rattle.figures_spec.specs.ranges.Ranges.{range_answer}
use Rattle.figures_spec.specs.ranges.Promises.{Range-order}
use Rattle.figures_spec.proofs.ranges.SumsOfFigures.{AllFigures, accepted, mode-4, mode-3}
use Rattle.figures_spec.proofs.ranges.Refused.{triples-length}
use Rattle.figures_spec.proofs.ranges.NarrowestPair.{Accepts, accepts, lows, highs}

-- ---- entries

triple-sound : (r s : ℕ × ℕ × ℕ) → T (same_triple r s) → r ≡ s
triple-sound r s t =
    let a = and_left (eqb r.0 s.0 && eqb r.1 s.1) (eqb r.2 s.2) t in
    let x = eqb→eq r.0 s.0 (and_left (eqb r.0 s.0) (eqb r.1 s.1) a) in
    let y = eqb→eq r.1 s.1 (and_right (eqb r.0 s.0) (eqb r.1 s.1) a) in
    let z = eqb→eq r.2 s.2 (and_right (eqb r.0 s.0 && eqb r.1 s.1) (eqb r.2 s.2) t) in
    λ i. (x i, y i, z i)

triple-alike : (r : ℕ × ℕ × ℕ) → T (same_triple r r)
triple-alike r = rw (eq-eqb r.0 r.0 refl, eq-eqb r.1 r.1 refl, eq-eqb r.2 r.2 refl) tt

-- ---- finite figures hold no NaN

no_nan : (l : List ℕ) → AllFigures l → holds_nan binary64 l ≡ false
no_nan [] h = refl
no_nan (b ∷ l) h = go (decode binary64 b) (and_right (not (stray binary64 b)) _ h.0) (no_nan l h.1)
  where
    go : (v : Unpacked) → T (is_number v) → holds_nan binary64 l ≡ false → (is_nan v || holds_nan binary64 l) ≡ false
    go (zero_of s) t e = e
    go (finite s k m) t e = e
    go (infinity s) t e = absurd t
    go (nan s g m) t e = absurd t

-- the result of the plain sum of rearranged figures
sums : (m : ℕ) → valid_settings binary64 (with_rounding m) ≡ true → (h : Amount → ℕ) {l l' : List Amount} → Permᴰ l l'
    → AllFigures (map h l) → length l ≤ limit
    → sum_answer binary64 (with_rounding m) 0 (map h l) ≡ sum_answer binary64 (with_rounding m) 0 (map h l')
sums m mode h {l} d figures few =
    sum-perm binary64 (with_rounding m) 0 (map-perm h d) (accepted m mode (map h l) figures (rw (length-map l h) few)) (no_nan (map h l) figures)

-- ---- THE ORDER

module _ (ts xs ys ts' xs' ys' : List ℕ) (z : ℕ) (e : length ts' ≡ length xs') (k : length ts' ≡ length ys')
    (d : Permᴰ (triples ts xs ys) (triples ts' xs' ys')) (r : range_refusal ts xs ys z ≡ 0) where
  h : Accepts ts xs ys z
  h = accepts ts xs ys z r

  rearranged : Permᴰ (entries ts xs ys) (entries ts' xs' ys')
  rearranged = map-perm entry_of d

  as_many : length ts ≡ length ts'
  as_many = sym (triples-length ts xs ys h.firsts h.seconds) ∙ length-perm d ∙ triples-length ts' xs' ys' e k

  refusals : range_refusal ts xs ys z ≡ range_refusal ts' xs' ys' z
  unfolding range_refusal
  refusals = cc (as_many, h.firsts, h.seconds, e, k, any-perm (λ a. not (good_amount a)) rearranged)

  answers : range_answer ts xs ys z ≡ range_answer ts' xs' ys' z
  unfolding range_answer lower_total upper_total
  answers =
      let l = entries ts xs ys in
      cc (
        refusals,
        sums 4 mode-4 low_of rearranged (lows z l h.each) h.few,
        sums 3 mode-3 (high_of z) rearranged (highs z l h.each) h.few,
      )

pub range-order : Range-order
range-order ts xs ys ts' xs' ys' z e k h r =
    let d = perm-of-counts same_triple triple-sound triple-alike (triples ts xs ys) (triples ts' xs' ys') h in
    (sym (refusals ts xs ys ts' xs' ys' z e k d r) ∙ r, answers ts xs ys ts' xs' ys' z e k d r)
