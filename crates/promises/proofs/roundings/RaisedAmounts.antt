-- Raising an amount never lowers the total.
use mathlib.Core.Path.{◌≡◌, ap}
use mathlib.Core.Bool.{false}
use mathlib.Core.List.{List, [], ◌∷◌, map}
use Prim.Native.Nat.{ℕ, ◌+◌, ◌^◌, ◌≤◌}
use native.Mathlib.Nat.{le_refl, add-mul, mul-le-mul_right}
use native.Mathlib.Omega.{arith}
use lib.Dec.{leb→le}
use Rattle.totals_spec.specs.Basics.{Signed, total, plus_of, minus_of, is_set}
use Rattle.totals_spec.specs.formats.Format.{Format, room, kind_of}
use Rattle.totals_spec.specs.formats.Settings.{Settings, value}
use Rattle.totals_spec.specs.formats.Decode.{decode}
use Rattle.totals_spec.specs.formats.Ordered.{worth}
use Rattle.totals_spec.specs.sums.Totals.{sum_terms}
use Rattle.totals_spec.proofs.refusals.AcceptedCalls.{sum-accepts}
use Rattle.figures_spec.proofs.ranges.SumsOfFigures.{plus-values, minus-values}
use Rattle.totals_spec.proofs.formats.Valid.{precision-least, precision-most}
use Rattle.targets_spec.proofs.contribution.Ranks.{rank-ordered}
use Rattle.targets_spec.proofs.contribution.SumRises.{AtMost, rank_rises, sum-whole-result}
use Rattle.promises.specs.Amounts.{AllAtMost, Total-rises}

module _ (f : Format) where
  abbrev values : List ℕ → List Signed
  values l = map (λ b. worth (decode f b)) l

  apart : (l k : List ℕ) → AllAtMost f l k
      → total plus_of (values l) + total minus_of (values k) ≤ total plus_of (values k) + total minus_of (values l)
  apart [] [] h = le_refl 0
  apart [] (b ∷ k) h = absurd h
  apart (a ∷ l) [] h = absurd h
  apart (a ∷ l) (b ∷ k) h = omega (arith, leb→le _ _ h.0, apart l k h.1)

  at-most : (c : Settings) → is_set c.denormals_are_zero ≡ false → (l k : List ℕ) → AllAtMost f l k → AtMost (sum_terms f c value l) (sum_terms f c value k)
  at-most c d l k h =
      rw (plus-values f c d l, plus-values f c d k, minus-values f c d l, minus-values f c d k)
      (rw (← (add-mul (total plus_of (values l)) (total minus_of (values k)) (2 ^ room)), ← (add-mul (total plus_of (values k)) (total minus_of (values l)) (2 ^ room)))
      (mul-le-mul_right (2 ^ room) (apart l k h)))

pub total-rises : Total-rises
total-rises f c l k kind u d r h r' h' le =
    let a = sum-accepts f c 0 l r in
    let b = a.format.range in
    let e = ap kind_of kind in
    let q0 = precision-least f c b in
    let qp = precision-most f c a.settings in
    (rank-ordered f b e _ _ (sum-whole-result f b e c u q0 qp l r h) (sum-whole-result f b e c u q0 qp k r' h')).0
    (rank_rises f b e c u q0 qp l k r h r' h' (at-most f c (ap is_set d) l k le))
