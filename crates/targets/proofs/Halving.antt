-- The search for the least rank with which a sum reaches a wanted total, step by step.
use Rattle.std.proofs.Common.{◌≡◌, sym, ap, ◌∙◌, ℕ, suc, true, false, ◌&&◌, cond, List, ◌∷◌, [], ◌++◌, ◌+◌, ◌<◌, ◌≤◌, ◌^◌, ◌-◌, arith}
use native.Mathlib.Nat.{le_refl, le_trans, lt_of_le_of_lt, pow-le-pow_right}
use lib.Pow.{pow-add, pow_pos}
use lib.Dec.{leb}
use borrow.Author.Tests.{le-leb, lt-leb, le-ltb, lt-ltb, eq-eqb, ne_eqb}
use Rattle.totals_spec.specs.formats.Format.{Format, ieee, kind_of, fraction_bits}
use Rattle.totals_spec.specs.formats.Settings.{Settings}
use Rattle.totals_spec.specs.sums.Totals.{sum_refusal}
use Rattle.targets_spec.specs.contribution.Contribution.{rank_of, number_at, first_rank, last_rank, rank_with, reaches, least_rank, contribution_refusal, found}
use Rattle.targets_spec.specs.contribution.Contribution.{refused_contribution}
use Rattle.targets_spec.proofs.contribution.LeastNumber.{Accepts, accepts, longer-accepted, ranks-rise, least-halved}
use Rattle.targets_spec.proofs.contribution.NumbersOfRanks.{rank-numbers, first-le-last}
use Rattle.targets.specs.Contributions.{Halving, Halved}

pub first-some : (f : Format) → 0 < first_rank f
unfolding first_rank
first-some f = omega arith

pub last-fits : (f : Format) → f.W ≤ 64 → last_rank f + 1 < 2 ^ 64
unfolding last_rank
last-fits f h = omega (arith, pow-le-pow_right {n = 2} (omega arith) h, pow_pos (fraction_bits f))

-- a format has more bits than its fraction
pub fraction-below : (f : Format) → f.E + 2 ≤ f.W → 2 ^ fraction_bits f ≤ 2 ^ f.W - 1
fraction-below f h =
    let a : 2 ^ (fraction_bits f + 1) ≤ 2 ^ f.W = pow-le-pow_right {n = 2} (omega arith) (omega (arith, h)) in
    omega (arith, a, pow_pos (fraction_bits f), pow-add 2 (fraction_bits f) 1)

module _ (f : Format) (c : Settings) (l : List ℕ) (wanted : ℕ) (e : contribution_refusal f c l wanted ≡ 0) where
  acc : Accepts f c l wanted
  acc = accepts f c l wanted e

  kind : kind_of f.kind ≡ ieee
  kind = ap kind_of acc.kind-is

  -- a finite number may stand behind the list
  pub rank-accepted : (r : ℕ) → first_rank f ≤ r → r ≤ last_rank f → sum_refusal f c 0 (l ++ (number_at f r ∷ [])) ≡ 0
  rank-accepted r h g = longer-accepted f c l wanted e (number_at f r) ((rank-numbers f acc.format.range kind).1 r h g).0

  pub halving-start : Halving f c l wanted (first_rank f) (last_rank f + 1)
  halving-start = record {
    first = le_refl (first_rank f);
    ordered = omega (arith, first-le-last f acc.format.range kind);
    last = omega arith;
    under = λ i h k. absurd (let z : ⊥ = omega (arith, h, k) in z);
    here = λ h. absurd (let z : ⊥ = omega (arith, h) in z);
  }

  module _ {low high : ℕ} (h : Halving f c l wanted low high) (m : ℕ) (from : low ≤ m) (to : m < high) where
    pub middle-in : (first_rank f ≤ m) × (m ≤ last_rank f)
    middle-in = (le_trans h.first from, omega (arith, to, h.last))

    pub halving-up : rank_with f c l (number_at f m) < rank_of f wanted → Halving f c l wanted (m + 1) high
    halving-up k = record {
      first = omega (arith, middle-in.0);
      ordered = omega (arith, to);
      last = h.last;
      under = λ i j n. lt_of_le_of_lt (ranks-rise f c l wanted e i m j (omega (arith, n)) middle-in.1) k;
      here = h.here;
    }

    pub halving-down : rank_of f wanted ≤ rank_with f c l (number_at f m) → Halving f c l wanted low m
    halving-down k = record { first = h.first; ordered = from; last = omega (arith, middle-in.1); under = h.under; here = λ j. k }

  -- ---- the answer, by where halving ends

  module _ (r : ℕ) (h : Halved f c l wanted r) where
    least_is : least_rank f c l wanted ≡ cond (leb r (last_rank f) && reaches f c l wanted r) r (suc (last_rank f))
    least_is = least-halved f c l wanted e r h.first h.last h.under h.here

    past : {n : ℕ} → n ≡ suc (last_rank f) → found f n ≡ refused_contribution 14 0
    unfolding found
    past is = rw (is, lt-ltb (last_rank f) (suc (last_rank f)) (le_refl (suc (last_rank f))))

    pub none-past : last_rank f < r → refused_contribution 14 0 ≡ found f (least_rank f c l wanted)
    none-past k = sym (past (least_is ∙ rw (lt-leb r (last_rank f) k)))

    module _ (inside : r ≤ last_rank f) where
      missed : (rank_with f c l (number_at f r) ≡ rank_of f wanted → ⊥) → reaches f c l wanted r ≡ false
      unfolding reaches
      missed n = ne_eqb _ _ n

      pub none-there : (rank_with f c l (number_at f r) ≡ rank_of f wanted → ⊥) → refused_contribution 14 0 ≡ found f (least_rank f c l wanted)
      none-there n = sym (past (least_is ∙ rw (le-leb r (last_rank f) inside, missed n)))

      met : rank_with f c l (number_at f r) ≡ rank_of f wanted → reaches f c l wanted r ≡ true
      unfolding reaches
      met k = eq-eqb _ _ k

      found-there : {n : ℕ} → n ≡ r → found f n ≡ record { number = number_at f r; refusal = 0; place = 0 }
      unfolding found
      found-there is = rw (is, le-ltb (last_rank f) r inside)

      pub there : rank_with f c l (number_at f r) ≡ rank_of f wanted
          → record { number = number_at f r; refusal = 0; place = 0 } ≡ found f (least_rank f c l wanted)
      there k = sym (found-there (least_is ∙ rw (le-leb r (last_rank f) inside, met k)))
