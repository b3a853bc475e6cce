-- Targets, contributions and answers within an allowance, of a format that names its kind's own
-- bias.
use mathlib.Core.Path.{◌≡◌, refl, ap, ap₂, ◌∙◌, fun_ext}
use mathlib.Core.Bool.{Bool, true}
use mathlib.Core.List.{List, [], ◌∷◌, ◌++◌, map}
use Prim.Native.Nat.{ℕ}
use lib.Dec.{eqb}
use Rattle.totals_spec.specs.formats.Format.{Format, digits, depth, origin, fall}
use Rattle.totals_spec.specs.formats.Settings.{Settings, valid_settings, value, summand_of}
use Rattle.totals_spec.specs.terms.Terms.{Item, Term, terms}
use Rattle.totals_spec.specs.chain.Chain.{Boundary, no_boundary, boundary}
use Rattle.totals_spec.specs.sums.Totals.{Answer, is_square, pairs}
use Rattle.totals_spec.specs.rounding.IntoFormat.{reading_with, rounded_into, printed}
use Rattle.totals_spec.specs.rounding.IntoFormat.{printed_items}
use Rattle.totals_spec.specs.chain.Standing.{pass_of}
use Rattle.totals_spec.specs.formats.Promises.{naming_own, naming_none}
use Rattle.totals_spec.proofs.formats.NamedBias.{valid-own, bias-own, lift-own, decode-own}
use Rattle.totals_spec.proofs.formats.NamedBias.{encode-own, subnormal-own, item-own, pair-own}
use Rattle.totals_spec.proofs.formats.NamedBias.{special-own, rounded-own, sum-own, dot-own}
use Rattle.totals_spec.proofs.formats.NamedBias.{numbers-own}
use Rattle.targets_spec.specs.several.Several.{target_refusal, target_answer}
use Rattle.targets_spec.specs.contribution.Contribution.{rank_of, number_at, first_rank, last_rank}
use Rattle.targets_spec.specs.contribution.Contribution.{rank_with, reaches, least_rank, found}
use Rattle.targets_spec.specs.contribution.Contribution.{contribution_refusal, contribution}
use Rattle.targets_spec.specs.within.Estimate.{position_of, unit_of, unfinished_at, within, allowed}
use Rattle.targets_spec.specs.within.Estimate.{sum_within, dot_within}
use Rattle.targets_spec.specs.formats.Promises.{Named-own}

module _ (f : Format) where
  -- ---- targets, by the list's format and by the target's

  target-own : (d : ℕ) (l : List ℕ) (t : Format) (c : Settings) → target_answer (naming_own f) d l t c ≡ target_answer (naming_none f) d l t c
  unfolding target_answer target_refusal printed_items printed rounded_into origin fall depth
  target-own d l t c = cc (valid-own f, bias-own f, lift-own f, numbers-own f l, fun_ext (subnormal-own f), fun_ext (item-own f (reading_with d) value))

  into-own : (h : Format) (d : ℕ) (l : List ℕ) (c : Settings) → target_answer h d l (naming_own f) c ≡ target_answer h d l (naming_none f) c
  unfolding target_answer target_refusal valid_settings printed_items printed rounded_into depth
  into-own h d l c = simp (special-own f, rounded-own f, encode-own f, decode-own f) (cc (valid-own f, bias-own f, lift-own f))

  -- ---- contributions

  reaches-own : (c : Settings) (l : List ℕ) (wanted r : ℕ) → reaches (naming_own f) c l wanted r ≡ reaches (naming_none f) c l wanted r
  unfolding reaches rank_with rank_of number_at
  reaches-own c l wanted r =
      ap (λ (a : Answer). eqb (rank_of (naming_none f) a.result) (rank_of (naming_none f) wanted)) (sum-own f c 0 (l ++ (number_at (naming_none f) r ∷ [])))

  contribution-own : (c : Settings) (l : List ℕ) (wanted : ℕ) → contribution (naming_own f) c l wanted ≡ contribution (naming_none f) c l wanted
  unfolding contribution contribution_refusal valid_settings found least_rank number_at first_rank last_rank
  contribution-own c l wanted = cc (valid-own f, numbers-own f (l ++ (wanted ∷ [])), fun_ext (reaches-own c l wanted))

  -- ---- within an allowance

  position-own : (products : Bool) (w : ℕ) → position_of (naming_own f) products w ≡ position_of (naming_none f) products w
  unfolding origin fall depth
  position-own products w = cc (bias-own f, lift-own f)

  unit-own : (products : Bool) (b : Boundary) → unit_of (naming_own f) products b ≡ unit_of (naming_none f) products b
  unit-own products no_boundary = refl
  unit-own products (boundary s m e) = position-own products e

  within-own : (products : Bool) (ts : List Term) (k : ℕ) (a : Answer) → within (naming_own f) products ts k a ≡ within (naming_none f) products ts k a
  unfolding within unfinished_at
  within-own products ts k a =
      let s = pass_of (digits f) ts k in
      rw (position-own products s.edge, unit-own products s.bound)

  sum-within-own : (c : Settings) (u : ℕ) (l : List ℕ) (k : ℕ) → sum_within (naming_own f) c u l k ≡ sum_within (naming_none f) c u l k
  unfolding sum_within
  sum-within-own c u l k =
      let s = summand_of u in
      ap (allowed k)
      (within-own (is_square s) _ k _
      ∙ ap₂ (λ (i : ℕ → Item) (a : Answer). within (naming_none f) (is_square s) (terms (map i l)) k a) (fun_ext (item-own f c s)) (sum-own f c u l))

  dot-within-own : (c : Settings) (xs ys : List ℕ) (k : ℕ) → dot_within (naming_own f) c xs ys k ≡ dot_within (naming_none f) c xs ys k
  unfolding dot_within
  dot-within-own c xs ys k =
      ap (allowed k)
      (within-own true _ k _
      ∙ ap₂ (λ (i : ℕ × ℕ → Item) (a : Answer). within (naming_none f) true (terms (map i (pairs xs ys))) k a) (fun_ext (pair-own f c)) (dot-own f c xs ys))

pub named-own : Named-own
named-own f = record {
  target = target-own f;
  into-target = into-own f;
  contributes = contribution-own f;
  sum-within = sum-within-own f;
  dot-within = dot-within-own f;
}
