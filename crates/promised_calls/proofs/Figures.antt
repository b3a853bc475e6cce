-- Pence whose record is that of the definition.
use Rattle.std.proofs.Common.{◌≡◌, ◌≢◌, ℕ, List, [], ◌∷◌, sym, ap, ◌∙◌, subst}
use Rattle.std.specs.Prelude.{pos}
use Rattle.totals_spec.specs.formats.Format.{Format}
use Rattle.totals_spec.specs.pence.Conditions.{sum_pence_conditions, pence_conditions}
use Rattle.totals_spec.specs.pence.Pence as spec
use Rattle.totals_spec.specs.pence.Pence.{sum_pence, pence_answer}
use Rattle.totals_spec.specs.refusals.Places.{StrayAt}
use Rattle.totals_spec.proofs.pence.RefusedExactly.{sum-pence-refused-exactly, pence-refused-exactly}
use Rattle.totals_spec.proofs.pence.PenceOfLists.{sum-pence-refused, pence-place, one-pence, pence-order}
use Rattle.promised_calls.specs.Order.{Rearranged}
use Rattle.promised_calls.specs.Refusals.{RefusesExactly, PlacedAt}

module _ (f : Format) (l : List ℕ) (a : spec.Pence) (is : a ≡ sum_pence f l) where
  has : (P : spec.Pence → Type 0) → P (sum_pence f l) → P a
  has P p = subst P (sym is) p

  pub exactly : RefusesExactly (sum_pence_conditions f l) a.refusal
  exactly = has (λ x. RefusesExactly (sum_pence_conditions f l) x.refusal) (sum-pence-refused-exactly f l)

  pub nothing-else : a.refusal ≢ 0 → a.figure ≡ pos 0
  nothing-else = has (λ x. x.refusal ≢ 0 → x.figure ≡ pos 0) (sum-pence-refused f l)

  pub placed : PlacedAt (StrayAt f l) a.refusal a.place
  placed = has (λ x. PlacedAt (StrayAt f l) x.refusal x.place) (pence-place f l)

  pub alike : (k : List ℕ) (b : spec.Pence) → b ≡ sum_pence f k → Rearranged l k → a.refusal ≢ 7 → a ≡ b
  alike k b is' h n =
      is ∙ (pence-order f l k h (λ e. n (ap (λ (x : spec.Pence). x.refusal) is ∙ e)) ∙ sym is')

-- of one encoding they are those of a list of one element
module _ (f : Format) (b : ℕ) (a : spec.Pence) (is : a ≡ pence_answer f b) where
  pub one-exactly : RefusesExactly (pence_conditions f b) a.refusal
  one-exactly = subst (λ (x : spec.Pence). RefusesExactly (pence_conditions f b) x.refusal) (sym is) (pence-refused-exactly f b)

  pub one-nothing-else : a.refusal ≢ 0 → a.figure ≡ pos 0
  one-nothing-else = nothing-else f (b ∷ []) a (is ∙ sym (one-pence f b))

  pub one-placed : PlacedAt (StrayAt f (b ∷ [])) a.refusal a.place
  one-placed = placed f (b ∷ []) a (is ∙ sym (one-pence f b))
