-- A contribution whose record is that of the definition.
use Rattle.std.proofs.Common.{◌≡◌, ◌≢◌, ℕ, List, [], ◌∷◌, ◌++◌, sym, ap, ◌∙◌, subst}
use Rattle.totals_spec.specs.formats.Format.{Format}
use Rattle.totals_spec.specs.formats.Settings.{Settings}
use Rattle.totals_spec.specs.refusals.Places.{StrayAt}
use Rattle.targets_spec.specs.contribution.Conditions.{contribution_conditions}
use Rattle.targets_spec.specs.contribution.Contribution as spec
use Rattle.targets_spec.specs.contribution.Contribution.{contribution}
use Rattle.targets_spec.proofs.contribution.Records.{contribution-refusal, contribution-refused, contribution-place, contribution-order}
use Rattle.promised_calls.specs.Order.{Rearranged}
use Rattle.promised_calls.specs.Refusals.{RefusesExactly, PlacedAt}

module _ (f : Format) (c : Settings) (l : List ℕ) (wanted : ℕ) (a : spec.Contribution) (is : a ≡ contribution f c l wanted) where
  has : (P : spec.Contribution → Type 0) → P (contribution f c l wanted) → P a
  has P p = subst P (sym is) p

  pub exactly : RefusesExactly (contribution_conditions f c l wanted) a.refusal
  exactly = has (λ x. RefusesExactly (contribution_conditions f c l wanted) x.refusal) (contribution-refusal f c l wanted)

  pub nothing-else : a.refusal ≢ 0 → a.number ≡ 0
  nothing-else = has (λ x. x.refusal ≢ 0 → x.number ≡ 0) (λ n. ap (λ (x : spec.Contribution). x.number) (contribution-refused f c l wanted n))

  pub placed : PlacedAt (StrayAt f (l ++ (wanted ∷ []))) a.refusal a.place
  placed = has (λ x. PlacedAt (StrayAt f (l ++ (wanted ∷ []))) x.refusal x.place)
      (let p = contribution-place f c l wanted in (p.0, p.1))

  pub alike : (k : List ℕ) (b : spec.Contribution) → b ≡ contribution f c k wanted → Rearranged l k
      → (a.refusal ≡ b.refusal) × (a.refusal ≢ 7 → a ≡ b)
  alike k b is' h =
      let o = contribution-order f c l k wanted h in
      let number : a.refusal ≡ (contribution f c l wanted).refusal = ap (λ (x : spec.Contribution). x.refusal) is in
      (number ∙ (o.0 ∙ sym (ap (λ (x : spec.Contribution). x.refusal) is')), λ n. is ∙ (o.1 (λ e. n (number ∙ e)) ∙ sym is'))
