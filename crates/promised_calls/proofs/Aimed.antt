-- The records of targets that are those of the definition.
use Rattle.std.proofs.Common.{◌≡◌, ℕ, List, sym, ap, ◌∙◌, subst}
use Rattle.totals_spec.specs.formats.Format.{Format}
use Rattle.totals_spec.specs.formats.Settings.{Settings}
use Rattle.totals_spec.specs.refusals.Places.{StrayAt}
use Rattle.totals_spec.specs.sums.Totals as spec
use Rattle.targets_spec.specs.several.Conditions.{target_conditions}
use Rattle.targets_spec.specs.several.Several.{target_answer, target_refusal}
use Rattle.targets_spec.proofs.several.Records.{target-refusal, target-refused, target-place, target-order}
use Rattle.targets_spec.proofs.several.Records.{target-number}
use Rattle.format.specs.Formats.{format_of}
use Rattle.format.specs.Settings.{settings_of}
use Rattle.totals.specs.Asked.{answer_in}
use Rattle.targets.specs.declared.several.Target.{Target}
use Rattle.targets.specs.declared.several.Printed.{Printed}
use Rattle.promised_calls.specs.Order.{Rearranged}
use Rattle.promised_calls.specs.Refusals.{RefusesExactly, PlacedAt}
use Rattle.promised_calls.specs.Targets.{PrintsOne, Prints, RefusedAlone, PrintsOrRefuses, Alike, AllAlike}

module _ (f : Format) (d : ℕ) (l : List ℕ) (t : Target) (a : spec.Answer) (is : PrintsOne f d l t a) where
  abbrev t' : Format
  t' = format_of t.format

  abbrev c' : Settings
  c' = settings_of t.settings

  has : (P : spec.Answer → Type 0) → P (target_answer f d l t' c') → P a
  has P p = subst P (sym is) p

  number : a.refusal ≡ target_refusal f d l t' c'
  number = ap (λ (x : spec.Answer). x.refusal) is ∙ target-number f d l t' c'

  refused-alone : RefusedAlone f d l t a
  refused-alone = record {
    exactly = has (λ x. RefusesExactly (target_conditions f d l t' c') x.refusal) (target-refusal f d l t' c');
    nothing_else = λ h. is ∙ (target-refused f d l t' c' (λ e. h (number ∙ e))
        ∙ (λ i. spec.refused (sym number i) (sym (ap (λ (x : spec.Answer). x.place) is) i)));
    place = has (λ x. PlacedAt (StrayAt f l) x.refusal x.place) (target-place f d l t' c');
  }

  alike : (k : List ℕ) (b : spec.Answer) → PrintsOne f d k t b → Rearranged l k → Alike a b
  alike k b is' h =
      let o = target-order f d l k t' c' h in (
        number ∙ (o.0 ∙ sym (ap (λ (x : spec.Answer). x.refusal) is' ∙ target-number f d k t' c')),
        λ n. is ∙ (o.1 (λ e. n (number ∙ e)) ∙ sym is'),
      )

module _ (f : Format) (d : ℕ) (l : List ℕ) (a b c : Target) (p : Printed) (is : Prints f d l a b c p) where
  pub or-refused : PrintsOrRefuses f d l a b c p
  or-refused = record {
    first = refused-alone f d l a (answer_in p.first) is.first;
    second = refused-alone f d l b (answer_in p.second) is.second;
    third = refused-alone f d l c (answer_in p.third) is.third;
  }

  pub all-alike : (k : List ℕ) (q : Printed) → Prints f d k a b c q → Rearranged l k → AllAlike p q
  all-alike k q is' h = record {
    first = alike f d l a (answer_in p.first) is.first k (answer_in q.first) is'.first h;
    second = alike f d l b (answer_in p.second) is.second k (answer_in q.second) is'.second h;
    third = alike f d l c (answer_in p.third) is.third k (answer_in q.third) is'.third h;
  }
