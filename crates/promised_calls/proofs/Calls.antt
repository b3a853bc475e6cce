-- A call whose record is that of the definition has what is promised of it.
use Rattle.std.proofs.Common.{◌≡◌, ℕ, ◌≤◌, List, sym, ap, ◌∙◌, subst}
use Rattle.totals_spec.specs.formats.Format.{Format, binary64}
use Rattle.totals_spec.specs.formats.Settings.{Settings, summand_of}
use Rattle.totals_spec.specs.refusals.Places.{StrayAt, DotStrayAt}
use Rattle.totals_spec.specs.refusals.Conditions.{sum_conditions, dot_conditions}
use Rattle.totals_spec.specs.chain.Limit.{ceil_div, most_passes}
use Rattle.totals_spec.specs.sums.Totals as spec
use Rattle.totals_spec.specs.sums.Totals.{sum_answer, sum_refusal, sum_terms, dot_answer, dot_refusal, dot_terms}
use Rattle.totals_spec.proofs.order.Order.{sum-order, dot-order}
use Rattle.totals_spec.proofs.refusals.RefusedRecords.{sum-refusal, dot-refusal, sum-refused, dot-refused, sum-place, dot-place}
use Rattle.totals_spec.proofs.refusals.Exactly.{sum-refused-exactly, dot-refused-exactly}
use Rattle.totals_spec.proofs.chain.PassesOfRecords.{sum-limit, dot-limit}
use Rattle.totals_spec.proofs.chain.Binary64Limit.{binary64-sum-limit, binary64-square-limit, binary64-dot-limit}
use Rattle.std.specs.Prelude.{Result, Ok, Err}
use Rattle.reduction.specs.declared.total.Answer.{Answer}
use Rattle.totals.specs.declared.refusal.Refusal.{Refusal}
use Rattle.totals.specs.Asked.{answer_in}
use Rattle.totals.proofs.Refusals.{number-some}
use Rattle.promised_calls.specs.Order.{Rearranged, PairsRearranged, WithoutNan}
use Rattle.promised_calls.specs.Passes.{limit_of}
use Rattle.promised_calls.specs.Refusals.{RefusesExactly, TellsNothingElse, PlacedAt}

-- ---- one record

-- the code's record has no field that the definition's has not
abbrev code_of : spec.Answer → Answer
code_of a = record { result = a.result; flags = a.flags; passes = a.passes; last_edge = a.last_edge; side = a.side }

-- two totals of one record, of which the first is accepted, are the same
pub same-total : (r s : Result Answer Refusal) → (answer_in r).refusal ≡ 0 → answer_in r ≡ answer_in s → r ≡ s
same-total (Ok a) (Ok b) z e = ap (λ (x : spec.Answer). Ok (code_of x)) e
same-total (Ok a) (Err q) z e = absurd (number-some q (sym (ap (λ (x : spec.Answer). x.refusal) e)))
same-total (Err q) s z e = absurd (number-some q z)

-- ---- a sum

module _ (f : Format) (c : Settings) (u : ℕ) (l : List ℕ) (a : spec.Answer) (is : a ≡ sum_answer f c u l) where
  -- what holds of the definition holds of the record
  pub sum-has : (P : spec.Answer → Type 0) → P (sum_answer f c u l) → P a
  sum-has P p = subst P (sym is) p

  pub sum_number : a.refusal ≡ sum_refusal f c u l
  sum_number = ap (λ (x : spec.Answer). x.refusal) is ∙ sum-refusal f c u l

  pub sum-alike : (k : List ℕ) (b : spec.Answer) → b ≡ sum_answer f c u k → Rearranged l k → a.refusal ≡ 0 → WithoutNan f l → a ≡ b
  sum-alike k b is' h r n = is ∙ ((sum-order f c u l k h (sym sum_number ∙ r) n).1 ∙ sym is')

  pub sum-passes : a.passes ≤ limit_of f (sum_terms f c (summand_of u) l)
  unfolding most_passes ceil_div
  sum-passes = sum-has (λ x. x.passes ≤ limit_of f (sum_terms f c (summand_of u) l)) (sum-limit f c u l)

  pub sum-of-doubles : f ≡ binary64 → u ≤ 1 → a.passes ≤ 4
  sum-of-doubles e h = sum-has (λ x. x.passes ≤ 4) (subst (λ (g : Format). (sum_answer g c u l).passes ≤ 4) (sym e) (binary64-sum-limit c u l h))

  pub squares-of-doubles : f ≡ binary64 → a.passes ≤ 7
  squares-of-doubles e = sum-has (λ x. x.passes ≤ 7) (subst (λ (g : Format). (sum_answer g c u l).passes ≤ 7) (sym e) (binary64-square-limit c u l))

  pub sum-exactly : RefusesExactly (sum_conditions f c u l) a.refusal
  sum-exactly = sum-has (λ x. RefusesExactly (sum_conditions f c u l) x.refusal) (sum-refused-exactly f c u l)

  pub sum-nothing-else : TellsNothingElse a
  sum-nothing-else = sum-has TellsNothingElse (λ n. sum-told n)
    where
      sum-told : TellsNothingElse (sum_answer f c u l)
      sum-told n =
          let e = sum-refusal f c u l in
          sum-refused f c u l (λ z. n (e ∙ z)) ∙ ap (λ (m : ℕ). spec.refused m (sum_answer f c u l).place) (sym e)

  pub sum-placed : PlacedAt (StrayAt f l) a.refusal a.place
  sum-placed = sum-has (λ x. PlacedAt (StrayAt f l) x.refusal x.place)
      (subst (λ (n : ℕ). PlacedAt (StrayAt f l) n (sum_answer f c u l).place) (sym (sum-refusal f c u l)) (sum-place f c u l))

-- ---- a dot product

module _ (f : Format) (c : Settings) (xs ys : List ℕ) (a : spec.Answer) (is : a ≡ dot_answer f c xs ys) where
  pub dot-has : (P : spec.Answer → Type 0) → P (dot_answer f c xs ys) → P a
  dot-has P p = subst P (sym is) p

  pub dot-number : a.refusal ≡ dot_refusal f c xs ys
  dot-number = ap (λ (x : spec.Answer). x.refusal) is ∙ dot-refusal f c xs ys

  pub dot-alike : (xs' ys' : List ℕ) (b : spec.Answer) → b ≡ dot_answer f c xs' ys' → PairsRearranged xs ys xs' ys' → a.refusal ≡ 0
      → WithoutNan f xs → WithoutNan f ys → a ≡ b
  dot-alike xs' ys' b is' h r n m =
      is ∙ ((dot-order f c xs ys xs' ys' h.0 h.1 (sym dot-number ∙ r) n m).1 ∙ sym is')

  pub dot-passes : a.passes ≤ limit_of f (dot_terms f c xs ys)
  unfolding most_passes ceil_div
  dot-passes = dot-has (λ x. x.passes ≤ limit_of f (dot_terms f c xs ys)) (dot-limit f c xs ys)

  pub dot-of-doubles : f ≡ binary64 → a.passes ≤ 7
  dot-of-doubles e = dot-has (λ x. x.passes ≤ 7) (subst (λ (g : Format). (dot_answer g c xs ys).passes ≤ 7) (sym e) (binary64-dot-limit c xs ys))

  pub dot-exactly : RefusesExactly (dot_conditions f c xs ys) a.refusal
  dot-exactly = dot-has (λ x. RefusesExactly (dot_conditions f c xs ys) x.refusal) (dot-refused-exactly f c xs ys)

  pub dot-nothing-else : TellsNothingElse a
  dot-nothing-else = dot-has TellsNothingElse (λ n. dot-told n)
    where
      dot-told : TellsNothingElse (dot_answer f c xs ys)
      dot-told n =
          let e = dot-refusal f c xs ys in
          dot-refused f c xs ys (λ z. n (e ∙ z)) ∙ ap (λ (m : ℕ). spec.refused m (dot_answer f c xs ys).place) (sym e)

  pub dot-placed : PlacedAt (DotStrayAt f xs ys) a.refusal a.place
  dot-placed = dot-has (λ x. PlacedAt (DotStrayAt f xs ys) x.refusal x.place)
      (subst (λ (n : ℕ). PlacedAt (DotStrayAt f xs ys) n (dot_answer f c xs ys).place) (sym (dot-refusal f c xs ys)) (dot-place f c xs ys))
