-- Two calls of an entry that is told a bias by two numbers, each with a buffer of its own.
use Rattle.std.proofs.Common.{◌≡◌, ◌≢◌, ℕ, ◌+◌, ◌*◌, ◌%◌, ◌≤◌, ◌<◌, List, eqb, refl, sym, ap, ◌∙◌, subst, arith, ℤ}
use Rattle.std.specs.Prelude.{Bool, true, false, not, ◌||◌, cond, ltb, length, take, drop}
use native.Mathlib.Nat.{suc-ne-zero}
use lib.ListN.{length-drop}
use borrow.Author.Tests.{eqb-true, eqb-false, ltb-false, le-ltb}
use Rattle.totals_spec.specs.formats.Format.{Format}
use Rattle.totals_spec.specs.formats.Settings.{Settings}
use Rattle.totals_spec.specs.pence.Pence.{Pence, sum_pence}
use Rattle.totals_spec.specs.entries.Bytes.{Entry, to_bytes}
use Rattle.totals_spec.specs.entries.Words.{filled}
use Rattle.totals_spec.specs.pence.Entry.{FigureEntry, figure_entered, pence_entry}
use Rattle.totals_spec.specs.entries.Words.{misnamed, format_by}
use Rattle.totals_spec.proofs.pence.PenceOfLists.{pence-order, pence-entry-refused}
use Rattle.targets_spec.specs.contribution.Contribution.{Contribution, contribution, contribution_entered, contribution_entry}
use Rattle.targets_spec.proofs.contribution.Records.{contribution-order}
use Rattle.totals.specs.Entered.{Enters, EntersFigure}
use Rattle.promised_calls.specs.Lent.{names_bias, bias_told, pence_call, contribution_call, SameFirst, KeepsBehind}
use Rattle.promised_calls.specs.Order.{Rearranged}
use Rattle.promised_calls.specs.Refusals.{WritesNothing}

-- ---- the pence of a list

-- an entry's number tells that of a stray bit
figure-seven : (p : Pence) (old : ℤ) → p.refusal ≡ 7 → (figure_entered p old).code % 256 ≡ 7
figure-seven p old e = rw e (omega arith)

figure-alike : (p : Pence) (old again : ℤ) → ((figure_entered p again).code ≡ (figure_entered p old).code)
    × ((figure_entered p old).code ≡ 0 → (figure_entered p again).figure ≡ (figure_entered p old).figure)
figure-alike p old again = go (eqb p.refusal 0) refl
  where
    is : Bool → ℤ → FigureEntry
    is t left = cond t (record { code = 0; figure = p.figure }) (record { code = p.refusal + 256 * p.place; figure = left })

    go : (t : Bool) → eqb p.refusal 0 ≡ t → ((is t again).code ≡ (is t old).code) × ((is t old).code ≡ 0 → (is t again).figure ≡ (is t old).figure)
    go true e = (refl, λ z. refl)
    go false e = (refl, λ z. absurd (eqb-false p.refusal 0 e (omega (arith, z))))

figures-alike : (bad : Bool) (p p' : Pence) (old again : ℤ) → (p.refusal ≢ 7 → p ≡ p')
    → let x = cond bad (record { code = 3; figure = old }) (figure_entered p old) in
    let y = cond bad (record { code = 3; figure = again }) (figure_entered p' again) in
    x.code % 256 ≢ 7 → (y.code ≡ x.code) × (x.code ≡ 0 → y.figure ≡ x.figure)
figures-alike true p p' old again h n = (refl, λ e. absurd (suc-ne-zero 2 e))
figures-alike false p p' old again h n =
    subst (λ (q : Pence). ((figure_entered q again).code ≡ (figure_entered p old).code)
    × ((figure_entered p old).code ≡ 0 → (figure_entered q again).figure ≡ (figure_entered p old).figure))
    (h (λ e. n (figure-seven p old e))) (figure-alike p old again)

module _ (f : Format) (l : List ℕ) (old : ℤ) (number : ℕ) (new : ℤ) (is : EntersFigure (pence_call f l old) number new) where
  pub pence-alike : (l' : List ℕ) (again : ℤ) (number' : ℕ) (new' : ℤ) → EntersFigure (pence_call f l' again) number' new' → Rearranged l l'
      → number % 256 ≢ 7 → (number' ≡ number) × (number ≡ 0 → new' ≡ new)
  unfolding pence_entry
  pence-alike l' again number' new' is' h n =
      let named = names_bias f.named in
      let b = bias_told f.named in
      let f' = format_by f.kind f.E f.W named b in
      let a = figures-alike (misnamed named b) (sum_pence f' l) (sum_pence f' l') old again (pence-order f' l l' h)
      (λ e. n (ap (λ (m : ℕ). m % 256) is.code_is ∙ e)) in
      (is'.code_is ∙ (a.0 ∙ sym is.code_is), λ z. is'.figure-is ∙ (a.1 (sym is.code_is ∙ z) ∙ sym is.figure-is))

  pub pence-kept : WritesNothing number old new
  pence-kept h =
      is.figure-is ∙ pence-entry-refused f.kind f.E f.W (names_bias f.named) (bias_told f.named) l old (λ e. h (is.code_is ∙ e))

-- ---- a contribution

reached-seven : (x : Contribution) (old : List ℕ) → x.refusal ≡ 7 → (contribution_entered x old).code % 256 ≡ 7
reached-seven x old e = rw e (omega arith)

reached-alike : (x : Contribution) (old again : List ℕ) → ((contribution_entered x again).code ≡ (contribution_entered x old).code)
    × ((contribution_entered x old).code ≡ 0 → take 8 (contribution_entered x old).buffer ≡ take 8 (contribution_entered x again).buffer)
reached-alike x old again = go (eqb x.refusal 0) refl
  where
    is : Bool → List ℕ → Entry
    is t left = cond t (record { code = 0; buffer = filled (to_bytes 8 x.number) left }) (record { code = x.refusal + 256 * x.place; buffer = left })

    go : (t : Bool) → eqb x.refusal 0 ≡ t → ((is t again).code ≡ (is t old).code) × ((is t old).code ≡ 0 → take 8 (is t old).buffer ≡ take 8 (is t again).buffer)
    go true e = (refl, λ z. refl)
    go false e = (refl, λ z. absurd (eqb-false x.refusal 0 e (omega (arith, z))))

abbrev entered_contribution : (short bad : Bool) → Contribution → List ℕ → Entry
entered_contribution short bad x old =
    cond short (record { code = 2; buffer = old }) (cond bad (record { code = 3; buffer = old }) (contribution_entered x old))

all-reached-alike : (bad : Bool) (x x' : Contribution) (old again : List ℕ) → (x.refusal ≢ 7 → x ≡ x')
    → let a = entered_contribution false bad x old in
    let b = entered_contribution false bad x' again in
    a.code % 256 ≢ 7 → (b.code ≡ a.code) × (a.code ≡ 0 → take 8 a.buffer ≡ take 8 b.buffer)
all-reached-alike true x x' old again h n = (refl, λ e. absurd (suc-ne-zero 2 e))
all-reached-alike false x x' old again h n =
    subst (λ (y : Contribution). ((contribution_entered y again).code ≡ (contribution_entered x old).code)
    × ((contribution_entered x old).code ≡ 0 → take 8 (contribution_entered x old).buffer ≡ take 8 (contribution_entered y again).buffer))
    (h (λ e. n (reached-seven x old e))) (reached-alike x old again)

reached-kept : (short bad : Bool) (x : Contribution) (old : List ℕ) → (short ≡ false → 8 ≤ length old)
    → KeepsBehind 8 old (entered_contribution short bad x old).buffer
reached-kept true bad x old h = (refl, refl)
reached-kept false true x old h = (refl, refl)
reached-kept false false x old h = go (eqb x.refusal 0)
  where
    is : Bool → Entry
    is t = cond t (record { code = 0; buffer = filled (to_bytes 8 x.number) old }) (record { code = x.refusal + 256 * x.place; buffer = old })

    go : (t : Bool) → KeepsBehind 8 old (is t).buffer
    go true = (refl, omega (arith, length-drop 8 old, h refl))
    go false = (refl, refl)

module _ (f : Format) (c : Settings) (wanted : ℕ) (l old : List ℕ) (number : ℕ) (new : List ℕ)
    (is : Enters (contribution_call f c wanted l old) number new) where
  pub contribution-alike : (l' again : List ℕ) (number' : ℕ) (new' : List ℕ) → Enters (contribution_call f c wanted l' again) number' new'
      → Rearranged l l' → 8 ≤ length old → 8 ≤ length again → number % 256 ≢ 7
      → (number' ≡ number) × (number ≡ 0 → SameFirst 8 new new')
  unfolding contribution_entry
  contribution-alike l' again number' new' is' h r r' n =
      let named = names_bias f.named in
      let b = bias_told f.named in
      let bad = misnamed named b in
      let x = contribution (format_by f.kind f.E f.W named b) c l wanted in
      let x' = contribution (format_by f.kind f.E f.W named b) c l' wanted in
      let first = subst (λ (s : Bool). Enters (entered_contribution s bad x old) number new) (le-ltb (length old) 8 r) is in
      let second = subst (λ (s : Bool). Enters (entered_contribution s bad x' again) number' new') (le-ltb (length again) 8 r') is' in
      let a = all-reached-alike bad x x' old again (contribution-order (format_by f.kind f.E f.W named b) c l l' wanted h).1
      (λ e. n (ap (λ (m : ℕ). m % 256) first.code_is ∙ e)) in (
        second.code_is ∙ (a.0 ∙ sym first.code_is),
        λ z. ap (take 8) first.buffer-is ∙ (a.1 (sym first.code_is ∙ z) ∙ ap (take 8) (sym second.buffer-is)),
      )

  pub contribution-keeps : KeepsBehind 8 old new
  unfolding contribution_entry
  contribution-keeps =
      let named = names_bias f.named in
      let b = bias_told f.named in
      subst (KeepsBehind 8 old) (sym is.buffer-is)
      (reached-kept (ltb (length old) 8) (misnamed named b) (contribution (format_by f.kind f.E f.W named b) c l wanted) old (ltb-false (length old) 8))
