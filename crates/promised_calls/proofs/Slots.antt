-- Two calls of the entry of a total in three targets, each with a buffer of its own.
use Rattle.std.proofs.Common.{◌≡◌, ◌≢◌, ℕ, ◌+◌, ◌*◌, ◌≤◌, List, ◌++◌, eqb, refl, sym, ap, ◌∙◌, subst, arith, ℤ}
use Rattle.std.specs.Prelude.{Bool, true, false, ◌||◌, cond, length, take, drop}
use mathlib.Core.Logic.{◌⊎◌, inl, inr}
use lib.Dec.{T}
use native.Mathlib.Nat.{suc-ne-zero}
use lib.ListN.{length-drop}
use borrow.Author.Tests.{eqb-true, ltb-false, le-ltb}
use Rattle.totals_spec.specs.Basics.{any}
use Rattle.totals_spec.specs.formats.Format.{Format, valid_format}
use Rattle.totals_spec.specs.formats.Settings.{Settings}
use Rattle.totals_spec.specs.sums.Totals.{Answer, refused, stray}
use Rattle.totals_spec.specs.entries.Bytes.{Entry, values_in, written}
use Rattle.totals_spec.specs.entries.Words.{filled}
use Rattle.totals_spec.specs.entries.Words.{misnamed, format_by}
use Rattle.totals_spec.proofs.refusals.RefusedRecords.{by_tests}
use Rattle.targets_spec.specs.several.Several.{target_answer, target_refusal, misnamed_at, format_at, settings_at, answer_at, slots, not_three, short96, target_entry}
use Rattle.targets_spec.specs.entries.Lengths.{cut_short}
use Rattle.targets_spec.proofs.several.Records.{target-order}
use Rattle.targets_spec.proofs.several.Records.{target-seven}
use Rattle.totals.specs.Entered.{Enters}
use Rattle.promised_calls.specs.Entries.{values_by, values_of, Whole}
use Rattle.promised_calls.specs.Lent.{names_bias, bias_told, target_call, SameFirst, KeepsBehind}
use Rattle.promised_calls.specs.Order.{Rearranged, WithoutStray}
use Rattle.promised_calls.proofs.Entered.{two, after, no-nan}
use Rattle.promised_calls.proofs.Shown.{as_told, is_misnamed, by-numbers, whole}

-- ---- three records

-- of a list whose format is of kind 4 a target gets 3, whatever the list
of-tens : (f : Format) (d : ℕ) (l l' : List ℕ) (t : Format) (c : Settings) → f.kind ≡ 4 → target_answer f d l t c ≡ target_answer f d l' t c
unfolding target_answer target_refusal valid_format
of-tens f d l l' t c e = rw e refl

answer-alike : (bad : Bool) (f : Format) (d : ℕ) (l l' ns : List ℕ) (j : ℕ)
    → ((t : Format) (c : Settings) → target_answer f d l t c ≡ target_answer f d l' t c) → answer_at bad f d l ns j ≡ answer_at bad f d l' ns j
unfolding answer_at
answer-alike bad f d l l' ns j h = ap (cond (bad || misnamed_at ns j) (refused 3 0)) (h (format_at ns j) (settings_at ns j))

slots-alike : (bad : Bool) (f : Format) (d : ℕ) (l l' ns : List ℕ)
    → ((t : Format) (c : Settings) → target_answer f d l t c ≡ target_answer f d l' t c) → slots bad f d l ns ≡ slots bad f d l' ns
unfolding slots
slots-alike bad f d l l' ns h =
    let at = λ (j : ℕ). answer-alike bad f d l l' ns j h in
    cc (at 0, at 13, at 26)

same-targets : (f : Format) (d : ℕ) (bytes other : List ℕ) (t : Bool) → eqb f.kind 4 ≡ t
    → Rearranged (values_by t bytes) (values_by t other) → any (stray f) (values_by t bytes) ≡ false
    → (g : Format) (c : Settings) → target_answer f d (values_in bytes) g c ≡ target_answer f d (values_in other) g c
same-targets f d bytes other true k h s g c = of-tens f d (values_in bytes) (values_in other) g c (eqb-true f.kind 4 k)
same-targets f d bytes other false k h s g c =
    let l = values_in bytes in
    (target-order f d l (values_in other) g c h).1 (λ n. subst T s (target-seven f d l g c n).1)

slots-first : (bad : Bool) (f : Format) (d : ℕ) (l ns old again : List ℕ) → take 96 (filled (slots bad f d l ns) old) ≡ take 96 (filled (slots bad f d l ns) again)
unfolding slots written
slots-first bad f d l ns old again = refl

slots-kept : (bad : Bool) (f : Format) (d : ℕ) (l ns old : List ℕ) → 96 ≤ length old → KeepsBehind 96 old (filled (slots bad f d l ns) old)
unfolding slots written
slots-kept bad f d l ns old h = (refl, omega (arith, length-drop 96 old, h))

-- an entry that returns 0 has passed the first test
first-passed : (a b d : Bool) (n : ℕ) (old new : List ℕ) → (by_tests a b d n old new).code ≡ 0 → a ≡ false
first-passed true b d n old new e = absurd (suc-ne-zero 0 e)
first-passed false b d n old new e = refl

module _ (f : Format) (d : ℕ) (targets bytes old : List ℕ) (number : ℕ) (new : List ℕ) (is : Enters (target_call f d targets bytes old) number new) where
  abbrev three : List ℕ → List ℕ
  three l = slots (is_misnamed f) (as_told f) d l (values_in targets)

  pub targets-alike : (other again : List ℕ) (number' : ℕ) (new' : List ℕ) → Enters (target_call f d targets other again) number' new'
      → Rearranged (values_of f bytes) (values_of f other) → WithoutStray f (values_of f bytes) → Whole f other → 96 ≤ length again
      → number ≡ 0 → (number' ≡ 0) × SameFirst 96 new new'
  unfolding target_entry
  targets-alike other again number' new' is' h n w r e =
      let odd = not_three targets || cut_short f.kind bytes in
      let odd' = not_three targets || cut_short f.kind other in
      let l = values_in bytes in
      let l' = values_in other in
      let z = first-passed odd (short96 old) true 0 old (filled (three l) old) (sym is.code_is ∙ e) in
      let o = subst (λ (b : Bool). (b || cut_short f.kind other) ≡ false) (sym (no-nan (not_three targets) (cut_short f.kind bytes) z).0) (whole f other w) in
      let same = slots-alike (is_misnamed f) (as_told f) d l l' (values_in targets) (subst (λ (g : Format). (t : Format) (c : Settings)
      → target_answer g d l t c ≡ target_answer g d l' t c) (sym (by-numbers f)) (same-targets f d bytes other (eqb f.kind 4) refl h n)) in
      let s = two (take 96) odd (short96 old) true odd' (short96 again) true 0 0 old again (filled (three l) old) (filled (three l') again)
      (inr refl) o (le-ltb (length again) 96 r)
      (λ _ _ _. (refl, slots-first (is_misnamed f) (as_told f) d l (values_in targets) old again ∙ ap (λ (x : List ℕ). take 96 (filled x again)) same)) (sym is.code_is ∙ e) in
      (is'.code_is ∙ s.0, ap (take 96) is.buffer-is ∙ (s.1 ∙ ap (take 96) (sym is'.buffer-is)))

  pub targets-keep : KeepsBehind 96 old new
  unfolding target_entry
  targets-keep =
      subst (KeepsBehind 96 old) (sym is.buffer-is)
      (after (KeepsBehind 96 old) (not_three targets || cut_short f.kind bytes) (short96 old) true 0 old (filled (three (values_in bytes)) old)
      (refl, refl) (λ s. slots-kept (is_misnamed f) (as_told f) d (values_in bytes) (values_in targets) old (ltb-false (length old) 96 s)))
