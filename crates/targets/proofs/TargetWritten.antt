-- The entry of three targets: its numbers and its slots in bytes, and what it leaves by its tests.
use mathlib.Core.Path.{◌≡◌, refl, sym, ap, ap₂, ◌∙◌, subst}
use mathlib.Core.Logic.{◌≢◌}
use mathlib.Core.Bool.{Bool, true, false, ◌||◌}
use mathlib.Core.List.{List, ◌++◌}
use Prim.Native.Nat.{ℕ, ◌+◌, ◌*◌, ◌<◌, ◌≤◌}
use native.Mathlib.Omega.{arith}
use lib.ListN.{length}
use borrow.Author.Tests.{eq-eqb, ne_eqb}
use Rattle.totals_spec.specs.formats.Format.{Format}
use Rattle.totals_spec.specs.sums.Totals.{Answer, refused}
use Rattle.totals_spec.specs.entries.Bytes.{to_bytes, values_in, written}
use Rattle.totals_spec.specs.entries.Words.{filled}
use Rattle.totals_spec.specs.entries.Words.{misnamed, format_by}
use Rattle.targets_spec.specs.entries.Lengths.{cut_short}
use Rattle.targets_spec.specs.several.Several.{misnamed_at, format_at, settings_at, answer_at, slot_of, slots, target_entry}
use Rattle.totals_spec.proofs.sums.RecordRule.{cond_has}
use Rattle.targets_spec.proofs.several.Records.{target_small, target-fits}
use Rattle.values.specs.Laid.{laid}
use Rattle.totals.specs.Laid.{laid_over}
use Rattle.totals.proofs.Laid.{over-next}
use Rattle.std.specs.Prelude.{Result, Ok, Err}
use Rattle.totals.specs.Asked.{answer_in}
use Rattle.totals.specs.declared.refusal.Refusal.{Refusal}
use Rattle.totals.specs.declared.refusal.Refusal.TheVariants.{NoSuchFormat}
use Rattle.targets.specs.declared.several.Target.{Target}
use Rattle.targets.specs.declared.several.Printed.{Printed}
use Rattle.totals.specs.declared.entry.NamedFormat.{NamedFormat}
use Rattle.totals.specs.Entered.{Enters, Fits}
use Rattle.totals.specs.Refusal.{number_of, place_of, length_numbers}
use Rattle.targets.specs.Targets.{Told, TargetAt, ThreeAnswers}
use Rattle.totals.proofs.Written.{flags-side, turned-away, let-through}

-- ---- slots

-- four words laid from a place on
pub slot-laid : (a : Answer) (old : List ℕ) (at : ℕ) → at + 32 ≤ length old → a.flags < 256 → (b₁ b₂ b₃ b₄ : List ℕ)
    → b₁ ≡ laid old at (a.refusal + 256 * a.place) → b₂ ≡ laid b₁ (at + 8) a.result → b₃ ≡ laid b₂ (at + 16) (a.flags + 65536 * a.side)
    → b₄ ≡ laid b₃ (at + 24) a.passes → b₄ ≡ laid_over old at (slot_of a)
unfolding written
slot-laid a old at room few b₁ b₂ b₃ b₄ e₁ e₂ e₃ e₄ =
    e₄ ∙ ap (λ (l : List ℕ). laid l (at + 24) a.passes) three ∙ over-next old ((n ++ r) ++ f) (to_bytes 8 a.passes) at (omega (arith, room))
    ∙ ap (λ (l : List ℕ). laid_over old at (n ++ (r ++ l))) (flags-side a (to_bytes 8 a.passes) few)
  where
    n : List ℕ
    n = to_bytes 8 (a.refusal + 256 * a.place)

    r : List ℕ
    r = to_bytes 8 a.result

    f : List ℕ
    f = to_bytes 8 (a.flags + 65536 * a.side)

    two : b₂ ≡ laid_over old at (n ++ r)
    two = e₂ ∙ ap (λ (l : List ℕ). laid l (at + 8) a.result) e₁ ∙ over-next old n r at (omega (arith, room))

    three : b₃ ≡ laid_over old at ((n ++ r) ++ f)
    three = e₃ ∙ ap (λ (l : List ℕ). laid l (at + 16) (a.flags + 65536 * a.side)) two ∙ over-next old (n ++ r) f at (omega (arith, room))

-- three slots, one behind the other
three-laid : (a b c : Answer) (old b₁ b₂ b₃ : List ℕ) → 96 ≤ length old → b₁ ≡ laid_over old 0 (slot_of a) → b₂ ≡ laid_over b₁ 32 (slot_of b)
    → b₃ ≡ laid_over b₂ 64 (slot_of c) → b₃ ≡ filled (slot_of a ++ (slot_of b ++ slot_of c)) old
unfolding written
three-laid a b c old b₁ b₂ b₃ room e₁ e₂ e₃ =
    e₃
    ∙ ap (λ (l : List ℕ). laid_over l 64 (slot_of c))
    (e₂ ∙ ap (λ (l : List ℕ). laid_over l 32 (slot_of b)) e₁ ∙ over-next old (slot_of a) (slot_of b) 0 (omega (arith, room)))
    ∙ over-next old (slot_of a ++ slot_of b) (slot_of c) 0 (omega (arith, room))

pub slots-laid : (bad : Bool) (f : Format) (d : ℕ) (l ns : List ℕ) (a b c : Answer) → a ≡ answer_at bad f d l ns 0 → b ≡ answer_at bad f d l ns 13
    → c ≡ answer_at bad f d l ns 26 → (old b₁ b₂ b₃ : List ℕ) → 96 ≤ length old → b₁ ≡ laid_over old 0 (slot_of a) → b₂ ≡ laid_over b₁ 32 (slot_of b)
    → b₃ ≡ laid_over b₂ 64 (slot_of c) → b₃ ≡ filled (slots bad f d l ns) old
unfolding slots
slots-laid bad f d l ns a b c p q r old b₁ b₂ b₃ room e₁ e₂ e₃ =
    three-laid a b c old b₁ b₂ b₃ room e₁ e₂ e₃
    ∙ ap (λ (t : List ℕ). filled t old)
    (ap₂ (λ (x y : List ℕ). x ++ y) (ap slot_of p) (ap₂ (λ (x y : List ℕ). x ++ y) (ap slot_of q) (ap slot_of r)))

-- each field fits where it is written
pub slot-fits : (bad : Bool) (f : Format) (d : ℕ) (l ns : List ℕ) (j : ℕ) (r : Answer) → r ≡ answer_at bad f d l ns j → (old : List ℕ) → 96 ≤ length old
    → Fits r old
unfolding answer_at
slot-fits bad f d l ns j r is old room =
    let small = target_small f d l (format_at ns j) (settings_at ns j) in
    let fit = target-fits f d l (format_at ns j) (settings_at ns j) in
    subst (λ (a : Answer). Fits a old) (sym is)
    (cond_has (λ (a : Answer). Fits a old) (bad || misnamed_at ns j) _ _
    (record { room = omega (arith, room); number = omega arith; place = omega arith; flags = omega arith; side = omega arith })
    (record { room = omega (arith, room); number = small.number; place = small.place; flags = fit.flags; side = fit.side }))

-- the record of the target whose first number is the j-th
at_told : (f : Format) (d : ℕ) (l ns : List ℕ) (j : ℕ) (t : Result Target Refusal) (a : Answer) → TargetAt ns j t → Told f d l t a
    → a ≡ answer_at false f d l ns j
unfolding answer_at
at_told f d l ns j (Ok t) a (named, format, settings) h = rw named (rw (format, settings) at h)
at_told f d l ns j (Err e) a (bad, is) h = rw bad (rw is at h)

module _ (bad : Bool) (f : Format) (d : ℕ) (l ns : List ℕ) (r : Printed) where
  pub three-named : bad ≡ false → (g : Format) → g ≡ f → (a b c : Result Target Refusal) → TargetAt ns 0 a → TargetAt ns 13 b → TargetAt ns 26 c
      → Told g d l a (answer_in r.first) → Told g d l b (answer_in r.second) → Told g d l c (answer_in r.third) → ThreeAnswers bad f d l ns r
  three-named e g is a b c p q s x y z =
      rw (e, ← is) (record { first = at_told g d l ns 0 a _ p x; second = at_told g d l ns 13 b _ q y; third = at_told g d l ns 26 c _ s z })

  pub three-misnamed : bad ≡ true → (e : Refusal) → e ≡ NoSuchFormat → let a = refused (number_of e) (place_of e) in
      answer_in r.first ≡ a → answer_in r.second ≡ a → answer_in r.third ≡ a → ThreeAnswers bad f d l ns r
  unfolding answer_at
  three-misnamed q e is x y z = rw q (record { first = rw is at x; second = rw is at y; third = rw is at z })

-- ---- the entry

module _ (named : NamedFormat) (d : ℕ) (targets bytes old : List ℕ) where
  pub not_three : length targets ≢ 312 → Enters (target_entry named.kind named.exponent_bits named.width named.bias_named named.bias d targets bytes old) 1 old
  unfolding target_entry
  not_three h = rw (ne_eqb (length targets) 312 h) (record { code_is = refl; buffer-is = refl })

  module _ (three : length targets ≡ 312) where
    pub targets-turned : (r : Refusal) → number_of r ≡ length_numbers (cut_short named.kind bytes) (length old) 96
        → Enters (target_entry named.kind named.exponent_bits named.width named.bias_named named.bias d targets bytes old) (number_of r) old
    unfolding target_entry
    targets-turned r h = rw (eq-eqb (length targets) 312 three) (turned-away (cut_short named.kind bytes) (length old) 96 _ old r h)

    pub targets-enter : 0 ≡ length_numbers (cut_short named.kind bytes) (length old) 96 → (new : List ℕ)
        → new ≡ filled (slots (misnamed named.bias_named named.bias) (format_by named.kind named.exponent_bits named.width named.bias_named named.bias) d (values_in bytes) (values_in targets)) old
        → Enters (target_entry named.kind named.exponent_bits named.width named.bias_named named.bias d targets bytes old) 0 new
    unfolding target_entry
    targets-enter h new is =
        rw (eq-eqb (length targets) 312 three) (let-through (cut_short named.kind bytes) (length old) 96 _ old h 0 new (record { code_is = refl; buffer-is = is }))
