-- The record of a target by the tests that do not look at the elements, and by what the walk of its list has found and keeps.
use mathlib.Core.Path.{◌≡◌, refl, sym, ap, ◌∙◌}
use mathlib.Core.Bool.{Bool, true, false, not, ◌&&◌, ◌||◌}
use mathlib.Core.List.{List, [], map}
use Prim.Native.Nat.{ℕ, ◌<◌, ◌≤◌}
use native.Mathlib.Omega.{arith}
use lib.Dec.{T, leb, ltb}
use lib.ListN.{length}
use borrow.Author.Tests.{le-leb, lt-leb, lt-ltb, le-ltb}
use Rattle.totals_spec.specs.Basics.{any}
use Rattle.totals_spec.specs.formats.Format.{Format, valid_format, digits}
use Rattle.totals_spec.specs.formats.Settings.{Settings, valid_settings, value}
use Rattle.totals_spec.specs.formats.Bounds.{FormatBounds, SettingsBounds}
use Rattle.totals_spec.specs.formats.Decode.{zero_of, is_subnormal}
use Rattle.totals_spec.specs.terms.Terms.{item, is_zero}
use Rattle.totals_spec.specs.chain.Chain.{chain}
use Rattle.totals_spec.specs.chain.Settled.{settled}
use Rattle.totals_spec.specs.sums.Totals.{Answer, refused, special, towards_negative, zero_sign, limit, stray, refuse_if, first_index, sum_terms}
use Rattle.totals_spec.specs.pence.Pence.{not_number}
use Rattle.totals_spec.specs.rounding.IntoFormat.{reading_with, rounded_into, printed, printed_items}
use Rattle.targets_spec.specs.several.Several.{target_refusal, target_answer}
use Rattle.totals_spec.proofs.formats.Valid.{and_left, and_right, format-bounds, settings-bounds}
use Rattle.totals_spec.proofs.chain.PassesOfRecords.{valid-of}
use Rattle.totals_spec.proofs.order.Order.{first-zero}
use Rattle.targets_spec.proofs.several.RoundedAsTheSum.{target-by-chain, target-exact}
use Rattle.totals.specs.declared.refusal.Refusal.{Refusal}
use Rattle.totals.specs.Refusal.{number_of, place_of, first_numbers, few_number, sum_numbers}
use Rattle.std.specs.Prelude.{Result, Ok, Err}
use Rattle.format.specs.Formats.{format_of}
use Rattle.format.specs.Settings.{settings_of}
use Rattle.targets.specs.declared.kept.Kept.{Kept}
use Rattle.targets.specs.declared.several.Target.{Target}
use Rattle.targets.specs.Kept.{KeptIn}
use Rattle.targets.specs.Targets.{target_numbers, Answers, AnswersTo, Told}
use Rattle.totals.proofs.Refusals.{number-some, first-passed}
use Rattle.totals.proofs.Answers.{Tests, no_test, test, stopped, seventh}

T_true : (b : Bool) → T b → b ≡ true
T_true true h = refl
T_true false h = absurd h

-- ---- the tests that do not look at the elements

pub record TargetValid (f : Format) (d n : ℕ) (t : Format) (c : Settings) : Type 0 where
  pub list : FormatBounds f
  pub format : FormatBounds t
  pub settings : SettingsBounds t c
  pub numbers : sum_numbers f (reading_with d) 0 n ≡ 0

-- denormals-are-zero is the only setting of a list
reading-valid : (f : Format) (d : ℕ) → leb d 1 ≡ true → valid_settings f (reading_with d) ≡ true
unfolding valid_settings reading_with
reading-valid f d e = let z : leb (reading_with d).precision (digits f) ≡ true = le-leb 0 (digits f) (omega arith) in rw (e, z)

module _ (f : Format) (d n : ℕ) (t : Format) (c : Settings) where
  target-tests : Tests (λ z.
      refuse_if (not (valid_format f && valid_format t)) 3 (refuse_if (not (leb d 1 && valid_settings t c)) 4 (refuse_if (ltb limit n) 6 z)))
  target-tests =
      test (not (valid_format f && valid_format t)) 3 _ (λ e. omega (arith, e)) (λ e. omega (arith, e))
      (test (not (leb d 1 && valid_settings t c)) 4 _ (λ e. omega (arith, e)) (λ e. omega (arith, e))
      (test (ltb limit n) 6 _ (λ e. omega (arith, e)) (λ e. omega (arith, e)) no_test))

  pub target-first : (e : Refusal) → number_of e ≡ first_numbers (valid_format f && valid_format t) t c → number_of e ≡ target_numbers f d n t c
  unfolding target_numbers
  target-first e h = go (valid_format f && valid_format t) (valid_settings t c) (leb d 1) h
    where
      go : (a b o : Bool) → number_of e ≡ refuse_if (not a) 3 (refuse_if (not b) 4 0)
          → number_of e ≡ refuse_if (not a) 3 (refuse_if (not (o && b)) 4 (refuse_if (ltb limit n) 6 0))
      go true true o q = absurd (number-some e q)
      go true false true q = q
      go true false false q = q
      go false b o q = q

  module _ (passed : 0 ≡ first_numbers (valid_format f && valid_format t) t c) where
    pub target-setting : 1 < d → 4 ≡ target_numbers f d n t c
    unfolding target_numbers
    target-setting h =
        let (a, b) = first-passed (valid_format f && valid_format t) (valid_settings t c) (sym passed) in rw (a, b, lt-leb d 1 h) refl

    pub target-few : d ≤ 1 → few_number n ≡ target_numbers f d n t c
    unfolding target_numbers
    target-few h = let (a, b) = first-passed (valid_format f && valid_format t) (valid_settings t c) (sym passed) in rw (a, b, le-leb d 1 h) refl

  pub target-valid : target_numbers f d n t c ≡ 0 → TargetValid f d n t c
  unfolding target_numbers sum_numbers
  target-valid e =
      let a = first-zero (not (valid_format f && valid_format t)) 2 _ e in
      let b = first-zero (not (leb d 1 && valid_settings t c)) 3 _ a.1 in
      let g = first-zero (ltb limit n) 5 0 b.1 in
      let v = valid-of (valid_format f && valid_format t) 2 _ e in
      let w = valid-of (leb d 1 && valid_settings t c) 3 _ a.1 in
      let vf = and_left (valid_format f) (valid_format t) v in
      record {
        list = format-bounds f vf;
        format = format-bounds t (and_right (valid_format f) (valid_format t) v);
        settings = settings-bounds t c (and_right (leb d 1) (valid_settings t c) w);
        numbers = rw (T_true (valid_format f) vf, reading-valid f d (T_true (leb d 1) (and_left (leb d 1) (valid_settings t c) w)), g.0);
      }

module _ (f : Format) (d : ℕ) (l : List ℕ) (t : Format) (c : Settings) {n : ℕ} (long : length l ≡ n) where
  pub target-stopped : (e : Refusal) → number_of e ≡ target_numbers f d n t c → refused (number_of e) (place_of e) ≡ target_answer f d l t c
  unfolding target_numbers target_answer target_refusal
  target-stopped e q = rw long (stopped _ (target-tests f d n t c) refused (first_index (stray f) l) _ e q _)

  pub target-strayed : target_numbers f d n t c ≡ 0 → any (stray f) l ≡ true → refused 7 (first_index (stray f) l) ≡ target_answer f d l t c
  unfolding target_numbers target_answer target_refusal
  target-strayed e some = rw (long, some) (seventh _ (target-tests f d n t c) (first_index (stray f) l) _ e)

-- a target that was not refused before, and one that was or was not, by the walk of its list
pub answers-target : (f : Format) (d n : ℕ) (r : Result Kept Refusal) (a : Answer) {t : Target} (o : Result Target Refusal) → o ≡ Ok t
    → Answers f d n (format_of t.format) (settings_of t.settings) r a → AnswersTo f d n o r a
answers-target f d n r a o e h = rw e h

pub target-told : (f : Format) (d n : ℕ) (r : Result Kept Refusal) (a : Answer) (o : Result Target Refusal) (l : List ℕ) → AnswersTo f d n o r a
    → n ≡ length l → (sum_numbers f (reading_with d) 0 n ≡ 0 → KeptIn f (reading_with d) l r) → Told f d l o a
target-told f d n r a (Ok t) l h many kept = h l many kept
target-told f d n r a (Err q) l h many kept = h

-- ---- a list of which all is known but its values

module _ (f : Format) (d : ℕ) (l : List ℕ) (t : Format) (c : Settings) (a : target_numbers f d (length l) t c ≡ 0) (n : any (stray f) l ≡ false) where
  -- the last test
  last-test : target_refusal f d l t c ≡ refuse_if (ltb (digits f) (digits t) || any (not_number f) l) 17 0
  unfolding target_numbers target_refusal
  last-test =
      let x = first-zero (not (valid_format f && valid_format t)) 2 _ a in
      let y = first-zero (not (leb d 1 && valid_settings t c)) 3 _ x.1 in
      let z = first-zero (ltb limit (length l)) 5 0 y.1 in
      rw (x.0, y.0, z.0, n)

  pub too_wide : digits f < digits t → refused 17 0 ≡ target_answer f d l t c
  unfolding target_answer
  too_wide h = rw (last-test, lt-ltb (digits f) (digits t) h)

  module _ (h : digits t ≤ digits f) where
    pub not_finite : any (not_number f) l ≡ true → refused 17 0 ≡ target_answer f d l t c
    unfolding target_answer
    not_finite e = rw (last-test, le-ltb (digits f) (digits t) h, e)

    module _ (e : any (not_number f) l ≡ false) where
      accepted : target_refusal f d l t c ≡ 0
      accepted = last-test ∙ rw (le-ltb (digits f) (digits t) h, e)

      pub no-term : sum_terms f (reading_with d) value l ≡ [] → (sub plus minus : Bool) → let is = map (item f (reading_with d) value) l in
          sub ≡ any (is_subnormal f) l → plus ≡ any (is_zero false) is → minus ≡ any (is_zero true) is
          → special t sub (zero_of (zero_sign plus minus (towards_negative c))) false ≡ target_answer f d l t c
      unfolding target_answer printed_items
      no-term z sub plus minus p q r = rw (accepted, z, p, q, r)

      pub by_chain : 0 < length (sum_terms f (reading_with d) value l) → (sub : Bool) → sub ≡ any (is_subnormal f) l
          → let r = chain (digits f) (sum_terms f (reading_with d) value l) in
          printed f t sub (settled r.outcome) (rounded_into f t c (settled r.outcome)) r ≡ target_answer f d l t c
      by_chain some sub p =
          let r = chain (digits f) (sum_terms f (reading_with d) value l) in
          ap (λ (b : Bool). printed f t b (settled r.outcome) (rounded_into f t c (settled r.outcome)) r) p
          ∙ target-by-chain f d l t c (any (is_subnormal f) l) accepted
          ∙ sym ((target-exact f d l t c accepted).1 some)
