-- A total by its refusals: the tests that do not look at the elements, then the search for a stray bit, then the total itself.
use mathlib.Core.Path.{◌≡◌, refl, sym, ap, ◌∙◌}
use mathlib.Core.Logic.{◌≢◌}
use mathlib.Core.Bool.{Bool, true, false, cond, not, ◌&&◌, ◌||◌}
use mathlib.Core.List.{List}
use Prim.Native.Nat.{ℕ}
use native.Mathlib.Omega.{arith}
use lib.Dec.{leb, ltb, eqb}
use lib.ListN.{length}
use borrow.Author.Tests.{ne_eqb}
use Rattle.totals_spec.specs.Basics.{any}
use Rattle.totals_spec.specs.formats.Format.{Format, valid_format}
use Rattle.totals_spec.specs.formats.Settings.{Settings, valid_settings, summand_of}
use Rattle.totals_spec.specs.sums.Totals.{Answer, limit, refuse_if, refused, answered, stray, first_index, pairs}
use Rattle.totals_spec.specs.sums.Totals.{sum_refusal, sum_accepted, sum_answer, dot_refusal, dot_place, dot_accepted, dot_answer}
use Rattle.totals.specs.declared.refusal.Refusal.{Refusal}
use Rattle.totals.specs.Refusal.{number_of, place_of, sum_numbers, dot_numbers}
use Rattle.totals.proofs.Refusals.{number-some, no-place}

-- ---- a row of tests, none of which has number 0 or 7, before another one

pub record Tests (r : ℕ → ℕ) : Type 0 where
  pub passes : r 0 ≡ 0 → (t : ℕ) → r t ≡ t
  pub stops : r 0 ≢ 0 → (t : ℕ) → r t ≡ r 0
  pub no_seven : r 0 ≢ 7

pub no_test : Tests (λ t. t)
no_test = record { passes = λ e t. refl; stops = λ h t. absurd (h refl); no_seven = λ e. omega (arith, e) }

pub test : (b : Bool) (n : ℕ) (r : ℕ → ℕ) → n ≢ 0 → n ≢ 7 → Tests r → Tests (λ t. refuse_if b n (r t))
test true n r h k s = record { passes = λ e t. absurd (h e); stops = λ q t. refl; no_seven = k }
test false n r h k s = s

-- a refusal of these tests has its record whatever comes behind it; they are a total's, or a contribution's
pub stopped : {A : Type 0} (r : ℕ → ℕ) → Tests r → (refused_as : ℕ → ℕ → A) (at : ℕ) (a : A) (e : Refusal) → number_of e ≡ r 0 → (t : ℕ)
    → refused_as (number_of e) (place_of e) ≡ cond (eqb (r t) 0) a (refused_as (r t) (cond (eqb (r t) 7) at 0))
stopped r s refused_as at a e q t =
    let h : r 0 ≢ 0 = λ z. number-some e (q ∙ z) in
    let p = no-place e (λ z. s.no_seven (sym q ∙ z)) in
    rw p (ap (λ (x : ℕ). refused_as x 0) q ∙ rw (s.stops h t, ne_eqb (r 0) 0 h, ne_eqb (r 0) 7 s.no_seven))

-- where they all pass, refusal 7 has its place
pub seventh : (r : ℕ → ℕ) → Tests r → (at : ℕ) (a : Answer) → r 0 ≡ 0 → refused 7 at ≡ answered (r 7) at a
seventh r s at a e = rw (s.passes e 7)

-- ---- a sum

sum-tests : (f : Format) (c : Settings) (u n : ℕ)
    → Tests (λ t. refuse_if (not (valid_format f)) 3 (refuse_if (not (valid_settings f c && leb u 2)) 4 (refuse_if (ltb limit n) 6 t)))
sum-tests f c u n =
    test (not (valid_format f)) 3 _ (λ e. omega (arith, e)) (λ e. omega (arith, e))
    (test (not (valid_settings f c && leb u 2)) 4 _ (λ e. omega (arith, e)) (λ e. omega (arith, e))
    (test (ltb limit n) 6 _ (λ e. omega (arith, e)) (λ e. omega (arith, e)) no_test))

-- n is the length of l, as the code counts it
pub sum-stopped : (f : Format) (c : Settings) (u n : ℕ) (l : List ℕ) → length l ≡ n → (e : Refusal) → number_of e ≡ sum_numbers f c u n
    → refused (number_of e) (place_of e) ≡ sum_answer f c u l
unfolding sum_numbers sum_answer sum_refusal
sum-stopped f c u n l long e q = rw long (stopped _ (sum-tests f c u n) refused (first_index (stray f) l) (sum_accepted f c (summand_of u) l) e q _)

-- a refusal of these tests has no place
pub sum-place : (f : Format) (c : Settings) (u n : ℕ) (e : Refusal) → number_of e ≡ sum_numbers f c u n → place_of e ≡ 0
unfolding sum_numbers
sum-place f c u n e q = no-place e (λ z. (sum-tests f c u n).no_seven (sym q ∙ z))

-- ---- a dot

dot-tests : (f : Format) (c : Settings) (n m : ℕ)
    → Tests (λ t. refuse_if (not (valid_format f)) 3 (refuse_if (not (valid_settings f c)) 4 (refuse_if (not (eqb n m)) 5 (refuse_if (ltb limit n) 6 t))))
dot-tests f c n m =
    test (not (valid_format f)) 3 _ (λ e. omega (arith, e)) (λ e. omega (arith, e))
    (test (not (valid_settings f c)) 4 _ (λ e. omega (arith, e)) (λ e. omega (arith, e))
    (test (not (eqb n m)) 5 _ (λ e. omega (arith, e)) (λ e. omega (arith, e))
    (test (ltb limit n) 6 _ (λ e. omega (arith, e)) (λ e. omega (arith, e)) no_test)))

module _ (f : Format) (c : Settings) (n m : ℕ) where
  pub dot-stopped : (x y : List ℕ) → length x ≡ n → length y ≡ m → (e : Refusal) → number_of e ≡ dot_numbers f c n m
      → refused (number_of e) (place_of e) ≡ dot_answer f c x y
  unfolding dot_numbers dot_answer dot_refusal
  dot-stopped x y left right e q = rw (left, right) (stopped _ (dot-tests f c n m) refused (dot_place f x y) (dot_accepted f c (pairs x y)) e q _)

-- ---- by whether an element has a stray bit

module _ (f : Format) (c : Settings) (u : ℕ) (l : List ℕ) (e : sum_numbers f c u (length l) ≡ 0) where
  pub sum-strayed : any (stray f) l ≡ true → refused 7 (first_index (stray f) l) ≡ sum_answer f c u l
  unfolding sum_numbers sum_answer sum_refusal
  sum-strayed t = rw t (seventh _ (sum-tests f c u (length l)) (first_index (stray f) l) (sum_accepted f c (summand_of u) l) e)

  pub sum-unstrayed : any (stray f) l ≡ false → sum_refusal f c u l ≡ 0
  unfolding sum_numbers sum_refusal
  sum-unstrayed t = rw t e

  pub sum-told : any (stray f) l ≡ false → sum_accepted f c (summand_of u) l ≡ sum_answer f c u l
  unfolding sum_answer
  sum-told t = rw (sum-unstrayed t)

module _ (f : Format) (c : Settings) (x y : List ℕ) (e : dot_numbers f c (length x) (length y) ≡ 0) where
  dot-seventh : (any (stray f) x || any (stray f) y) ≡ true → refused 7 (dot_place f x y) ≡ dot_answer f c x y
  unfolding dot_numbers dot_answer dot_refusal
  dot-seventh t = rw t (seventh _ (dot-tests f c (length x) (length y)) (dot_place f x y) (dot_accepted f c (pairs x y)) e)

  pub dot-strayed-left : any (stray f) x ≡ true → refused 7 (first_index (stray f) x) ≡ dot_answer f c x y
  unfolding dot_place
  dot-strayed-left t = rw t at (dot-seventh (rw t refl))

  pub dot-strayed-right : any (stray f) x ≡ false → any (stray f) y ≡ true → refused 7 (first_index (stray f) y) ≡ dot_answer f c x y
  unfolding dot_place
  dot-strayed-right n t = rw n at (dot-seventh (rw (n, t) refl))

  pub dot-unstrayed : any (stray f) x ≡ false → any (stray f) y ≡ false → dot_refusal f c x y ≡ 0
  unfolding dot_numbers dot_refusal
  dot-unstrayed n t = rw (n, t) e

  pub dot-told : any (stray f) x ≡ false → any (stray f) y ≡ false → dot_accepted f c (pairs x y) ≡ dot_answer f c x y
  unfolding dot_answer
  dot-told n t = rw (dot-unstrayed n t)
