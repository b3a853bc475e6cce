-- Refusals of ranges: each number exactly under its condition, refused records, and what the entry
-- leaves.
use mathlib.Core.Path.{◌≡◌, refl, ap, sym, subst, ap₂}
use mathlib.Core.List.{List, [], ◌∷◌, map}
use Prim.Native.Nat.{ℕ, suc, zero, ◌+◌, ◌<◌, ◌≤◌}
use native.Mathlib.Nat.{suc_inj, suc-ne-zero, not-suc-le-zero, le_of_suc-le-suc}
use lib.ListN.{length, get_or, drop}
use mathlib.Core.Bool.{Bool, ◌||◌, true, false, not, ◌&&◌, cond}
use mathlib.Core.Logic.{◌↔◌, ◌⊎◌, inl, inr, ◌≢◌}
use lib.Dec.{T, not_T, leb, leb→le, nleb→lt, eqb, eqb→eq, ltb, ltb→lt, lt→ltb, nltb→le}
use native.Mathlib.Omega.{arith}
use borrow.Author.Tests.{ne_eqb, eqb-false}
use Rattle.totals_spec.specs.Basics.{any, Signed, plus_of, minus_of}
use Rattle.totals_spec.specs.formats.Format.{binary64}
use Rattle.totals_spec.specs.formats.Decode.{decode, is_number}
use Rattle.totals_spec.specs.sums.Totals.{stray, limit, refuse_if}
use Rattle.totals_spec.specs.formats.Ordered.{at_most, nothing}
use Rattle.totals_spec.specs.refusals.Conditions.{Unequal}
use Rattle.totals_spec.proofs.refusals.Exactly.{not-both, stray-bit, no-number-found, some-found}
use Rattle.totals_spec.proofs.refusals.Exactly.{unequal-found, Tests, last, unless, test, either}
use Rattle.totals_spec.proofs.refusals.Exactly.{many-found, exactly}
use Rattle.figures_spec.specs.ranges.Ranges.{triples, good_figure, amount_of, figure_worth}
use Rattle.figures_spec.specs.ranges.Ranges.{good_amount, entry_of, entries, good_ceiling}
use Rattle.figures_spec.specs.ranges.Ranges.{range_refusal, Range, refused_range, ranged}
use Rattle.figures_spec.specs.ranges.Ranges.{lower_total, upper_total, range_answer, low_of}
use Rattle.figures_spec.specs.ranges.Ranges.{high_of}
use Rattle.figures_spec.specs.ranges.Conditions.{NoFigure, Below, BadEntry, SomeBadEntry}
use Rattle.figures_spec.specs.ranges.Conditions.{BadCeiling, range_conditions, NoPair}
use Rattle.figures_spec.specs.ranges.Promises.{Range-refused-exactly, Range-refused}
use Rattle.figures_spec.specs.ranges.Promises.{Range-entry-refused-exactly, Range-entry-refused}
use Rattle.figures_spec.specs.ranges.Promises.{Range-entry-read-back, Range-entries-kept}
use Rattle.figures_spec.specs.ranges.Entry.{RangeEntry, range_entered, range_entry}

-- ---- three lists of one length

pub triples-length : (ts xs ys : List ℕ) → length ts ≡ length xs → length ts ≡ length ys → length (triples ts xs ys) ≡ length ts
triples-length [] xs ys e h = refl
triples-length (t ∷ ts) [] ys e h = absurd (suc-ne-zero (length ts) e)
triples-length (t ∷ ts) (x ∷ xs) [] e h = absurd (suc-ne-zero (length ts) h)
triples-length (t ∷ ts) (x ∷ xs) (y ∷ ys) e h = ap suc (triples-length ts xs ys (suc_inj e) (suc_inj h))

pub triples-at : (ts xs ys : List ℕ) → length ts ≡ length xs → length ts ≡ length ys
    → (i : ℕ) → get_or (triples ts xs ys) i (0, 0, 0) ≡ (get_or ts i 0, get_or xs i 0, get_or ys i 0)
triples-at [] [] [] e h i = refl
triples-at [] (x ∷ xs) ys e h i = absurd (suc-ne-zero (length xs) (sym e))
triples-at [] [] (y ∷ ys) e h i = absurd (suc-ne-zero (length ys) (sym h))
triples-at (t ∷ ts) [] ys e h i = absurd (suc-ne-zero (length ts) e)
triples-at (t ∷ ts) (x ∷ xs) [] e h i = absurd (suc-ne-zero (length ts) h)
triples-at (t ∷ ts) (x ∷ xs) (y ∷ ys) e h zero = refl
triples-at (t ∷ ts) (x ∷ xs) (y ∷ ys) e h (suc i) = triples-at ts xs ys (suc_inj e) (suc_inj h) i

any-map : {A B : Type 0} (t : B → Bool) (f : A → B) (l : List A) → any t (map f l) ≡ any (λ x. t (f x)) l
any-map t f [] = refl
any-map t f (x ∷ l) = ap (λ (b : Bool). t (f x) || b) (any-map t f l)

-- ---- what the tests of number 11 find

figure-found : (b : ℕ) → T (not (good_figure b)) ↔ NoFigure b
figure-found b =
    not-both (not (stray binary64 b)) (is_number (decode binary64 b)) (twice (stray binary64 b) (stray-bit binary64 b))
    (no-number-found (decode binary64 b))
  where
    twice : {P : Type 0} (a : Bool) → T a ↔ P → T (not (not a)) ↔ P
    twice true h = h
    twice false h = h

below-found : (x y : Signed) → T (not (at_most x y)) ↔ Below y x
below-found x y =
    let a = plus_of x + minus_of y in
    let b = plus_of y + minus_of x in
    ((λ t. omega (arith, nleb→lt a b t)), λ h. not_T (leb a b) (λ t. omega (arith, h, leb→le a b t)))

entry_found : (t x y : ℕ) → T (not (good_amount (amount_of t x y))) ↔ BadEntry t x y
entry_found zero x y = ((λ h. inr (inl (omega arith, (figure-found x).0 h))), back)
  where
    back : BadEntry 0 x y → T (not (good_figure x))
    back (inl h) = absurd (let z : ⊥ = omega (arith, h) in z)
    back (inr (inl h)) = (figure-found x).1 h.1
    back (inr (inr h)) = absurd (let z : ⊥ = omega (arith, h.0) in z)
entry_found (suc zero) x y = ((λ h. forth (found.0 h)), λ h. found.1 (back h))
  where
    found : T (not (good_figure x && good_figure y && at_most (figure_worth x) (figure_worth y)))
        ↔ (NoFigure x ⊎ NoFigure y) ⊎ Below (figure_worth y) (figure_worth x)
    found =
        not-both (good_figure x && good_figure y) (at_most (figure_worth x) (figure_worth y))
        (not-both (good_figure x) (good_figure y) (figure-found x) (figure-found y)) (below-found (figure_worth x) (figure_worth y))

    forth : (NoFigure x ⊎ NoFigure y) ⊎ Below (figure_worth y) (figure_worth x) → BadEntry 1 x y
    forth (inl (inl h)) = inr (inl (omega arith, h))
    forth (inl (inr h)) = inr (inr (refl, inl h))
    forth (inr h) = inr (inr (refl, inr h))

    back : BadEntry 1 x y → (NoFigure x ⊎ NoFigure y) ⊎ Below (figure_worth y) (figure_worth x)
    back (inl h) = absurd (let z : ⊥ = omega (arith, h) in z)
    back (inr (inl h)) = inl (inl h.1)
    back (inr (inr (e, inl h))) = inl (inr h)
    back (inr (inr (e, inr h))) = inr h
entry_found (suc (suc zero)) x y = (absurd, back)
  where
    back : BadEntry 2 x y → ⊥
    back (inl h) = omega (arith, h)
    back (inr (inl h)) = omega (arith, h.0)
    back (inr (inr h)) = omega (arith, h.0)
entry_found (suc (suc (suc t))) x y = ((λ h. inl (omega arith)), λ h. tt)

abbrev BadTriple : ℕ × ℕ × ℕ → Type 0
BadTriple r = BadEntry r.0 r.1 r.2

entries-found : (ts xs ys : List ℕ) → length ts ≡ length xs → length ts ≡ length ys
    → T (any (λ a. not (good_amount a)) (entries ts xs ys)) ↔ SomeBadEntry ts xs ys
entries-found ts xs ys e h = (
  λ t. let s = found.0 t in (s.0, subst (λ (n : ℕ). s.0 < n) long s.1, subst BadTriple (triples-at ts xs ys e h s.0) s.2),
  λ s. found.1 (s.0, subst (λ (n : ℕ). s.0 < n) (sym long) s.1, subst BadTriple (sym (triples-at ts xs ys e h s.0)) s.2),
)
  where
    long : length (triples ts xs ys) ≡ length ts
    long = triples-length ts xs ys e h

    found : T (any (λ a. not (good_amount a)) (entries ts xs ys))
        ↔ ((i : ℕ) × (i < length (triples ts xs ys)) × BadTriple (get_or (triples ts xs ys) i (0, 0, 0)))
    found =
        rw (any-map (λ a. not (good_amount a)) entry_of (triples ts xs ys))
        (some-found (λ r. not (good_amount (entry_of r))) BadTriple (λ r. entry_found r.0 r.1 r.2) (0, 0, 0) (triples ts xs ys))

ceiling-found : (z : ℕ) → T (not (good_ceiling z)) ↔ BadCeiling z
ceiling-found z = not-both (good_figure z) (at_most nothing (figure_worth z)) (figure-found z) (below-found nothing (figure_worth z))

-- ---- each number exactly under its condition

same-lengths : (ts xs : List ℕ) → ¬ Unequal ts xs → length ts ≡ length xs
same-lengths ts xs k = go (eqb (length ts) (length xs)) (eqb→eq (length ts) (length xs)) (λ t. k ((unequal-found ts xs).0 t))
  where
    go : (b : Bool) → (T b → length ts ≡ length xs) → ¬ T (not b) → length ts ≡ length xs
    go true f n = f tt
    go false f n = absurd (n tt)

range-tests : (ts xs ys : List ℕ) (z : ℕ) → Tests (range_conditions ts xs ys z) (range_refusal ts xs ys z)
unfolding range_refusal
range-tests ts xs ys z =
    let a = not (eqb (length ts) (length xs)) in
    let b = not (eqb (length ts) (length ys)) in
    let c = not (good_ceiling z) in
    let d = any (λ a. not (good_amount a)) (entries ts xs ys) in
    unless (a || b) (either a b (unequal-found ts xs) (unequal-found ts ys))
    (λ k. test (ltb limit (length ts)) (many-found ts)
    (test (c || d)
    (either c d (ceiling-found z) (entries-found ts xs ys (same-lengths ts xs (λ h. k (inl h))) (same-lengths ts ys (λ h. k (inr h))))) last))

-- a record by its number
module _ (n lower upper : ℕ) where
  ranged-number : (ranged n lower upper).refusal ≡ n
  ranged-number = go (eqb n 0) (eqb→eq n 0)
    where
      go : (t : Bool) → (T t → n ≡ 0) → (cond {A = Range} t (record { lower = lower; upper = upper; refusal = 0; place = 0 }) (refused_range n)).refusal ≡ n
      go true e = sym (e tt)
      go false e = refl

  ranged-refused : n ≢ 0 → ranged n lower upper ≡ refused_range n
  ranged-refused h = rw (ne_eqb n 0 h)

pub range-number : (ts xs ys : List ℕ) (z : ℕ) → (range_answer ts xs ys z).refusal ≡ range_refusal ts xs ys z
unfolding range_answer
range-number ts xs ys z = ranged-number (range_refusal ts xs ys z) (lower_total (entries ts xs ys)) (upper_total z (entries ts xs ys))

pub range-refused-exactly : Range-refused-exactly
range-refused-exactly ts xs ys z n = rw (range-number ts xs ys z) (exactly (range-tests ts xs ys z) n)

pub range-refused : Range-refused
unfolding range_answer
range-refused ts xs ys z h = ranged-refused (range_refusal ts xs ys z) (lower_total (entries ts xs ys)) (upper_total z (entries ts xs ys)) h

-- ---- the entry, by its own test and the record

module _ (lows highs xs ys old : List ℕ) where
  abbrev tested : Bool → Range → RangeEntry
  tested a r = cond a (record { code = 2; firsts = xs; seconds = ys; pair = old }) (range_entered r lows highs xs ys old)

  abbrev by_refusal : Bool → Range → RangeEntry
  by_refusal t r =
      cond t (record { code = 0; firsts = lows; seconds = highs; pair = r.lower ∷ r.upper ∷ drop 2 old })
      (record { code = r.refusal; firsts = xs; seconds = ys; pair = old })

  entry-number : (a : Bool) (r : Range) → (tested a r).code ≡ refuse_if a 2 r.refusal
  entry-number true r = refl
  entry-number false r = go (eqb r.refusal 0) (eqb→eq r.refusal 0)
    where
      go : (t : Bool) → (T t → r.refusal ≡ 0) → (by_refusal t r).code ≡ r.refusal
      go true e = sym (e tt)
      go false e = refl

  entry-unwritten : (a : Bool) (r : Range) → (tested a r).code ≢ 0
      → ((tested a r).firsts ≡ xs) × ((tested a r).seconds ≡ ys) × ((tested a r).pair ≡ old)
  entry-unwritten true r h = (refl, refl, refl)
  entry-unwritten false r h = go (eqb r.refusal 0) h
    where
      go : (t : Bool) → (by_refusal t r).code ≢ 0 → ((by_refusal t r).firsts ≡ xs) × ((by_refusal t r).seconds ≡ ys) × ((by_refusal t r).pair ≡ old)
      go true h = absurd (h refl)
      go false h = (refl, refl, refl)

  abbrev Leaves : Range → RangeEntry → Type 0
  Leaves r e =
      (get_or e.pair 0 0 ≡ r.lower) × (get_or e.pair 1 0 ≡ r.upper) × (drop 2 e.pair ≡ drop 2 old) × (length e.pair ≡ length old)
      × (e.firsts ≡ lows) × (e.seconds ≡ highs)

  entry-written : (a : Bool) → (T (not a) → 2 ≤ length old) → (r : Range) → (tested a r).code ≡ 0 → Leaves r (tested a r)
  entry-written true h r e = absurd (let n : ⊥ = omega (arith, e) in n)
  entry-written false h r e = go (eqb r.refusal 0) refl e
    where
      long : (l : List ℕ) → 2 ≤ length l → suc (suc (length (drop 2 l))) ≡ length l
      long [] h = absurd (not-suc-le-zero h)
      long (x ∷ []) h = absurd (not-suc-le-zero (le_of_suc-le-suc h))
      long (x ∷ y ∷ l) h = refl

      go : (t : Bool) → eqb r.refusal 0 ≡ t → (by_refusal t r).code ≡ 0 → Leaves r (by_refusal t r)
      go true k e = (refl, refl, refl, long old (h tt), refl, refl)
      go false k e = absurd (eqb-false r.refusal 0 k e)

pair_found : (old : List ℕ) → T (ltb (length old) 2) ↔ NoPair old
pair_found old = (ltb→lt (length old) 2, lt→ltb (length old) 2)

pub range-entry-refused-exactly : Range-entry-refused-exactly
unfolding range_entry
range-entry-refused-exactly ts xs ys z old n =
    let l = entries ts xs ys in
    rw (entry-number (map low_of l) (map (high_of z) l) xs ys old (ltb (length old) 2) (range_answer ts xs ys z), range-number ts xs ys z)
    (exactly (test (ltb (length old) 2) (pair_found old) (range-tests ts xs ys z)) n)

pub range-entry-refused : Range-entry-refused
unfolding range_entry
range-entry-refused ts xs ys z old h =
    let l = entries ts xs ys in
    entry-unwritten (map low_of l) (map (high_of z) l) xs ys old (ltb (length old) 2) (range_answer ts xs ys z) h

pub range-entry-read-back : Range-entry-read-back
unfolding range_entry
range-entry-read-back ts xs ys z old h =
    let l = entries ts xs ys in
    entry-written (map low_of l) (map (high_of z) l) xs ys old (ltb (length old) 2) (nltb→le (length old) 2) (range_answer ts xs ys z) h

pub range-entries-kept : Range-entries-kept
range-entries-kept [] xs ys z = refl
range-entries-kept (t ∷ ts) [] ys z = refl
range-entries-kept (t ∷ ts) (x ∷ xs) [] z = refl
range-entries-kept (t ∷ ts) (x ∷ xs) (y ∷ ys) z = ap₂ ◌∷◌ (one t) (range-entries-kept ts xs ys z)
  where
    one : (t : ℕ) → amount_of t (low_of (amount_of t x y)) (high_of z (amount_of t x y)) ≡ amount_of t x y
    one zero = refl
    one (suc zero) = refl
    one (suc (suc zero)) = refl
    one (suc (suc (suc t))) = refl
