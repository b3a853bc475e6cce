-- PROMISE 1: the refusal number, the record of a refused call, the place of number 7, and the
-- buffer of a refused byte entry.
use mathlib.Core.Path.{◌≡◌, refl, sym, ap, ◌∙◌, subst}
use mathlib.Core.Bool.{Bool, true, false, cond, not, ◌&&◌, ◌||◌}
use mathlib.Core.List.{List}
use Prim.Native.Nat.{ℕ, ◌≤◌, ◌<◌, ◌+◌, ◌*◌}
use borrow.Author.Tests.{ne_eqb, ltb-false, not-false, eqb-true, eq-eqb}
use mathlib.Core.Logic.{◌≢◌}
use lib.Dec.{T, eqb, eqb→eq, leb, ltb}
use native.Mathlib.Omega.{arith}
use lib.ListN.{length}
use Rattle.totals_spec.specs.sums.Totals.{Answer, special, reported, accepted, sum_accepted}
use Rattle.totals_spec.specs.sums.Totals.{dot_accepted, refused, answered, refuse_if, stray, limit}
use Rattle.totals_spec.specs.sums.Totals.{sum_refusal, dot_refusal, first_index, sum_answer, pairs}
use Rattle.totals_spec.specs.sums.Totals.{dot_place, dot_answer}
use Rattle.totals_spec.specs.formats.Format.{Format, valid_format}
use Rattle.totals_spec.specs.formats.Decode.{Unpacked}
use Rattle.totals_spec.specs.formats.Settings.{Settings, Summand, valid_settings, summand_of}
use Rattle.totals_spec.specs.terms.Terms.{Item}
use Rattle.totals_spec.specs.Basics.{any}
use Rattle.totals_spec.specs.refusals.Promises.{Sum-refusal, Dot-refusal, Sum-refused, Dot-refused}
use Rattle.totals_spec.specs.refusals.Promises.{Sum-place, Dot-place}
use Rattle.totals_spec.specs.refusals.Places.{StrayAt, DotStrayAt, StrayBy}
use Rattle.totals_spec.specs.entries.Bytes.{Entry, values_in, uneven, short, entered, written}
use Rattle.totals_spec.specs.entries.Bytes.{sum_entry, dot_entry}
use Rattle.totals_spec.specs.entries.Promises.{Sum-entry-refused, Dot-entry-refused}
use Rattle.totals_spec.proofs.sums.RecordRule.{accepted-has}
use Rattle.totals_spec.proofs.refusals.FirstIndex.{first-stray, dot-stray}
use Rattle.totals_spec.proofs.numbers.Bits.{T_of}

-- ---- an accepted record has neither number nor place

pub record Unrefused (a : Answer) : Type 0 where
  pub number : a.refusal ≡ 0
  pub place : a.place ≡ 0

pub special-unrefused : (f : Format) (sub : Bool) (v : Unpacked) (b : Bool) → Unrefused (special f sub v b)
unfolding special
special-unrefused f sub v b = record { number = refl; place = refl }

pub accepted-unrefused : (f : Format) (c : Settings) (sub products : Bool) (l : List Item) (infinity_first signaling : Bool) (v : Unpacked)
    → Unrefused (accepted f c sub products infinity_first signaling v l)
unfolding reported
accepted-unrefused f c sub products l =
    accepted-has Unrefused f c sub products l (special-unrefused f sub) (record { number = refl; place = refl })

sum-unrefused : (f : Format) (c : Settings) (u : Summand) (l : List ℕ) → Unrefused (sum_accepted f c u l)
unfolding sum_accepted
sum-unrefused f c u l = accepted-unrefused f c _ _ _ _ _ _

dot-unrefused : (f : Format) (c : Settings) (l : List (ℕ × ℕ)) → Unrefused (dot_accepted f c l)
unfolding dot_accepted
dot-unrefused f c l = accepted-unrefused f c _ _ _ _ _ _

-- ---- a call by its refusal number

module _ (n at : ℕ) (a : Answer) where
  answered-refused : n ≢ 0 → answered n at a ≡ refused n (cond (eqb n 7) at 0)
  answered-refused h = rw (ne_eqb n 0 h)

  pub answered-number : (n ≡ 0 → Unrefused a) → (answered n at a).refusal ≡ n
  answered-number h = go (eqb n 0) (eqb→eq n 0)
    where
      go : (b : Bool) → (T b → n ≡ 0) → (cond b a (refused n (cond (eqb n 7) at 0))).refusal ≡ n
      go true e = (h (e tt)).number ∙ sym (e tt)
      go false e = refl

  pub answered-whole : n ≢ 0 → answered n at a ≡ refused n (answered n at a).place
  answered-whole h = answered-refused h ∙ ap (refused n) (sym (ap (λ (x : Answer). x.place) (answered-refused h)))

  pub no_place : (n ≡ 0 → Unrefused a) → n ≢ 7 → (answered n at a).place ≡ 0
  no_place h k = rw (ne_eqb n 7 k) (go (eqb n 0) (eqb→eq n 0))
    where
      go : (b : Bool) → (T b → n ≡ 0) → (cond b a (refused n 0)).place ≡ 0
      go true e = (h (e tt)).place
      go false e = refl

  pub place_at : n ≡ 7 → (answered n at a).place ≡ at
  place_at h = rw h

-- ---- number 7 says that a stray bit is there, and that no other test has refused

-- a test with another number has not refused
pub passed : (b : Bool) (n rest : ℕ) → n ≢ 7 → refuse_if b n rest ≡ 7 → (b ≡ false) × (rest ≡ 7)
passed true n rest k e = absurd (k e)
passed false n rest k e = (refl, e)

pub seven : (b : Bool) → refuse_if b 7 0 ≡ 7 → T b
seven true e = tt
seven false e = omega (arith, e)

record SumSeven (f : Format) (l : List ℕ) : Type 0 where
  pub few : length l ≤ limit
  pub some : T (any (stray f) l)

sum-seven : (f : Format) (c : Settings) (u : ℕ) (l : List ℕ) → sum_refusal f c u l ≡ 7 → SumSeven f l
unfolding sum_refusal
sum-seven f c u l e =
    let a = passed (not (valid_format f)) 3 _ (λ q. omega (arith, q)) e in
    let b = passed (not (valid_settings f c && leb u 2)) 4 _ (λ q. omega (arith, q)) a.1 in
    let d = passed (ltb limit (length l)) 6 _ (λ q. omega (arith, q)) b.1 in
    record { few = ltb-false limit (length l) d.0; some = seven (any (stray f) l) d.1 }

record DotSeven (f : Format) (xs ys : List ℕ) : Type 0 where
  pub same : length xs ≡ length ys
  pub few : length xs ≤ limit
  pub some : T (any (stray f) xs || any (stray f) ys)

dot-seven : (f : Format) (c : Settings) (xs ys : List ℕ) → dot_refusal f c xs ys ≡ 7 → DotSeven f xs ys
unfolding dot_refusal
dot-seven f c xs ys e =
    let a = passed (not (valid_format f)) 3 _ (λ q. omega (arith, q)) e in
    let b = passed (not (valid_settings f c)) 4 _ (λ q. omega (arith, q)) a.1 in
    let g = passed (not (eqb (length xs) (length ys))) 5 _ (λ q. omega (arith, q)) b.1 in
    let d = passed (ltb limit (length xs)) 6 _ (λ q. omega (arith, q)) g.1 in
    record {
      same = eqb-true (length xs) (length ys) (not-false (eqb (length xs) (length ys)) g.0);
      few = ltb-false limit (length xs) d.0;
      some = seven (any (stray f) xs || any (stray f) ys) d.1;
    }

-- ---- THE PROMISES

pub sum-refusal : Sum-refusal
unfolding sum_answer
sum-refusal f c u l = answered-number (sum_refusal f c u l) (first_index (stray f) l) (sum_accepted f c (summand_of u) l)
    (λ _. sum-unrefused f c (summand_of u) l)

pub dot-refusal : Dot-refusal
unfolding dot_answer
dot-refusal f c xs ys = answered-number (dot_refusal f c xs ys) (dot_place f xs ys) (dot_accepted f c (pairs xs ys)) (λ _. dot-unrefused f c (pairs xs ys))

pub sum-refused : Sum-refused
unfolding sum_answer
sum-refused f c u l h = answered-whole (sum_refusal f c u l) (first_index (stray f) l) (sum_accepted f c (summand_of u) l) h

pub dot-refused : Dot-refused
unfolding dot_answer
dot-refused f c xs ys h = answered-whole (dot_refusal f c xs ys) (dot_place f xs ys) (dot_accepted f c (pairs xs ys)) h

pub sum-place : Sum-place
unfolding sum_answer
sum-place f c u l = (
  no_place (sum_refusal f c u l) (first_index (stray f) l) (sum_accepted f c (summand_of u) l) (λ _. sum-unrefused f c (summand_of u) l),
  λ h. subst (StrayAt f l) (sym (place_at (sum_refusal f c u l) (first_index (stray f) l) (sum_accepted f c (summand_of u) l) h))
      (first-stray f l (sum-seven f c u l h).some),
)

pub dot-place : Dot-place
unfolding dot_answer
dot-place f c xs ys = (
  no_place (dot_refusal f c xs ys) (dot_place f xs ys) (dot_accepted f c (pairs xs ys)) (λ _. dot-unrefused f c (pairs xs ys)),
  λ h. subst (DotStrayAt f xs ys) (sym (place_at (dot_refusal f c xs ys) (dot_place f xs ys) (dot_accepted f c (pairs xs ys)) h))
      (dot-stray f xs ys (dot-seven f c xs ys h).some),
)

-- ---- numbers and places are small

pub record Small (a : Answer) : Type 0 where
  pub number : a.refusal < 256
  pub place : a.place < 4294967296

pub small-number : (b : Bool) (n rest : ℕ) → n < 256 → rest < 256 → refuse_if b n rest < 256
small-number true n rest h k = h
small-number false n rest h k = k

pub sum_number : (f : Format) (c : Settings) (u : ℕ) (l : List ℕ) → sum_refusal f c u l < 256
unfolding sum_refusal
sum_number f c u l =
    small-number (not (valid_format f)) 3 _ (omega arith)
    (small-number (not (valid_settings f c && leb u 2)) 4 _ (omega arith)
    (small-number (ltb limit (length l)) 6 _ (omega arith)
    (small-number (any (stray f) l) 7 _ (omega arith) (omega arith))))

pub dot-number : (f : Format) (c : Settings) (xs ys : List ℕ) → dot_refusal f c xs ys < 256
unfolding dot_refusal
dot-number f c xs ys =
    small-number (not (valid_format f)) 3 _ (omega arith)
    (small-number (not (valid_settings f c)) 4 _ (omega arith)
    (small-number (not (eqb (length xs) (length ys))) 5 _ (omega arith)
    (small-number (ltb limit (length xs)) 6 _ (omega arith)
    (small-number (any (stray f) xs || any (stray f) ys) 7 _ (omega arith) (omega arith)))))

-- by whether the number is 7
pub small-place : (n at : ℕ) → (n ≢ 7 → at ≡ 0) → (n ≡ 7 → at < limit) → at < 4294967296
small-place n at other is = go (eqb n 7) (eqb→eq n 7) (λ e. T_of (eq-eqb n 7 e))
  where
    go : (b : Bool) → (T b → n ≡ 7) → (n ≡ 7 → T b) → at < 4294967296
    go true e k = omega (arith, is (e tt))
    go false e k = omega (arith, other k)

pub sum-small : (f : Format) (c : Settings) (u : ℕ) (l : List ℕ) → Small (sum_answer f c u l)
sum-small f c u l = record {
  number = subst (λ (n : ℕ). n < 256) (sym (sum-refusal f c u l)) (sum_number f c u l);
  place = small-place (sum_refusal f c u l) (sum_answer f c u l).place (sum-place f c u l).0
      (λ e. lt-le ((sum-place f c u l).1 e).inside (sum-seven f c u l e).few);
}
  where
    lt-le : {a b k : ℕ} → a < b → b ≤ k → a < k
    lt-le h k = omega arith

pub dot-small : (f : Format) (c : Settings) (xs ys : List ℕ) → Small (dot_answer f c xs ys)
dot-small f c xs ys = record {
  number = subst (λ (n : ℕ). n < 256) (sym (dot-refusal f c xs ys)) (dot-number f c xs ys);
  place = small-place (dot_refusal f c xs ys) (dot_answer f c xs ys).place (dot-place f c xs ys).0
      (λ e. inside _ (any (stray f) xs) (dot-seven f c xs ys e) ((dot-place f c xs ys).1 e));
}
  where
    inside : (i : ℕ) (b : Bool) → DotSeven f xs ys → StrayBy b f xs ys i → i < limit
    inside i true d s = omega (arith, s.inside, d.few)
    inside i false d s = omega (arith, s.inside, d.same, d.few)

-- a byte entry by its two tests and the record's
abbrev pub by_tests : (a b d : Bool) (n : ℕ) (old new : List ℕ) → Entry
by_tests a b d n old new =
    cond a (record { code = 1; buffer = old })
    (cond b (record { code = 2; buffer = old })
    (cond d (record { code = 0; buffer = new }) (record { code = n; buffer = old })))

pub entry-refused : (a b d : Bool) (n : ℕ) (old new : List ℕ) → (by_tests a b d n old new).code ≢ 0 → (by_tests a b d n old new).buffer ≡ old
entry-refused true b d n old new h = refl
entry-refused false true d n old new h = refl
entry-refused false false true n old new h = absurd (h refl)
entry-refused false false false n old new h = refl

pub sum-entry-refused : Sum-entry-refused
unfolding sum_entry entered
sum-entry-refused f c u bytes old h =
    let r = sum_answer f c u (values_in bytes) in
    entry-refused (uneven bytes) (short old) (eqb r.refusal 0) (r.refusal + 256 * r.place) old (written r old) h

pub dot-entry-refused : Dot-entry-refused
unfolding dot_entry entered
dot-entry-refused f c left right old h =
    let r = dot_answer f c (values_in left) (values_in right) in
    entry-refused (uneven left || uneven right) (short old) (eqb r.refusal 0) (r.refusal + 256 * r.place) old (written r old) h
