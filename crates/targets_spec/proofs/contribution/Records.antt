-- The records of contributions: their refusals, their places and the order of the list, and their
-- entry.
use mathlib.Core.Path.{◌≡◌, refl, ap, sym, ◌∙◌, subst, ap₂}
use mathlib.Core.Logic.{◌↔◌, ◌≢◌, ◌⊎◌, inl, inr}
use mathlib.Core.Bool.{Bool, true, false, cond, not, ◌&&◌, ◌||◌, true≢false}
use mathlib.Core.List.{[], List, ◌∷◌, ◌++◌, Permᴰ}
use lib.Dec.{T, leb, ltb, eqb, leb→le, le→leb, eqb→eq, eqb_refl, ltb→lt, lt→ltb}
use Prim.Native.Nat.{ℕ, ◌+◌, ◌-◌, suc, zero, ◌≤◌, ◌<◌, ◌*◌, ◌%◌, ◌^◌}
use native.Mathlib.Omega.{arith}
use lib.ListN.{length, take, drop, length-drop}
use borrow.Author.Tests.{eqb-true, eqb-false, ltb-false}
use native.Mathlib.Nat.{le_refl, suc-ne-zero}
use lib.Pow.{pow_mono}
use Rattle.totals_spec.specs.sums.Totals.{refuse_if, limit, stray, first_index, Answer, sum_answer}
use Rattle.totals_spec.specs.Basics.{any, flag}
use Rattle.totals_spec.specs.formats.Format.{Format, valid_format, kind_of}
use Rattle.totals_spec.specs.formats.Settings.{Settings, valid_settings}
use Rattle.totals_spec.specs.formats.Decode.{decode}
use Rattle.totals_spec.specs.pence.Pence.{not_number}
use Rattle.totals_spec.specs.refusals.Conditions.{NoNumber}
use Rattle.totals_spec.specs.refusals.Places.{StrayAt}
use Rattle.totals_spec.specs.order.Rearranged.{holds_nan, AsOften, count}
use Rattle.totals_spec.specs.sums.Promises.{AllFinite}
use Rattle.totals_spec.specs.entries.Bytes.{Entry, to_bytes, from_bytes}
use Rattle.totals_spec.specs.entries.Words.{filled, misnamed, format_by}
use Rattle.totals_spec.proofs.refusals.Exactly.{Tests, last, unless, test, not-both, different}
use Rattle.totals_spec.proofs.refusals.Exactly.{format-fails, settings-fail, stray-found}
use Rattle.totals_spec.proofs.refusals.Exactly.{some-found, no-number-found, exactly}
use Rattle.totals_spec.proofs.refusals.Exactly.{misnamed-found}
use Rattle.totals_spec.proofs.refusals.RefusedRecords.{passed, small-number}
use Rattle.totals_spec.proofs.order.Order.{or_split, sum-order}
use Rattle.totals_spec.proofs.refusals.FirstIndex.{first-stray}
use Rattle.totals_spec.proofs.lists.FirstElements.{total-append, any_append}
use Rattle.totals_spec.proofs.order.Rearrangements.{any-perm, length-perm, perm-of-counts}
use Rattle.totals_spec.proofs.entries.ReadBack.{bytes_back}
use Rattle.targets_spec.specs.contribution.Contribution.{refused_contribution, contributed}
use Rattle.targets_spec.specs.contribution.Contribution.{last_rank, least_rank, found}
use Rattle.targets_spec.specs.contribution.Contribution.{contribution_refusal, contribution}
use Rattle.targets_spec.specs.contribution.Contribution.{first_of, Contribution, rank_of, number_at}
use Rattle.targets_spec.specs.contribution.Contribution.{first_rank, rank_with, reaches}
use Rattle.targets_spec.specs.contribution.Contribution.{contribution_entered, contribution_entry}
use Rattle.targets_spec.specs.contribution.Conditions.{Flushes, AtLimit, contribution_conditions}
use Rattle.targets_spec.specs.contribution.Conditions.{Short8}
use Rattle.targets_spec.specs.contribution.Promises.{Contribution-refusal, Contribution-none}
use Rattle.targets_spec.specs.contribution.Promises.{Contribution-refused, Contribution-place}
use Rattle.targets_spec.specs.contribution.Promises.{Contribution-order, Contribution-entry-refusal}
use Rattle.targets_spec.specs.contribution.Promises.{Contribution-entry-refused}
use Rattle.targets_spec.specs.contribution.Promises.{Contribution-entry-read-back}
use Rattle.targets_spec.specs.contribution.Promises.{Contribution-entry-order}
use Rattle.targets_spec.proofs.contribution.LeastNumber.{unreached, found_at, whole-number, accepts}
use Rattle.targets_spec.proofs.contribution.LeastNumber.{longer-accepted, longer-finite}
use Rattle.targets_spec.proofs.contribution.LeastNumber.{contribution-least, searched}
use Rattle.targets_spec.proofs.contribution.NumbersOfRanks.{rank-numbers}

-- ---- the number of the refusal

-- a test that finds what does not hold is false
is_false : (b : Bool) {P : Type 0} → T b ↔ P → ¬ P → b ≡ false
is_false true t h = absurd (h (t.0 tt))
is_false false t h = refl

by_tests : (a b d g h k : Bool) (at n : ℕ)
    → (contributed (refuse_if a 3 (refuse_if b 4 (refuse_if d 6 (refuse_if g 7 (refuse_if h 15 0))))) at
    (cond k (refused_contribution 14 0) (record { number = n; refusal = 0; place = 0 }))).refusal
    ≡ refuse_if a 3 (refuse_if b 4 (refuse_if d 6 (refuse_if g 7 (refuse_if h 15 (refuse_if k 14 0)))))
by_tests true b d g h k at n = refl
by_tests false true d g h k at n = refl
by_tests false false true g h k at n = refl
by_tests false false false true h k at n = refl
by_tests false false false false true k at n = refl
by_tests false false false false false true at n = refl
by_tests false false false false false false at n = refl

module _ (f : Format) (c : Settings) (l : List ℕ) (wanted : ℕ) where
  abbrev all : List ℕ
  all = l ++ (wanted ∷ [])

  abbrev bad_format : Bool
  bad_format = not (valid_format f && eqb f.kind 0)

  abbrev bad_settings : Bool
  bad_settings = not (valid_settings f c && (eqb c.flush_to_zero 0 && eqb c.denormals_are_zero 0))

  abbrev past : Bool
  past = ltb (last_rank f) (least_rank f c l wanted)

  number_is : (contribution f c l wanted).refusal
      ≡ refuse_if bad_format 3 (refuse_if bad_settings 4 (refuse_if (leb limit (length l)) 6
      (refuse_if (any (stray f) all) 7 (refuse_if (any (not_number f) all) 15 (refuse_if past 14 0)))))
  unfolding contribution contribution_refusal found
  number_is = by_tests bad_format bad_settings (leb limit (length l)) (any (stray f) all) (any (not_number f) all) past _ _

  limit-found : T (leb limit (length l)) ↔ AtLimit l
  limit-found = ((λ t. omega (arith, leb→le limit (length l) t)), λ h. le→leb limit (length l) (omega (arith, h)))

  flush-found : T (not (eqb c.flush_to_zero 0 && eqb c.denormals_are_zero 0)) ↔ Flushes c
  flush-found =
      not-both (eqb c.flush_to_zero 0) (eqb c.denormals_are_zero 0) (different c.flush_to_zero 0) (different c.denormals_are_zero 0)

  tests : Tests (contribution_conditions f c l wanted)
      (refuse_if bad_format 3 (refuse_if bad_settings 4 (refuse_if (leb limit (length l)) 6
      (refuse_if (any (stray f) all) 7 (refuse_if (any (not_number f) all) 15 (refuse_if past 14 0))))))
  tests =
      let t3 = not-both (valid_format f) (eqb f.kind 0) (format-fails f) (different f.kind 0) in
      let t4 = not-both (valid_settings f c) _ (settings-fail f c) flush-found in
      let t6 = limit-found in
      let t7 = stray-found f all in
      let t15 = some-found (not_number f) (λ b. NoNumber (decode f b)) (λ b. no-number-found (decode f b)) 0 all in
      unless bad_format t3 (λ n3.
      unless bad_settings t4 (λ n4.
      unless (leb limit (length l)) t6 (λ n6.
      unless (any (stray f) all) t7 (λ n7.
      unless (any (not_number f) all) t15 (λ n15.
      test past (unreached f c l wanted (accepted (is_false bad_format t3 n3) (is_false bad_settings t4 n4) (is_false (leb limit (length l)) t6 n6)
      (is_false (any (stray f) all) t7 n7) (is_false (any (not_number f) all) t15 n15))) last)))))
    where
      accepted : bad_format ≡ false → bad_settings ≡ false → leb limit (length l) ≡ false → any (stray f) all ≡ false → any (not_number f) all ≡ false
          → contribution_refusal f c l wanted ≡ 0
      accepted a b d g h = unfold contribution_refusal in rw (a, b, d, g, h)

pub contribution-refusal : Contribution-refusal
contribution-refusal f c l wanted n = rw (number_is f c l wanted) (exactly (tests f c l wanted) n)

-- conditions with another number than n are passed by, and the last one is then its own
later : {P R : Type 0} (n k : ℕ) → n ≢ k → (P × (n ≡ k)) ⊎ ((¬ P) × R) → R
later n k h (inl x) = absurd (h x.1)
later n k h (inr x) = x.1

last_one : {P : Type 0} (n k : ℕ) → n ≢ 0 → (P × (n ≡ k)) ⊎ ((¬ P) × (n ≡ 0)) → P
last_one n k h (inl x) = x.0
last_one n k h (inr x) = absurd (h x.1)

pub contribution-none : Contribution-none
contribution-none f c l wanted h =
    let a = later 14 3 (λ e. omega (arith, e)) ((contribution-refusal f c l wanted 14).0 h) in
    let b = later 14 6 (λ e. omega (arith, e)) (later 14 4 (λ e. omega (arith, e)) a) in
    last_one 14 14 (λ e. omega (arith, e)) (later 14 15 (λ e. omega (arith, e)) (later 14 7 (λ e. omega (arith, e)) b))

pub contribution-refused : Contribution-refused
unfolding contribution found
contribution-refused f c l wanted h = go (eqb (contribution_refusal f c l wanted) 0) (past f c l wanted) _ _ _ h
  where
    go : (z t : Bool) (n at r : ℕ) → let x = cond z (found_at f r t) (refused_contribution n at) in
        x.refusal ≢ 0 → x ≡ refused_contribution x.refusal x.place
    go true true n at r h = refl
    go true false n at r h = absurd (h refl)
    go false t n at r h = refl

-- ---- the place

-- number 7 is that of a stray bit, and has its place
seven_at : (f : Format) (n at r : ℕ) (t : Bool) → let x = contributed n at (found_at f r t) in
    (x.refusal ≢ 7 → x.place ≡ 0) × (x.refusal ≡ 7 → (n ≡ 7) × (x.place ≡ at))
seven_at f n at r t = go (eqb n 0) (eqb n 7) t refl
  where
    go : (z s t : Bool) → eqb n 7 ≡ s → let x = cond z (found_at f r t) (refused_contribution n (cond s at 0)) in
        (x.refusal ≢ 7 → x.place ≡ 0) × (x.refusal ≡ 7 → (n ≡ 7) × (x.place ≡ at))
    go true s true e = ((λ h. refl), λ h. absurd (let y : ⊥ = omega (arith, h) in y))
    go true s false e = ((λ h. refl), λ h. absurd (let y : ⊥ = omega (arith, h) in y))
    go false true t e = ((λ h. absurd (h (eqb-true n 7 e))), λ h. (h, refl))
    go false false t e = ((λ h. refl), λ h. absurd (eqb-false n 7 e h))

stray-told : (f : Format) (c : Settings) (l : List ℕ) (wanted : ℕ) → contribution_refusal f c l wanted ≡ 7 → T (any (stray f) (l ++ (wanted ∷ [])))
unfolding contribution_refusal
stray-told f c l wanted e =
    let a = passed (bad_format f c l wanted) 3 _ (λ q. omega (arith, q)) e in
    let b = passed (bad_settings f c l wanted) 4 _ (λ q. omega (arith, q)) a.1 in
    let g = passed (leb limit (length l)) 6 _ (λ q. omega (arith, q)) b.1 in
    some (any (stray f) (l ++ (wanted ∷ []))) (any (not_number f) (l ++ (wanted ∷ []))) g.1
  where
    some : (s k : Bool) → refuse_if s 7 (refuse_if k 15 0) ≡ 7 → T s
    some true k e = tt
    some false true e = omega (arith, e)
    some false false e = omega (arith, e)

-- behind a list without one
index-behind : (t : ℕ → Bool) (l : List ℕ) (w : ℕ) → any t l ≡ false → T (any t (l ++ (w ∷ []))) → first_index t (l ++ (w ∷ [])) ≡ length l
index-behind t [] w e h = go (t w) h
  where
    go : (b : Bool) → T (b || false) → ◌≡◌ {A = ℕ} (cond b 0 1) 0
    go true h = refl
    go false h = absurd h
index-behind t (x ∷ l) w e h = let s = or_split (t x) (any t l) e in go (t x) s.0 h (index-behind t l w s.1)
  where
    go : (b : Bool) → b ≡ false → T (b || any t (l ++ (w ∷ []))) → (T (any t (l ++ (w ∷ []))) → first_index t (l ++ (w ∷ [])) ≡ length l)
        → cond b 0 (suc (first_index t (l ++ (w ∷ [])))) ≡ suc (length l)
    go true i h ih = absurd (true≢false i)
    go false i h ih = ap suc (ih h)

pub contribution-place : Contribution-place
unfolding contribution found
contribution-place f c l wanted =
    let s = seven_at f (contribution_refusal f c l wanted) (first_index (stray f) (l ++ (wanted ∷ []))) (least_rank f c l wanted) (past f c l wanted) in (
      s.0,
      λ h. let k = s.1 h in subst (StrayAt f (l ++ (wanted ∷ []))) (sym k.1) (first-stray f (l ++ (wanted ∷ [])) (stray-told f c l wanted k.0)),
      λ h e. let k = s.1 h in k.1 ∙ index-behind (stray f) l wanted e (stray-told f c l wanted k.0),
    )

-- ---- the order

-- a search by tests that are the same where it looks
first-same : (t u : ℕ → Bool) (n from : ℕ) → ((i : ℕ) → from ≤ i → i < from + n → t i ≡ u i) → first_of t n from ≡ first_of u n from
first-same t u zero from h = refl
first-same t u (suc n) from h =
    ap₂ (λ (b : Bool) (k : ℕ). cond b from k) (h from (le_refl from) (omega arith))
    (first-same t u n (suc from) (λ i k l. h i (omega (arith, k)) (omega (arith, l))))

no_nan : (f : Format) (l : List ℕ) → AllFinite f l → holds_nan f l ≡ false
no_nan f [] h = refl
no_nan f (b ∷ l) h = ap₂ ◌||◌ (whole-number (decode f b) h.0) (no_nan f l h.1)

-- one more element on both sides
often-more : (l₁ l₂ : List ℕ) (b : ℕ) → AsOften eqb l₁ l₂ → AsOften eqb (l₁ ++ (b ∷ [])) (l₂ ++ (b ∷ []))
often-more l₁ l₂ b h x =
    let one : ℕ → ℕ = λ y. flag 1 (eqb y x) in
    total-append one l₁ (b ∷ []) ∙ ap (λ (n : ℕ). n + count eqb x (b ∷ [])) (h x) ∙ sym (total-append one l₂ (b ∷ []))

same_answer : (n at at' : ℕ) (u v : Contribution) → (n ≡ 0 → u ≡ v) → (n ≡ 7 → at ≡ at') → contributed n at u ≡ contributed n at' v
same_answer n at at' u v h k = go (eqb n 0) (eqb n 7) (eqb→eq n 0) (eqb→eq n 7)
  where
    go : (z s : Bool) → (T z → n ≡ 0) → (T s → n ≡ 7) → cond z u (refused_contribution n (cond s at 0)) ≡ cond z v (refused_contribution n (cond s at' 0))
    go true s i j = h (i tt)
    go false true i j = ap (refused_contribution n) (k (j tt))
    go false false i j = refl

same_number : (n at at' : ℕ) (u v : Contribution) → (n ≡ 0 → u ≡ v) → (contributed n at u).refusal ≡ (contributed n at' v).refusal
same_number n at at' u v h = go (eqb n 0) (eqb→eq n 0)
  where
    go : (z : Bool) → (T z → n ≡ 0)
        → (cond z u (refused_contribution n (cond (eqb n 7) at 0))).refusal ≡ (cond z v (refused_contribution n (cond (eqb n 7) at' 0))).refusal
    go true i = ap (λ (x : Contribution). x.refusal) (h (i tt))
    go false i = refl

module _ (f : Format) (c : Settings) (l₁ l₂ : List ℕ) (wanted : ℕ) (h : AsOften eqb l₁ l₂) where
  p : Permᴰ l₁ l₂
  p = perm-of-counts eqb eqb→eq eqb_refl l₁ l₂ h

  any-both : (t : ℕ → Bool) → any t (l₁ ++ (wanted ∷ [])) ≡ any t (l₂ ++ (wanted ∷ []))
  any-both t =
      any_append t l₁ (wanted ∷ []) ∙ ap (λ (b : Bool). b || any t (wanted ∷ [])) (any-perm t p) ∙ sym (any_append t l₂ (wanted ∷ []))

  numbers : contribution_refusal f c l₁ wanted ≡ contribution_refusal f c l₂ wanted
  unfolding contribution_refusal
  numbers = cc (length-perm p, any-both (stray f), any-both (not_number f))

  ranks : contribution_refusal f c l₁ wanted ≡ 0 → least_rank f c l₁ wanted ≡ least_rank f c l₂ wanted
  unfolding least_rank reaches rank_with
  ranks e = first-same _ _ (suc (last_rank f) - first_rank f) (first_rank f) each
    where
      each : (r : ℕ) → first_rank f ≤ r → r < first_rank f + (suc (last_rank f) - first_rank f)
          → eqb (rank_of f (sum_answer f c 0 (l₁ ++ (number_at f r ∷ []))).result) (rank_of f wanted)
          ≡ eqb (rank_of f (sum_answer f c 0 (l₂ ++ (number_at f r ∷ []))).result) (rank_of f wanted)
      each r low high =
          let a = accepts f c l₁ wanted e in
          let n = ((rank-numbers f a.format.range (ap kind_of a.kind-is)).1 r low (omega (arith, low, high))).0 in
          let b = number_at f r in
          let m = l₁ ++ (b ∷ []) in
          let s = sum-order f c 0 m (l₂ ++ (b ∷ [])) (often-more l₁ l₂ b h) (longer-accepted f c l₁ wanted e b n)
          (no_nan f m (longer-finite f c l₁ wanted e b n)) in
          ap (λ (x : Answer). eqb (rank_of f x.result) (rank_of f wanted)) s.1

  founds : contribution_refusal f c l₁ wanted ≡ 0 → found f (least_rank f c l₁ wanted) ≡ found f (least_rank f c l₂ wanted)
  founds e = ap (found f) (ranks e)

  abbrev at₁ : ℕ
  at₁ = first_index (stray f) (l₁ ++ (wanted ∷ []))

  abbrev at₂ : ℕ
  at₂ = first_index (stray f) (l₂ ++ (wanted ∷ []))

  answers : (contribution_refusal f c l₁ wanted ≡ 7 → at₁ ≡ at₂) → contribution f c l₁ wanted ≡ contribution f c l₂ wanted
  unfolding contribution
  answers k = rw (← numbers) (same_answer (contribution_refusal f c l₁ wanted) at₁ at₂ _ _ founds k)

  one_number : (contribution f c l₁ wanted).refusal ≡ (contribution f c l₂ wanted).refusal
  unfolding contribution
  one_number = rw (← numbers) (same_number (contribution_refusal f c l₁ wanted) at₁ at₂ _ _ founds)

  other-number : (contribution f c l₁ wanted).refusal ≢ 7 → contribution_refusal f c l₁ wanted ≢ 7
  unfolding contribution
  other-number k e = k (rw e refl)

  behind : any (stray f) l₁ ≡ false → contribution_refusal f c l₁ wanted ≡ 7 → at₁ ≡ at₂
  behind s e =
      index-behind (stray f) l₁ wanted s (stray-told f c l₁ wanted e) ∙ length-perm p
      ∙ sym (index-behind (stray f) l₂ wanted (sym (any-perm (stray f) p) ∙ s) (stray-told f c l₂ wanted (sym numbers ∙ e)))

pub contribution-order : Contribution-order
contribution-order f c l₁ l₂ wanted h = (
  one_number f c l₁ l₂ wanted h,
  λ k. answers f c l₁ l₂ wanted h (λ e. absurd (other-number f c l₁ l₂ wanted h k e)),
  λ s. answers f c l₁ l₂ wanted h (behind f c l₁ l₂ wanted h s),
)

-- ---- the entry

-- by its two tests and the record
abbrev by_two : (a b : Bool) → Contribution → List ℕ → Entry
by_two a b x old = cond a (record { code = 2; buffer = old }) (cond b (record { code = 3; buffer = old }) (contribution_entered x old))

-- the lowest byte of the number returned
entry-number : (a b : Bool) (x : Contribution) (old : List ℕ) → x.refusal < 256 → (by_two a b x old).code % 256 ≡ refuse_if a 2 (refuse_if b 3 x.refusal)
entry-number true b x old h = refl
entry-number false true x old h = refl
entry-number false false x old h = go (eqb x.refusal 0) (eqb→eq x.refusal 0)
  where
    go : (t : Bool) → (T t → x.refusal ≡ 0)
        → (cond {A = Entry} t (record { code = 0; buffer = filled (to_bytes 8 x.number) old })
        (record { code = x.refusal + 256 * x.place; buffer = old })).code % 256 ≡ x.refusal
    go true e = sym (e tt)
    go false e = omega (arith, h)

entry-refused : (a b : Bool) (x : Contribution) (old : List ℕ) → (by_two a b x old).code ≢ 0 → (by_two a b x old).buffer ≡ old
entry-refused true b x old h = refl
entry-refused false true x old h = refl
entry-refused false false x old h = go (eqb x.refusal 0) h
  where
    go : (t : Bool) → let r = cond {A = Entry} t (record { code = 0; buffer = filled (to_bytes 8 x.number) old })
        (record { code = x.refusal + 256 * x.place; buffer = old }) in r.code ≢ 0 → r.buffer ≡ old
    go true h = absurd (h refl)
    go false h = refl

-- a call that returns 0 has written
record Written (a : Bool) (x : Contribution) (old new : List ℕ) : Type 0 where
  room : a ≡ false
  accepted : x.refusal ≡ 0
  buffer : new ≡ filled (to_bytes 8 x.number) old

entry-written : (a b : Bool) (x : Contribution) (old : List ℕ) → (by_two a b x old).code ≡ 0 → Written a x old (by_two a b x old).buffer
entry-written true b x old h = absurd (suc-ne-zero 1 h)
entry-written false true x old h = absurd (suc-ne-zero 2 h)
entry-written false false x old h = go (eqb x.refusal 0) (eqb→eq x.refusal 0) (eqb-false x.refusal 0) h
  where
    go : (t : Bool) → (T t → x.refusal ≡ 0) → (t ≡ false → x.refusal ≡ 0 → ⊥)
        → let r = cond {A = Entry} t (record { code = 0; buffer = filled (to_bytes 8 x.number) old })
        (record { code = x.refusal + 256 * x.place; buffer = old }) in r.code ≡ 0 → Written false x old r.buffer
    go true e k h = record { room = refl; accepted = e tt; buffer = refl }
    go false e k h = absurd (k refl (omega (arith, h)))

small : (f : Format) (c : Settings) (l : List ℕ) (wanted : ℕ) → (contribution f c l wanted).refusal < 256
small f c l wanted =
    rw (number_is f c l wanted)
    (small-number (bad_format f c l wanted) 3 _ (omega arith)
    (small-number (bad_settings f c l wanted) 4 _ (omega arith)
    (small-number (leb limit (length l)) 6 _ (omega arith)
    (small-number (any (stray f) (all f c l wanted)) 7 _ (omega arith)
    (small-number (any (not_number f) (all f c l wanted)) 15 _ (omega arith)
    (small-number (past f c l wanted) 14 _ (omega arith) (omega arith)))))))

short-found : (old : List ℕ) → T (ltb (length old) 8) ↔ Short8 old
short-found old = ((λ t. omega (arith, ltb→lt (length old) 8 t)), λ h. lt→ltb (length old) 8 (omega (arith, h)))

pub contribution-entry-refusal : Contribution-entry-refusal
unfolding contribution_entry
contribution-entry-refusal k e w named b c wanted l old n =
    let f = format_by k e w named b in
    rw (entry-number (ltb (length old) 8) (misnamed named b) (contribution f c l wanted) old (small f c l wanted), number_is f c l wanted)
    (exactly (test (ltb (length old) 8) (short-found old) (test (misnamed named b) (misnamed-found named b) (tests f c l wanted))) n)

pub contribution-entry-refused : Contribution-entry-refused
unfolding contribution_entry
contribution-entry-refused k e w named b c wanted l old h =
    entry-refused (ltb (length old) 8) (misnamed named b) (contribution (format_by k e w named b) c l wanted) old h

-- the number found has at most 64 bits
number_fits : (f : Format) (c : Settings) (l : List ℕ) (wanted : ℕ) → (contribution f c l wanted).refusal ≡ 0 → (contribution f c l wanted).number < 2 ^ 64
number_fits f c l wanted h =
    let a = accepts f c l wanted (searched f c l wanted h).accepted in
    omega (arith, (contribution-least f c l wanted h).0.0, pow_mono {i = f.W} {j = 64} a.format.w_le)

pub contribution-entry-read-back : Contribution-entry-read-back
unfolding contribution_entry
contribution-entry-read-back k e w named b c wanted l old h =
    let x = contribution (format_by k e w named b) c l wanted in
    let r = entry-written (ltb (length old) 8) (misnamed named b) x old h in
    let n = number_fits (format_by k e w named b) c l wanted r.accepted in
    (r.accepted, read x old r.buffer n, after x old r.buffer, long x old r.buffer (ltb-false (length old) 8 r.room))
  where
    read : (x : Contribution) (old : List ℕ) {new : List ℕ} → new ≡ filled (to_bytes 8 x.number) old → x.number < 2 ^ 64 → from_bytes (take 8 new) ≡ x.number
    read x old e h = rw e (bytes_back 8 x.number h)

    after : (x : Contribution) (old : List ℕ) {new : List ℕ} → new ≡ filled (to_bytes 8 x.number) old → drop 8 new ≡ drop 8 old
    after x old e = rw e refl

    long : (x : Contribution) (old : List ℕ) {new : List ℕ} → new ≡ filled (to_bytes 8 x.number) old → 8 ≤ length old → length new ≡ length old
    long x old e h = rw e (omega (arith, length-drop 8 old, h))

pub contribution-entry-order : Contribution-entry-order
unfolding contribution_entry
contribution-entry-order k e w named b c wanted l₁ l₂ old h s =
    let f = format_by k e w named b in
    ap (λ (x : Contribution). by_two (ltb (length old) 8) (misnamed named b) x old) ((contribution-order f c l₁ l₂ wanted h).2 s)
