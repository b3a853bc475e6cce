-- A call of a byte entry that leaves what the definition does: two calls with a buffer each, and
-- refused ones.
use Rattle.std.proofs.Common.{◌≡◌, ◌≢◌, ℕ, ◌+◌, ◌*◌, ◌%◌, ◌/◌, ◌≤◌, ◌<◌, List, eqb, refl, sym, ap, ◌∙◌, subst, arith}
use Rattle.std.specs.Prelude.{Bool, true, false, not, ◌||◌, cond, length, take, drop}
use mathlib.Core.Logic.{◌⊎◌, inl, inr}
use mathlib.Core.Bool.{true≢false}
use native.Mathlib.Nat.{suc-ne-zero}
use lib.ListN.{length-drop}
use borrow.Author.Tests.{eq-eqb, eqb-true, eqb-false, ltb-false, le-ltb}
use Rattle.totals_spec.specs.formats.Format.{Format}
use Rattle.totals_spec.specs.formats.Settings.{Settings}
use Rattle.totals_spec.specs.refusals.Places.{StrayAt, DotStrayAt}
use Rattle.totals_spec.specs.sums.Totals.{Answer, sum_refusal, sum_answer, dot_refusal, dot_answer}
use Rattle.totals_spec.specs.entries.Bytes.{Entry, values_in, uneven, short, written, entered, sum_entry, dot_entry}
use Rattle.totals_spec.specs.ten_bytes.Extended.{is_extended, tens_in, extended_written, extended_entered, uneven_tens, short32}
use Rattle.totals_spec.specs.ten_bytes.Extended.{extended_sum_entry, extended_dot_entry, extended_sum_answer, extended_dot_answer, sum_call, dot_call}
use Rattle.totals_spec.proofs.refusals.RefusedRecords.{by_tests, sum-small, dot-small}
use Rattle.totals_spec.proofs.refusals.RefusedRecords.{sum-refusal, dot-refusal, sum-place, dot-place}
use Rattle.totals_spec.proofs.order.Order.{sum-order, dot-order}
use Rattle.totals_spec.specs.ten_bytes.Extended.{extended_sum_refusal, extended_dot_refusal}
use Rattle.totals_spec.proofs.ten_bytes.Calls.{sum-extended, dot-extended}
use Rattle.totals_spec.proofs.ten_bytes.Totals.{extended-sum-refusal, extended-dot-refusal, extended-order}
use Rattle.totals_spec.proofs.ten_bytes.Calls.{other-kinds, call-refused, extended-call-refused-exactly}
use Rattle.totals_spec.proofs.entries.RefusedExactly.{entry-refused-exactly}
use Rattle.totals_spec.specs.refusals.Conditions.{Uneven, sum_conditions, dot_conditions, entry_conditions}
use Rattle.totals_spec.specs.ten_bytes.Conditions.{UnevenTens}
use Rattle.totals_spec.specs.ten_bytes.Conditions.{extended_sum_conditions, extended_dot_conditions, extended_entry_conditions}
use Rattle.totals.specs.Entered.{Enters}
use Rattle.promised_calls.specs.Order.{Rearranged, PairsRearranged}
use Rattle.promised_calls.specs.Entries.{values_by, value_size, answer_size, nan_by, pair_nan_by}
use Rattle.promised_calls.specs.Entries.{values_of, Whole, HasRoom, NoNanDecides, NoNanDecidesPairs, SameAnswer, Keeps}
use Rattle.promised_calls.specs.Refusals.{RefusesExactly, PlacedAt, WritesNothing}

-- ---- an entry by its two tests and the record's: what is written where all three pass

-- two of them, of which the first passes: so does the second, with the same first bytes
pub two : {A : Type 0} (P : List ℕ → A) (a b d a' b' d' : Bool) (n n' : ℕ) (old old' new new' : List ℕ) → n ≢ 0 ⊎ d ≡ true → a' ≡ false → b' ≡ false
    → (a ≡ false → b ≡ false → d ≡ true → (d' ≡ true) × (P new ≡ P new')) → (by_tests a b d n old new).code ≡ 0
    → ((by_tests a' b' d' n' old' new').code ≡ 0) × (P (by_tests a b d n old new).buffer ≡ P (by_tests a' b' d' n' old' new').buffer)
two P true b d a' b' d' n n' old old' new new' z ea eb h e = absurd (suc-ne-zero 0 e)
two P false true d a' b' d' n n' old old' new new' z ea eb h e = absurd (suc-ne-zero 1 e)
two P false false false a' b' d' n n' old old' new new' (inl z) ea eb h e = absurd (z e)
two P false false false a' b' d' n n' old old' new new' (inr z) ea eb h e = absurd (true≢false (sym z))
two P false false true a' b' d' n n' old old' new new' z ea eb h e = let g = h refl refl refl in rw (ea, eb, g.0) (refl, g.1)

-- an entry that returns 0 has passed all three tests
all-passed : (a b d : Bool) (n : ℕ) (old new : List ℕ) → n ≢ 0 ⊎ d ≡ true → (by_tests a b d n old new).code ≡ 0 → d ≡ true
all-passed true b d n old new z e = absurd (suc-ne-zero 0 e)
all-passed false true d n old new z e = absurd (suc-ne-zero 1 e)
all-passed false false true n old new z e = refl
all-passed false false false n old new (inl z) e = absurd (z e)
all-passed false false false n old new (inr z) e = z

-- what holds of the buffer as it was, and of what is written into one with room, holds afterwards
pub after : (P : List ℕ → Type 0) (a b d : Bool) (n : ℕ) (old new : List ℕ) → P old → (b ≡ false → P new) → P (by_tests a b d n old new).buffer
after P true b d n old new p q = p
after P false true d n old new p q = p
after P false false true n old new p q = q refl
after P false false false n old new p q = p

-- a number other than 0 is not lost beside its place
pub told : (r : Answer) → (r.refusal + 256 * r.place ≢ 0) ⊎ (eqb r.refusal 0 ≡ true)
told r = go (eqb r.refusal 0) refl
  where
    go : (t : Bool) → eqb r.refusal 0 ≡ t → (r.refusal + 256 * r.place ≢ 0) ⊎ (eqb r.refusal 0 ≡ true)
    go true e = inr e
    go false e = inl (λ z. eqb-false r.refusal 0 e (omega (arith, z)))

extended-told : (n : ℕ) → (n ≢ 0) ⊎ (eqb n 0 ≡ true)
extended-told n = go (eqb n 0) refl
  where
    go : (t : Bool) → eqb n 0 ≡ t → (n ≢ 0) ⊎ (eqb n 0 ≡ true)
    go true e = inr e
    go false e = inl (eqb-false n 0 e)

-- the number and the place that an entry returns are those of the record
placed : (P : ℕ → Type 0) (a b : Bool) (r : Answer) (old new : List ℕ) → r.refusal < 256 → PlacedAt P r.refusal r.place
    → let x = by_tests a b (eqb r.refusal 0) (r.refusal + 256 * r.place) old new in PlacedAt P (x.code % 256) (x.code / 256)
placed P true b r old new s p = ((λ _. refl), λ e. absurd (eqb-false 1 7 refl e))
placed P false true r old new s p = ((λ _. refl), λ e. absurd (eqb-false 2 7 refl e))
placed P false false r old new s p = go (eqb r.refusal 0)
  where
    split : (n place : ℕ) → n ≡ r.refusal → place ≡ r.place → PlacedAt P n place
    split n place e d = rw (e, d) p

    go : (t : Bool) → let x = cond {A = Entry} t (record { code = 0; buffer = new }) (record { code = r.refusal + 256 * r.place; buffer = old }) in
        PlacedAt P (x.code % 256) (x.code / 256)
    go true = ((λ _. refl), λ e. absurd (eqb-false 0 7 refl e))
    go false = split _ _ (omega (arith, s)) (omega (arith, s))

-- ---- the bytes of an answer do not depend on the buffer

first : (r : Answer) (old again : List ℕ) → take 24 (written r old) ≡ take 24 (written r again)
unfolding written
first r old again = refl

extended-first : (r : Answer) (old again : List ℕ) → take 32 (extended_written r old) ≡ take 32 (extended_written r again)
unfolding extended_written
extended-first r old again = refl

pub even : (m n : ℕ) → m ≡ n → not (eqb m n) ≡ false
even m n e = ap not (eq-eqb m n e)

pub both-even : (a b : Bool) → a ≡ false → b ≡ false → (a || b) ≡ false
both-even a b e d = rw (e, d) refl

pub no-nan : (a b : Bool) → (a || b) ≡ false → (a ≡ false) × (b ≡ false)
no-nan false b e = (refl, e)
no-nan true b e = absurd (true≢false e)

-- ---- a sum

module _ (f : Format) (c : Settings) (u : ℕ) where
  -- one more call, with a buffer of its own, by whether the kind is 4
  two-sums : (t : Bool) (one other old again : List ℕ) → Rearranged (values_by t one) (values_by t other) → nan_by t f (values_by t one) ≡ false
      → length other % value_size t ≡ 0 → answer_size t ≤ length again
      → let x = cond t (extended_sum_entry f c u one old) (sum_entry f c u one old) in
      let y = cond t (extended_sum_entry f c u other again) (sum_entry f c u other again) in
      x.code ≡ 0 → (y.code ≡ 0) × (take (answer_size t) x.buffer ≡ take (answer_size t) y.buffer)
  unfolding extended_sum_entry extended_entered sum_entry entered
  two-sums true one other old again h k w z e =
      let r = extended_sum_answer f c u (tens_in one) in
      let r' = extended_sum_answer f c u (tens_in other) in
      two (take 32) (uneven_tens one) (short32 old) (eqb r.refusal 0) (uneven_tens other) (short32 again) (eqb r'.refusal 0)
      r.refusal r'.refusal old again (extended_written r old) (extended_written r' again)
      (extended-told r.refusal) (even (length other % 10) 0 w) (le-ltb (length again) 32 z)
      (λ ea eb d.
      let o = extended-order.0 f c u (tens_in one) (tens_in other) h
      (sym (extended-sum-refusal f c u (tens_in one)) ∙ eqb-true r.refusal 0 d) k in (
        ap (λ (x : Answer). eqb x.refusal 0) (sym o.1) ∙ d,
        extended-first r old again ∙ ap (λ (x : Answer). take 32 (extended_written x again)) o.1,
      )) e
  two-sums false one other old again h k w z e =
      let r = sum_answer f c u (values_in one) in
      let r' = sum_answer f c u (values_in other) in
      two (take 24) (uneven one) (short old) (eqb r.refusal 0) (uneven other) (short again) (eqb r'.refusal 0)
      (r.refusal + 256 * r.place) (r'.refusal + 256 * r'.place) old again (written r old) (written r' again)
      (told r) (even (length other % 8) 0 w) (le-ltb (length again) 24 z)
      (λ ea eb d.
      let o = sum-order f c u (values_in one) (values_in other) h (sym (sum-refusal f c u (values_in one)) ∙ eqb-true r.refusal 0 d) k in
      (ap (λ (x : Answer). eqb x.refusal 0) (sym o.1) ∙ d, first r old again ∙ ap (λ (x : Answer). take 24 (written x again)) o.1)) e

  kept-sum : (t : Bool) (bytes old : List ℕ) → let x = cond t (extended_sum_entry f c u bytes old) (sum_entry f c u bytes old) in
      (drop (answer_size t) x.buffer ≡ drop (answer_size t) old) × (length x.buffer ≡ length old)
  unfolding extended_sum_entry extended_entered sum_entry entered extended_written written
  kept-sum true bytes old =
      let r = extended_sum_answer f c u (tens_in bytes) in
      after (λ new. (drop 32 new ≡ drop 32 old) × (length new ≡ length old)) (uneven_tens bytes) (short32 old) (eqb r.refusal 0) r.refusal old
      (extended_written r old) (refl, refl) (λ s. (refl, omega (arith, length-drop 32 old, ltb-false (length old) 32 s)))
  kept-sum false bytes old =
      let r = sum_answer f c u (values_in bytes) in
      after (λ new. (drop 24 new ≡ drop 24 old) × (length new ≡ length old)) (uneven bytes) (short old) (eqb r.refusal 0)
      (r.refusal + 256 * r.place) old (written r old) (refl, refl) (λ s. (refl, omega (arith, length-drop 24 old, ltb-false (length old) 24 s)))

  placed-sum : (bytes old : List ℕ) → let x = sum_entry f c u bytes old in PlacedAt (StrayAt f (values_in bytes)) (x.code % 256) (x.code / 256)
  unfolding sum_entry entered
  placed-sum bytes old =
      let l = values_in bytes in
      placed (StrayAt f l) (uneven bytes) (short old) (sum_answer f c u l) old (written (sum_answer f c u l) old) (sum-small f c u l).number
      (subst (λ (n : ℕ). PlacedAt (StrayAt f l) n (sum_answer f c u l).place) (sym (sum-refusal f c u l)) (sum-place f c u l))

-- ---- a dot product

module _ (f : Format) (c : Settings) where
  two-dots : (t : Bool) (l r l' r' old again : List ℕ) → PairsRearranged (values_by t l) (values_by t r) (values_by t l') (values_by t r')
      → pair_nan_by t f (values_by t l) (values_by t r) ≡ false
      → length l' % value_size t ≡ 0 → length r' % value_size t ≡ 0 → answer_size t ≤ length again
      → let x = cond t (extended_dot_entry f c l r old) (dot_entry f c l r old) in
      let y = cond t (extended_dot_entry f c l' r' again) (dot_entry f c l' r' again) in
      x.code ≡ 0 → (y.code ≡ 0) × (take (answer_size t) x.buffer ≡ take (answer_size t) y.buffer)
  unfolding extended_dot_entry extended_entered dot_entry entered
  two-dots true l r l' r' old again h k w w' z e =
      let a = extended_dot_answer f c (tens_in l) (tens_in r) in
      let a' = extended_dot_answer f c (tens_in l') (tens_in r') in
      two (take 32) (uneven_tens l || uneven_tens r) (short32 old) (eqb a.refusal 0) (uneven_tens l' || uneven_tens r') (short32 again)
      (eqb a'.refusal 0) a.refusal a'.refusal old again (extended_written a old) (extended_written a' again)
      (extended-told a.refusal) (both-even (uneven_tens l') (uneven_tens r') (even (length l' % 10) 0 w) (even (length r' % 10) 0 w'))
      (le-ltb (length again) 32 z)
      (λ ea eb d.
      let o = extended-order.1 f c (tens_in l) (tens_in r) (tens_in l') (tens_in r') h.0 h.1
      (sym (extended-dot-refusal f c (tens_in l) (tens_in r)) ∙ eqb-true a.refusal 0 d) k in (
        ap (λ (x : Answer). eqb x.refusal 0) (sym o.1) ∙ d,
        extended-first a old again ∙ ap (λ (x : Answer). take 32 (extended_written x again)) o.1,
      )) e
  two-dots false l r l' r' old again h k w w' z e =
      let a = dot_answer f c (values_in l) (values_in r) in
      let a' = dot_answer f c (values_in l') (values_in r') in
      let n = no-nan _ _ k in
      two (take 24) (uneven l || uneven r) (short old) (eqb a.refusal 0) (uneven l' || uneven r') (short again) (eqb a'.refusal 0)
      (a.refusal + 256 * a.place) (a'.refusal + 256 * a'.place) old again (written a old) (written a' again)
      (told a) (both-even (uneven l') (uneven r') (even (length l' % 8) 0 w) (even (length r' % 8) 0 w')) (le-ltb (length again) 24 z)
      (λ ea eb d.
      let o = dot-order f c (values_in l) (values_in r) (values_in l') (values_in r') h.0 h.1
      (sym (dot-refusal f c (values_in l) (values_in r)) ∙ eqb-true a.refusal 0 d) n.0 n.1 in
      (ap (λ (x : Answer). eqb x.refusal 0) (sym o.1) ∙ d, first a old again ∙ ap (λ (x : Answer). take 24 (written x again)) o.1)) e

  kept-dot : (t : Bool) (l r old : List ℕ) → let x = cond t (extended_dot_entry f c l r old) (dot_entry f c l r old) in
      (drop (answer_size t) x.buffer ≡ drop (answer_size t) old) × (length x.buffer ≡ length old)
  unfolding extended_dot_entry extended_entered dot_entry entered extended_written written
  kept-dot true l r old =
      let a = extended_dot_answer f c (tens_in l) (tens_in r) in
      after (λ new. (drop 32 new ≡ drop 32 old) × (length new ≡ length old)) (uneven_tens l || uneven_tens r) (short32 old) (eqb a.refusal 0)
      a.refusal old (extended_written a old) (refl, refl) (λ s. (refl, omega (arith, length-drop 32 old, ltb-false (length old) 32 s)))
  kept-dot false l r old =
      let a = dot_answer f c (values_in l) (values_in r) in
      after (λ new. (drop 24 new ≡ drop 24 old) × (length new ≡ length old)) (uneven l || uneven r) (short old) (eqb a.refusal 0)
      (a.refusal + 256 * a.place) old (written a old) (refl, refl) (λ s. (refl, omega (arith, length-drop 24 old, ltb-false (length old) 24 s)))

  placed-dot : (l r old : List ℕ) → let x = dot_entry f c l r old in
      PlacedAt (DotStrayAt f (values_in l) (values_in r)) (x.code % 256) (x.code / 256)
  unfolding dot_entry entered
  placed-dot l r old =
      let xs = values_in l in
      let ys = values_in r in
      let a = dot_answer f c xs ys in
      placed (DotStrayAt f xs ys) (uneven l || uneven r) (short old) a old (written a old) (dot-small f c xs ys).number
      (subst (λ (n : ℕ). PlacedAt (DotStrayAt f xs ys) n a.place) (sym (dot-refusal f c xs ys)) (dot-place f c xs ys))

-- ---- the calls

module _ (f : Format) (c : Settings) (u : ℕ) (bytes old : List ℕ) (number : ℕ) (new : List ℕ) (is : Enters (sum_call f c u bytes old) number new) where
  pub sum-alike : (other again : List ℕ) (number' : ℕ) (new' : List ℕ) → Enters (sum_call f c u other again) number' new'
      → Rearranged (values_of f bytes) (values_of f other) → NoNanDecides f (values_of f bytes) → Whole f other → HasRoom f again
      → number ≡ 0 → (number' ≡ 0) × SameAnswer f new new'
  unfolding sum_call
  sum-alike other again number' new' is' h k w z e =
      let s = two-sums f c u (is_extended f) bytes other old again h k w z (sym is.code_is ∙ e) in
      (is'.code_is ∙ s.0, ap (take (answer_size (is_extended f))) is.buffer-is ∙ (s.1 ∙ ap (take (answer_size (is_extended f))) (sym is'.buffer-is)))

  pub sum-keeps : Keeps f old new
  unfolding sum_call
  sum-keeps = subst (Keeps f old) (sym is.buffer-is) (kept-sum f c u (is_extended f) bytes old)

  pub sum-exactly : f.kind ≢ 4 → RefusesExactly (entry_conditions (Uneven bytes) old (sum_conditions f c u (values_in bytes))) (number % 256)
  sum-exactly h n = rw (is.code_is, (other-kinds f c h).0 u bytes old) (entry-refused-exactly.0 f c u bytes old n)

  pub sum-exactly-tens : f.kind ≡ 4
      → RefusesExactly (extended_entry_conditions (UnevenTens bytes) old (extended_sum_conditions f c u (tens_in bytes))) number
  sum-exactly-tens h n = rw is.code_is (extended-call-refused-exactly.0 f c u bytes old n h)

  pub sum-placed : f.kind ≢ 4 → PlacedAt (StrayAt f (values_in bytes)) (number % 256) (number / 256)
  sum-placed h = rw (is.code_is, (other-kinds f c h).0 u bytes old) (placed-sum f c u bytes old)

  pub sum-writes-nothing : WritesNothing number old new
  sum-writes-nothing h = is.buffer-is ∙ call-refused.0 f c u bytes old (λ e. h (is.code_is ∙ e))

  pub sum-zero : f.kind ≢ 4 → number ≡ 0 → sum_refusal f c u (values_in bytes) ≡ 0
  unfolding sum_entry entered
  sum-zero h e =
      let r = sum_answer f c u (values_in bytes) in
      sym (sum-refusal f c u (values_in bytes))
      ∙ eqb-true r.refusal 0
      (all-passed (uneven bytes) (short old) (eqb r.refusal 0) (r.refusal + 256 * r.place) old (written r old) (told r)
      (sym (is.code_is ∙ ap (λ (x : Entry). x.code) ((other-kinds f c h).0 u bytes old)) ∙ e))

  pub sum-zero-tens : f.kind ≡ 4 → number ≡ 0 → extended_sum_refusal f c u (tens_in bytes) ≡ 0
  unfolding extended_sum_entry extended_entered
  sum-zero-tens h e =
      let r = extended_sum_answer f c u (tens_in bytes) in
      sym (extended-sum-refusal f c u (tens_in bytes))
      ∙ eqb-true r.refusal 0
      (all-passed (uneven_tens bytes) (short32 old) (eqb r.refusal 0) r.refusal old (extended_written r old) (extended-told r.refusal)
      (sym (is.code_is ∙ ap (λ (x : Entry). x.code) (sum-extended f h c u bytes old)) ∙ e))

module _ (f : Format) (c : Settings) (l r old : List ℕ) (number : ℕ) (new : List ℕ) (is : Enters (dot_call f c l r old) number new) where
  pub dot-alike : (l' r' again : List ℕ) (number' : ℕ) (new' : List ℕ) → Enters (dot_call f c l' r' again) number' new'
      → PairsRearranged (values_of f l) (values_of f r) (values_of f l') (values_of f r') → NoNanDecidesPairs f (values_of f l) (values_of f r)
      → Whole f l' → Whole f r' → HasRoom f again → number ≡ 0 → (number' ≡ 0) × SameAnswer f new new'
  unfolding dot_call
  dot-alike l' r' again number' new' is' h k w w' z e =
      let s = two-dots f c (is_extended f) l r l' r' old again h k w w' z (sym is.code_is ∙ e) in
      (is'.code_is ∙ s.0, ap (take (answer_size (is_extended f))) is.buffer-is ∙ (s.1 ∙ ap (take (answer_size (is_extended f))) (sym is'.buffer-is)))

  pub dot-keeps : Keeps f old new
  unfolding dot_call
  dot-keeps = subst (Keeps f old) (sym is.buffer-is) (kept-dot f c (is_extended f) l r old)

  pub dot-exactly : f.kind ≢ 4
      → RefusesExactly (entry_conditions (Uneven l ⊎ Uneven r) old (dot_conditions f c (values_in l) (values_in r))) (number % 256)
  dot-exactly h n = rw (is.code_is, (other-kinds f c h).1 l r old) (entry-refused-exactly.1 f c l r old n)

  pub dot-exactly-tens : f.kind ≡ 4
      → RefusesExactly (extended_entry_conditions (UnevenTens l ⊎ UnevenTens r) old (extended_dot_conditions f c (tens_in l) (tens_in r))) number
  dot-exactly-tens h n = rw is.code_is (extended-call-refused-exactly.1 f c l r old n h)

  pub dot-placed : f.kind ≢ 4 → PlacedAt (DotStrayAt f (values_in l) (values_in r)) (number % 256) (number / 256)
  dot-placed h = rw (is.code_is, (other-kinds f c h).1 l r old) (placed-dot f c l r old)

  pub dot-writes-nothing : WritesNothing number old new
  dot-writes-nothing h = is.buffer-is ∙ call-refused.1 f c l r old (λ e. h (is.code_is ∙ e))

  pub dot-zero : f.kind ≢ 4 → number ≡ 0 → dot_refusal f c (values_in l) (values_in r) ≡ 0
  unfolding dot_entry entered
  dot-zero h e =
      let a = dot_answer f c (values_in l) (values_in r) in
      sym (dot-refusal f c (values_in l) (values_in r))
      ∙ eqb-true a.refusal 0
      (all-passed (uneven l || uneven r) (short old) (eqb a.refusal 0) (a.refusal + 256 * a.place) old (written a old) (told a)
      (sym (is.code_is ∙ ap (λ (x : Entry). x.code) ((other-kinds f c h).1 l r old)) ∙ e))

  pub dot-zero-tens : f.kind ≡ 4 → number ≡ 0 → extended_dot_refusal f c (tens_in l) (tens_in r) ≡ 0
  unfolding extended_dot_entry extended_entered
  dot-zero-tens h e =
      let a = extended_dot_answer f c (tens_in l) (tens_in r) in
      sym (extended-dot-refusal f c (tens_in l) (tens_in r))
      ∙ eqb-true a.refusal 0
      (all-passed (uneven_tens l || uneven_tens r) (short32 old) (eqb a.refusal 0) a.refusal old (extended_written a old)
      (extended-told a.refusal) (sym (is.code_is ∙ ap (λ (x : Entry). x.code) (dot-extended f h c l r old)) ∙ e))
