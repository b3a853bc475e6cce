-- The last calls of a running total, test by test.
use mathlib.Core.Path.{◌≡◌, refl, sym}
use mathlib.Core.Logic.{◌↔◌, ◌≢◌}
use mathlib.Core.Bool.{Bool, true, false, not, ◌||◌, cond}
use mathlib.Core.List.{List}
use Prim.Native.Nat.{ℕ, ◌+◌, ◌*◌, ◌^◌, ◌≤◌}
use native.Mathlib.Omega.{arith}
use lib.Dec.{T, ltb, eqb, ltb→lt, nltb→le, leb→le, le→leb}
use lib.IntN.{ℤ, pos, neg_ℤ}
use lib.ListN.{length}
use borrow.Author.Tests.{eqb-true, eqb-false, eq-eqb}
use Rattle.totals_spec.specs.formats.Format.{Format, origin, fall}
use Rattle.totals_spec.specs.formats.Settings.{Settings, valid_settings}
use Rattle.totals_spec.specs.sums.Totals.{Answer, refused, refuse_if, answered, special, infinities}
use Rattle.totals_spec.specs.entries.Bytes.{Entry, short, entered, written}
use Rattle.totals_spec.specs.ten_bytes.Extended.{extended, short32, extended_entered}
use Rattle.totals_spec.specs.ten_bytes.Extended.{extended_written}
use Rattle.totals_spec.specs.pence.Pence.{Pence, refused_pence, pence_of, sum_figure}
use Rattle.totals_spec.specs.entries.Words.{misnamed, format_by}
use Rattle.totals_spec.specs.pence.Entry.{figure_entered}
use Rattle.totals_spec.proofs.refusals.Exactly.{Tests, last, test, exactly, either, format-fails}
use Rattle.totals_spec.proofs.refusals.Exactly.{settings-fail, misnamed-found}
use Rattle.running_spec.specs.State.{State, Marks, marks}
use Rattle.running_spec.specs.Saved.{format_in, counted_in, products_in, is_kind4, infinity_first_in, key_in, state_in, opens}
use Rattle.running_spec.specs.Finish.{no_number, finish_marks, finish_marks4, number_state, finite_state, finish, finish_extended, into_marks, finish_into, state_pence}
use Rattle.running_spec.specs.Entries.{finished_state, finish_answer, finish_entry, into_refusal, into_entry, running_pence, running_pence_entry}
use Rattle.running_spec.proofs.Refusals.{by-kind, shorter, state-fails, is-eq}
use Rattle.promises.specs.HeldRunning.{finish_conditions, SawNoNumber, SawInvalid, into_conditions, pence_conditions, Leaves}
use Rattle.promises.specs.HeldRunning.{Finish-refused-exactly, Finish-writes, Pence-writes}

-- ---- a finished record is accepted

accepted : (b : Bool) (x y : Answer) → x.refusal ≡ 0 → y.refusal ≡ 0 → (cond b x y).refusal ≡ 0
accepted true x y h k = h
accepted false x y h k = k

infinite-accepted : (p m : Bool) (a b c d : Answer) → a.refusal ≡ 0 → b.refusal ≡ 0 → c.refusal ≡ 0 → d.refusal ≡ 0 → (infinities p m a b c d).refusal ≡ 0
infinite-accepted true true a b c d h i j k = h
infinite-accepted true false a b c d h i j k = i
infinite-accepted false true a b c d h i j k = j
infinite-accepted false false a b c d h i j k = k

module _ (f : Format) (c : Settings) (p : Bool) (s : Marks) where
  finite-accepted : (finite_state f c p s).refusal ≡ 0
  unfolding finite_state special Rattle.totals_spec.specs.sums.Totals.reported
  finite-accepted = accepted s.some_term _ _ refl refl

  number-accepted : (number_state f c p s).refusal ≡ 0
  unfolding number_state special
  number-accepted = accepted s.invalid _ _ refl (infinite-accepted s.plus_infinity s.minus_infinity _ _ _ _ refl refl refl finite-accepted)

  marks-accepted : (i : Bool) → (finish_marks f c p i s).refusal ≡ 0
  unfolding finish_marks special
  marks-accepted i = accepted _ _ _ refl number-accepted

finished-accepted : (state : List ℕ) (c : Settings) → (finished_state state c).refusal ≡ 0
unfolding finished_state finish finish_extended finish_marks4 special
finished-accepted state c =
    accepted (is_kind4 (key_in state)) _ _
    (accepted (marks (state_in state)).unsupported _ _ refl
    (marks-accepted extended c (products_in (key_in state)) (marks (state_in state)) (infinity_first_in (key_in state))))
    (marks-accepted (format_in (key_in state)) c (products_in (key_in state)) (marks (state_in state)) (infinity_first_in (key_in state)))

-- ---- an answer by its number n, written

module _ (r : Answer) (zero-refusal : r.refusal ≡ 0) (old : List ℕ) where
  entered-code : (n : ℕ) → (entered (answered n 0 r) old).code ≡ n
  unfolding entered
  entered-code n = go (eqb n 0) refl (eqb n 7)
    where
      go : (b : Bool) → eqb n 0 ≡ b → (s : Bool) → (entered (cond b r (refused n (cond s 0 0))) old).code ≡ n
      go true e s = rw (eq-eqb r.refusal 0 zero-refusal) (sym (eqb-true n 0 e))
      go false e true = rw e (omega arith)
      go false e false = rw e (omega arith)

  entered-leaves : (n : ℕ) → Leaves (entered (answered n 0 r) old) old (written r old)
  unfolding entered
  entered-leaves n = go (eqb n 0) refl
    where
      go : (b : Bool) → eqb n 0 ≡ b → Leaves (entered (cond b r (refused n (cond (eqb n 7) 0 0))) old) old (written r old)
      go true e = rw (eq-eqb r.refusal 0 zero-refusal) ((λ h. absurd (h refl)), λ h. refl)
      go false e = rw e ((λ h. refl), λ h. absurd (eqb-false n 0 e (omega (arith, h))))

  extended-code : (n : ℕ) → (extended_entered (answered n 0 r) old).code ≡ n
  unfolding extended_entered
  extended-code n = go (eqb n 0) refl
    where
      go : (b : Bool) → eqb n 0 ≡ b → (extended_entered (cond b r (refused n (cond (eqb n 7) 0 0))) old).code ≡ n
      go true e = rw (eq-eqb r.refusal 0 zero-refusal) (sym (eqb-true n 0 e))
      go false e = rw e refl

  extended-leaves : (n : ℕ) → Leaves (extended_entered (answered n 0 r) old) old (extended_written r old)
  unfolding extended_entered
  extended-leaves n = go (eqb n 0) refl
    where
      go : (b : Bool) → eqb n 0 ≡ b → Leaves (extended_entered (cond b r (refused n (cond (eqb n 7) 0 0))) old) old (extended_written r old)
      go true e = rw (eq-eqb r.refusal 0 zero-refusal) ((λ h. absurd (h refl)), λ h. refl)
      go false e = rw e ((λ h. refl), λ h. absurd (eqb-false n 0 e h))

-- ---- finish

module _ (state : List ℕ) (c : Settings) (old : List ℕ) where
  abbrev number : ℕ
  number = refuse_if (not (valid_settings (counted_in (key_in state)) c)) 4 0

  abbrev cut : Bool
  cut = cond (is_kind4 (key_in state)) (short32 old) (short old)

  finish-code : (finish_entry state c old).code ≡ refuse_if (not (opens state)) 18 (refuse_if cut 2 number)
  unfolding finish_entry finish_answer
  finish-code = go (not (opens state)) (is_kind4 (key_in state)) (short32 old) (short old)
    where
      go : (a k s t : Bool)
          → (cond {A = Entry} a (record { code = 18; buffer = old })
          (cond k (cond s (record { code = 2; buffer = old }) (extended_entered (answered number 0 (finished_state state c)) old))
          (cond t (record { code = 2; buffer = old }) (entered (answered number 0 (finished_state state c)) old)))).code
          ≡ refuse_if a 18 (refuse_if (cond k s t) 2 number)
      go true k s t = refl
      go false true true t = refl
      go false true false t = extended-code (finished_state state c) (finished-accepted state c) old number
      go false false s true = refl
      go false false s false = entered-code (finished_state state c) (finished-accepted state c) old number

  finish-tests : Tests (finish_conditions state c old) (refuse_if (not (opens state)) 18 (refuse_if cut 2 number))
  finish-tests =
      test (not (opens state)) (state-fails state)
      (test cut (by-kind (key_in state) (short32 old) (short old) (shorter (length old) 32) (shorter (length old) 24))
      (test (not (valid_settings (counted_in (key_in state)) c)) (settings-fail (counted_in (key_in state)) c) last))

  finish-leaves : Leaves (finish_entry state c old) old
      (cond (is_kind4 (key_in state)) (extended_written (finished_state state c) old) (written (finished_state state c) old))
  unfolding finish_entry finish_answer
  finish-leaves = go (not (opens state)) (is_kind4 (key_in state)) (short32 old) (short old)
    where
      go : (a k s t : Bool)
          → Leaves (cond {A = Entry} a (record { code = 18; buffer = old })
          (cond k (cond s (record { code = 2; buffer = old }) (extended_entered (answered number 0 (finished_state state c)) old))
          (cond t (record { code = 2; buffer = old }) (entered (answered number 0 (finished_state state c)) old)))) old
          (cond k (extended_written (finished_state state c) old) (written (finished_state state c) old))
      go true k s t = ((λ h. refl), λ h. let z : ⊥ = omega (arith, h) in absurd z)
      go false true true t = ((λ h. refl), λ h. let z : ⊥ = omega (arith, h) in absurd z)
      go false true false t = extended-leaves (finished_state state c) (finished-accepted state c) old number
      go false false s true = ((λ h. refl), λ h. let z : ⊥ = omega (arith, h) in absurd z)
      go false false s false = entered-leaves (finished_state state c) (finished-accepted state c) old number

-- ---- what was seen

module _ (s : State) where
  seen-no-number : T (no_number (marks s)) ↔ SawNoNumber s
  unfolding marks
  seen-no-number = either _ _ (either _ _ ((λ t. t), λ t. t) (shorter 0 s.plus_infinity)) (shorter 0 s.minus_infinity)

  seen-invalid : T (no_number (marks s) || (marks s).invalid || (marks s).unsupported) ↔ SawInvalid s
  unfolding marks
  seen-invalid = either _ _ (either _ _ seen-no-number (shorter 0 s.invalid)) (shorter 0 s.unsupported)

-- ---- into another format

module _ (state : List ℕ) (k e w named : ℕ) (b : ℤ) (c : Settings) (old : List ℕ) where
  abbrev into : Answer
  into = finish_into (counted_in (key_in state)) (products_in (key_in state)) (format_by k e w named b) c (state_in state)

  into-accepted : into.refusal ≡ 0
  unfolding finish_into into_marks special
  into-accepted = accepted (marks (state_in state)).some_term _ _ refl refl

  into-code : (into_entry state k e w named b c old).code ≡ refuse_if (not (opens state)) 18 (refuse_if (short old) 2 (into_refusal state k e w named b c))
  unfolding into_entry
  into-code = go (not (opens state)) (short old)
    where
      go : (a t : Bool)
          → (cond {A = Entry} a (record { code = 18; buffer = old })
          (cond t (record { code = 2; buffer = old }) (entered (answered (into_refusal state k e w named b c) 0 into) old))).code
          ≡ refuse_if a 18 (refuse_if t 2 (into_refusal state k e w named b c))
      go true t = refl
      go false true = refl
      go false false = entered-code into into-accepted old (into_refusal state k e w named b c)

  into-tests : Tests (into_conditions state k e w named b c old) (refuse_if (not (opens state)) 18 (refuse_if (short old) 2 (into_refusal state k e w named b c)))
  unfolding into_refusal
  into-tests =
      test (not (opens state)) (state-fails state)
      (test (short old) (shorter (length old) 24)
      (test _ (either _ _ (misnamed-found named b) (format-fails (format_by k e w named b)))
      (test _ (settings-fail (format_by k e w named b) c)
      (test _ (seen-invalid (state_in state)) last))))

  into-leaves : Leaves (into_entry state k e w named b c old) old (written into old)
  unfolding into_entry
  into-leaves = go (not (opens state)) (short old)
    where
      go : (a t : Bool)
          → Leaves (cond {A = Entry} a (record { code = 18; buffer = old })
          (cond t (record { code = 2; buffer = old }) (entered (answered (into_refusal state k e w named b c) 0 into) old))) old (written into old)
      go true t = ((λ h. refl), λ h. let z : ⊥ = omega (arith, h) in absurd z)
      go false true = ((λ h. refl), λ h. let z : ⊥ = omega (arith, h) in absurd z)
      go false false = entered-leaves into into-accepted old (into_refusal state k e w named b c)

-- ---- pence

module _ (state : List ℕ) where
  abbrev figure_at : ℕ
  figure_at = pence_of (origin (format_in (key_in state)) false) (fall (format_in (key_in state)) false) (state_in state).sum.mag

  pence-number : (running_pence state).refusal
      ≡ refuse_if (not (opens state)) 18 (refuse_if (products_in (key_in state) || is_kind4 (key_in state)) 4
      (refuse_if (no_number (marks (state_in state)) || not (ltb figure_at (2 ^ 63))) 8 0))
  unfolding running_pence state_pence sum_figure
  pence-number = go (not (opens state)) (products_in (key_in state) || is_kind4 (key_in state)) (no_number (marks (state_in state))) (ltb figure_at (2 ^ 63))
    where
      go : (a p n l : Bool)
          → (cond a (refused_pence 18) (cond p (refused_pence 4) (cond n (refused_pence 8)
          (cond l (record { figure = cond (state_in state).sum.neg (neg_ℤ (pos figure_at)) (pos figure_at); refusal = 0; place = 0 }) (refused_pence 8))))).refusal
          ≡ refuse_if a 18 (refuse_if p 4 (refuse_if (n || not l) 8 0))
      go true p n l = refl
      go false true n l = refl
      go false false true l = refl
      go false false false true = refl
      go false false false false = refl

  large : T (not (ltb figure_at (2 ^ 63))) ↔ 2 ^ 63 ≤ figure_at
  large = (nltb→le figure_at (2 ^ 63), λ h. not-below (ltb figure_at (2 ^ 63)) (λ t. let j : ⊥ = omega (arith, h, ltb→lt figure_at (2 ^ 63) t) in j))
    where
      not-below : (b : Bool) → (T b → ⊥) → T (not b)
      not-below true h = absurd (h tt)
      not-below false h = tt

  pence-tests : Tests (pence_conditions state)
      (refuse_if (not (opens state)) 18 (refuse_if (products_in (key_in state) || is_kind4 (key_in state)) 4
      (refuse_if (no_number (marks (state_in state)) || not (ltb figure_at (2 ^ 63))) 8 0)))
  pence-tests =
      test (not (opens state)) (state-fails state)
      (test _ (either _ _ (leb→le 2 (key_in state).what, le→leb 2 (key_in state).what) (is-eq (key_in state).kind 4))
      (test _ (either _ _ (seen-no-number (state_in state)) large) last))

pub finish-refused-exactly : Finish-refused-exactly
finish-refused-exactly = (
  λ state c old n. rw (finish-code state c old) (exactly (finish-tests state c old) n),
  λ state k e w named b c old n. rw (into-code state k e w named b c old) (exactly (into-tests state k e w named b c old) n),
  λ state n. rw (pence-number state) (exactly (pence-tests state) n),
)

pub finish-writes : Finish-writes
finish-writes = (finish-leaves, into-leaves)

-- the entry of a figure
entered-figure : (p : Pence) (old : ℤ) → p.place ≡ 0
    → ((figure_entered p old).code ≢ 0 → (figure_entered p old).figure ≡ old) × ((figure_entered p old).code ≡ 0 → (p.refusal ≡ 0) × ((figure_entered p old).figure ≡ p.figure))
entered-figure p old h = go (eqb p.refusal 0) refl
  where
    go : (b : Bool) → eqb p.refusal 0 ≡ b
        → let x = cond {A = Rattle.totals_spec.specs.pence.Entry.FigureEntry} b (record { code = 0; figure = p.figure }) (record { code = p.refusal + 256 * p.place; figure = old }) in
        (x.code ≢ 0 → x.figure ≡ old) × (x.code ≡ 0 → (p.refusal ≡ 0) × (x.figure ≡ p.figure))
    go true e = ((λ k. absurd (k refl)), λ k. (eqb-true p.refusal 0 e, refl))
    go false e = ((λ k. refl), λ k. absurd (eqb-false p.refusal 0 e (omega (arith, k))))

module _ (state : List ℕ) where
  abbrev own : Pence
  own = state_pence (format_in (key_in state)) (state_in state)

  placed : own.place ≡ 0
  unfolding state_pence sum_figure
  placed = by (no_number (marks (state_in state))) (ltb (figure_at state) (2 ^ 63))
    where
      by : (n l : Bool)
          → (cond n (refused_pence 8)
          (cond l (record { figure = cond (state_in state).sum.neg (neg_ℤ (pos (figure_at state))) (pos (figure_at state)); refusal = 0; place = 0 }) (refused_pence 8))).place ≡ 0
      by true l = refl
      by false true = refl
      by false false = refl

pub pence-writes : Pence-writes
unfolding running_pence running_pence_entry
pence-writes state old = go (not (opens state)) (products_in (key_in state) || is_kind4 (key_in state))
  where
    go : (a p : Bool) → let x = figure_entered (cond a (refused_pence 18) (cond p (refused_pence 4) (own state))) old in
        (x.code ≢ 0 → x.figure ≡ old) × (x.code ≡ 0 → x.figure ≡ (own state).figure)
    go true p = ((λ h. refl), λ h. let z : ⊥ = omega (arith, h) in absurd z)
    go false true = ((λ h. refl), λ h. let z : ⊥ = omega (arith, h) in absurd z)
    go false false = let z = entered-figure (own state) old (placed state) in (z.0, λ h. (z.1 h).1)
