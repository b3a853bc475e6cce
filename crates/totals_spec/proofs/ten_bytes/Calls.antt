-- The calls of the byte entries with kind 4 (`Extended` of specs/), and that any other use of kind
-- 4 gets 3.
use Prim.Native.Nat.{◌-◌, ℕ, ◌/◌, ◌≤◌, ◌<◌, ◌%◌, ◌+◌}
use borrow.Author.Tests.{ne_eqb, eq-eqb, lt-leb, eqb-false, ltb-false}
use mathlib.Core.Path.{◌≡◌, sym, ◌∙◌, refl, ap}
use mathlib.Core.Bool.{false, Bool, true, cond, ◌||◌}
use mathlib.Core.List.{List, ◌++◌}
use native.Mathlib.Omega.{arith}
use lib.ListN.{length, get_or, drop, length-drop, get_or-append}
use lib.Dec.{T, eqb, eqb→eq, ltb→lt, lt→ltb}
use native.Mathlib.Nat.{suc-ne-zero}
use mathlib.Core.Logic.{◌↔◌, ◌≢◌}
use lib.Seq.{get_or-drop}
use Rattle.totals_spec.specs.ten_bytes.Extended.{sum_call, dot_call, extended_sum_entry}
use Rattle.totals_spec.specs.ten_bytes.Extended.{extended_dot_entry, tens_in, uneven_tens, short32}
use Rattle.totals_spec.specs.ten_bytes.Extended.{extended_sum_answer, extended_dot_answer}
use Rattle.totals_spec.specs.ten_bytes.Extended.{extended_written, extended_entered, is_extended}
use Rattle.totals_spec.specs.ten_bytes.Extended.{kind4}
use Rattle.totals_spec.specs.ten_bytes.Promises.{Other-kinds, Extended-elsewhere, Tens-values}
use Rattle.totals_spec.specs.ten_bytes.Promises.{Extended-call-refused-exactly, Call-refused}
use Rattle.totals_spec.specs.ten_bytes.Promises.{ReadsBack32, Extended-read-back}
use Rattle.totals_spec.specs.ten_bytes.Promises.{Extended-call-order}
use Rattle.totals_spec.specs.formats.Format.{Format, valid_format}
use Rattle.totals_spec.specs.sums.Totals.{sum_answer, sum_refusal, dot_answer, dot_refusal}
use Rattle.totals_spec.specs.sums.Totals.{refuse_if, Answer}
use Rattle.totals_spec.specs.pence.Pence.{pence_answer, sum_pence}
use Rattle.totals_spec.specs.entries.Bytes.{wide_from, Entry, to_bytes}
use Rattle.totals_spec.specs.ten_bytes.Conditions.{UnevenTens, Short32, extended_entry_conditions}
use Rattle.totals_spec.specs.refusals.Conditions.{Condition}
use Rattle.totals_spec.specs.sums.Promises.{FieldsFit}
use Rattle.totals_spec.proofs.entries.ValuesInBytes.{wide-length, wide_at}
use Rattle.totals_spec.proofs.refusals.RefusedRecords.{by_tests, entry-refused, sum-entry-refused}
use Rattle.totals_spec.proofs.refusals.RefusedRecords.{dot-entry-refused}
use Rattle.totals_spec.proofs.refusals.Exactly.{different, Tests, test, exactly, either}
use Rattle.totals_spec.proofs.ten_bytes.Totals.{extended-sum-refusal, extended-dot-refusal}
use Rattle.totals_spec.proofs.ten_bytes.Totals.{extended-sum-tests, extended-dot-tests}
use Rattle.totals_spec.proofs.ten_bytes.Totals.{extended-fits, extended-order}
use Rattle.totals_spec.proofs.entries.ReadBack.{bytes_back, zero-bytes}

-- ---- kind 4 or not

pub other-kinds : Other-kinds
unfolding sum_call dot_call
other-kinds f c h = ((λ u bytes old. rw (ne_eqb f.kind 4 h)), λ left right old. rw (ne_eqb f.kind 4 h))

module _ (f : Format) (h : f.kind ≡ 4) where
  pub sum-extended : (c : _) (u : ℕ) (bytes old : List ℕ) → sum_call f c u bytes old ≡ extended_sum_entry f c u bytes old
  unfolding sum_call
  sum-extended c u bytes old = rw (eq-eqb f.kind 4 h)

  pub dot-extended : (c : _) (left right old : List ℕ) → dot_call f c left right old ≡ extended_dot_entry f c left right old
  unfolding dot_call
  dot-extended c left right old = rw (eq-eqb f.kind 4 h)

  pub not-offered : valid_format f ≡ false
  unfolding valid_format
  not-offered = rw (lt-leb f.kind 3 (omega (arith, h)))

pub extended-elsewhere : Extended-elsewhere
unfolding sum_answer sum_refusal dot_answer dot_refusal pence_answer sum_pence
extended-elsewhere f h =
    let e = not-offered f h in (
      λ c u l. rw e,
      λ c xs ys. rw e,
      λ b. rw e,
      λ l. rw e,
    )

-- ---- ten bytes a value

pub tens-values : Tens-values
unfolding tens_in
tens-values bytes = (wide-length 10 (length bytes / 10) bytes, wide_at 10 (length bytes / 10) bytes)

-- the first n of them
pub tens-first : (n : ℕ) (bytes : List ℕ) (i : ℕ) → n ≤ length bytes / 10 → i < n → get_or (tens_in bytes) i 0 ≡ get_or (wide_from 10 n bytes) i 0
tens-first n bytes i h k = (tens-values bytes).1 i (omega arith) ∙ sym (wide_at 10 n bytes i k)

-- ---- a byte entry by its tests

-- the number returned
by_number : (a b : Bool) (n : ℕ) (old new : List ℕ) → (by_tests a b (eqb n 0) n old new).code ≡ refuse_if a 1 (refuse_if b 2 n)
by_number true b n old new = refl
by_number false true n old new = refl
by_number false false n old new = go (eqb n 0) (eqb→eq n 0)
  where
    go : (t : Bool) → (T t → n ≡ 0) → (cond {A = Entry} t (record { code = 0; buffer = new }) (record { code = n; buffer = old })).code ≡ n
    go true e = sym (e tt)
    go false e = refl

-- where that is 0 the buffer is the new one
by-buffer : (P : List ℕ → Type 0) (a b : Bool) (n : ℕ) (old new : List ℕ) → (b ≡ false → P new) → (by_tests a b (eqb n 0) n old new).code ≡ 0
    → P (by_tests a b (eqb n 0) n old new).buffer
by-buffer P true b n old new h e = absurd (suc-ne-zero 0 e)
by-buffer P false true n old new h e = absurd (suc-ne-zero 1 e)
by-buffer P false false n old new h e = go (eqb n 0) refl e
  where
    go : (t : Bool) → eqb n 0 ≡ t → let x = cond {A = Entry} t (record { code = 0; buffer = new }) (record { code = n; buffer = old }) in
        x.code ≡ 0 → P x.buffer
    go true z e = h refl
    go false z e = absurd (eqb-false n 0 z e)

-- ---- refusals

tens-found : (bytes : List ℕ) → T (uneven_tens bytes) ↔ UnevenTens bytes
tens-found bytes = different (length bytes % 10) 0

short-found : (old : List ℕ) → T (short32 old) ↔ Short32 old
short-found old = ((λ t. omega (arith, ltb→lt (length old) 32 t)), λ h. lt→ltb (length old) 32 (omega (arith, h)))

entry-tests : {A : Type 0} {l : List Condition} {m : ℕ} (a : Bool) (old : List ℕ) → T a ↔ A → Tests l m
    → Tests (extended_entry_conditions A old l) (refuse_if a 1 (refuse_if (short32 old) 2 m))
entry-tests a old t h = test a t (test (short32 old) (short-found old) h)

pub extended-call-refused-exactly : Extended-call-refused-exactly
unfolding extended_sum_entry extended_dot_entry extended_entered
extended-call-refused-exactly = (
  λ f c u bytes old n h.
      let r = extended_sum_answer f c u (tens_in bytes) in
      rw (
        sum-extended f h c u bytes old,
        by_number (uneven_tens bytes) (short32 old) r.refusal old (extended_written r old),
        extended-sum-refusal f c u (tens_in bytes),
      )
      (exactly (entry-tests (uneven_tens bytes) old (tens-found bytes) (extended-sum-tests f c u (tens_in bytes))) n),
  λ f c left right old n h.
      let r = extended_dot_answer f c (tens_in left) (tens_in right) in
      rw (
        dot-extended f h c left right old,
        by_number (uneven_tens left || uneven_tens right) (short32 old) r.refusal old (extended_written r old),
        extended-dot-refusal f c (tens_in left) (tens_in right),
      )
      (exactly (entry-tests (uneven_tens left || uneven_tens right) old
      (either (uneven_tens left) (uneven_tens right) (tens-found left) (tens-found right)) (extended-dot-tests f c (tens_in left) (tens_in right))) n),
)

-- a refused call writes nothing, whichever entry it goes to
untouched : (t : Bool) (x y : Entry) (old : List ℕ) → (x.code ≢ 0 → x.buffer ≡ old) → (y.code ≢ 0 → y.buffer ≡ old)
    → (cond t x y).code ≢ 0 → (cond t x y).buffer ≡ old
untouched true x y old h k = h
untouched false x y old h k = k

pub call-refused : Call-refused
unfolding sum_call dot_call extended_sum_entry extended_dot_entry extended_entered
call-refused = (
  λ f c u bytes old.
      let r = extended_sum_answer f c u (tens_in bytes) in
      untouched (is_extended f) _ _ old (entry-refused (uneven_tens bytes) (short32 old) (eqb r.refusal 0) r.refusal old (extended_written r old))
      (sum-entry-refused f c u bytes old),
  λ f c left right old.
      let r = extended_dot_answer f c (tens_in left) (tens_in right) in
      untouched (is_extended f) _ _ old
      (entry-refused (uneven_tens left || uneven_tens right) (short32 old) (eqb r.refusal 0) r.refusal old (extended_written r old))
      (dot-entry-refused f c left right old),
)

-- ---- the buffer that an accepted call leaves

module _ (r : Answer) (old : List ℕ) (fit : FieldsFit kind4 r) (s : short32 old ≡ false) where
  written_back : ReadsBack32 r old (extended_written r old)
  unfolding extended_written
  written_back = record {
    result = bytes_back 10 r.result fit.result;
    flags = omega (arith, fit.flags);
    side = omega (arith, fit.side);
    zeros = zeros;
    passes = bytes_back 8 r.passes fit.passes;
    rest = refl;
    long = omega (arith, length-drop 32 old, ltb-false (length old) 32 s);
  }
    where
      zeros : (i : ℕ) → 12 ≤ i → i ≤ 23 → get_or (extended_written r old) i 0 ≡ 0
      zeros i low high =
          ap (λ (n : ℕ). get_or (extended_written r old) n 0) at ∙ sym (get_or-drop 12 (extended_written r old) (i - 12) 0)
          ∙ get_or-append (to_bytes 12 (r.side / 256)) (to_bytes 8 r.passes ++ drop 32 old) 0 (i - 12) (omega arith)
          ∙ ap (λ (x : ℕ). get_or (to_bytes 12 x) (i - 12) 0) none ∙ zero-bytes 12 (i - 12)
        where
          at : i ≡ 12 + (i - 12)
          at = omega arith

          none : r.side / 256 ≡ 0
          none = omega (arith, fit.side)

pub extended-read-back : Extended-read-back
unfolding extended_sum_entry extended_dot_entry extended_entered
extended-read-back = (
  λ f c u bytes old h.
      let r = extended_sum_answer f c u (tens_in bytes) in
      rw (sum-extended f h c u bytes old)
      (by-buffer (ReadsBack32 r old) (uneven_tens bytes) (short32 old) r.refusal old (extended_written r old)
      (written_back r old (extended-fits.0 f c u (tens_in bytes)))),
  λ f c left right old h.
      let r = extended_dot_answer f c (tens_in left) (tens_in right) in
      rw (dot-extended f h c left right old)
      (by-buffer (ReadsBack32 r old) (uneven_tens left || uneven_tens right) (short32 old) r.refusal old (extended_written r old)
      (written_back r old (extended-fits.1 f c (tens_in left) (tens_in right)))),
)

-- ---- the order

pub extended-call-order : Extended-call-order
unfolding extended_sum_entry extended_dot_entry
extended-call-order = (
  λ f c u b₁ b₂ old h e₁ e₂ o r k.
      rw (sum-extended f h c u b₁ old, sum-extended f h c u b₂ old) (cc (extended-order.0 f c u (tens_in b₁) (tens_in b₂) o r k).1),
  λ f c x y x' y' old h e₁ e₂ n o r k.
      rw (dot-extended f h c x y old, dot-extended f h c x' y' old)
      (cc (extended-order.1 f c (tens_in x) (tens_in y) (tens_in x') (tens_in y') n o r k).1),
)
