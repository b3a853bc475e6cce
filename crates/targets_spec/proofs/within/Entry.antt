-- The entries of a sum and of a dot within an allowance: their refusals, the order of the values,
-- and what a caller reads from the buffer.
use mathlib.Core.Path.{◌≡◌, refl, sym, ap, ◌∙◌, subst}
use mathlib.Core.Bool.{Bool, true, false, cond, ◌||◌, not}
use Prim.Native.Nat.{ℕ, ◌-◌, ◌+◌, ◌*◌, ◌%◌, ◌<◌, ◌^◌, suc, ◌≤◌, zero, ◌/◌}
use native.Mathlib.Nat.{suc-ne-zero, lt_of_lt_of_le}
use lib.Dec.{eqb, T, eqb→eq, ltb, lit≤, ltb→lt, lt→ltb}
use mathlib.Core.List.{List, ◌++◌}
use native.Mathlib.Omega.{arith}
use mathlib.Core.Logic.{◌≢◌, ◌↔◌}
use borrow.Author.Tests.{eqb-true, eqb-false, lt-ltb, le-ltb, ltb-false, eq-eqb}
use lib.IntN.{ℤ, pos, negsuc, nat_abs}
use lib.ListN.{length, take, drop, length-drop, length-append}
use lib.Seq.{take-append_seam, drop-append_seam}
use lib.Pow.{pow_mono}
use Rattle.totals_spec.specs.sums.Totals.{refuse_if, refused, sum_refusal, dot_refusal, Answer}
use Rattle.totals_spec.specs.sums.Totals.{sum_answer, dot_answer}
use Rattle.totals_spec.specs.entries.Bytes.{Entry, short, to_bytes, from_bytes, values_in, written}
use Rattle.totals_spec.specs.entries.Bytes.{entered, sum_entry, dot_entry}
use Rattle.totals_spec.specs.Basics.{Signed}
use Rattle.totals_spec.specs.chain.Chain.{half, signed_from}
use Rattle.totals_spec.specs.formats.Format.{Format}
use Rattle.totals_spec.specs.entries.Words.{misnamed, format_by}
use Rattle.totals_spec.specs.refusals.Conditions.{Condition}
use Rattle.totals_spec.proofs.refusals.RefusedRecords.{small-number, sum_number, dot-number}
use Rattle.totals_spec.proofs.entries.ReadBack.{bytes_back}
use Rattle.totals_spec.proofs.refusals.Exactly.{Tests, test, misnamed-found, exactly, either}
use Rattle.totals_spec.proofs.refusals.Exactly.{sum-tests, dot-tests, tested}
use Rattle.totals_spec.proofs.refusals.AcceptedCalls.{sum-accepts, dot-accepts}
use Rattle.totals_spec.proofs.sums.FieldsFit.{sum-fits, dot-fits}
use Rattle.targets_spec.specs.within.Estimate.{Estimate, full, allowed, estimate_written}
use Rattle.targets_spec.specs.within.Estimate.{estimate_entered, estimate_tested, window_of}
use Rattle.targets_spec.specs.within.Estimate.{short144, sum_within, dot_within, sum_within_entry}
use Rattle.targets_spec.specs.within.Estimate.{dot_within_entry}
use Rattle.targets_spec.specs.entries.SignedWords.{word_of, signed_word}
use Rattle.targets_spec.specs.within.Promises.{EstimateFits, ReadsEstimate, Within-entry-refusal}
use Rattle.targets_spec.specs.within.Promises.{Within-entry-refused, Within-entry-order}
use Rattle.targets_spec.specs.within.Promises.{Within-entry-read-back, Within-entry-plain}
use Rattle.targets_spec.specs.within.Conditions.{Short144, within_entry_conditions}
use Rattle.targets_spec.specs.entries.Lengths.{cut_short}
use Rattle.targets_spec.proofs.within.Answers.{Windowed, no-allowance, sum-within-number}
use Rattle.targets_spec.proofs.within.Answers.{dot-within-number, within-order, sum-within-windowed}
use Rattle.targets_spec.proofs.within.Answers.{dot-within-windowed, within-fits, sum-within-full}
use Rattle.targets_spec.proofs.within.Answers.{dot-within-full}
use Rattle.targets_spec.proofs.entries.Lengths.{cut-found, offered-size}

-- ---- by its tests

-- 16 is tried once
once : (z bad : Bool) (m : ℕ) → refuse_if z 16 (refuse_if bad 3 (refuse_if z 16 m)) ≡ refuse_if z 16 (refuse_if bad 3 m)
once true bad m = refl
once false true m = refl
once false false m = refl

module _ (bad : Bool) (k : ℕ) (x : Estimate) where
  -- the record by the two tests before its own
  abbrev named : Estimate
  named = allowed k (cond bad (full (refused 3 0)) x)

  named-number : named.answer.refusal ≡ refuse_if (eqb k 0) 16 (refuse_if bad 3 x.answer.refusal)
  named-number = go (eqb k 0) bad
    where
      go : (z bad : Bool) → (cond {A = Estimate} z (full (refused 16 0)) (cond bad (full (refused 3 0)) x)).answer.refusal
          ≡ refuse_if z 16 (refuse_if bad 3 x.answer.refusal)
      go true bad = refl
      go false true = refl
      go false false = refl

  -- an accepted one has passed both
  named-accepted : (P : Estimate → Type 0) → P x → named.answer.refusal ≡ 0 → P named
  named-accepted P h = go (eqb k 0) bad
    where
      go : (z bad : Bool) → let e = cond {A = Estimate} z (full (refused 16 0)) (cond bad (full (refused 3 0)) x) in e.answer.refusal ≡ 0 → P e
      go true bad e = absurd (suc-ne-zero 15 e)
      go false true e = absurd (suc-ne-zero 2 e)
      go false false e = h

-- the lowest byte of the number returned
entered-number : (e : Estimate) (old : List ℕ) → e.answer.refusal < 256 → (estimate_entered e old).code % 256 ≡ e.answer.refusal
unfolding estimate_entered
entered-number e old h = go (eqb e.answer.refusal 0) (eqb→eq e.answer.refusal 0)
  where
    go : (t : Bool) → (T t → e.answer.refusal ≡ 0)
        → (cond {A = Entry} t (record { code = 0; buffer = estimate_written e old })
        (record { code = e.answer.refusal + 256 * e.answer.place; buffer = old })).code % 256 ≡ e.answer.refusal
    go true z = sym (z tt)
    go false z = omega (arith, h)

-- what it leaves behind
entered-refused : (e : Estimate) (old : List ℕ) → (estimate_entered e old).code ≢ 0 → (estimate_entered e old).buffer ≡ old
unfolding estimate_entered
entered-refused e old = go (eqb e.answer.refusal 0)
  where
    go : (t : Bool)
        → let y = cond {A = Entry} t (record { code = 0; buffer = estimate_written e old })
        (record { code = e.answer.refusal + 256 * e.answer.place; buffer = old }) in y.code ≢ 0 → y.buffer ≡ old
    go true h = absurd (h refl)
    go false h = refl

entered-back : (P : List ℕ → Type 0) (e : Estimate) (old : List ℕ) → (e.answer.refusal ≡ 0 → P (estimate_written e old)) → (estimate_entered e old).code ≡ 0
    → P (estimate_entered e old).buffer
unfolding estimate_entered
entered-back P e old back = go (eqb e.answer.refusal 0) refl
  where
    go : (t : Bool) → eqb e.answer.refusal 0 ≡ t
        → let y = cond {A = Entry} t (record { code = 0; buffer = estimate_written e old })
        (record { code = e.answer.refusal + 256 * e.answer.place; buffer = old }) in y.code ≡ 0 → P y.buffer
    go true z h = back (eqb-true e.answer.refusal 0 z)
    go false z h = absurd (eqb-false e.answer.refusal 0 z (omega (arith, h)))

module _ (odd short bad : Bool) (k : ℕ) (x : Estimate) (old : List ℕ) where
  tested-number : (m : ℕ) → x.answer.refusal ≡ refuse_if (eqb k 0) 16 m → m < 256
      → (estimate_tested odd short bad k x old).code % 256 ≡ refuse_if odd 1 (refuse_if short 2 (refuse_if (eqb k 0) 16 (refuse_if bad 3 m)))
  tested-number m e h = go odd short
    where
      is : (named bad k x).answer.refusal ≡ refuse_if (eqb k 0) 16 (refuse_if bad 3 m)
      is = named-number bad k x ∙ ap (λ (n : ℕ). refuse_if (eqb k 0) 16 (refuse_if bad 3 n)) e ∙ once (eqb k 0) bad m

      few : (named bad k x).answer.refusal < 256
      few = subst (λ (n : ℕ). n < 256) (sym is) (small-number (eqb k 0) 16 _ (omega arith) (small-number bad 3 m (omega arith) h))

      go : (odd short : Bool)
          → (estimate_tested odd short bad k x old).code % 256 ≡ refuse_if odd 1 (refuse_if short 2 (refuse_if (eqb k 0) 16 (refuse_if bad 3 m)))
      go true short = refl
      go false true = refl
      go false false = entered-number (named bad k x) old few ∙ is

  tested-refused : (estimate_tested odd short bad k x old).code ≢ 0 → (estimate_tested odd short bad k x old).buffer ≡ old
  tested-refused = go odd short
    where
      go : (odd short : Bool) → (estimate_tested odd short bad k x old).code ≢ 0 → (estimate_tested odd short bad k x old).buffer ≡ old
      go true short h = refl
      go false true h = refl
      go false false h = entered-refused (named bad k x) old h

  tested-back : (P : Estimate → List ℕ → Type 0) → (short ≡ false → x.answer.refusal ≡ 0 → P x (estimate_written x old))
      → (estimate_tested odd short bad k x old).code ≡ 0 → P x (estimate_tested odd short bad k x old).buffer
  tested-back P back = go odd short back
    where
      inside : (x.answer.refusal ≡ 0 → P x (estimate_written x old)) → (named bad k x).answer.refusal ≡ 0 → P x (estimate_written (named bad k x) old)
      inside h e =
          named-accepted bad k x (λ (y : Estimate). y.answer.refusal ≡ 0 → P x (estimate_written y old)) h e e

      go : (odd short : Bool) → (short ≡ false → x.answer.refusal ≡ 0 → P x (estimate_written x old))
          → (estimate_tested odd short bad k x old).code ≡ 0 → P x (estimate_tested odd short bad k x old).buffer
      go true short h e = absurd (suc-ne-zero 0 e)
      go false true h e = absurd (suc-ne-zero 1 e)
      go false false h e = entered-back (P x) (named bad k x) old (inside (h refl)) e

-- ---- what is written can be read again

word-less : (i : ℤ) → nat_abs i < 2 ^ 63 → word_of i < 2 ^ 64
word-less (pos n) h = omega (arith, h)
word-less (negsuc n) h = omega arith

word_back : (i : ℤ) → nat_abs i < 2 ^ 63 → signed_word (word_of i) ≡ i
word_back (pos n) h = rw (lt-ltb n (2 ^ 63) h)
word_back (negsuc n) h =
    rw (le-ltb (2 ^ 64 - suc n) (2 ^ 63) (omega (arith, h)), lt-ltb (2 ^ 64 - suc n) (2 ^ 64) (omega arith)) (ap negsuc again)
  where
    again : 2 ^ 64 - suc (2 ^ 64 - suc n) ≡ n
    again = omega (arith, h)

window-is : (y : ℕ) → y < half + half → window_of (signed_from half y) ≡ y
unfolding signed_from
window-is y h = go (ltb y half)
  where
    again : half + half - (half + half - y) ≡ y
    again = omega (arith, h)

    go : (t : Bool) → window_of (cond {A = Signed} t (record { neg = false; mag = y }) (record { neg = true; mag = half + half - y })) ≡ y
    go true = refl
    go false = again

window-back : (x : Signed) → Windowed x → (window_of x < 256 ^ 96) × (signed_from half (window_of x) ≡ x)
window-back x (y, h, e) =
    let is : window_of x ≡ y = ap window_of e ∙ window-is y h in
    (subst (λ (n : ℕ). n < 256 ^ 96) (sym is) (lt_of_lt_of_le h wide), ap (signed_from half) is ∙ sym e)
  where
    wide : half + half ≤ 256 ^ 96
    wide = unfold half in lit≤ tt

bytes-length : (n x : ℕ) → length (to_bytes n x) ≡ n
bytes-length zero x = refl
bytes-length (suc n) x = ap suc (bytes-length n (x / 256))

module _ (e : Estimate) (old : List ℕ) (result : e.answer.result < 2 ^ 64) (f : Format) (h : EstimateFits f e) (s : Windowed e.sum)
    (long : 144 ≤ length old) where
  S-read : take 96 (drop 48 (estimate_written e old)) ≡ to_bytes 96 (window_of e.sum)
  unfolding estimate_written
  S-read =
      ap (λ (n : ℕ). take n (to_bytes 96 (window_of e.sum) ++ drop 144 old)) (sym (bytes-length 96 (window_of e.sum)))
      ∙ take-append_seam (to_bytes 96 (window_of e.sum)) (drop 144 old)

  rest-stays : drop 144 (estimate_written e old) ≡ drop 144 old
  unfolding estimate_written
  rest-stays =
      ap (λ (n : ℕ). drop n (to_bytes 96 (window_of e.sum) ++ drop 144 old)) (sym (bytes-length 96 (window_of e.sum)))
      ∙ drop-append_seam (to_bytes 96 (window_of e.sum)) (drop 144 old)

  long-stays : length (estimate_written e old) ≡ length old
  unfolding estimate_written
  long-stays =
      omega (arith, length-append (to_bytes 96 (window_of e.sum)) (drop 144 old), bytes-length 96 (window_of e.sum), length-drop 144 old, long)

  estimate-back : ReadsEstimate e old (estimate_written e old)
  unfolding estimate_written
  estimate-back = record {
    result = bytes_back 8 _ result;
    flags = omega (arith, h.fields.flags);
    mark = omega (arith, h.mark);
    side = omega (arith, h.fields.side);
    minus = omega (arith, h.minus);
    zeros = ap (to_bytes 4) none;
    passes = bytes_back 8 _ h.fields.passes;
    last_edge = ap signed_word (bytes_back 8 _ (word-less e.answer.last_edge h.last_edge)) ∙ word_back e.answer.last_edge h.last_edge;
    whole = bytes_back 8 _ h.whole;
    unit = ap signed_word (bytes_back 8 _ (word-less e.unit h.unit)) ∙ word_back e.unit h.unit;
    sum = ap (λ (b : List ℕ). signed_from half (from_bytes b)) S-read ∙ ap (signed_from half) (bytes_back 96 _ (window-back _ s).0) ∙ (window-back _ s).1;
    rest = rest-stays;
    long = long-stays;
  }
    where
      none : e.minus / 256 ≡ 0
      none = omega (arith, h.minus)

-- ---- THE PROMISES

short-found : (old : List ℕ) → T (short144 old) ↔ Short144 old
short-found old = ((λ t. omega (arith, ltb→lt (length old) 144 t)), λ h. lt→ltb (length old) 144 (omega (arith, h)))

entry-tests : {A : Type 0} {l : List Condition} {m : ℕ} (odd : Bool) (old : List ℕ) (k named : ℕ) (b : ℤ) → T odd ↔ A → Tests l m
    → Tests (within_entry_conditions A old k named b l) (refuse_if odd 1
    (refuse_if (short144 old) 2 (refuse_if (eqb k 0) 16 (refuse_if (misnamed named b) 3 m))))
entry-tests odd old k named b t h =
    test odd t (test (short144 old) (short-found old) (test (eqb k 0) (no-allowance k) (test (misnamed named b) (misnamed-found named b) h)))

pub within-entry-refusal : Within-entry-refusal
unfolding sum_within_entry dot_within_entry
within-entry-refusal = (
  λ k e w named b c u a bytes old n.
      let f = format_by k e w named b in
      let l = values_in bytes in
      rw (tested-number (cut_short k bytes) (short144 old) (misnamed named b) a (sum_within f c u l a) old (sum_refusal f c u l)
      (sum-within-number f c u l a) (sum_number f c u l))
      (exactly (entry-tests (cut_short k bytes) old a named b (cut-found k bytes) (sum-tests f c u l)) n),
  λ k e w named b c a left right old n.
      let f = format_by k e w named b in
      let xs = values_in left in
      let ys = values_in right in
      rw (tested-number (cut_short k left || cut_short k right) (short144 old) (misnamed named b) a (dot_within f c xs ys a) old (dot_refusal f c xs ys)
      (dot-within-number f c xs ys a) (dot-number f c xs ys))
      (exactly (entry-tests (cut_short k left || cut_short k right) old a named b
      (either (cut_short k left) (cut_short k right) (cut-found k left) (cut-found k right)) (dot-tests f c xs ys)) n),
)

pub within-entry-refused : Within-entry-refused
unfolding sum_within_entry dot_within_entry
within-entry-refused = (
  λ k e w named b c u a bytes old. tested-refused (cut_short k bytes) (short144 old) (misnamed named b) a _ old,
  λ k e w named b c a left right old. tested-refused (cut_short k left || cut_short k right) (short144 old) (misnamed named b) a _ old,
)

pub within-entry-order : Within-entry-order
unfolding sum_within_entry dot_within_entry
within-entry-order = (
  λ k e w named b c u a b₁ b₂ old e₁ e₂ h r n. cc (e₁, e₂, within-order.0 (format_by k e w named b) c u (values_in b₁) (values_in b₂) a h r n),
  λ k e w named b c a x y x' y' old e₁ e₂ n h r i j.
      cc (e₁, e₂, within-order.1 (format_by k e w named b) c (values_in x) (values_in y) (values_in x') (values_in y') a n h r i j),
)

-- where the number is 0 the total was accepted
total-zero : (z : Bool) (m n : ℕ) → n ≡ refuse_if z 16 m → n ≡ 0 → m ≡ 0
total-zero true m n e h = absurd (suc-ne-zero 15 (sym e ∙ h))
total-zero false m n e h = sym e ∙ h

pub within-entry-read-back : Within-entry-read-back
unfolding sum_within_entry dot_within_entry
within-entry-read-back = (
  λ k e w named b c u a bytes old.
      let f = format_by k e w named b in
      let l = values_in bytes in
      let x = sum_within f c u l a in
      let h = within-fits.0 f c u l a in
      tested-back (cut_short k bytes) (short144 old) (misnamed named b) a x old (λ y. ReadsEstimate y old)
      (λ s r. estimate-back x old
      (narrow f (sum-accepts f c u l (total-zero (eqb a 0) _ _ (sum-within-number f c u l a) r)).format.w_le h.fields.result)
      f h (sum-within-windowed f c u l a) (ltb-false (length old) 144 s)),
  λ k e w named b c a left right old.
      let f = format_by k e w named b in
      let xs = values_in left in
      let ys = values_in right in
      let x = dot_within f c xs ys a in
      let h = within-fits.1 f c xs ys a in
      tested-back (cut_short k left || cut_short k right) (short144 old) (misnamed named b) a x old (λ y. ReadsEstimate y old)
      (λ s r. estimate-back x old
      (narrow f (dot-accepts f c xs ys (total-zero (eqb a 0) _ _ (dot-within-number f c xs ys a) r)).format.w_le h.fields.result)
      f h (dot-within-windowed f c xs ys a) (ltb-false (length old) 144 s)),
)
  where
    -- a result of W bits has at most 64
    narrow : (f : Format) {n : ℕ} → f.W ≤ 64 → n < 2 ^ f.W → n < 2 ^ 64
    narrow f w h = lt_of_lt_of_le h (pow_mono {i = f.W} {j = 64} w)

-- ---- a full answer in the bytes of the total's entry

full-bytes : (a : Answer) (old : List ℕ) → a.flags < 256 → a.side < 4 → take 24 (estimate_written (full a) old) ≡ take 24 (written a old)
unfolding estimate_written written
full-bytes a old h k = rw (flags, side)
  where
    flags : a.flags / 256 ≡ 0
    flags = omega (arith, h)

    side : a.side / 256 ≡ 0
    side = omega (arith, k)

-- the total's entry returns 0 and has the same 24 bytes
record PlainToo (y : Entry) (new : List ℕ) : Type 0 where
  code : y.code ≡ 0
  bytes : take 24 new ≡ take 24 y.buffer

full-tested : (odd short₁ short₂ bad : Bool) (k : ℕ) (a : Answer) (old : List ℕ) → short₁ ≡ false → a.flags < 256 → a.side < 4
    → (estimate_tested odd short₂ bad k (full a) old).code ≡ 0 → PlainToo (tested odd short₁ a old) (estimate_tested odd short₂ bad k (full a) old).buffer
full-tested true short₁ short₂ bad k a old s h i e = absurd (suc-ne-zero 0 e)
full-tested false short₁ short₂ bad k a old s h i e =
    tested-back false short₂ bad k (full a) old (λ x. PlainToo (tested false short₁ a old))
    (λ _ r. rw (s, entered-is r) (record { code = refl; bytes = full-bytes a old h i })) e
  where
    entered-is : a.refusal ≡ 0 → entered a old ≡ record { code = 0; buffer = written a old }
    entered-is r = unfold entered in rw (eq-eqb a.refusal 0 r)

short-of : (old : List ℕ) → short144 old ≡ false → short old ≡ false
short-of old h = le-ltb (length old) 24 (omega (arith, ltb-false (length old) 144 h))

-- an entry that returns 0 has room
accepted-short : (odd short bad : Bool) (k : ℕ) (x : Estimate) (old : List ℕ) → (estimate_tested odd short bad k x old).code ≡ 0
    → (short ≡ false) × (x.answer.refusal ≡ 0)
accepted-short true short bad k x old e = absurd (suc-ne-zero 0 e)
accepted-short false true bad k x old e = absurd (suc-ne-zero 1 e)
accepted-short false false bad k x old e = (refl, tested-back false false bad k x old (λ y _. y.answer.refusal ≡ 0) (λ _ r. r) e)

plain-too : (odd bad : Bool) (k : ℕ) (x : Estimate) (a : Answer) (old : List ℕ) → (x.answer.refusal ≡ 0 → x ≡ full a) → a.flags < 256 → a.side < 4
    → let y = estimate_tested odd (short144 old) bad k x old in y.code ≡ 0 → PlainToo (tested odd (short old) a old) y.buffer
plain-too odd bad k x a old is h i z =
    let y = accepted-short odd (short144 old) bad k x old z in
    let back = full-tested odd (short old) (short144 old) bad k a old (short-of old y.0) h i in
    subst (λ (x : Estimate). let y = estimate_tested odd (short144 old) bad k x old in y.code ≡ 0 → PlainToo (tested odd (short old) a old) y.buffer)
    (sym (is y.1)) back z

pub within-entry-plain : Within-entry-plain
unfolding sum_within_entry dot_within_entry sum_entry dot_entry
within-entry-plain = (
  λ k e w named b c u a bytes old z m.
      let f = format_by k e w named b in
      let l = values_in bytes in
      let fits = sum-fits f c u l in
      let p = plain-too (cut_short k bytes) (misnamed named b) a (sum_within f c u l a) (sum_answer f c u l) old
      (λ r. sum-within-full f c u l a r m) fits.flags fits.side z in
      let accepted = accepted-short (cut_short k bytes) (short144 old) (misnamed named b) a (sum_within f c u l a) old z in
      let format = (sum-accepts f c u l (total-zero (eqb a 0) _ _ (sum-within-number f c u l a) accepted.1)).format in
      let plain =
      subst (λ (n : ℕ). PlainToo (tested (not (eqb (length bytes % n) 0)) (short old) (sum_answer f c u l) old)
      (sum_within_entry k e w named b c u a bytes old).buffer)
      (offered-size k format.kind-le) p in
      (plain.code, plain.bytes),
  λ k e w named b c a left right old z m.
      let f = format_by k e w named b in
      let xs = values_in left in
      let ys = values_in right in
      let fits = dot-fits f c xs ys in
      let odd = cut_short k left || cut_short k right in
      let p = plain-too odd (misnamed named b) a (dot_within f c xs ys a) (dot_answer f c xs ys) old
      (λ r. dot-within-full f c xs ys a r m) fits.flags fits.side z in
      let accepted = accepted-short odd (short144 old) (misnamed named b) a (dot_within f c xs ys a) old z in
      let format = (dot-accepts f c xs ys (total-zero (eqb a 0) _ _ (dot-within-number f c xs ys a) accepted.1)).format in
      let plain =
      subst (λ (n : ℕ). PlainToo (tested (not (eqb (length left % n) 0) || not (eqb (length right % n) 0)) (short old) (dot_answer f c xs ys) old)
      (dot_within_entry k e w named b c a left right old).buffer)
      (offered-size k format.kind-le) p in
      (plain.code, plain.bytes),
)
