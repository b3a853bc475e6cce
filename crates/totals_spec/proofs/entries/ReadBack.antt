-- PROMISE 1: what a caller reads from the answer buffer of an accepted byte entry is the record.
use mathlib.Core.Path.{◌≡◌, refl, sym, ap, ◌∙◌}
use Prim.Native.Nat.{ℕ, zero, suc, ◌-◌, ◌/◌, ◌^◌, ◌<◌, ◌+◌, ◌*◌, ◌≤◌}
use native.Mathlib.Omega.{arith}
use lib.ListN.{get_or, length, drop, length-drop, get_or-append}
use mathlib.Core.Bool.{Bool, true, false, cond, ◌||◌}
use mathlib.Core.List.{List, ◌++◌}
use native.Mathlib.Nat.{suc-ne-zero}
use lib.Dec.{eqb}
use lib.Seq.{get_or-drop}
use borrow.Author.Tests.{eqb-true, eqb-false, ltb-false}
use lib.Pow.{pow_mono}
use Rattle.totals_spec.specs.entries.Bytes.{from_bytes, to_bytes, Entry, written, entered, short}
use Rattle.totals_spec.specs.entries.Bytes.{values_in, uneven, sum_entry, dot_entry}
use Rattle.totals_spec.specs.sums.Totals.{Answer, sum_answer, dot_answer}
use Rattle.totals_spec.specs.entries.Promises.{ReadsBack, Entry-read-back}
use Rattle.totals_spec.specs.formats.Format.{Format}
use Rattle.totals_spec.specs.sums.Promises.{FieldsFit}
use Rattle.totals_spec.specs.formats.Settings.{Settings}
use Rattle.totals_spec.proofs.entries.AnswerFields.{next-bytes}
use Rattle.totals_spec.proofs.refusals.Exactly.{tested}
use Rattle.totals_spec.proofs.refusals.AcceptedCalls.{sum-accepts, dot-accepts}
use Rattle.totals_spec.proofs.sums.FieldsFit.{sum-fits, dot-fits}
use Rattle.totals_spec.proofs.refusals.RefusedRecords.{sum-refusal, dot-refusal}

-- ---- n bytes of a number

pub bytes_back : (n x : ℕ) → x < 256 ^ n → from_bytes (to_bytes n x) ≡ x
bytes_back zero x h = omega arith
bytes_back (suc n) x h = omega (arith, bytes_back n (x / 256) (next-bytes n x h))

pub zero-bytes : (n i : ℕ) → get_or (to_bytes n 0) i 0 ≡ 0
zero-bytes zero i = refl
zero-bytes (suc n) zero = refl
zero-bytes (suc n) (suc i) = zero-bytes n i

-- ---- the buffer that an accepted call leaves

module _ (r : Answer) (old : List ℕ) where
  pub written_back : r.result < 2 ^ 64 → r.flags < 256 → r.side < 4 → r.passes < 2 ^ 64 → 24 ≤ length old → ReadsBack r old (written r old)
  unfolding written
  written_back fits flags side passes long = record {
    result = bytes_back 8 r.result fits;
    flags = omega arith;
    nine = omega arith;
    side = omega arith;
    zeros = λ i low high. zeros i (omega arith) (omega arith);
    passes = bytes_back 8 r.passes passes;
    rest = refl;
    long = omega (arith, length-drop 24 old);
  }
    where
      zeros : (i : ℕ) → 11 ≤ i → i ≤ 15 → get_or (written r old) i 0 ≡ 0
      zeros i low high =
          ap (λ (n : ℕ). get_or (written r old) n 0) at ∙ sym (get_or-drop 11 (written r old) (i - 11) 0)
          ∙ get_or-append (to_bytes 5 (r.side / 256)) (to_bytes 8 r.passes ++ drop 24 old) 0 (i - 11) (omega arith)
          ∙ ap (λ (x : ℕ). get_or (to_bytes 5 x) (i - 11) 0) none ∙ zero-bytes 5 (i - 11)
        where
          at : i ≡ 11 + (i - 11)
          at = omega arith

          none : r.side / 256 ≡ 0
          none = omega arith

  -- an entry that returns 0 has passed its tests, and its call is accepted: P of the record written
  -- is P of the buffer
  pub entry-back : (P : List ℕ → Type 0) (a b : Bool) → (b ≡ false → r.refusal ≡ 0 → P (written r old)) → (tested a b r old).code ≡ 0
      → P (tested a b r old).buffer
  unfolding entered
  entry-back P true b back e = absurd (suc-ne-zero 0 e)
  entry-back P false true back e = absurd (suc-ne-zero 1 e)
  entry-back P false false back e = go (eqb r.refusal 0) refl e
    where
      go : (t : Bool) → eqb r.refusal 0 ≡ t
          → let x = cond {A = Entry} t (record { code = 0; buffer = written r old }) (record { code = r.refusal + 256 * r.place; buffer = old }) in
          x.code ≡ 0 → P x.buffer
      go true z e = back refl (eqb-true r.refusal 0 z)
      go false z e = absurd (eqb-false r.refusal 0 z (omega (arith, e)))

-- a result of W bits has at most 64
fits : (f : Format) (a : Answer) (old : List ℕ) → f.W ≤ 64 → FieldsFit f a → short old ≡ false → ReadsBack a old (written a old)
fits f a old w h s =
    written_back a old (omega (arith, h.result, pow_mono {i = f.W} {j = 64} w)) (omega (arith, h.flags)) (omega (arith, h.side))
    (omega (arith, h.passes)) (ltb-false (length old) 24 s)

pub sum_back : (f : Format) (c : Settings) (u : ℕ) (l old : List ℕ) → short old ≡ false → (sum_answer f c u l).refusal ≡ 0
    → ReadsBack (sum_answer f c u l) old (written (sum_answer f c u l) old)
sum_back f c u l old s r = fits f (sum_answer f c u l) old (sum-accepts f c u l (sym (sum-refusal f c u l) ∙ r)).format.w_le (sum-fits f c u l) s

dot-back : (f : Format) (c : Settings) (xs ys old : List ℕ) → short old ≡ false → (dot_answer f c xs ys).refusal ≡ 0
    → ReadsBack (dot_answer f c xs ys) old (written (dot_answer f c xs ys) old)
dot-back f c xs ys old s r =
    fits f (dot_answer f c xs ys) old (dot-accepts f c xs ys (sym (dot-refusal f c xs ys) ∙ r)).format.w_le (dot-fits f c xs ys) s

-- ---- THE PROMISES

pub entry-read-back : Entry-read-back
unfolding sum_entry dot_entry
entry-read-back = (
  λ f c u bytes old.
      let r = sum_answer f c u (values_in bytes) in
      entry-back r old (ReadsBack r old) (uneven bytes) (short old) (sum_back f c u (values_in bytes) old),
  λ f c left right old.
      let r = dot_answer f c (values_in left) (values_in right) in
      entry-back r old (ReadsBack r old) (uneven left || uneven right) (short old) (dot-back f c (values_in left) (values_in right) old),
)
