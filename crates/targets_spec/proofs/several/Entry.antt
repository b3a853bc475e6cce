-- The entry of three targets: its refusals, and what a caller reads from its buffer.
use mathlib.Core.Bool.{Bool, cond, true, false, ◌||◌, not}
use mathlib.Core.List.{List, [], ◌++◌}
use Prim.Native.Nat.{ℕ, ◌+◌, ◌*◌, ◌^◌, ◌<◌, ◌≤◌, zero, suc}
use mathlib.Core.Path.{◌≡◌, refl, ap, subst, sym, ◌∙◌}
use mathlib.Core.Logic.{◌≢◌, ◌↔◌}
use native.Mathlib.Nat.{suc-ne-zero}
use native.Mathlib.Omega.{arith}
use lib.Dec.{T, ltb→lt, lt→ltb, eqb, eqb→eq}
use lib.ListN.{length, drop, take, length-drop}
use lib.Pow.{pow_mono}
use lib.Seq.{drop-length, length-take-le}
use borrow.Author.Tests.{ltb-false}
use Rattle.totals_spec.specs.entries.Bytes.{Entry, values_in, written, from_bytes}
use Rattle.totals_spec.specs.sums.Totals.{refuse_if, refused, stray, Answer}
use Rattle.totals_spec.specs.Basics.{any}
use Rattle.totals_spec.specs.order.Rearranged.{AsOften}
use Rattle.totals_spec.specs.formats.Format.{Format}
use Rattle.totals_spec.specs.entries.Words.{misnamed, format_by, filled}
use Rattle.totals_spec.specs.formats.Settings.{Settings}
use Rattle.totals_spec.specs.entries.Promises.{ReadsBack}
use Rattle.totals_spec.proofs.refusals.Exactly.{last, test, exactly, either, different}
use Rattle.totals_spec.proofs.refusals.RefusedRecords.{Small}
use Rattle.totals_spec.proofs.sums.RecordRule.{cond_has}
use Rattle.totals_spec.proofs.entries.ReadBack.{written_back, bytes_back}
use Rattle.targets_spec.specs.several.Several.{short96, not_three, target_entry, misnamed_at}
use Rattle.targets_spec.specs.several.Several.{format_at, settings_at, answer_at, slots}
use Rattle.targets_spec.specs.several.Several.{target_refusal, target_answer, slot_of}
use Rattle.targets_spec.specs.several.Conditions.{Short96}
use Rattle.targets_spec.specs.entries.Lengths.{cut_short}
use Rattle.targets_spec.specs.several.Promises.{Target-entry-refusal, Target-entry-refused}
use Rattle.targets_spec.specs.several.Promises.{Target-entry-order, ReadsTargets}
use Rattle.targets_spec.specs.several.Promises.{Target-entry-read-back}
use Rattle.targets_spec.proofs.entries.Lengths.{cut-found}
use Rattle.targets_spec.proofs.several.Records.{target-seven, target-order, target-number}
use Rattle.targets_spec.proofs.several.Records.{target_small, target-refused, target-fits}
use Rattle.targets_spec.proofs.several.RoundedAsTheSum.{target-accepts}

-- ---- by its two tests

abbrev by_two : (a b : Bool) (old new : List ℕ) → Entry
by_two a b old new = cond a (record { code = 1; buffer = old }) (cond b (record { code = 2; buffer = old }) (record { code = 0; buffer = new }))

two-number : (a b : Bool) (old new : List ℕ) → (by_two a b old new).code ≡ refuse_if a 1 (refuse_if b 2 0)
two-number true b old new = refl
two-number false true old new = refl
two-number false false old new = refl

two-refused : (a b : Bool) (old new : List ℕ) → (by_two a b old new).code ≢ 0 → (by_two a b old new).buffer ≡ old
two-refused true b old new h = refl
two-refused false true old new h = refl
two-refused false false old new h = absurd (h refl)

two_back : (P : List ℕ → Type 0) (a b : Bool) (old new : List ℕ) → (b ≡ false → P new) → (by_two a b old new).code ≡ 0 → P (by_two a b old new).buffer
two_back P true b old new h e = absurd (suc-ne-zero 0 e)
two_back P false true old new h e = absurd (suc-ne-zero 1 e)
two_back P false false old new h e = h refl

short-found : (old : List ℕ) → T (short96 old) ↔ Short96 old
short-found old = ((λ t. omega (arith, ltb→lt (length old) 96 t)), λ h. lt→ltb (length old) 96 (omega (arith, h)))

pub target-entry-refusal : Target-entry-refusal
unfolding target_entry
target-entry-refusal k e w named b d targets bytes old n =
    rw (two-number (not_three targets || cut_short k bytes) (short96 old) old _)
    (exactly (test (not_three targets || cut_short k bytes) (either (not_three targets) (cut_short k bytes) (different (length targets) 312) (cut-found k bytes))
    (test (short96 old) (short-found old) last)) n)

pub target-entry-refused : Target-entry-refused
unfolding target_entry
target-entry-refused k e w named b d targets bytes old h = two-refused (not_three targets || cut_short k bytes) (short96 old) old _ h

-- ---- the order of the values

at-order : (bad : Bool) (f : Format) (d : ℕ) (l₁ l₂ ns : List ℕ) (j : ℕ) → AsOften eqb l₁ l₂ → any (stray f) l₁ ≡ false
    → answer_at bad f d l₁ ns j ≡ answer_at bad f d l₂ ns j
unfolding answer_at
at-order bad f d l₁ l₂ ns j h e =
    let t = format_at ns j in
    let c = settings_at ns j in
    ap (cond (bad || misnamed_at ns j) (refused 3 0)) ((target-order f d l₁ l₂ t c h).1 (λ n. subst T e (target-seven f d l₁ t c n).1))

pub target-entry-order : Target-entry-order
unfolding target_entry slots
target-entry-order k e w named b d targets b₁ b₂ old u₁ u₂ h s =
    let at = at-order (misnamed named b) (format_by k e w named b) d (values_in b₁) (values_in b₂) (values_in targets) in
    cc (u₁, u₂, at 0 h s, at 13 h s, at 26 h s)

-- ---- what is written of a record can be read again

record SlotFits (a : Answer) : Type 0 where
  number : a.refusal + 256 * a.place < 2 ^ 64
  result : a.result < 2 ^ 64
  flags : a.flags < 256
  side : a.side < 4
  passes : a.passes < 2 ^ 64

refused-fits : (n at : ℕ) → n < 256 → at < 4294967296 → SlotFits (refused n at)
refused-fits n at h k = record { number = omega (arith, h, k); result = omega arith; flags = omega arith; side = omega arith; passes = omega arith }

target-slot : (f : Format) (d : ℕ) (l : List ℕ) (t : Format) (c : Settings) → SlotFits (target_answer f d l t c)
target-slot f d l t c = go (eqb (target_refusal f d l t c) 0) (eqb→eq (target_refusal f d l t c) 0) (eqb_no (target_refusal f d l t c))
  where
    eqb_no : (n : ℕ) → T (not (eqb n 0)) → n ≢ 0
    eqb_no n h e = subst (λ (m : ℕ). T (not (eqb m 0))) e h

    small : Small (target_answer f d l t c)
    small = target_small f d l t c

    go : (z : Bool) → (T z → target_refusal f d l t c ≡ 0) → (T (not z) → target_refusal f d l t c ≢ 0) → SlotFits (target_answer f d l t c)
    go true e k =
        let h = target-fits f d l t c in
        record {
          number = omega (arith, small.number, small.place);
          result = omega (arith, h.result, pow_mono {i = t.W} {j = 64} (target-accepts f d l t c (e tt)).format.w_le);
          flags = omega (arith, h.flags);
          side = omega (arith, h.side);
          passes = omega (arith, h.passes);
        }
    go false e k =
        subst SlotFits (sym (target-refused f d l t c (k tt)))
        (refused-fits _ _ (subst (λ (n : ℕ). n < 256) (target-number f d l t c) small.number) small.place)

at_slot : (bad : Bool) (f : Format) (d : ℕ) (l ns : List ℕ) (j : ℕ) → SlotFits (answer_at bad f d l ns j)
unfolding answer_at
at_slot bad f d l ns j =
    cond_has SlotFits (bad || misnamed_at ns j) _ _ (refused-fits 3 0 (omega arith) (omega arith)) (target-slot f d l (format_at ns j) (settings_at ns j))

-- the 24 bytes, where 24 bytes stood before
slot-back : (r : Answer) (old : List ℕ) → SlotFits r → length old ≡ 24 → ReadsBack r old (written r [])
slot-back r old s e = subst (ReadsBack r old) whole (written_back r old s.result s.flags s.side s.passes (omega (arith, e)))
  where
    none : drop 24 old ≡ []
    none = ap (λ (n : ℕ). drop n old) (sym e) ∙ drop-length old

    whole : written r old ≡ written r []
    whole = unfold written in rw none

-- 24 bytes inside a list
inside : (n : ℕ) (old : List ℕ) → n + 24 ≤ length old → length (take 24 (drop n old)) ≡ 24
inside n old h = length-take-le 24 (drop n old) (omega (arith, length-drop n old, h))

module _ (r : ℕ → Answer) (fits : (i : ℕ) → SlotFits (r i)) (old : List ℕ) (long : 96 ≤ length old) where
  abbrev new : List ℕ
  new = filled (slot_of (r 0) ++ (slot_of (r 1) ++ slot_of (r 2))) old

  numbers : (i : ℕ) → i < 3 → from_bytes (take 8 (drop (32 * i) new)) ≡ (r i).refusal + 256 * (r i).place
  unfolding written
  numbers zero h = bytes_back 8 _ (fits 0).number
  numbers (suc zero) h = bytes_back 8 _ (fits 1).number
  numbers (suc (suc zero)) h = bytes_back 8 _ (fits 2).number
  numbers (suc (suc (suc i))) h = absurd (let z : ⊥ = omega (arith, h) in z)

  slot_at : (i : ℕ) → i < 3 → take 24 (drop (32 * i + 8) new) ≡ written (r i) []
  unfolding written
  slot_at zero h = refl
  slot_at (suc zero) h = refl
  slot_at (suc (suc zero)) h = refl
  slot_at (suc (suc (suc i))) h = absurd (let z : ⊥ = omega (arith, h) in z)

  records : (i : ℕ) → i < 3 → ReadsBack (r i) (take 24 (drop (32 * i + 8) old)) (take 24 (drop (32 * i + 8) new))
  records i h = rw (slot_at i h) (slot-back (r i) _ (fits i) (inside (32 * i + 8) old (omega (arith, h, long))))

  rest-stays : (drop 96 new ≡ drop 96 old) × (length new ≡ length old)
  unfolding written
  rest-stays = (refl, omega (arith, length-drop 96 old, long))

  three_back : ReadsTargets r old new
  three_back = record { number = numbers; record-at = records; rest = rest-stays.0; long = rest-stays.1 }

pub target-entry-read-back : Target-entry-read-back
unfolding target_entry slots
target-entry-read-back k e w named b d targets bytes old =
    two_back (ReadsTargets answers old) (not_three targets || cut_short k bytes) (short96 old) old _
    (λ s. three_back answers (λ i. at_slot (misnamed named b) (format_by k e w named b) d (values_in bytes) (values_in targets) (13 * i)) old
    (ltb-false (length old) 96 s))
  where
    answers : ℕ → Answer
    answers i = answer_at (misnamed named b) (format_by k e w named b) d (values_in bytes) (values_in targets) (13 * i)
