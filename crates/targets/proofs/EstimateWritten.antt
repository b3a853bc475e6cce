-- The entries of a sum and of a dot within an allowance: S in two's complement, words in a buffer, the record, and what an entry leaves by its tests.
use mathlib.Core.Path.{◌≡◌, refl, sym, ap, ap₂, ◌∙◌, subst}
use mathlib.Core.Logic.{◌≢◌}
use mathlib.Core.Bool.{Bool, true, false, not, ◌||◌, cond}
use mathlib.Core.List.{List, [], ◌∷◌, ◌++◌, append_assoc, append-nil}
use Prim.Native.Nat.{ℕ, zero, suc, ◌+◌, ◌-◌, ◌*◌, ◌%◌, ◌^◌, ◌<◌, ◌≤◌}
use native.Mathlib.Nat.{add-zero, zero-add, not-suc-le-zero, le_of_suc-le-suc, mod-eq_of_lt}
use native.Mathlib.Numerals.{add-one}
use native.Mathlib.Omega.{arith}
use lib.Dec.{T, eqb, ltb, leb, nltb→le}
use lib.IntN.{ℤ, pos, negsuc}
use mir.Syntax.{w64}
use mir.Val.{SFits, of_z, to_z, bool_byte}
use mir.ValLaws.{to_z-of_z}
use lib.ListN.{length, get_or, take, drop, length-append, length-drop, take-append-drop}
use borrow.Author.Tests.{eq-eqb, ne_eqb}
use lib.Pow.{pow-sub-lt}
use lib.Seq.{take_all, drop-drop, drop-append-add, take-append_seam, length-take-le}
use Rattle.totals_spec.specs.Basics.{Signed, flag}
use Rattle.totals_spec.specs.chain.Chain.{half, signed_from}
use Rattle.totals_spec.specs.formats.Format.{Format}
use Rattle.totals_spec.specs.formats.Settings.{Settings}
use Rattle.totals_spec.specs.sums.Totals.{refused, refuse_if, sum_answer, dot_answer}
use Rattle.totals_spec.specs.entries.Bytes.{to_bytes, values_in, Entry}
use Rattle.totals_spec.specs.entries.Words.{misnamed, format_by}
use Rattle.totals_spec.specs.entries.Bytes.{value_bytes}
use Rattle.totals_spec.proofs.entries.AnswerFields.{two-numbers}
use Rattle.totals_spec.proofs.refusals.RefusedRecords.{Small, sum-small, dot-small}
use Rattle.pages_spec.proofs.Pages.{value-bytes-length}
use Rattle.targets_spec.specs.entries.Lengths.{cut_short}
use Rattle.targets_spec.specs.within.Estimate.{Estimate, full, within, unfinished_at, sum_within, dot_within, window_of, estimate_written}
use Rattle.targets_spec.specs.entries.SignedWords.{word_of}
use Rattle.targets_spec.specs.within.Estimate.{estimate_entered, estimate_tested, sum_within_entry, dot_within_entry}
use Rattle.targets_spec.proofs.within.Answers.{Windowed, sum-within-windowed, dot-within-windowed, within-fits}
use Rattle.limbs.specs.Value.{value}
use Rattle.values.specs.Laid.{laid}
use Rattle.totals.specs.Laid.{laid_over}
use Rattle.totals.proofs.Laid.{over-next}
use Rattle.targets.specs.declared.entry_within.Written.{Written}
use Rattle.totals.specs.declared.entry.NamedFormat.{NamedFormat}
use Rattle.totals.specs.Entered.{Enters}
use Rattle.targets.specs.declared.estimate.Estimate as told
use Rattle.targets.specs.declared.estimate.Estimate.TheVariants.{Full, Unfinished}
use Rattle.targets.specs.Estimates.{estimate_of, FitsEstimate, Writes, within_numbers}

-- ---- a number with a sign in a word

pub word-is : (z : ℤ) → SFits w64 z → of_z w64 (to_z w64 (of_z w64 z)) ≡ word_of z
word-is z f = ap (of_z w64) (to_z-of_z w64 z f) ∙ same z
  where
    same : (z : ℤ) → of_z w64 z ≡ word_of z
    same (pos n) = refl
    same (negsuc n) = refl

-- ---- S in a window of 768 bits

-- a number read as one below 0 is not 0
below-some : (h y m : ℕ) → y < h + h → record { neg = true; mag = m } ≡ signed_from h y → 0 < m
unfolding signed_from
below-some h y m less is = go (ltb y h) (ap (λ (x : Signed). x.neg) is) (ap (λ (x : Signed). x.mag) is)
  where
    go : (t : Bool) → let x = cond {A = Signed} t (record { neg = false; mag = y }) (record { neg = true; mag = h + h - y }) in
        true ≡ x.neg → m ≡ x.mag → 0 < m
    go true n e = absurd (subst T n tt)
    go false n e = omega (arith, e, less)

pub window-minus : (s : Bool) (m : ℕ) → s ≡ true → Windowed (record { neg = s; mag = m }) → (2 ^ 768 - m) % 2 ^ 768 ≡ window_of (record { neg = s; mag = m })
window-minus false m e w = absurd (subst T (sym e) tt)
window-minus true m e (y, h, is) = mod-eq_of_lt (pow-sub-lt 768 (below-some half y m h is)) ∙ ap (λ (n : ℕ). n - m) (sym twice)
  where
    twice : half + half ≡ 2 ^ 768
    twice = unfold half in refl

pub window-plus : (s : Bool) (m : ℕ) → s ≡ false → m ≡ window_of (record { neg = s; mag = m })
window-plus false m e = refl
window-plus true m e = absurd (subst T e tt)

-- a flag as a number
pub byte-flag : (b : Bool) → bool_byte b ≡ flag 1 b
byte-flag true = refl
byte-flag false = refl

-- a number of one word
pub one_word : (l : List ℕ) → value l < 2 ^ 64 → get_or l 0 0 ≡ value l
unfolding value
one_word [] h = refl
one_word (x ∷ l) h = omega (arith, h)

-- ---- words one behind the other

bytes_next : (l : List ℕ) (i : ℕ) → i < length l → value_bytes (take (suc i) l) ≡ value_bytes (take i l) ++ to_bytes 8 (get_or l i 0)
bytes_next [] i h = absurd (not-suc-le-zero h)
bytes_next (x ∷ l) zero h = append-nil (to_bytes 8 x)
bytes_next (x ∷ l) (suc i) h =
    ap (λ (s : List ℕ). to_bytes 8 x ++ s) (bytes_next l i (le_of_suc-le-suc h))
    ∙ sym (append_assoc (to_bytes 8 x) (value_bytes (take i l)) (to_bytes 8 (get_or l i 0)))

-- they have the bytes of their number
words-bytes : (l : List ℕ) → ((k : ℕ) → get_or l k 0 < 2 ^ 64) → value_bytes l ≡ to_bytes (8 * length l) (value l)
unfolding value
words-bytes [] f = refl
words-bytes (x ∷ l) f =
    ap (λ (s : List ℕ). to_bytes 8 x ++ s) (words-bytes l (λ k. f (suc k))) ∙ sym (two-numbers 8 (8 * length l) x (value l) (f 0)) ∙ ap₂ to_bytes place number
  where
    place : 8 + 8 * length l ≡ 8 * suc (length l)
    place = omega arith

    number : x + 256 ^ 8 * value l ≡ x + value l * 2 ^ 64
    number = omega arith

over-length : (l s : List ℕ) (at : ℕ) → at + length s ≤ length l → length (laid_over l at s) ≡ length l
over-length l s at h =
    omega (
      arith,
      h,
      length-append (take at l) (s ++ drop (at + length s) l),
      length-append s (drop (at + length s) l),
      length-take-le at l (omega (arith, h)),
      length-drop (at + length s) l,
    )

-- the first i words are laid from a place on
pub record Puts (words old new : List ℕ) (at i : ℕ) : Type 0 where
  pub is : new ≡ laid_over old at (value_bytes (take i words))
  pub long : length new ≡ length old

pub puts_none : (words old : List ℕ) (at : ℕ) → Puts words old old at 0
puts_none words old at = record {
  is = sym (take-append-drop at old) ∙ ap (λ (n : ℕ). take at old ++ drop n old) (sym (add-zero at));
  long = refl;
}

module _ {words old : List ℕ} {at : ℕ} (room : at + 8 * length words ≤ length old) where
  pub puts-next : {now new : List ℕ} {i : ℕ} → i < length words → Puts words old now at i → new ≡ laid now (at + 8 * i) (get_or words i 0)
      → Puts words old new at (i + 1)
  puts-next {now} {new} {i} h p e = record { is = laid-is; long = ap length laid-is ∙ over-length old (value_bytes (take (i + 1) words)) at wide }
    where
      s : List ℕ
      s = value_bytes (take i words)

      t : List ℕ
      t = to_bytes 8 (get_or words i 0)

      size : (k : ℕ) → k ≤ length words → length (value_bytes (take k words)) ≡ 8 * k
      size k h = value-bytes-length (take k words) ∙ ap (λ (n : ℕ). 8 * n) (length-take-le k words h)

      wide : at + length (value_bytes (take (i + 1) words)) ≤ length old
      wide = omega (arith, size (i + 1) (omega (arith, h)), room, h)

      laid-is : new ≡ laid_over old at (value_bytes (take (i + 1) words))
      laid-is =
          e ∙ ap₂ (λ (l : List ℕ) (k : ℕ). laid_over l (at + k) t) p.is (sym (size i (omega (arith, h))))
          ∙ over-next old s t at (omega (arith, size i (omega (arith, h)), room, h))
          ∙ ap (laid_over old at) (sym (ap (λ (k : ℕ). value_bytes (take k words)) (add-one i) ∙ bytes_next words i h))

pub puts-all : {words old new : List ℕ} {at i : ℕ} → length words ≤ i → Puts words old new at i → new ≡ laid_over old at (value_bytes words)
puts-all {words} {old} {at = at} {i} h p = p.is ∙ ap (λ (l : List ℕ). laid_over old at (value_bytes l)) (take_all i words h)

-- ---- the record

-- flags, mark, side and the boundary's sign in one word
flags-word : (f m s b : ℕ) → f < 256 → m < 256 → s < 256
    → to_bytes 8 (f + 256 * m + 65536 * s + 16777216 * b) ≡ to_bytes 1 f ++ (to_bytes 1 m ++ (to_bytes 1 s ++ to_bytes 5 b))
flags-word f m s b h i j =
    ap (to_bytes 8) one ∙ two-numbers 1 7 f (m + 256 * (s + 256 * b)) h
    ∙ ap (λ (l : List ℕ). to_bytes 1 f ++ l)
    (two-numbers 1 6 m (s + 256 * b) i ∙ ap (λ (l : List ℕ). to_bytes 1 m ++ l) (two-numbers 1 5 s b j))
  where
    one : f + 256 * m + 65536 * s + 16777216 * b ≡ f + 256 * (m + 256 * (s + 256 * b))
    one = omega arith

-- two lists of bytes, one behind the other from the first byte on
both-laid : (old h s : List ℕ) → laid_over (laid_over old 0 h) (length h) s ≡ h ++ (s ++ drop (length h + length s) old)
both-laid old h s =
    ap (λ (n : ℕ). take (length h) (h ++ drop n old) ++ (s ++ drop (length h + length s) (h ++ drop n old))) (zero-add (length h))
    ∙ ap₂ (λ (a b : List ℕ). a ++ (s ++ b)) (take-append_seam h (drop (length h) old))
    (drop-append-add h (drop (length h) old) (length s) ∙ drop-drop (length s) (length h) old
    ∙ ap (λ (n : ℕ). drop n old) (omega arith))

estimate-laid : (e : Estimate) (w : Written) (old b₁ b₂ : List ℕ) → FitsEstimate e → e.mark < 256 → Writes e w
    → b₁ ≡ laid_over old 0 (value_bytes w.head) → b₂ ≡ laid_over b₁ 48 (value_bytes w.sum) → b₂ ≡ estimate_written e old
unfolding estimate_written
estimate-laid e w old b₁ b₂ f m i e₁ e₂ =
    e₂ ∙ ap (λ (l : List ℕ). laid_over l 48 (value_bytes w.sum)) e₁
    ∙ ap₂ (λ (h s : List ℕ). laid_over (laid_over old 0 (value_bytes h)) 48 s) i.head sum-bytes
    ∙ both-laid old (value_bytes head) (to_bytes 96 (window_of e.sum))
    ∙ ap (λ (l : List ℕ). to_bytes 8 e.answer.result ++ (l ++ rest)) flags
  where
    flags-number : ℕ
    flags-number = e.answer.flags + 256 * e.mark + 65536 * e.answer.side + 16777216 * e.minus

    head : List ℕ
    head = e.answer.result ∷ flags-number ∷ e.answer.passes ∷ word_of e.answer.last_edge ∷ e.whole ∷ word_of e.unit ∷ []

    sum-bytes : value_bytes w.sum ≡ to_bytes 96 (window_of e.sum)
    sum-bytes = words-bytes w.sum i.long.fit ∙ ap₂ (λ (n x : ℕ). to_bytes (8 * n) x) i.long.long i.sum

    rest : List ℕ
    rest =
        to_bytes 8 e.answer.passes
        ++ (to_bytes 8 (word_of e.answer.last_edge)
        ++ (to_bytes 8 e.whole ++ (to_bytes 8 (word_of e.unit) ++ (to_bytes 96 (window_of e.sum) ++ drop 144 old))))

    flags : to_bytes 8 flags-number ≡ to_bytes 1 e.answer.flags ++ (to_bytes 1 e.mark ++ (to_bytes 1 e.answer.side ++ to_bytes 5 e.minus))
    flags = flags-word e.answer.flags e.mark e.answer.side e.minus f.answer.flags m (omega (arith, f.answer.side))

-- an accepted answer has a mark of one byte, and no refusal
pub shown : (e : told.Estimate) → ((estimate_of e).mark < 256) × ((estimate_of e).answer.refusal ≡ 0)
shown (Full a) = (omega arith, refl)
shown (Unfinished s) = (omega arith, refl)

module _ (e : Estimate) (old : List ℕ) where
  pub estimate-refused : (k : ℕ) → e.answer.refusal ≢ 0 → k ≡ e.answer.refusal + 256 * e.answer.place → Enters (estimate_entered e old) k old
  unfolding estimate_entered
  estimate-refused k h i = rw (ne_eqb e.answer.refusal 0 h, i) (record { code_is = refl; buffer-is = refl })

  pub estimate-entered : FitsEstimate e → e.mark < 256 → e.answer.refusal ≡ 0 → {w v : Written} → w ≡ v → Writes e v → {b₁ b₂ : List ℕ}
      → b₁ ≡ laid_over old 0 (value_bytes w.head) → b₂ ≡ laid_over b₁ 48 (value_bytes w.sum) → Enters (estimate_entered e old) 0 b₂
  unfolding estimate_entered
  estimate-entered f m z {w} is i e₁ e₂ =
      rw (eq-eqb e.answer.refusal 0 z)
      (record { code_is = refl; buffer-is = estimate-laid e w old _ _ f m (subst (λ (x : Written). Writes e x) (sym is) i) e₁ e₂ })

-- ---- what an entry leaves, by its tests

module _ (cut : Bool) (room k : ℕ) (bad : Bool) (x : Estimate) (old : List ℕ) where
  abbrev tested : (a b c d : Bool) → Entry
  tested a b c d =
      cond a (record { code = 1; buffer = old }) (cond b (record { code = 2; buffer = old })
      (estimate_entered (cond c (full (refused 16 0)) (cond d (full (refused 3 0)) x)) old))

  abbrev number : (a b c : Bool) → ℕ
  number a b c = refuse_if a 1 (refuse_if b 2 (refuse_if c 16 0))

  pub within-refused : {n : ℕ} → n ≡ within_numbers cut room k → n ≢ 0 → Enters (estimate_tested cut (ltb room 144) bad k x old) n old
  unfolding estimate_entered
  within-refused {n} e h = go cut (ltb room 144) (eqb k 0) e
    where
      go : (a b c : Bool) → n ≡ number a b c → Enters (tested a b c bad) n old
      go true b c i = record { code_is = i; buffer-is = refl }
      go false true c i = record { code_is = i; buffer-is = refl }
      go false false true i = record { code_is = i; buffer-is = refl }
      go false false false i = absurd (h i)

  module _ (e : 0 ≡ within_numbers cut room k) where
    -- none of them
    none : (Q : Entry → Type 0) → Q (tested false false false bad) → Q (estimate_tested cut (ltb room 144) bad k x old)
    none Q h = go cut (ltb room 144) (eqb k 0) e
      where
        go : (a b c : Bool) → 0 ≡ number a b c → Q (tested a b c bad)
        go true b c i = absurd (omega (arith, i))
        go false true c i = absurd (omega (arith, i))
        go false false true i = absurd (omega (arith, i))
        go false false false i = h

    pub within-room : 144 ≤ room
    within-room = go cut (ltb room 144) (nltb→le room 144) e
      where
        go : (a b : Bool) → (T (not b) → 144 ≤ room) → 0 ≡ number a b (eqb k 0) → 144 ≤ room
        go true b g i = absurd (omega (arith, i))
        go false true g i = absurd (omega (arith, i))
        go false false g i = g tt

    pub within-misnamed : bad ≡ true → Enters (estimate_tested cut (ltb room 144) bad k x old) 3 old
    unfolding estimate_entered
    within-misnamed b = none (λ (t : Entry). Enters t 3 old) (rw b (record { code_is = refl; buffer-is = refl }))

    pub within-enters : bad ≡ false → (c : ℕ) (l : List ℕ) → Enters (estimate_entered x old) c l → Enters (estimate_tested cut (ltb room 144) bad k x old) c l
    within-enters b c l h = none (λ (t : Entry). Enters t c l) (rw b h)

-- ---- each field fits where it is written

either-has : (Q : Estimate → Type 0) (b : Bool) (x y : Estimate) → Q x → Q y → Q (cond b x y)
either-has Q true x y h k = h
either-has Q false x y h k = k

sum-small-within : (f : Format) (c : Settings) (u : ℕ) (l : List ℕ) (k : ℕ) → Small (sum_within f c u l k).answer
unfolding sum_within within unfinished_at
sum-small-within f c u l k =
    either-has (λ (e : Estimate). Small e.answer) (eqb k 0) _ _ (record { number = omega arith; place = omega arith })
    (either-has (λ (e : Estimate). Small e.answer) (leb (sum_answer f c u l).passes k) _ _ (sum-small f c u l)
    (record { number = omega arith; place = omega arith }))

dot-small-within : (f : Format) (c : Settings) (xs ys : List ℕ) (k : ℕ) → Small (dot_within f c xs ys k).answer
unfolding dot_within within unfinished_at
dot-small-within f c xs ys k =
    either-has (λ (e : Estimate). Small e.answer) (eqb k 0) _ _ (record { number = omega arith; place = omega arith })
    (either-has (λ (e : Estimate). Small e.answer) (leb (dot_answer f c xs ys).passes k) _ _ (dot-small f c xs ys)
    (record { number = omega arith; place = omega arith }))

pub sum-within-fits : (f : Format) (c : Settings) (u : ℕ) (l : List ℕ) (k : ℕ) → FitsEstimate (sum_within f c u l k)
sum-within-fits f c u l k =
    let small = sum-small-within f c u l k in
    let fit = within-fits.0 f c u l k in
    record {
      answer = record { number = small.number; place = small.place; flags = fit.fields.flags; side = fit.fields.side };
      sum = sum-within-windowed f c u l k;
      whole = fit.whole;
    }

pub dot-within-fits : (f : Format) (c : Settings) (xs ys : List ℕ) (k : ℕ) → FitsEstimate (dot_within f c xs ys k)
dot-within-fits f c xs ys k =
    let small = dot-small-within f c xs ys k in
    let fit = within-fits.1 f c xs ys k in
    record {
      answer = record { number = small.number; place = small.place; flags = fit.fields.flags; side = fit.fields.side };
      sum = dot-within-windowed f c xs ys k;
      whole = fit.whole;
    }

-- ---- the two entries

module _ (named : NamedFormat) (c : Settings) (u n : ℕ) (bytes old : List ℕ) where
  pub sum-refused : {t : ℕ} → t ≡ within_numbers (cut_short named.kind bytes) (length old) n → t ≢ 0 → Enters (sum_within_entry named.kind named.exponent_bits named.width named.bias_named named.bias c u n bytes old) t old
  unfolding sum_within_entry
  sum-refused = within-refused (cut_short named.kind bytes) (length old) n (misnamed named.bias_named named.bias) _ old

  module _ (is : 0 ≡ within_numbers (cut_short named.kind bytes) (length old) n) where
    pub sum-misnamed : misnamed named.bias_named named.bias ≡ true → Enters (sum_within_entry named.kind named.exponent_bits named.width named.bias_named named.bias c u n bytes old) 3 old
    unfolding sum_within_entry
    sum-misnamed = within-misnamed (cut_short named.kind bytes) (length old) n (misnamed named.bias_named named.bias) _ old is

    module _ {x : Estimate} (i : x ≡ sum_within (format_by named.kind named.exponent_bits named.width named.bias_named named.bias) c u (values_in bytes) n) where
      pub sum-asks : FitsEstimate x × (144 ≤ length old)
      sum-asks = (rw i (sum-within-fits _ _ _ _ _), within-room (cut_short named.kind bytes) (length old) n (misnamed named.bias_named named.bias) x old is)

      pub sum-entered : misnamed named.bias_named named.bias ≡ false → (v : ℕ) (l : List ℕ) → Enters (estimate_entered x old) v l
          → Enters (sum_within_entry named.kind named.exponent_bits named.width named.bias_named named.bias c u n bytes old) v l
      unfolding sum_within_entry
      sum-entered z v l h = within-enters (cut_short named.kind bytes) (length old) n (misnamed named.bias_named named.bias) _ old is z v l (rw i at h)

module _ (named : NamedFormat) (c : Settings) (n : ℕ) (left right old : List ℕ) where
  pub dot-refused : {t : ℕ} → t ≡ within_numbers (cut_short named.kind left || cut_short named.kind right) (length old) n → t ≢ 0
      → Enters (dot_within_entry named.kind named.exponent_bits named.width named.bias_named named.bias c n left right old) t old
  unfolding dot_within_entry
  dot-refused = within-refused (cut_short named.kind left || cut_short named.kind right) (length old) n (misnamed named.bias_named named.bias) _ old

  module _ (is : 0 ≡ within_numbers (cut_short named.kind left || cut_short named.kind right) (length old) n) where
    pub dot-misnamed : misnamed named.bias_named named.bias ≡ true → Enters (dot_within_entry named.kind named.exponent_bits named.width named.bias_named named.bias c n left right old) 3 old
    unfolding dot_within_entry
    dot-misnamed = within-misnamed (cut_short named.kind left || cut_short named.kind right) (length old) n (misnamed named.bias_named named.bias) _ old is

    module _ {x : Estimate} (i : x ≡ dot_within (format_by named.kind named.exponent_bits named.width named.bias_named named.bias) c (values_in left) (values_in right) n) where
      pub dot-asks : FitsEstimate x × (144 ≤ length old)
      dot-asks = (rw i (dot-within-fits _ _ _ _ _), within-room (cut_short named.kind left || cut_short named.kind right) (length old) n (misnamed named.bias_named named.bias) x old is)

      pub dot-entered : misnamed named.bias_named named.bias ≡ false → (v : ℕ) (l : List ℕ) → Enters (estimate_entered x old) v l
          → Enters (dot_within_entry named.kind named.exponent_bits named.width named.bias_named named.bias c n left right old) v l
      unfolding dot_within_entry
      dot-entered z v l h = within-enters (cut_short named.kind left || cut_short named.kind right) (length old) n (misnamed named.bias_named named.bias) _ old is z v l (rw i at h)
