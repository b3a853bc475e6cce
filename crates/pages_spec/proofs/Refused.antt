-- Refusals of pages: each number exactly under its condition, refused records, and what writing and
-- the entry of a span leave.
use mathlib.Core.Bool.{Bool, cond, true, false, not, ◌&&◌, ◌||◌}
use mathlib.Core.List.{List, [], ◌∷◌}
use Prim.Native.Nat.{ℕ, ◌*◌, ◌<◌, ◌%◌, ◌≤◌, ◌/◌, ◌+◌}
use native.Mathlib.Omega.{arith}
use lib.Dec.{ltb, T, eqb, eqb→eq, ltb→lt, lt→ltb, T_not, not_T, leb}
use mathlib.Core.Path.{◌≡◌, refl, ap, ◌∙◌, sym, subst}
use mathlib.Core.Logic.{◌↔◌, ◌≢◌, ◌⊎◌}
use lib.ListN.{length, drop, take}
use borrow.Author.Tests.{le-ltb, ltb-false, not-false}
use lib.Seq.{take_at}
use native.Mathlib.Nat.{sub_self}
use Rattle.totals_spec.specs.entries.Bytes.{Entry, written, entered, short}
use Rattle.totals_spec.specs.entries.Words.{filled}
use Rattle.totals_spec.specs.sums.Totals.{refuse_if, Answer, refused, answered, sum_refusal}
use Rattle.totals_spec.specs.sums.Totals.{sum_answer}
use Rattle.totals_spec.specs.formats.Format.{binary64}
use Rattle.totals_spec.specs.formats.Settings.{Settings, valid_settings}
use Rattle.totals_spec.specs.refusals.Conditions.{BadSettings, BadSummand}
use Rattle.totals_spec.specs.entries.Promises.{ReadsBack}
use Rattle.totals_spec.proofs.refusals.Exactly.{Tests, last, test, many-found, exactly, unless}
use Rattle.totals_spec.proofs.refusals.Exactly.{either, not-both, settings-fail, summand-fails}
use Rattle.totals_spec.proofs.refusals.Exactly.{sum-tests, short-found}
use Rattle.totals_spec.proofs.order.Order.{first-zero}
use Rattle.totals_spec.proofs.lists.FilledLists.{kept}
use Rattle.totals_spec.proofs.numbers.Bits.{T_of}
use Rattle.totals_spec.proofs.refusals.RefusedRecords.{sum-refusal, sum-refused, sum-place}
use Rattle.totals_spec.proofs.refusals.RefusedRecords.{entry-refused}
use Rattle.totals_spec.proofs.entries.ValuesInBytes.{from-length}
use Rattle.totals_spec.proofs.sums.ZeroTotals.{sum-zeros}
use Rattle.totals_spec.proofs.entries.ReadBack.{entry-back, sum_back}
use Rattle.pages_spec.specs.Pages.{page_length, long_most, write_refusal, page_of, page_written}
use Rattle.pages_spec.specs.Pages.{page_values, opens, count_in, span_of, page_refusal, page_answer}
use Rattle.pages_spec.specs.Pages.{page_entry}
use Rattle.pages_spec.specs.Conditions.{NoPageRoom, write_conditions, NoPage, BadSpan}
use Rattle.pages_spec.specs.Conditions.{page_conditions, page_numbers}
use Rattle.pages_spec.specs.Promises.{Page-refused-exactly, Page-refused, Page-opens, Page-beyond}
use Rattle.pages_spec.specs.Promises.{Page-span-refused-exactly, Page-span-numbers}
use Rattle.pages_spec.specs.Promises.{Page-span-refused, Page-empty, Page-entry-refused-exactly}
use Rattle.pages_spec.specs.Promises.{Page-entry-refused, Page-entry-read-back}
use Rattle.pages_spec.proofs.Pages.{page-size, page-values, is_open, page-only, span-refusal}

-- ---- writing, by its number

-- what is left behind, by whether the number n is 0
abbrev left : Bool → (n size : ℕ) (page old : List ℕ) → Entry
left b n size page old = cond b (record { code = 256 * size; buffer = filled page old }) (record { code = n; buffer = old })

write-small : (n room : ℕ) → write_refusal n room < 256
unfolding write_refusal
write-small n room = go (ltb room (page_length n)) (ltb long_most n)
  where
    go : (a b : Bool) → refuse_if a 2 (refuse_if b 6 0) < 256
    go true b = omega arith
    go false true = omega arith
    go false false = omega arith

module _ (l old : List ℕ) where
  abbrev number : ℕ
  number = write_refusal (length l) (length old)

  write-code : (page_written l old).code % 256 ≡ number
  unfolding page_written
  write-code = go (eqb number 0) (eqb→eq number 0)
    where
      go : (b : Bool) → (T b → number ≡ 0) → (left b number (page_length (length l)) (page_of l) old).code % 256 ≡ number
      go true e = omega (arith, e tt)
      go false e = omega (arith, write-small (length l) (length old))

  room-found : T (ltb (length old) (page_length (length l))) ↔ NoPageRoom l old
  room-found = (
    (λ t. omega (arith, ltb→lt (length old) (page_length (length l)) t, page-size l)),
    λ h. lt→ltb (length old) (page_length (length l)) (omega (arith, h, page-size l)),
  )

  write-tests : Tests (write_conditions l old) number
  unfolding write_refusal
  write-tests = test (ltb (length old) (page_length (length l))) room-found (test (ltb long_most (length l)) (many-found l) last)

  write-accepted : length l ≤ long_most → length (page_of l) ≤ length old → number ≡ 0
  unfolding write_refusal
  write-accepted few room = rw (le-ltb (length old) (page_length (length l)) (omega (arith, room, page-size l)), le-ltb long_most (length l) few)

pub page-refused-exactly : Page-refused-exactly
page-refused-exactly l old n = rw (write-code l old) (exactly (write-tests l old) n)

pub page-refused : Page-refused
unfolding page_written
page-refused l old h = go (eqb n 0) h
  where
    n : ℕ
    n = write_refusal (length l) (length old)

    go : (b : Bool) → let w = left b n (page_length (length l)) (page_of l) old in w.code % 256 ≢ 0 → (w.code / 256 ≡ 0) × (w.buffer ≡ old)
    go true h = absurd (h (omega arith))
    go false h = (omega (arith, write-small (length l) (length old)), refl)

pub page-opens : Page-opens
unfolding page_written
page-opens l old w few room =
    let size = page-size l in
    rw (write-accepted l old few room)
    (omega (arith, size), take_at (page_of l) (drop (length (page_of l)) old) (length (page_of l)) refl, is_open l w few, page-values l w few)

pub page-beyond : Page-beyond
unfolding page_written
page-beyond l old = go (eqb n 0) (eqb→eq n 0)
  where
    n : ℕ
    n = write_refusal (length l) (length old)

    room : n ≡ 0 → page_length (length l) ≤ length old
    room e =
        unfold write_refusal in
        ltb-false (length old) (page_length (length l)) (first-zero (ltb (length old) (page_length (length l))) 1 _ e).0

    go : (b : Bool) → (T b → n ≡ 0)
        → let w = left b n (page_length (length l)) (page_of l) old in
        (drop (w.code / 256) w.buffer ≡ drop (w.code / 256) old) × (length w.buffer ≡ length old)
    go true e =
        let k = kept true (page_of l) old (page_length (length l)) (page-size l) (λ _. room (e tt)) in
        (rw whole k.1, k.0)
      where
        whole : 256 * page_length (length l) / 256 ≡ page_length (length l)
        whole = omega arith
    go false e = (rw none, refl)
      where
        none : n / 256 ≡ 0
        none = omega (arith, write-small (length l) (length old))

-- ---- 12 and 13

page-found : (page : List ℕ) → T (not (opens page)) ↔ NoPage page
page-found page = (
  λ t p. let (l, w, few, e) = p in T_not (opens page) t (T_of (ap opens e ∙ is_open l w few)),
  λ none. not_T (opens page) (λ t. let (e, w, few) = page-only page (holds (opens page) t) in none (page_values page, w, few, e)),
)
  where
    holds : (b : Bool) → T b → b ≡ true
    holds true t = refl
    holds false t = elim t [ ]

module _ (page : List ℕ) (start end : ℕ) where
  abbrev outside : Bool
  outside = ltb end start || ltb (count_in page) end

  count : length (page_values page) ≡ count_in page
  count = from-length (count_in page) page

  span-found : T outside ↔ BadSpan page start end
  span-found =
      either (ltb end start) (ltb (count_in page) end) (ltb→lt end start, lt→ltb end start)
      ((λ t. omega (arith, ltb→lt (count_in page) end t, count)), λ h. lt→ltb (count_in page) end (omega (arith, h, count)))

  module _ (c : Settings) (u : ℕ) where
    abbrev sum : Answer
    sum = sum_answer binary64 c u (span_of start end (page_values page))

    abbrev refusal : ℕ
    refusal = sum_refusal binary64 c u (span_of start end (page_values page))

    abbrev settings : Bool
    settings = not (valid_settings binary64 c && leb u 2)

    -- of a page that opens
    by-settings : opens page ≡ true → refusal ≡ refuse_if settings 4 0
    by-settings o = let (e, w, few) = page-only page o in span-refusal c u (page_values page) start end w few

    no_place : opens page ≡ true → sum.place ≡ 0
    no_place o = (sum-place binary64 c u (span_of start end (page_values page))).0 (λ e. go settings (sym (by-settings o) ∙ e))
      where
        go : (b : Bool) → refuse_if b 4 0 ≡ 7 → ⊥
        go true e = omega (arith, e)
        go false e = omega (arith, e)

    -- the number of a span
    abbrev span_number : ℕ
    span_number = refuse_if (not (opens page)) 12 (refuse_if outside 13 refusal)

    pub span-number : (page_answer c u page start end).refusal ≡ span_number
    unfolding page_answer page_refusal
    span-number =
        go (not (opens page)) outside sum
        ∙ ap (λ (n : ℕ). refuse_if (not (opens page)) 12 (refuse_if outside 13 n)) (sum-refusal binary64 c u (span_of start end (page_values page)))
      where
        go : (a b : Bool) (s : Answer) → (answered (refuse_if a 12 (refuse_if b 13 0)) 0 s).refusal ≡ refuse_if a 12 (refuse_if b 13 s.refusal)
        go true b s = refl
        go false true s = refl
        go false false s = refl

    span-tests : Tests (page_conditions c u page start end) span_number
    span-tests = test (not (opens page)) (page-found page) (test outside span-found (sum-tests binary64 c u (span_of start end (page_values page))))

    number-tests : Tests (page_numbers c u page start end) span_number
    number-tests =
        unless (not (opens page)) (page-found page)
        (λ k. test outside span-found
        (subst (Tests ((4, BadSettings binary64 c ⊎ BadSummand u) ∷ [])) (sym (by-settings (open_of (opens page) (λ t. k ((page-found page).0 t)))))
        (test settings (not-both (valid_settings binary64 c) (leb u 2) (settings-fail binary64 c) (summand-fails u)) last)))
      where
        open_of : (b : Bool) → ¬ T (not b) → b ≡ true
        open_of true h = refl
        open_of false h = absurd (h tt)

    -- an accepted span is that of the plain sum; a refused one has its number alone
    pub span-whole : let r = page_answer c u page start end in (r.place ≡ 0) × (r.refusal ≡ 0 → r ≡ sum) × (r.refusal ≢ 0 → r ≡ refused r.refusal 0)
    unfolding page_answer page_refusal
    span-whole = go (not (opens page)) outside (not-false (opens page))
      where
        l : List ℕ
        l = span_of start end (page_values page)

        go : (a b : Bool) → (a ≡ false → opens page ≡ true) → let r = answered (refuse_if a 12 (refuse_if b 13 0)) 0 sum in
            (r.place ≡ 0) × (r.refusal ≡ 0 → r ≡ sum) × (r.refusal ≢ 0 → r ≡ refused r.refusal 0)
        go true b o = (refl, (λ e. absurd (let z : ⊥ = omega (arith, e) in z)), λ h. refl)
        go false true o = (refl, (λ e. absurd (let z : ⊥ = omega (arith, e) in z)), λ h. refl)
        go false false o = (
          no_place (o refl),
          λ e. refl,
          λ h.
              let n = sum-refusal binary64 c u l in
              sum-refused binary64 c u l (λ e. h (n ∙ e)) ∙ ap (refused refusal) (no_place (o refl)) ∙ ap (λ (k : ℕ). refused k 0) (sym n),
        )

pub page-span-refused-exactly : Page-span-refused-exactly
page-span-refused-exactly c u page start end n = rw (span-number page start end c u) (exactly (span-tests page start end c u) n)

pub page-span-numbers : Page-span-numbers
page-span-numbers c u page start end n = rw (span-number page start end c u) (exactly (number-tests page start end c u) n)

pub page-span-refused : Page-span-refused
page-span-refused c u page start end h = (span-whole page start end c u).2 h

pub page-empty : Page-empty
page-empty c u page at e =
    same ∙ nothing ∙ sum-zeros binary64 c u [] (sym (sum-refusal binary64 c u []) ∙ ap (λ (a : Answer). a.refusal) (sym (same ∙ nothing)) ∙ e) tt refl
  where
    same : page_answer c u page at at ≡ sum_answer binary64 c u (span_of at at (page_values page))
    same = (span-whole page at at c u).1 e

    nothing : sum_answer binary64 c u (span_of at at (page_values page)) ≡ sum_answer binary64 c u []
    nothing = ap (λ (n : ℕ). sum_answer binary64 c u (take n (drop at (page_values page)))) (sub_self at)

-- ---- the entry of a span, by its own test and the record

entry-code : (b : Bool) (r : Answer) (old : List ℕ) → r.place ≡ 0
    → (cond b (record { code = 2; buffer = old }) (entered r old)).code ≡ refuse_if b 2 r.refusal
unfolding entered
entry-code true r old p = refl
entry-code false r old p = go (eqb r.refusal 0) (eqb→eq r.refusal 0)
  where
    go : (t : Bool) → (T t → r.refusal ≡ 0)
        → (cond {A = Entry} t (record { code = 0; buffer = written r old }) (record { code = r.refusal + 256 * r.place; buffer = old })).code ≡ r.refusal
    go true e = sym (e tt)
    go false e = omega (arith, p)

pub page-entry-refused-exactly : Page-entry-refused-exactly
unfolding page_entry
page-entry-refused-exactly c u page start end old n =
    rw (entry-code (short old) (page_answer c u page start end) old (span-whole page start end c u).0, span-number page start end c u)
    (exactly (test (short old) (short-found old) (span-tests page start end c u)) n)

pub page-entry-refused : Page-entry-refused
unfolding page_entry entered
page-entry-refused c u page start end old h =
    let r = page_answer c u page start end in
    entry-refused false (short old) (eqb r.refusal 0) (r.refusal + 256 * r.place) old (written r old) h

pub page-entry-read-back : Page-entry-read-back
unfolding page_entry
page-entry-read-back c u page start end old e =
    let l = span_of start end (page_values page) in
    let same = (span-whole page start end c u).1 in
    entry-back (page_answer c u page start end) old (ReadsBack (sum_answer binary64 c u l) old) false (short old)
    (λ s z. rw (same z) (sum_back binary64 c u l old s (sym (ap (λ (a : Answer). a.refusal) (same z)) ∙ z))) e
