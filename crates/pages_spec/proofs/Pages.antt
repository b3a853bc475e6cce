-- Pages: the length of a page, its count, its values and its summaries; what opens; what a span is.
use mathlib.Core.Path.{◌≡◌, refl, ap₂, ap, ◌∙◌, sym, subst}
use mathlib.Core.List.{List, [], ◌∷◌, ◌++◌, append_assoc}
use Prim.Native.Nat.{ℕ, ◌-◌, ◌*◌, ◌+◌, zero, suc, ◌/◌, ◌^◌, ◌<◌, ◌≤◌, ◌%◌}
use native.Mathlib.Omega.{arith}
use lib.ListN.{length, length-append, take, drop, length-drop, get_or, length-take}
use mathlib.Core.Bool.{Bool, true, false, cond, ◌||◌, not, ◌&&◌}
use lib.Dec.{leb, ltb, leb→le}
use borrow.Author.Tests.{leb-true, leb-false, le-leb, lt-leb, ltb-true, ltb-false, le-ltb, lt-ltb}
use lib.Seq.{take_at, drop-drop, drop-append-add, drop_at, length-take-le, get_or-take, get_or-drop}
use lib.IntN.{pos, negsuc, sub_ℕ}
use native.Mathlib.Nat.{le_trans}
use Rattle.totals_spec.specs.entries.Bytes.{value_bytes, values_from, from_bytes, to_bytes}
use Rattle.totals_spec.specs.Basics.{any, same_list}
use Rattle.totals_spec.specs.terms.Terms.{Term, top_of, Item, is_nan_item, is_infinite, is_zero}
use Rattle.totals_spec.specs.chain.Limit.{bottom_of, ceil_div, low_of}
use Rattle.totals_spec.specs.formats.Format.{binary64, bias, depth, origin, valid_format}
use Rattle.totals_spec.specs.formats.Settings.{no_settings, value, Settings, valid_settings}
use Rattle.totals_spec.specs.sums.Totals.{sum_terms, sum_answer, stray, limit, refuse_if}
use Rattle.totals_spec.specs.sums.Totals.{sum_refusal}
use Rattle.totals_spec.proofs.entries.ReadBack.{bytes_back}
use Rattle.totals_spec.proofs.entries.AnswerFields.{flag-less}
use Rattle.totals_spec.proofs.terms.HighestAndLowest.{single-sum-top}
use Rattle.totals_spec.proofs.lists.FirstElements.{least-le}
use Rattle.totals_spec.proofs.lists.SameLists.{same_refl, same-eq}
use Rattle.totals_spec.proofs.numbers.Bits.{T_of}
use Rattle.totals_spec.proofs.formats.Valid.{and_left, and_right}
use Rattle.totals_spec.proofs.entries.ValuesInBytes.{from-length}
use Rattle.totals_spec.proofs.lists.FilledLists.{none-of-parts}
use Rattle.pages_spec.specs.Conditions.{AllWords}
use Rattle.pages_spec.specs.Pages.{short_most, short_trailer, long_trailer, trailer, trailer_length}
use Rattle.pages_spec.specs.Pages.{position_bytes, extent, summary, group_size, summaries_from}
use Rattle.pages_spec.specs.Pages.{groups, summaries, page_of, page_length, class_of, page_items}
use Rattle.pages_spec.specs.Pages.{last_bytes, short_letters, long_letters, count_in, long_most}
use Rattle.pages_spec.specs.Pages.{page_values, opens, page_refusal, page_answer, span_of}
use Rattle.pages_spec.specs.Promises.{Page-length, Page-summary, signed_of, Summarizes}
use Rattle.pages_spec.specs.Promises.{Page-summarizes, earlier_count, Page-only, Page-as-before}
use Rattle.pages_spec.specs.Promises.{Page-longer, Page-range, earlier_page, earlier_opens}
use Rattle.pages_spec.specs.Promises.{Page-earlier, Page-both, Page-span-read, Page-span}
use Rattle.pages_spec.specs.Promises.{Span-values}

-- ---- values and their bytes

pub value-bytes-length : (l : List ℕ) → length (value_bytes l) ≡ 8 * length l
value-bytes-length [] = refl
value-bytes-length (x ∷ l) = omega (arith, value-bytes-length l)

-- the values in their own bytes, whatever stands behind them
pub values-back : (l r : List ℕ) → AllWords l → values_from (length l) (value_bytes l ++ r) ≡ l
values-back [] r h = refl
values-back (x ∷ l) r h = ap₂ ◌∷◌ (bytes_back 8 x h.0) (values-back l r h.1)

-- what is read from n bytes of a number is below 256^n
read-less : (n x : ℕ) → from_bytes (to_bytes n x) < 256 ^ n
read-less zero x = omega arith
read-less (suc n) x = omega (arith, read-less n (x / 256))

words-read : (l r : List ℕ) → AllWords (values_from (length l) (value_bytes l ++ r))
words-read [] r = tt
words-read (x ∷ l) r = (read-less 8 x, words-read l r)

-- ---- lengths

-- what is true of the trailer in either range
pub by-range : (P : List ℕ → ℕ → Type 0) (n : ℕ) → (n ≤ short_most → P (short_trailer n) 16) → (short_most < n → P (long_trailer n) 24)
    → P (trailer n) (trailer_length n)
unfolding trailer trailer_length
by-range P n short long = go (leb n short_most) (leb-true n short_most) (leb-false n short_most)
  where
    go : (b : Bool) → (b ≡ true → n ≤ short_most) → (b ≡ false → short_most < n) → P (cond b (short_trailer n) (long_trailer n)) (cond b 16 24)
    go true few many = short (few refl)
    go false few many = long (many refl)

pub trailer-length : (n : ℕ) → length (trailer n) ≡ trailer_length n
unfolding short_trailer long_trailer
trailer-length n = by-range (λ t k. length t ≡ k) n (λ _. refl) (λ _. refl)

extent-length : (ts : List Term) → length (extent ts) ≡ 8
unfolding extent
extent-length ts = go (any (λ t. true) ts)
  where
    go : (b : Bool) → length (cond b (position_bytes (top_of ts) ++ position_bytes (bottom_of ts)) (to_bytes 4 0 ++ to_bytes 4 0)) ≡ 8
    go true = refl
    go false = refl

pub summary-length : (l : List ℕ) → length (summary l) ≡ 12
unfolding summary
summary-length l = simp (length-append, extent-length)

pub summaries-length : (k : ℕ) (l : List ℕ) → length (summaries_from k l) ≡ 12 * k
summaries-length zero l = refl
summaries-length (suc k) l =
    let s = take group_size l in
    let r = drop group_size l in
    omega (arith, length-append (summary s) (summaries_from k r), summary-length s, summaries-length k r)

pub page-size : (l : List ℕ) → length (page_of l) ≡ page_length (length l)
unfolding page_of page_length summaries
page-size l =
    let t = trailer (length l) in
    omega (
      arith,
      length-append (value_bytes l) (summaries l ++ t),
      length-append (summaries l) t,
      value-bytes-length l,
      summaries-length (groups (length l)) l,
      trailer-length (length l),
    )

pub page-length : Page-length
unfolding page_length ceil_div trailer_length
page-length l =
    let n = length l in
    let size = page-size l in
    ((λ h. rw (le-leb n short_most h) at size), λ h. rw (lt-leb n short_most h) at size)

-- ---- summaries

-- the summary of the group g, among those of k
summary-at : (k g : ℕ) (l : List ℕ) (r : List ℕ) → g < k → take 12 (drop (12 * g) (summaries_from k l ++ r))
    ≡ summary (take group_size (drop (group_size * g) l))
summary-at zero g l r h = elim h [ ]
summary-at (suc k) zero l r h =
    let s = summary (take group_size l) in
    rw (append_assoc s (summaries_from k (drop group_size l)) r) (take_at s _ 12 (summary-length (take group_size l)))
summary-at (suc k) (suc g) l r h =
    let s = summary (take group_size l) in
    let rest = summaries_from k (drop group_size l) in
    ap (λ (x : List ℕ). take 12 (drop (12 * suc g) x)) (append_assoc s rest r)
    ∙ ap (λ (n : ℕ). take 12 (drop n (s ++ (rest ++ r)))) place
    ∙ ap (take 12) (drop-append-add s (rest ++ r) (12 * g))
    ∙ summary-at k g (drop group_size l) r (omega arith)
    ∙ ap (λ (x : List ℕ). summary (take group_size x)) (drop-drop (group_size * g) group_size l ∙ ap (λ (n : ℕ). drop n l) next)
  where
    place : 12 * suc g ≡ length (summary (take group_size l)) + 12 * g
    place = omega (arith, summary-length (take group_size l))

    next : group_size + group_size * g ≡ group_size * suc g
    next = omega arith

pub page-summary : Page-summary
unfolding page_of summaries ceil_div
page-summary l g h =
    let s = summaries_from (groups (length l)) l in
    let t = trailer (length l) in
    ap (λ (n : ℕ). take 12 (drop n (value_bytes l ++ (s ++ t)))) place
    ∙ ap (take 12) (drop-append-add (value_bytes l) (s ++ t) (12 * g))
    ∙ summary-at (groups (length l)) g l t (omega arith)
  where
    place : 8 * length l + 12 * g ≡ length (value_bytes l) + 12 * g
    place = omega (arith, value-bytes-length l)

-- ---- what a reader finds in a summary

pub four-read : (n : ℕ) → from_bytes (to_bytes 4 n) ≡ n % 4294967296
four-read n = omega arith

-- the bit worth 1 stands 2098 above the unit, and the highest bit of a double 1024 above that
position-back : (at : ℕ) → at ≤ 3122 → signed_of (position_bytes at) ≡ sub_ℕ at (origin binary64 false)
unfolding origin depth bias binary64
position-back at h = rw (four-read (4294967296 + at - 2098)) (go (ltb at 2098) refl)
  where
    n : ℕ
    n = (4294967296 + at - 2098) % 4294967296

    go : (b : Bool) → ltb at 2098 ≡ b → cond (ltb n 2147483648) (pos n) (sub_ℕ n 4294967296) ≡ cond b (negsuc (2098 - suc at)) (pos (at - 2098))
    go true e =
        let less : at < 2098 = ltb-true at 2098 e in
        let same : 4294967296 - suc n ≡ 2098 - suc at = omega arith in
        rw (le-ltb n 2147483648 (omega arith), lt-ltb n 4294967296 (omega arith)) (ap negsuc same)
    go false e =
        let more = ltb-false at 2098 e in
        let same : n ≡ at - 2098 = omega (arith, more) in
        rw (lt-ltb n 2147483648 (omega (arith, more))) (ap pos same)

-- a class is below 8
class-bytes : (l : List Item) → to_bytes 4 (class_of l) ≡ class_of l ∷ 0 ∷ 0 ∷ 0 ∷ []
class-bytes l = λ i. low i ∷ second i ∷ third i ∷ fourth i ∷ []
  where
    n : ℕ
    n = class_of l

    less : n < 8
    less =
        unfold class_of in
        omega (
          arith,
          flag-less 1 (any is_nan_item l),
          flag-less 2 (any (is_infinite false) l || any (is_infinite true) l),
          flag-less 4 (any (is_zero false) l || any (is_zero true) l),
        )

    low : n % 256 ≡ n
    low = omega (arith, less)

    second : n / 256 % 256 ≡ 0
    second = omega (arith, less)

    third : n / 256 / 256 % 256 ≡ 0
    third = omega (arith, less)

    fourth : n / 256 / 256 / 256 % 256 ≡ 0
    fourth = omega (arith, less)

pub page-summarizes : Page-summarizes
unfolding summary extent
page-summarizes l = rw (class-bytes (page_items l)) (go (sum_terms binary64 no_settings value l) most)
  where
    class : ℕ
    class = class_of (page_items l)

    most : top_of (sum_terms binary64 no_settings value l) ≤ 3122
    most = unfold binary64 in single-sum-top binary64 no_settings value tt l

    go : (ts : List Term) → top_of ts ≤ 3122 → Summarizes ts class (extent ts ++ (class ∷ 0 ∷ 0 ∷ 0 ∷ []))
    go [] h = record {
      highest = λ e. absurd (let z : ⊥ = omega (arith, e) in z);
      lowest = λ e. absurd (let z : ⊥ = omega (arith, e) in z);
      without = λ _. refl;
      classes = refl;
      zeros = refl;
    }
    go (t ∷ ts) h = record {
      highest = λ _. position-back (top_of (t ∷ ts)) h;
      lowest = λ _. position-back (bottom_of (t ∷ ts)) (le_trans bottom-le h);
      without = λ e. absurd (let z : ⊥ = omega (arith, e) in z);
      classes = refl;
      zeros = refl;
    }
      where
        bottom-le : bottom_of (t ∷ ts) ≤ top_of (t ∷ ts)
        bottom-le = unfold bottom_of in least-le (top_of (t ∷ ts)) low_of (t ∷ ts)

-- ---- the count and the values

pub last-last : (j k : ℕ) (page : List ℕ) → j ≤ k → last_bytes j (last_bytes k page) ≡ last_bytes j page
last-last j k page h = drop-drop _ (length page - k) page ∙ ap (λ (i : ℕ). drop i page) place
  where
    place : length page - k + (length (last_bytes k page) - j) ≡ length page - j
    place = omega (arith, h, length-drop (length page - k) page)

last-at : (v s t : List ℕ) (k : ℕ) → length t ≡ k → last_bytes k (v ++ (s ++ t)) ≡ t
last-at v s t k e =
    rw (← append_assoc v s t) (drop_at (v ++ s) t (length ((v ++ s) ++ t) - k) (omega (arith, length-append (v ++ s) t, e)))

-- of a page that ends in a trailer
pub short-letters : (n : ℕ) (page : List ℕ) → last_bytes 16 page ≡ short_trailer n → last_bytes 4 page ≡ short_letters
unfolding short_trailer
short-letters n page e = sym (last-last 4 16 page (omega arith)) ∙ ap (last_bytes 4) e

pub long-letters : (n : ℕ) (page : List ℕ) → last_bytes 24 page ≡ long_trailer n → last_bytes 4 page ≡ long_letters
unfolding long_trailer
long-letters n page e = sym (last-last 4 24 page (omega arith)) ∙ ap (last_bytes 4) e

pub count-short : (page : List ℕ) → last_bytes 4 page ≡ short_letters → count_in page ≡ earlier_count page
unfolding count_in
count-short page e = rw e

pub trailer-count : (n : ℕ) (page : List ℕ) → n ≤ long_most → last_bytes (trailer_length n) page ≡ trailer n → count_in page ≡ n
unfolding count_in
trailer-count n page most = by-range (λ t k. last_bytes k page ≡ t → count_in page ≡ n) n
    (λ few e. unfold short_trailer in count-short page (short-letters n page e)
    ∙ ap (λ (s : List ℕ). from_bytes (take 4 (drop 4 s))) e ∙ bytes_back 4 n (omega (arith, few)))
    (λ many e. unfold long_trailer in rw (long-letters n page e)
    (ap (λ (s : List ℕ). from_bytes (take 8 (drop 8 s))) e ∙ bytes_back 8 n (omega (arith, most))))

pub trailer-in : (l : List ℕ) → last_bytes (trailer_length (length l)) (page_of l) ≡ trailer (length l)
unfolding page_of
trailer-in l = last-at (value_bytes l) (summaries l) (trailer (length l)) (trailer_length (length l)) (trailer-length (length l))

pub count-in : (l : List ℕ) → length l ≤ long_most → count_in (page_of l) ≡ length l
count-in l h = trailer-count (length l) (page_of l) h (trailer-in l)

pub page-values : (l : List ℕ) → AllWords l → length l ≤ long_most → page_values (page_of l) ≡ l
unfolding page_of
page-values l w h = rw (count-in l h) (values-back l (summaries l ++ trailer (length l)) w)

-- ---- what opens

pub is_open : (l : List ℕ) → AllWords l → length l ≤ long_most → opens (page_of l) ≡ true
unfolding opens
is_open l w h = rw (page-values l w h, count-in l h, le-leb (length l) long_most h) (same_refl (page_of l))

pub page-only : Page-only
unfolding opens
page-only page o = (e, words, rw (from-length n page) (leb→le n long_most (and_left (leb n long_most) (same_list page (page_of l)) (T_of o))))
  where
    n : ℕ
    n = count_in page

    l : List ℕ
    l = values_from n page

    e : page ≡ page_of l
    e = same-eq page (page_of l) (and_right (leb n long_most) (same_list page (page_of l)) (T_of o))

    again : values_from (length l) (page_of l) ≡ l
    again = ap₂ values_from (from-length n page) (sym e)

    words : AllWords l
    words = subst AllWords again (unfold page_of in words-read l (summaries l ++ trailer (length l)))

pub open-trails : (page : List ℕ) → opens page ≡ true → last_bytes (trailer_length (count_in page)) page ≡ trailer (count_in page)
open-trails page o =
    let n = from-length (count_in page) page in
    ap₂ (λ (k : ℕ) (x : List ℕ). last_bytes (trailer_length k) x) (sym n) (page-only page o).0 ∙ trailer-in (page_values page) ∙ ap trailer n

-- ---- the two ranges

pub page-as-before : Page-as-before
unfolding page_of trailer short_trailer
page-as-before l h = rw (le-leb (length l) short_most h)

pub page-longer : Page-longer
unfolding page_of trailer long_trailer
page-longer l h = rw (lt-leb (length l) short_most h)

-- no page ends in both
two-letters : short_letters ≡ long_letters → ⊥
two-letters e = omega (arith, ap (λ (l : List ℕ). get_or l 3 0) e)

pub page-range : Page-range
page-range page o = by-range (λ t k. last_bytes k page ≡ t → Range) n short long (open-trails page o)
  where
    n : ℕ
    n = count_in page

    Range : Type 0
    Range = (last_bytes 4 page ≡ short_letters → n ≤ short_most) × (last_bytes 4 page ≡ long_letters → (short_most < n) × (n ≤ long_most))

    short : n ≤ short_most → last_bytes 16 page ≡ short_trailer n → Range
    short few e = ((λ _. few), λ h. absurd (two-letters (sym (short-letters n page e) ∙ h)))

    long : short_most < n → last_bytes 24 page ≡ long_trailer n → Range
    long many e = ((λ h. absurd (two-letters (sym h ∙ long-letters n page e))), λ _. (many, rw (from-length n page) at (page-only page o).2))

-- what the earlier reader opens is an earlier page of its values
earlier-only : (page : List ℕ) → earlier_opens page ≡ true → (page ≡ earlier_page (values_from (earlier_count page) page)) × (earlier_count page ≤ short_most)
unfolding earlier_opens
earlier-only page o = (same-eq page (earlier_page l) (and_right few (same_list page (earlier_page l)) (T_of o)), leb→le n short_most (and_left few _ (T_of o)))
  where
    n : ℕ
    n = earlier_count page

    l : List ℕ
    l = values_from n page

    few : Bool
    few = leb n short_most

earlier-letters : (page : List ℕ) → earlier_opens page ≡ true → last_bytes 4 page ≡ short_letters
earlier-letters page o =
    let l = values_from (earlier_count page) page in
    short-letters (length l) page (unfold short_trailer in
    ap (last_bytes 16) (earlier-only page o).0 ∙ last-at (value_bytes l) (summaries l) (short_trailer (length l)) 16 refl)

pub page-earlier : Page-earlier
page-earlier page e = go (earlier_opens page) refl
  where
    go : (b : Bool) → earlier_opens page ≡ b → b ≡ false
    go true o = absurd (two-letters (sym (earlier-letters page o) ∙ e))
    go false o = refl

pub page-both : Page-both
unfolding opens
page-both page o =
    let n = earlier_count page in
    let l = values_from n page in
    let (e, few) = earlier-only page o in
    let same : page_of l ≡ page = page-as-before l (rw (from-length n page) few) ∙ sym e in
    let count = count-short page (earlier-letters page o) in
    (rw (count, le-leb n long_most (omega (arith, few)), same) (same_refl page), ap (λ (k : ℕ). values_from k page) count)

-- ---- spans

pub span-accepted : (page : List ℕ) (start end : ℕ) → opens page ≡ true → start ≤ end → end ≤ length (page_values page) → page_refusal page start end ≡ 0
unfolding page_refusal
span-accepted page start end e a b = rw (e, le-ltb end start a, le-ltb (count_in page) end (rw (from-length (count_in page) page) at b))

pub page-span-read : Page-span-read
unfolding page_answer
page-span-read c u page start end e a b = rw (span-accepted page start end e a b)

pub page-span : Page-span
page-span c u l start end w h a b =
    let v = page-values l w h in
    page-span-read c u (page_of l) start end (is_open l w h) a (rw v b) ∙ ap (λ (m : List ℕ). sum_answer binary64 c u (span_of start end m)) v

pub span-values : Span-values
span-values start end l a b = (
  length-take-le (end - start) (drop start l) (omega (arith, length-drop start l)),
  λ i h. get_or-take (end - start) (drop start l) i 0 h ∙ get_or-drop start l i 0,
)

-- the plain sum refuses a span for its settings or its summand alone
words-fit : (l : List ℕ) → AllWords l → any (stray binary64) l ≡ false
unfolding binary64
words-fit [] w = refl
words-fit (x ∷ l) w = rw (lt-leb (2 ^ 64) x w.0) (words-fit l w.1)

pub span-refusal : (c : Settings) (u : ℕ) (l : List ℕ) (start end : ℕ) → AllWords l → length l ≤ limit
    → sum_refusal binary64 c u (span_of start end l) ≡ refuse_if (not (valid_settings binary64 c && leb u 2)) 4 0
unfolding sum_refusal
span-refusal c u l start end w few =
    let part = drop start l in
    let fit = (none-of-parts (stray binary64) (end - start) part (none-of-parts (stray binary64) start l (words-fit l w)).1).0 in
    rw (valid, le-ltb limit (length (span_of start end l)) (omega (arith, length-take (end - start) part, length-drop start l)), fit)
  where
    valid : valid_format binary64 ≡ true
    valid = unfold valid_format in unfold binary64 in refl
