-- Pages, as bytes: the values, binary64, eight bytes each; right behind them a summary of each
-- group of 64 values, of which the last may have fewer; at the end a trailer, short or long by the
-- number of values. Numbers lie little end first. What opens is what would be written: the page of
-- the values that it holds.
use Rattle.std.specs.Prelude.{ℕ, [], List, ◌∷◌, ◌+◌, ◌-◌, ◌^◌, false, true, cond, ◌++◌, ◌||◌, map}
use Rattle.std.specs.Prelude.{zero, suc, take, drop, length, ◌*◌, leb, Bool, ◌&&◌, not, ltb, eqb}
use Rattle.totals_spec.specs.sums.Totals.{limit, refuse_if, Answer, answered, sum_answer}
use Rattle.totals_spec.specs.formats.Format.{binary64, origin}
use Rattle.totals_spec.specs.entries.Bytes.{to_bytes, value_bytes, from_bytes, values_from, Entry}
use Rattle.totals_spec.specs.entries.Bytes.{short, entered}
use Rattle.totals_spec.specs.Basics.{any, flag, same_list}
use Rattle.totals_spec.specs.terms.Terms.{Term, top_of, Item, is_nan_item, is_infinite, is_zero}
use Rattle.totals_spec.specs.terms.Terms.{item, terms}
use Rattle.totals_spec.specs.chain.Limit.{bottom_of, ceil_div}
use Rattle.totals_spec.specs.formats.Settings.{no_settings, value, Settings}
use Rattle.totals_spec.specs.entries.Words.{filled}

-- ---- the numbers of a page

-- the values of a group
abbrev pub group_size : ℕ
group_size = 64

-- CPG1 and CPG2
abbrev pub short_letters : List ℕ
short_letters = 67 ∷ 80 ∷ 71 ∷ 49 ∷ []

abbrev pub long_letters : List ℕ
long_letters = 67 ∷ 80 ∷ 71 ∷ 50 ∷ []

-- the most values of a page with a short trailer, and with a long one, which has more
abbrev pub short_most : ℕ
short_most = 1048576

abbrev pub long_most : ℕ
long_most = limit

-- ---- the summary of a group: three numbers of four bytes

-- a position with its sign: the bit worth 1 stands at 0, and below it positions are counted down
-- from 2^32. `at` is counted from the unit (`Format`)
abbrev pub position_bytes : ℕ → List ℕ
position_bytes at = to_bytes 4 (2 ^ 32 + at - origin binary64 false)

-- the highest and the lowest set bit of the values, T and B; both are 0 where no value is finite
-- and other than 0
unfoldable pub extent : List Term → List ℕ
extent ts = cond (any (λ t. true) ts) (position_bytes (top_of ts) ++ position_bytes (bottom_of ts))
    (to_bytes 4 0 ++ to_bytes 4 0)

-- what is among the values: 1 a NaN, 2 an infinity, 4 a zero, of either sign
unfoldable pub class_of : List Item → ℕ
class_of l =
    flag 1 (any is_nan_item l) + flag 2 (any (is_infinite false) l || any (is_infinite true) l)
    + flag 4 (any (is_zero false) l || any (is_zero true) l)

-- no setting acts on a page
abbrev pub page_items : List ℕ → List Item
page_items l = map (item binary64 no_settings value) l

-- a class is below 8, so that its four bytes are itself and three zeros
unfoldable pub summary : List ℕ → List ℕ
summary l = extent (terms (page_items l)) ++ to_bytes 4 (class_of (page_items l))

-- ---- the page of some values

abbrev pub groups : ℕ → ℕ
groups n = ceil_div n group_size

-- the summaries of the first k groups
abbrev pub summaries_from : ℕ → List ℕ → List ℕ
summaries_from zero l = []
summaries_from (suc k) l = summary (take group_size l) ++ summaries_from k (drop group_size l)

unfoldable pub summaries : List ℕ → List ℕ
summaries l = summaries_from (groups (length l)) l

-- where the summaries begin, how many values there are, the size of a group, and the letters
unfoldable pub short_trailer : ℕ → List ℕ
short_trailer n = to_bytes 4 (8 * n) ++ (to_bytes 4 n ++ (to_bytes 4 group_size ++ short_letters))

unfoldable pub long_trailer : ℕ → List ℕ
long_trailer n = to_bytes 8 (8 * n) ++ (to_bytes 8 n ++ (to_bytes 4 group_size ++ long_letters))

unfoldable pub trailer : ℕ → List ℕ
trailer n = cond (leb n short_most) (short_trailer n) (long_trailer n)

unfoldable pub trailer_length : ℕ → ℕ
trailer_length n = cond (leb n short_most) 16 24

-- THE PAGE of some values
unfoldable pub page_of : List ℕ → List ℕ
page_of l = value_bytes l ++ (summaries l ++ trailer (length l))

unfoldable pub page_length : ℕ → ℕ
page_length n = 8 * n + 12 * groups n + trailer_length n

-- ---- opening

abbrev pub last_bytes : ℕ → List ℕ → List ℕ
last_bytes k page = drop (length page - k) page

-- the number of values, as the trailer has it that the last letters name
unfoldable pub count_in : List ℕ → ℕ
count_in page =
    cond (same_list (last_bytes 4 page) long_letters)
    (from_bytes (take 8 (drop 8 (last_bytes 24 page))))
    (from_bytes (take 4 (drop 4 (last_bytes 16 page))))

abbrev pub page_values : List ℕ → List ℕ
page_values page = values_from (count_in page) page

unfoldable pub opens : List ℕ → Bool
opens page = leb (count_in page) long_most && same_list page (page_of (page_values page))

-- ---- the total of a span: the values from the index `start` up to the index `end`, itself left
-- out

abbrev pub span_of : (start end : ℕ) → List ℕ → List ℕ
span_of start end l = take (end - start) (drop start l)

-- refusals 12 and 13, in this order: the page does not open; the span starts above its end, or ends
-- above the count
unfoldable pub page_refusal : List ℕ → (start end : ℕ) → ℕ
page_refusal page start end =
    refuse_if (not (opens page)) 12
    (refuse_if (ltb end start || ltb (count_in page) end) 13 0)

-- THE ANSWER of a span: that of its values as a list of their own, with the refusals of the plain
-- sum
unfoldable pub page_answer : Settings → ℕ → List ℕ → (start end : ℕ) → Answer
page_answer c u page start end = answered (page_refusal page start end) 0
    (sum_answer binary64 c u (span_of start end (page_values page)))

-- THE ENTRY of a span: refusal 2 first; the answer's bytes are those of a byte entry
unfoldable pub page_entry : Settings → ℕ → List ℕ → (start end : ℕ) → List ℕ → Entry
page_entry c u page start end old =
    cond (short old) (record { code = 2; buffer = old })
    (entered (page_answer c u page start end) old)

-- ---- writing

-- refusals 2 and 6, in this order: a destination shorter than the page would be; too many values
unfoldable pub write_refusal : (count room : ℕ) → ℕ
write_refusal n room =
    refuse_if (ltb room (page_length n)) 2
    (refuse_if (ltb long_most n) 6 0)

-- THE WRITER of a page, and its entry: `old` is the destination before the call. An accepted call
-- gives 256 times the page's length and leaves what lies beyond it; any other gives its refusal and
-- leaves everything
unfoldable pub page_written : (values old : List ℕ) → Entry
page_written l old =
    let n = write_refusal (length l) (length old) in
    cond (eqb n 0) (record { code = 256 * page_length (length l); buffer = filled (page_of l) old })
    (record { code = n; buffer = old })
