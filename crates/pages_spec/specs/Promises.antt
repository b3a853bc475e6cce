-- What is promised of pages, of either trailer: what opens, a span's total, what is written, and
-- what an earlier reader opens.
use Rattle.std.specs.Prelude.{[], ◌-◌, T as Holds, ◌≡◌, true, List, ℕ, ◌*◌, ◌≤◌, length, take, ◌/◌}
use Rattle.std.specs.Prelude.{drop, ◌↔◌, ◌%◌, ◌≢◌, ◌+◌, ◌<◌, cond, ◌^◌, ℤ, pos, ltb, false}
use Rattle.std.specs.Prelude.{replicate, get_or, ◌∷◌, ◌++◌, Bool, ◌&&◌, leb}
use Rattle.std.proofs.Math.IntN.{sub_ℕ}
use Rattle.totals_spec.specs.refusals.Conditions.{First}
use Rattle.totals_spec.specs.entries.Bytes.{from_bytes, to_bytes, value_bytes, values_from}
use Rattle.totals_spec.specs.formats.Format.{binary64, origin}
use Rattle.totals_spec.specs.terms.Terms.{Term, top_of}
use Rattle.totals_spec.specs.chain.Limit.{bottom_of}
use Rattle.totals_spec.specs.formats.Settings.{no_settings, value, Settings}
use Rattle.totals_spec.specs.sums.Totals.{sum_terms, sum_answer, refused, limit}
use Rattle.totals_spec.specs.sums.Promises.{zero_answer}
use Rattle.totals_spec.specs.entries.Promises.{ReadsBack}
use Rattle.totals_spec.specs.Basics.{same_list}
use Rattle.pages_spec.specs.Examples.{page_examples}
use Rattle.pages_spec.specs.Conditions.{AllWords, write_conditions, page_conditions, page_numbers}
use Rattle.pages_spec.specs.Conditions.{page_entry_conditions}
use Rattle.pages_spec.specs.Pages.{page_of, page_values, opens, page_written, summary, class_of}
use Rattle.pages_spec.specs.Pages.{page_items, span_of, page_answer, page_entry, summaries}
use Rattle.pages_spec.specs.Pages.{last_bytes, count_in}

-- pages: byte for byte, each part of one damaged, writing with and without room, spans, each
-- refusal but 6 and two at once, and the entry
abbrev pub Pages-agree : Type 0
Pages-agree = Holds page_examples

-- a written page: with room and at most 268,435,456 values the writer accepts, answers the page's
-- length and leaves the page in front of the destination; it opens, and holds what was written
abbrev pub Page-opens : Type 0
Page-opens = (values old : List ℕ) → AllWords values → length values ≤ limit
    → length (page_of values) ≤ length old
    → let w = page_written values old in
    (w.code ≡ 256 * length (page_of values))
    × (take (length (page_of values)) w.buffer ≡ page_of values)
    × (opens (page_of values) ≡ true) × (page_values (page_of values) ≡ values)

-- beyond the length that it answers no byte changes, nor does the destination's length; of refused
-- calls too, which answer none
abbrev pub Page-beyond : Type 0
Page-beyond = (values old : List ℕ) → let w = page_written values old in
    (drop (w.code / 256) w.buffer ≡ drop (w.code / 256) old) × (length w.buffer ≡ length old)

-- the number in the lowest byte is that of the first condition that holds, 2 or 6, and 0 exactly
-- where none does
abbrev pub Page-refused-exactly : Type 0
Page-refused-exactly = (values old : List ℕ) (number : ℕ)
    → (page_written values old).code % 256 ≡ number ↔ First (write_conditions values old) number

-- a refused writer answers its number alone, and writes nothing
abbrev pub Page-refused : Type 0
Page-refused = (values old : List ℕ) → let w = page_written values old in w.code % 256 ≢ 0
    → (w.code / 256 ≡ 0) × (w.buffer ≡ old)

-- 8 bytes a value, 12 a group of 64 values or fewer, and 16 up to 1,048,576 values, 24 above
abbrev pub Page-length : Type 0
Page-length = (values : List ℕ) → let n = length values in
    (n ≤ 1048576 → length (page_of values) ≡ 8 * n + 12 * ((n + 63) / 64) + 16)
    × (1048576 < n → length (page_of values) ≡ 8 * n + 12 * ((n + 63) / 64) + 24)

-- the summary of each group stands behind all the values and the summaries of the groups before it
abbrev pub Page-summary : Type 0
Page-summary = (values : List ℕ) (g : ℕ) → 64 * g < length values
    → take 12 (drop (8 * length values + 12 * g) (page_of values))
    ≡ summary (take 64 (drop (64 * g) values))

-- four bytes as a number with a sign
abbrev pub signed_of : List ℕ → ℤ
signed_of b = cond (ltb (from_bytes b) (2 ^ 31)) (pos (from_bytes b))
    (sub_ℕ (from_bytes b) (2 ^ 32))

-- what a reader finds in a summary s: T and B of the terms as positions (the bit worth 1 stands at
-- 0), or eight zeros; the class, and three zeros
pub record Summarizes (ts : List Term) (class : ℕ) (s : List ℕ) : Type 0 where
  pub highest : 0 < length ts → signed_of (take 4 s) ≡ sub_ℕ (top_of ts) (origin binary64 false)
  pub lowest : 0 < length ts → signed_of (take 4 (drop 4 s))
      ≡ sub_ℕ (bottom_of ts) (origin binary64 false)
  pub without : length ts ≡ 0 → take 8 s ≡ replicate 8 0
  pub classes : get_or s 8 0 ≡ class
  pub zeros : drop 9 s ≡ replicate 3 0

-- of the terms that a plain sum of the group has where every setting is 0
abbrev pub Page-summarizes : Type 0
Page-summarizes = (values : List ℕ) → Summarizes (sum_terms binary64 no_settings value values)
    (class_of (page_items values)) (summary values)

-- a page that opens is the page of its values, at most 268,435,456 of them
abbrev pub Page-only : Type 0
Page-only = (page : List ℕ) → opens page ≡ true
    → (page ≡ page_of (page_values page)) × AllWords (page_values page)
    × (length (page_values page) ≤ limit)

-- a span has the values from `start` on, `end` less `start` of them
abbrev pub Span-values : Type 0
Span-values = (start end : ℕ) (values : List ℕ) → start ≤ end → end ≤ length values
    → (length (span_of start end values) ≡ end - start)
    × ((i : ℕ) → i < end - start → get_or (span_of start end values) i 0
    ≡ get_or values (start + i) 0)

-- the total of a span, of a written page and of every page that opens, is that of the same values
-- as a list of their own
abbrev pub Page-span : Type 0
Page-span = (settings : Settings) (summand : ℕ) (values : List ℕ) (start end : ℕ) → AllWords values
    → length values ≤ limit
    → start ≤ end → end ≤ length values
    → page_answer settings summand (page_of values) start end
    ≡ sum_answer binary64 settings summand (span_of start end values)

abbrev pub Page-span-read : Type 0
Page-span-read = (settings : Settings) (summand : ℕ) (page : List ℕ) (start end : ℕ)
    → opens page ≡ true
    → start ≤ end → end ≤ length (page_values page)
    → page_answer settings summand page start end ≡ sum_answer binary64 settings summand
    (span_of start end (page_values page))

-- an empty span is +0
abbrev pub Page-empty : Type 0
Page-empty = (settings : Settings) (summand : ℕ) (page : List ℕ) (at : ℕ)
    → (page_answer settings summand page at at).refusal ≡ 0
    → page_answer settings summand page at at ≡ zero_answer binary64 false false

-- the number of a span is that of the first condition that holds: 12, 13, and then those of the
-- plain sum; of these only 4 can hold
abbrev pub Page-span-refused-exactly : Type 0
Page-span-refused-exactly = (settings : Settings) (summand : ℕ) (page : List ℕ) (start end : ℕ)
    (number : ℕ)
    → (page_answer settings summand page start end).refusal ≡ number
    ↔ First (page_conditions settings summand page start end) number

abbrev pub Page-span-numbers : Type 0
Page-span-numbers = (settings : Settings) (summand : ℕ) (page : List ℕ) (start end : ℕ) (number : ℕ)
    → (page_answer settings summand page start end).refusal ≡ number
    ↔ First (page_numbers settings summand page start end) number

-- a refused record is 0 but for the number
abbrev pub Page-span-refused : Type 0
Page-span-refused = (settings : Settings) (summand : ℕ) (page : List ℕ) (start end : ℕ)
    → let r = page_answer settings summand page start end in
    r.refusal ≢ 0 → r ≡ refused r.refusal 0

-- of the entry of a span 2 before these; a refused one writes nothing, and where it returns 0, the
-- buffer holds the record of the span
abbrev pub Page-entry-refused-exactly : Type 0
Page-entry-refused-exactly = (settings : Settings) (summand : ℕ) (page : List ℕ) (start end : ℕ)
    (old : List ℕ)
    (number : ℕ)
    → (page_entry settings summand page start end old).code ≡ number
    ↔ First (page_entry_conditions settings summand page start end old) number

abbrev pub Page-entry-refused : Type 0
Page-entry-refused = (settings : Settings) (summand : ℕ) (page : List ℕ) (start end : ℕ)
    (old : List ℕ)
    → (page_entry settings summand page start end old).code ≢ 0
    → (page_entry settings summand page start end old).buffer ≡ old

abbrev pub Page-entry-read-back : Type 0
Page-entry-read-back = (settings : Settings) (summand : ℕ) (page : List ℕ) (start end : ℕ)
    (old : List ℕ)
    → (page_entry settings summand page start end old).code ≡ 0
    → ReadsBack (sum_answer binary64 settings summand (span_of start end (page_values page))) old
    (page_entry settings summand page start end old).buffer

abbrev pub cpg1 : List ℕ
cpg1 = 67 ∷ 80 ∷ 71 ∷ 49 ∷ []

abbrev pub cpg2 : List ℕ
cpg2 = 67 ∷ 80 ∷ 71 ∷ 50 ∷ []

-- the page as it was before, and the reader that knows it alone
abbrev pub earlier_page : List ℕ → List ℕ
earlier_page l = value_bytes l
    ++ (summaries l
    ++ (to_bytes 4 (8 * length l) ++ (to_bytes 4 (length l) ++ (to_bytes 4 64 ++ cpg1))))

abbrev pub earlier_count : List ℕ → ℕ
earlier_count page = from_bytes (take 4 (drop 4 (drop (length page - 16) page)))

unfoldable pub earlier_opens : List ℕ → Bool
earlier_opens page = leb (earlier_count page) 1048576
    && same_list page (earlier_page (values_from (earlier_count page) page))

-- up to 1,048,576 values a page is written as before
abbrev pub Page-as-before : Type 0
Page-as-before = (values : List ℕ) → length values ≤ 1048576 → page_of values ≡ earlier_page values

-- a longer one has a trailer of 24 bytes
abbrev pub Page-longer : Type 0
Page-longer = (values : List ℕ) → 1048576 < length values
    → page_of values
    ≡ value_bytes values
    ++ (summaries values
    ++ (to_bytes 8 (8 * length values) ++ (to_bytes 8 (length values) ++ (to_bytes 4 64 ++ cpg2))))

-- a count outside the range of its own trailer opens nothing
abbrev pub Page-range : Type 0
Page-range = (page : List ℕ) → opens page ≡ true
    → (last_bytes 4 page ≡ cpg1 → count_in page ≤ 1048576)
    × (last_bytes 4 page ≡ cpg2 → (1048576 < count_in page) × (count_in page ≤ limit))

-- the earlier reader opens nothing that ends in CPG2
abbrev pub Page-earlier : Type 0
Page-earlier = (page : List ℕ) → last_bytes 4 page ≡ cpg2 → earlier_opens page ≡ false

-- what it opens still opens, and holds the same values
abbrev pub Page-both : Type 0
Page-both = (page : List ℕ) → earlier_opens page ≡ true
    → (opens page ≡ true) × (page_values page ≡ values_from (earlier_count page) page)
