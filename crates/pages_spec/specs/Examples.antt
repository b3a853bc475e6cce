-- Examples of pages, as tests that the checker computes. A page that opens with a long trailer is
-- too long to compute.
use Rattle.std.specs.Prelude.{ℕ, List, [], ◌∷◌, ◌++◌, Bool, ◌&&◌, eqb, drop, replicate, ◌^◌, not}
use Rattle.std.specs.Prelude.{take, set, ℤ, pos, negsuc, ◌*◌, T as Holds}
use Rattle.std.specs.Int.Count.{count_trailing_zeros}
use Rattle.std.specs.Float.Ieee.{size, span, climb}
use Rattle.totals_spec.specs.Basics.{same_list, difference, raised}
use Rattle.totals_spec.specs.sums.Totals.{Answer, accepted, special, sum_rounded, reported}
use Rattle.totals_spec.specs.sums.Totals.{finite_total, without_nan, sum_refusal, sum_accepted}
use Rattle.totals_spec.specs.sums.Totals.{sum_answer}
use Rattle.totals_spec.specs.examples.Rows.{same_int, refused_as, entered_as}
use Rattle.totals_spec.specs.formats.Settings.{with_rounding, valid_settings, precision_of}
use Rattle.totals_spec.specs.formats.Format.{binary64, valid_format, bias, lift, exponent_range}
use Rattle.totals_spec.specs.formats.Format.{depth, origin, fall, grid, rise}
use Rattle.totals_spec.specs.formats.Decode.{decode, is_subnormal, operand}
use Rattle.totals_spec.specs.terms.Terms.{single, product, item, plus_sum, minus_sum, top_of}
use Rattle.totals_spec.specs.chain.Chain.{lost_end, look_at, half, wrapped, decide, sum_of, pass}
use Rattle.totals_spec.specs.chain.Chain.{run, chain}
use Rattle.totals_spec.specs.rounding.Round.{dropped, rounded_at, overflows, largest, overflow}
use Rattle.totals_spec.specs.rounding.Round.{number_of, finished, tiny_sum, round_to, round}
use Rattle.totals_spec.specs.formats.Encode.{encode}
use Rattle.totals_spec.specs.sums.Nan.{default_nan_of, select_all}
use Rattle.totals_spec.specs.rounding.Side.{leans_of, side_of}
use Rattle.totals_spec.specs.chain.Limit.{low_bit, bottom_of, ceil_div}
use Rattle.totals_spec.specs.entries.Bytes.{written, entered}
use Rattle.pages_spec.specs.Pages.{summary, trailer, page_of, page_length, summaries, short_trailer}
use Rattle.pages_spec.specs.Pages.{long_trailer, opens, page_answer, page_entry, page_written}
use Rattle.pages_spec.specs.Pages.{extent, class_of, trailer_length, count_in, page_refusal}
use Rattle.pages_spec.specs.Pages.{write_refusal}

-- ---- pages, byte for byte

-- 3.0, whose bits are at the positions 1 and 0
unfoldable pub three_page : List ℕ
three_page =
    (0 ∷ 0 ∷ 0 ∷ 0 ∷ 0 ∷ 0 ∷ 8 ∷ 64 ∷ []) ++ (1 ∷ 0 ∷ 0 ∷ 0 ∷ 0 ∷ 0 ∷ 0 ∷ 0 ∷ 0 ∷ 0 ∷ 0 ∷ 0 ∷ [])
    ++ (8 ∷ 0 ∷ 0 ∷ 0 ∷ 1 ∷ 0 ∷ 0 ∷ 0 ∷ 64 ∷ 0 ∷ 0 ∷ 0 ∷ 67 ∷ 80 ∷ 71 ∷ 49 ∷ [])

-- 1.5, −2^−1074, 3.0, ∞, a NaN, 0
abbrev six : List ℕ
six = 0x3ff8000000000000 ∷ 0x8000000000000001 ∷ 0x4008000000000000 ∷ 0x7ff0000000000000
    ∷ 0x7ff8000000000000 ∷ 0 ∷ []

unfoldable pub written_pages : Bool
written_pages =
    -- no values: the trailer alone
    same_list (page_of []) (0 ∷ 0 ∷ 0 ∷ 0 ∷ 0 ∷ 0 ∷ 0 ∷ 0 ∷ 64 ∷ 0 ∷ 0 ∷ 0 ∷ 67 ∷ 80 ∷ 71 ∷ 49 ∷ [])
    && same_list (page_of (0x4008000000000000 ∷ [])) three_page
    -- from 1 down to −1074, and every class
    && same_list (drop 48 (page_of six))
    (1 ∷ 0 ∷ 0 ∷ 0 ∷ 206 ∷ 251 ∷ 255 ∷ 255 ∷ 7 ∷ 0 ∷ 0 ∷ 0 ∷ 48 ∷ 0 ∷ 0 ∷ 0 ∷ 6 ∷ 0 ∷ 0 ∷ 0 ∷ 64 ∷ 0
    ∷ 0 ∷ 0 ∷ 67 ∷ 80 ∷ 71 ∷ 49 ∷ [])
    -- the least number alone; the greatest double, from 1023 down to 971; −0 and −∞, neither of
    -- them finite and other than 0
    && same_list (summary (1 ∷ []))
    (206 ∷ 251 ∷ 255 ∷ 255 ∷ 206 ∷ 251 ∷ 255 ∷ 255 ∷ 0 ∷ 0 ∷ 0 ∷ 0 ∷ [])
    && same_list (summary (0x7fefffffffffffff ∷ []))
    (255 ∷ 3 ∷ 0 ∷ 0 ∷ 203 ∷ 3 ∷ 0 ∷ 0 ∷ 0 ∷ 0 ∷ 0 ∷ 0 ∷ [])
    && same_list (summary (0x8000000000000000 ∷ 0xfff0000000000000 ∷ []))
    (0 ∷ 0 ∷ 0 ∷ 0 ∷ 0 ∷ 0 ∷ 0 ∷ 0 ∷ 6 ∷ 0 ∷ 0 ∷ 0 ∷ [])
    -- 64 zeros and 1: two groups
    && same_list (drop 520 (page_of (replicate 64 0 ++ (0x3ff0000000000000 ∷ []))))
    (replicate 8 0
    ++ (4 ∷ replicate 15 0
    ++ (8 ∷ 2 ∷ 0 ∷ 0 ∷ 65 ∷ 0 ∷ 0 ∷ 0 ∷ 64 ∷ 0 ∷ 0 ∷ 0 ∷ 67 ∷ 80 ∷ 71 ∷ 49 ∷ [])))
    -- the lengths on both sides of 1,048,576 values, and of 268,435,456
    && eqb (page_length 1048576) 8585232
    && eqb (page_length 1048577) 8585260
    && eqb (page_length 268435456) 2197815320

-- ---- opening: the page of 3.0 opens; with one byte changed, cut off or added it does not

unfoldable pub opened_pages : Bool
opened_pages =
    opens three_page
    && not (opens [])
    && not (opens (take 35 three_page))
    && not (opens (drop 1 three_page))
    && not (opens (three_page ++ (0 ∷ [])))
    -- the highest position, the lowest bit, the class, a zero byte behind it
    && not (opens (set three_page 8 2))
    && not (opens (set three_page 12 1))
    && not (opens (set three_page 16 4))
    && not (opens (set three_page 19 1))
    -- where the summaries begin, the count, the 64, the letters
    && not (opens (set three_page 20 9))
    && not (opens (set three_page 24 2))
    && not (opens (set three_page 28 63))
    && not (opens (set three_page 35 50))
    -- a count of 2^29
    && not (opens (0 ∷ 0 ∷ 0 ∷ 0 ∷ 0 ∷ 0 ∷ 0 ∷ 32 ∷ 64 ∷ 0 ∷ 0 ∷ 0 ∷ 67 ∷ 80 ∷ 71 ∷ 49 ∷ []))
    -- the long trailer of one value, of none, and of 2^61, which are 0 bytes modulo 2^64; a short
    -- trailer in its length
    && not (opens (take 20 three_page ++ long_trailer 1))
    && not (opens (long_trailer 0))
    && not (opens (long_trailer (2 ^ 61)))
    && not (opens (take 20 three_page ++ (0 ∷ 0 ∷ 0 ∷ 0 ∷ 0 ∷ 0 ∷ 0 ∷ 0 ∷ short_trailer 1)))

-- ---- spans of 2^1000, 1

unfoldable pub two_page : List ℕ
two_page = page_of (0x7e70000000000000 ∷ 0x3ff0000000000000 ∷ [])

abbrev total_is : (result passes : ℕ) → ℤ → Answer → Bool
total_is x n e a =
    eqb a.result x && eqb a.flags 0 && eqb a.passes n && same_int a.last_edge e && eqb a.refusal 0
    && eqb a.place 0 && eqb a.side 0

unfoldable pub spans : Bool
spans =
    -- 1 alone, whose first edge is −702
    total_is 0x3ff0000000000000 1 (negsuc 701) (page_answer (with_rounding 0) 0 two_page 1 2)
    -- 2^1000 alone; 1 is left out
    && total_is 0x7e70000000000000 1 (pos 298) (page_answer (with_rounding 0) 0 two_page 0 1)
    -- empty spans, toward negative
    && total_is 0 0 (pos 0) (page_answer (with_rounding 4) 0 two_page 2 2)
    && total_is 0 0 (pos 0) (page_answer (with_rounding 4) 0 two_page 0 0)
    -- 4 last, 13 before it, 12 first
    && refused_as 4 0 (page_answer (with_rounding 9) 0 two_page 0 2)
    && refused_as 4 0 (page_answer (with_rounding 0) 3 two_page 0 2)
    && refused_as 13 0 (page_answer (with_rounding 9) 0 two_page 0 3)
    && refused_as 13 0 (page_answer (with_rounding 9) 0 two_page 2 1)
    && refused_as 12 0 (page_answer (with_rounding 9) 0 (two_page ++ (0 ∷ [])) 2 1)
    -- the entry: 2 before 12; 12; what an accepted call writes
    && entered_as 2 (replicate 23 7) (page_entry (with_rounding 0) 0 [] 0 0 (replicate 23 7))
    && entered_as 12 (replicate 24 7) (page_entry (with_rounding 0) 0 [] 0 0 (replicate 24 7))
    && entered_as 0
    (0 ∷ 0 ∷ 0 ∷ 0 ∷ 0 ∷ 0 ∷ 240 ∷ 63 ∷ 0 ∷ 0 ∷ 0 ∷ 0 ∷ 0 ∷ 0 ∷ 0 ∷ 0 ∷ 1 ∷ 0 ∷ 0 ∷ 0 ∷ 0 ∷ 0 ∷ 0
    ∷ 0 ∷ 7 ∷ [])
    (page_entry (with_rounding 0) 0 two_page 1 2 (replicate 25 7))

-- ---- writing 3.0 over bytes of 7: one byte behind the page stays, and one byte too few is refused

unfoldable pub writes : Bool
writes =
    entered_as (256 * 36) (three_page ++ (7 ∷ []))
    (page_written (0x4008000000000000 ∷ []) (replicate 37 7))
    && entered_as 2 (replicate 35 7) (page_written (0x4008000000000000 ∷ []) (replicate 35 7))

unfoldable pub page_examples : Bool
page_examples = written_pages && opened_pages && spans && writes

-- THE THEOREM: the tests compute to true
pub pages-agree : Holds page_examples
unfolding
    page_examples three_page written_pages opened_pages two_page spans writes
    extent class_of summary summaries short_trailer long_trailer trailer trailer_length page_of
    page_length count_in opens
    page_refusal page_answer page_entry write_refusal page_written
    low_bit bottom_of ceil_div count_trailing_zeros written entered binary64 with_rounding
    difference raised valid_format bias lift exponent_range depth origin fall grid rise
    valid_settings precision_of
    decode is_subnormal operand single product item plus_sum minus_sum top_of
    lost_end look_at half wrapped decide sum_of pass run chain size span climb
    dropped rounded_at overflows largest overflow number_of finished tiny_sum round_to round encode
    leans_of side_of default_nan_of select_all
    special sum_rounded reported finite_total without_nan accepted sum_refusal sum_accepted
    sum_answer
pages-agree = tt
