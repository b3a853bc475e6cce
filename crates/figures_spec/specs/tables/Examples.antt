-- Examples of tables, in binary16, as tests that the checker computes.
use Rattle.std.specs.Prelude.{ℕ, Bool, ◌&&◌, List, [], eqb, ◌∷◌, ◌+◌, ◌++◌, replicate, pos}
use Rattle.std.specs.Prelude.{T as Holds}
use Rattle.std.proofs.Math.Option.{none}
use Rattle.std.specs.Float.Ieee.{size, span, climb}
use Rattle.totals_spec.specs.Basics.{same_list, difference, raised}
use Rattle.totals_spec.specs.examples.Rows.{leans_to, refused_as, binary16, row}
use Rattle.totals_spec.specs.formats.Format.{bias, valid_format, lift, exponent_range, depth}
use Rattle.totals_spec.specs.formats.Format.{origin, fall, grid, rise}
use Rattle.totals_spec.specs.formats.Settings.{with_rounding, valid_settings, precision_of}
use Rattle.totals_spec.specs.formats.Decode.{decode, is_subnormal, operand}
use Rattle.totals_spec.specs.terms.Terms.{single, product, item, pair_item, plus_sum, minus_sum}
use Rattle.totals_spec.specs.terms.Terms.{top_of}
use Rattle.totals_spec.specs.chain.Chain.{lost_end, look_at, half, wrapped, decide, sum_of, pass}
use Rattle.totals_spec.specs.chain.Chain.{run, chain}
use Rattle.totals_spec.specs.rounding.Round.{dropped, rounded_at, overflows, largest, overflow}
use Rattle.totals_spec.specs.rounding.Round.{number_of, finished, tiny_sum, round_to, round}
use Rattle.totals_spec.specs.formats.Encode.{encode}
use Rattle.totals_spec.specs.sums.Nan.{default_nan_of, select_all}
use Rattle.totals_spec.specs.rounding.Side.{leans_of, side_of}
use Rattle.totals_spec.specs.sums.Totals.{special, sum_rounded, reported, finite_total, without_nan}
use Rattle.totals_spec.specs.sums.Totals.{accepted, sum_refusal, sum_accepted, sum_answer}
use Rattle.totals_spec.specs.entries.Bytes.{written, entered}
use Rattle.figures_spec.specs.tables.Table.{Tabled, table_answer, table_refusal}
use Rattle.figures_spec.specs.tables.Entry.{TableEntry, table_entry}

-- ---- tables, in binary16

-- an accepted one: the two lists, and the record of all cells
abbrev pub table_is : (row_totals column_totals : List ℕ) (result flags passes side : ℕ) → Tabled
    → Bool
table_is rs cs result flags passes side t =
    same_list t.row_totals rs && same_list t.column_totals cs && leans_to result flags side t.grand
    && eqb t.grand.passes passes

-- a refused one: the number and its place, and the two lists as they were
abbrev pub table_stays : (number place : ℕ) (row_list column_list : List ℕ) → Tabled → Bool
table_stays n at rs cs t = refused_as n at t.grand && same_list t.row_totals rs
    && same_list t.column_totals cs

abbrev pub entry_is : (code : ℕ) (row_totals column_totals buffer : List ℕ) → TableEntry → Bool
entry_is n rs cs buffer e = eqb e.code n && same_list e.row_totals rs
    && same_list e.column_totals cs && same_list e.buffer buffer

unfoldable pub six_cells : List ℕ
six_cells = 0x3c00 ∷ 0x4000 ∷ 0x4200 ∷ 0x3c00 ∷ 0x3c00 ∷ 0x3c00 ∷ []

unfoldable pub table_examples : Bool
table_examples =
    -- 1, 2, 3 and 1, 1, 1, and a word behind the totals of the columns; the same cells as three
    -- rows, and as one
    table_is (0x4600 ∷ 0x4200 ∷ []) (0x4000 ∷ 0x4200 ∷ 0x4400 ∷ 9 ∷ []) 0x4880 0 1 0
    (table_answer binary16 (with_rounding 0) 2 3 six_cells (7 ∷ 7 ∷ []) (7 ∷ 7 ∷ 7 ∷ 9 ∷ []))
    && table_is (0x4200 ∷ 0x4400 ∷ 0x4000 ∷ []) (0x4500 ∷ 0x4400 ∷ []) 0x4880 0 1 0
    (table_answer binary16 (with_rounding 0) 3 2 six_cells (7 ∷ 7 ∷ 7 ∷ []) (7 ∷ 7 ∷ []))
    && table_is (0x4880 ∷ 8 ∷ 9 ∷ []) six_cells 0x4880 0 1 0
    (table_answer binary16 (with_rounding 0) 1 6 six_cells (7 ∷ 8 ∷ 9 ∷ []) (replicate 6 7))
    -- 1, 2^−11 and 2^−11, 0: each total is rounded from its own cells, and that of all is no sum of
    -- rounded totals
    && table_is (0x3c00 ∷ 0x1000 ∷ []) (0x3c00 ∷ 0x1000 ∷ []) 0x3c01 0 1 0
    (table_answer binary16 (with_rounding 0) 2 2 (0x3c00 ∷ 0x1000 ∷ 0x1000 ∷ 0 ∷ []) (7 ∷ 7 ∷ [])
    (7 ∷ 7 ∷ []))
    -- toward negative: 1 and −1 give −0; rows and columns without cells give +0, and the words
    -- behind them stay; a table without either
    && table_is (0x8000 ∷ []) (0x3c00 ∷ 0xbc00 ∷ []) 0x8000 0 1 0
    (table_answer binary16 (with_rounding 4) 1 2 (0x3c00 ∷ 0xbc00 ∷ []) (7 ∷ []) (7 ∷ 7 ∷ []))
    && table_is (0 ∷ 0 ∷ 0 ∷ 4 ∷ []) (5 ∷ []) 0 0 0 0
    (table_answer binary16 (with_rounding 4) 3 0 [] (1 ∷ 2 ∷ 3 ∷ 4 ∷ []) (5 ∷ []))
    && table_is (5 ∷ []) (0 ∷ 0 ∷ 3 ∷ []) 0 0 0 0
    (table_answer binary16 (with_rounding 4) 0 2 [] (5 ∷ []) (1 ∷ 2 ∷ 3 ∷ []))
    && table_is (5 ∷ []) [] 0 0 0 0 (table_answer binary16 (with_rounding 0) 0 0 [] (5 ∷ []) [])
    -- NaNs above and below an infinity: a row takes its first from the left, a column from the top;
    -- infinities of both signs in one column
    && table_is (0x7e01 ∷ 0x7c00 ∷ 0x7e03 ∷ []) (0x7e01 ∷ 0xfc00 ∷ []) 0x7e01 0 0 3
    (table_answer binary16 (with_rounding 0) 3 2
    (0x7e01 ∷ 0x3c00 ∷ 0x7c00 ∷ 0x3c00 ∷ 0x7e03 ∷ 0xfc00 ∷ []) (7 ∷ 7 ∷ 7 ∷ []) (7 ∷ 7 ∷ []))
    && table_is (0x7c00 ∷ 0xfc00 ∷ []) (0x4000 ∷ 0x7e00 ∷ []) 0x7e00 1 0 3
    (table_answer binary16 (with_rounding 0) 2 2 (0x3c00 ∷ 0x7c00 ∷ 0x3c00 ∷ 0xfc00 ∷ [])
    (7 ∷ 7 ∷ []) (7 ∷ 7 ∷ []))
    -- 9: a cell too few; 2^32 rows of 2^32 cells without a cell, which are 0 modulo 2^64
    && table_stays 9 0 (7 ∷ 7 ∷ []) (7 ∷ 7 ∷ 7 ∷ [])
    (table_answer binary16 (with_rounding 0) 2 3 (replicate 5 0) (7 ∷ 7 ∷ []) (7 ∷ 7 ∷ 7 ∷ []))
    && table_stays 9 0 (7 ∷ []) (8 ∷ [])
    (table_answer binary16 (with_rounding 0) 4294967296 4294967296 [] (7 ∷ []) (8 ∷ []))
    -- 10: by the list of rows, and by that of columns; and of more rows than 6 allows cells, since
    -- they have none
    && table_stays 10 0 (7 ∷ []) (7 ∷ 7 ∷ 7 ∷ [])
    (table_answer binary16 (with_rounding 0) 2 3 six_cells (7 ∷ []) (7 ∷ 7 ∷ 7 ∷ []))
    && table_stays 10 0 (7 ∷ 7 ∷ 7 ∷ []) (7 ∷ 7 ∷ [])
    (table_answer binary16 (with_rounding 0) 2 3 six_cells (7 ∷ 7 ∷ 7 ∷ []) (7 ∷ 7 ∷ []))
    && table_stays 10 0 (7 ∷ []) []
    (table_answer binary16 (with_rounding 0) 268435457 0 [] (7 ∷ []) [])
    -- 7, with the place among all cells
    && table_stays 7 2 (7 ∷ 7 ∷ []) (7 ∷ 7 ∷ [])
    (table_answer binary16 (with_rounding 0) 2 2 (0x3c00 ∷ 0 ∷ 0x10000 ∷ 0x20000 ∷ []) (7 ∷ 7 ∷ [])
    (7 ∷ 7 ∷ []))
    -- two at once: 3 and 4 before 9, 9 before 10 and before 7, 10 before 7
    && table_stays 3 0 (7 ∷ []) []
    (table_answer (record { kind = 4; E = 5; W = 16; named = none }) (with_rounding 8) 1 1 []
    (7 ∷ []) [])
    && table_stays 4 0 (7 ∷ []) [] (table_answer binary16 (with_rounding 8) 1 1 [] (7 ∷ []) [])
    && table_stays 9 0 [] (7 ∷ []) (table_answer binary16 (with_rounding 0) 1 1 [] [] (7 ∷ []))
    && table_stays 9 0 (7 ∷ []) (7 ∷ [])
    (table_answer binary16 (with_rounding 0) 1 1 (0x10000 ∷ 0 ∷ []) (7 ∷ []) (7 ∷ []))
    && table_stays 10 0 (7 ∷ []) []
    (table_answer binary16 (with_rounding 0) 1 1 (0x10000 ∷ []) (7 ∷ []) [])
    -- the entry: the first table; 23 bytes, and no bias said beside one; no bias said beside one,
    -- and a shape that is none; 7 with its place
    && entry_is 0 (0x4600 ∷ 0x4200 ∷ []) (0x4000 ∷ 0x4200 ∷ 0x4400 ∷ [])
    (0x80 ∷ 0x48 ∷ replicate 14 0 ++ (1 ∷ replicate 7 0 ++ (7 ∷ 7 ∷ [])))
    (table_entry 0 5 16 0 (pos 0) (with_rounding 0) 2 3 six_cells (7 ∷ 7 ∷ []) (7 ∷ 7 ∷ 7 ∷ [])
    (replicate 26 7))
    && entry_is 2 (7 ∷ []) (8 ∷ []) (replicate 23 7)
    (table_entry 0 5 16 0 (pos 15) (with_rounding 0) 1 1 (0 ∷ []) (7 ∷ []) (8 ∷ [])
    (replicate 23 7))
    && entry_is 3 (7 ∷ []) (8 ∷ []) (replicate 24 7)
    (table_entry 0 5 16 0 (pos 15) (with_rounding 0) 1 1 [] (7 ∷ []) (8 ∷ []) (replicate 24 7))
    && entry_is (7 + 256) (7 ∷ []) (8 ∷ 8 ∷ []) (replicate 24 7)
    (table_entry 0 5 16 1 (pos 15) (with_rounding 0) 1 2 (0 ∷ 0x10000 ∷ []) (7 ∷ []) (8 ∷ 8 ∷ [])
    (replicate 24 7))

pub tables-agree : Holds table_examples
unfolding
    table_examples six_cells binary16 with_rounding table_refusal table_answer table_entry written
    entered
    difference raised valid_format bias lift exponent_range depth origin fall grid rise
    valid_settings precision_of
    decode is_subnormal operand single product item pair_item plus_sum minus_sum top_of
    lost_end look_at half wrapped decide sum_of pass run chain size span climb
    dropped rounded_at overflows largest overflow number_of finished tiny_sum round_to round encode
    leans_of side_of default_nan_of select_all
    special sum_rounded reported finite_total without_nan accepted sum_refusal sum_accepted
    sum_answer
tables-agree = tt
