-- Examples of the program, as tests that the checker computes.
use Rattle.std.specs.Prelude.{ℕ, List, [], ◌+◌, ◌∷◌, ◌++◌, replicate, Bool, true, ◌&&◌, T as Holds}
use Rattle.std.proofs.Math.Option.{none}
use Rattle.std.specs.Float.Ieee.{size, span, climb}
use Rattle.totals_spec.specs.Basics.{same_list, difference, raised}
use Rattle.totals_spec.specs.program.Program.{program_text, read_from, hex_text, decimal_from}
use Rattle.totals_spec.specs.program.Program.{answer_text}
use Rattle.totals_spec.specs.formats.Format.{valid_format, bias, lift, exponent_range, depth}
use Rattle.totals_spec.specs.formats.Format.{origin, fall, grid, rise}
use Rattle.totals_spec.specs.formats.Settings.{valid_settings, precision_of}
use Rattle.totals_spec.specs.formats.Decode.{decode, is_subnormal, operand}
use Rattle.totals_spec.specs.terms.Terms.{single, product, item, pair_item, plus_sum, minus_sum}
use Rattle.totals_spec.specs.terms.Terms.{top_of}
use Rattle.totals_spec.specs.chain.Chain.{lost_end, look_at, half, wrapped, decide, sum_of, pass}
use Rattle.totals_spec.specs.chain.Chain.{run, chain}
use Rattle.totals_spec.specs.rounding.Round.{dropped, rounded_at, overflows, largest, overflow}
use Rattle.totals_spec.specs.rounding.Round.{number_of, finished, tiny_sum, round_to, round}
use Rattle.totals_spec.specs.formats.Encode.{encode}
use Rattle.totals_spec.specs.sums.Nan.{default_nan_of, select_all}
use Rattle.totals_spec.specs.rounding.Side.{leans_of, side_of}
use Rattle.totals_spec.specs.sums.Totals.{special, sum_rounded, reported, finite_total, without_nan}
use Rattle.totals_spec.specs.sums.Totals.{accepted, sum_refusal, sum_accepted, sum_answer}
use Rattle.totals_spec.specs.pence.Pence.{pence_of, sum_figure, sum_pence}

-- ---- the program: what it reads and what it prints, as bytes. A hex digit d is the byte 48 + d,
-- or 87 + d from a on; 10 ends a line

pub record ProgramRun : Type 0 where
  pub input : List ℕ
  pub output : List ℕ

-- `refused line 1`, `refused line 2`
unfoldable pub refused_line : ℕ → List ℕ
refused_line n = 114 ∷ 101 ∷ 102 ∷ 117 ∷ 115 ∷ 101 ∷ 100 ∷ 32 ∷ 108 ∷ 105 ∷ 110 ∷ 101 ∷ 32
    ∷ (48 + n) ∷ 10 ∷ []

-- the 16 digits `3ff0000000000000`, and with a last digit of its own byte
unfoldable pub one_with : ℕ → List ℕ
one_with b = 51 ∷ 102 ∷ 102 ∷ 48 ∷ 48 ∷ 48 ∷ 48 ∷ 48 ∷ 48 ∷ 48 ∷ 48 ∷ 48 ∷ 48 ∷ 48 ∷ 48 ∷ b ∷ []

unfoldable pub program_runs : List ProgramRun
program_runs =
    -- 1 and 0.25: `3ff0000000000000`, `3fd0000000000000` prints `3ff4000000000000`, `00`, `1`,
    -- `125`
    record {
      input = one_with 48
          ++ (10 ∷ 51 ∷ 102 ∷ 100 ∷ 48 ∷ 48 ∷ 48 ∷ 48 ∷ 48 ∷ 48 ∷ 48 ∷ 48 ∷ 48 ∷ 48 ∷ 48 ∷ 48 ∷ 48
          ∷ 10 ∷ []);
      output = 51 ∷ 102 ∷ 102 ∷ 52 ∷ 48 ∷ 48 ∷ 48 ∷ 48 ∷ 48 ∷ 48 ∷ 48 ∷ 48 ∷ 48 ∷ 48 ∷ 48 ∷ 48 ∷ 10
          ∷ 48 ∷ 48 ∷ 10 ∷ 49 ∷ 10 ∷ 49 ∷ 50 ∷ 53 ∷ 10 ∷ [];
    }
    -- without its last line end: 1.0 prints `3ff0000000000000`, `00`, `1`, `100`
    ∷ record {
      input = one_with 48;
      output = one_with 48
          ++ (10 ∷ 48 ∷ 48 ∷ 10 ∷ 49 ∷ 10 ∷ 49 ∷ 48 ∷ 48 ∷ 10 ∷ []);
    }
    -- nothing is the empty list: +0, no flags, no passes, 0 pence
    ∷ record {
      input = [];
      output = replicate 16 48
          ++ (10 ∷ 48 ∷ 48 ∷ 10 ∷ 48 ∷ 10 ∷ 48 ∷ 10 ∷ []);
    }
    -- ∞ has no pence: `7ff0000000000000` prints itself, `00`, `0`, `none`
    ∷ record {
      input = 55 ∷ 102 ∷ 102 ∷ replicate 13 48;
      output = 55 ∷ 102 ∷ 102 ∷ replicate 13 48
          ++ (10 ∷ 48 ∷ 48 ∷ 10 ∷ 48 ∷ 10 ∷ 110 ∷ 111 ∷ 110 ∷ 101 ∷ 10 ∷ []);
    }
    -- 0.125 and −2^−60: `3fc0000000000000`, `bc30000000000000` prints `3fc0000000000000`, `50`,
    -- `1`, `12`
    ∷ record {
      input = 51 ∷ 102 ∷ 99 ∷ replicate 13 48 ++ (10 ∷ 98 ∷ 99 ∷ 51 ∷ replicate 13 48);
      output = 51 ∷ 102 ∷ 99 ∷ replicate 13 48 ++ (10 ∷ 53 ∷ 48 ∷ 10 ∷ 49 ∷ 10 ∷ 49 ∷ 50 ∷ 10 ∷ []);
    }
    -- a line of 17 digits
    ∷ record { input = 51 ∷ one_with 48; output = refused_line 1 }
    -- empty lines, a capital digit, a line of 15 digits
    ∷ record { input = 10 ∷ []; output = refused_line 1 }
    ∷ record { input = one_with 48 ++ (10 ∷ 10 ∷ []); output = refused_line 2 }
    ∷ record { input = one_with 65; output = refused_line 1 }
    ∷ record { input = one_with 10 ++ (10 ∷ []); output = refused_line 1 }
    ∷ []

unfoldable pub program_agrees : List ProgramRun → Bool
program_agrees [] = true
program_agrees (r ∷ rs) = same_list (program_text r.input) r.output && program_agrees rs

pub program-agrees : Holds (program_agrees program_runs)
unfolding
    program_agrees program_runs refused_line one_with program_text read_from hex_text decimal_from
    answer_text sum_pence sum_figure pence_of
    difference raised valid_format bias lift exponent_range depth origin fall grid rise
    valid_settings precision_of
    decode is_subnormal operand single product item pair_item plus_sum minus_sum top_of
    lost_end look_at half wrapped decide sum_of pass run chain size span climb
    dropped rounded_at overflows largest overflow number_of finished tiny_sum round_to round encode
    leans_of side_of default_nan_of select_all
    special sum_rounded reported finite_total without_nan accepted sum_refusal sum_accepted
    sum_answer
program-agrees = tt
