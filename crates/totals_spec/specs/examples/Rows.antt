-- The words by which examples are written: formats, settings, a row of a table of examples, and the
-- tests of a record against one.
use Rattle.std.specs.Prelude.{[], ℕ, List, ℤ, Bool, false, eqb, pos, negsuc, ◌&&◌, true, ◌∷◌}
use Rattle.std.proofs.Math.Option.{none, some}
use Rattle.totals_spec.specs.formats.Format.{Format, binary64}
use Rattle.totals_spec.specs.sums.Totals.{Answer, sum_answer}
use Rattle.totals_spec.specs.formats.Settings.{with_rounding, Settings}
use Rattle.totals_spec.specs.Basics.{same_list}
use Rattle.totals_spec.specs.entries.Bytes.{Entry}
use Rattle.totals_spec.specs.pence.Pence.{Pence}

unfoldable pub binary16 : Format
binary16 = record { kind = 0; E = 5; W = 16; named = none }

-- ---- C1 to C12. Modes: 0 ties to even, 4 toward negative, 5 toward zero. Summands: 0 value, 1
-- magnitude, 2 square

pub record Row : Type 0 where
  pub mode : ℕ
  pub summand : ℕ
  pub list : List ℕ
  pub result : ℕ
  pub flags : ℕ
  pub passes : ℕ
  pub last_edge : ℤ
  pub side : ℕ

-- a row of a table, its columns in the order of the fields
abbrev pub row : (mode summand : ℕ) (list : List ℕ) (result flags passes : ℕ) (last_edge : ℤ)
    (side : ℕ) → Row
row m u l r f n e s = record {
  mode = m;
  summand = u;
  list = l;
  result = r;
  flags = f;
  passes = n;
  last_edge = e;
  side = s;
}

abbrev pub same_int : ℤ → ℤ → Bool
same_int (pos m) (pos n) = eqb m n
same_int (pos m) (negsuc n) = false
same_int (negsuc m) (pos n) = false
same_int (negsuc m) (negsuc n) = eqb m n

abbrev pub agrees : Row → Answer → Bool
agrees r a =
    eqb a.result r.result && eqb a.flags r.flags && eqb a.passes r.passes
    && same_int a.last_edge r.last_edge
    && eqb a.refusal 0 && eqb a.place 0 && eqb a.side r.side

-- each row is what the definitions give
unfoldable pub all_agree : List Row → Bool
all_agree [] = true
all_agree (r ∷ rs) = agrees r (sum_answer binary64 (with_rounding r.mode) r.summand r.list)
    && all_agree rs

-- ---- which way a result leans, in binary16, in two formats of few bits, and in binary64

abbrev pub leans_to : (result flags side : ℕ) → Answer → Bool
leans_to result flags side a = eqb a.result result && eqb a.flags flags && eqb a.side side
    && eqb a.refusal 0

-- ties to even, with flush-to-zero or denormals-are-zero
unfoldable pub small : (flush denormals : ℕ) → Settings
small f d =
    record {
      rounding = 0;
      tininess = 0;
      nan_propagation = 0;
      default_nan_sign = 0;
      flush_to_zero = f;
      denormals_are_zero = d;
      saturate = 0;
      precision = 0;
    }

-- ---- the examples of the refusals 1 to 5 and 7 (6 is in `ManyZeros` of proofs/)

abbrev pub refused_as : ℕ → ℕ → Answer → Bool
refused_as n at a =
    eqb a.refusal n && eqb a.place at && eqb a.result 0 && eqb a.flags 0 && eqb a.passes 0
    && same_int a.last_edge (pos 0) && eqb a.side 0

-- the number n, and a buffer left as it was
abbrev pub entered_as : ℕ → List ℕ → Entry → Bool
entered_as n old e = eqb e.code n && same_list e.buffer old

-- ---- pence: 0.125 is 13, −0.125 is −13; refusal 8: an infinity

abbrev pub pence_at : ℤ → (number place : ℕ) → Pence → Bool
pence_at x n at p = same_int p.figure x && eqb p.refusal n && eqb p.place at

abbrev pub pence_is : ℤ → ℕ → Pence → Bool
pence_is x n p = pence_at x n 0 p

-- ---- named biases: rows worked out by hand, with emin = 1 − bias and the first edge 702 below T

unfoldable pub half16 : ℤ → Format
half16 b = record { kind = 0; E = 5; W = 16; named = some b }

abbrev pub answers : (result flags side : ℕ) → ℤ → Answer → Bool
answers result flags side edge a =
    eqb a.result result && eqb a.flags flags && eqb a.side side && eqb a.passes 1
    && same_int a.last_edge edge && eqb a.refusal 0

-- the formats of kinds 1 to 3 in the rows: of 8, 8 and 4 bits
unfoldable pub no_inf8 : Format
no_inf8 = record { kind = 1; E = 4; W = 8; named = none }

unfoldable pub fnuz8 : Format
fnuz8 = record { kind = 2; E = 4; W = 8; named = none }

unfoldable pub finite4 : Format
finite4 = record { kind = 3; E = 2; W = 4; named = none }

-- settings by their mode
unfoldable pub with : (tininess denormals_are_zero saturate precision mode : ℕ) → Settings
with t d s p m =
    record {
      rounding = m;
      tininess = t;
      nan_propagation = 0;
      default_nan_sign = 0;
      flush_to_zero = 0;
      denormals_are_zero = d;
      saturate = s;
      precision = p;
    }

abbrev pub reads : (result flags passes : ℕ) → ℤ → (side : ℕ) → Answer → Bool
reads result flags passes edge side a =
    eqb a.result result && eqb a.flags flags && eqb a.passes passes && same_int a.last_edge edge
    && eqb a.side side
    && eqb a.refusal 0 && eqb a.place 0
