-- The code's amounts and its pair of totals as those of totals_spec: a double by its encoding. And
-- what a range total leaves in the lists of figures.
use Rattle.std.specs.Prelude.{◌≡◌, cond, List, map, ℕ, eqb, Result, Ok, Err}
use Rattle.std.specs.Float.{binary64}
use Rattle.std.specs.Float.Ieee.{to_bits}
use Rattle.figures_spec.specs.ranges.Ranges as spec
use Rattle.figures_spec.specs.ranges.Entry.{RangeEntry}
use Rattle.figures.specs.declared.range.Amount.{Amount}
use Rattle.figures.specs.declared.range.Amount.TheVariants.{Known, Between, Missing}
use Rattle.figures.specs.declared.range.Bounds.{Bounds}
use Rattle.totals.specs.declared.refusal.Refusal.{Refusal}
use Rattle.totals.specs.Refusal.{number_of}

abbrev pub amount_in : Amount → spec.Amount
amount_in (Known x) = spec.known (to_bits binary64 x)
amount_in (Between x y) = spec.between (to_bits binary64 x) (to_bits binary64 y)
amount_in Missing = spec.missing

-- of totals that may be refused, which then have no place
abbrev pub range_in : Result Bounds Refusal → spec.Range
range_in (Ok r) = record {
  lower = to_bits binary64 r.lower;
  upper = to_bits binary64 r.upper;
  refusal = 0;
  place = 0;
}
range_in (Err r) = spec.refused_range (number_of r)

-- the lows and the highs of entries, which take the place of their figures where the call is
-- accepted
abbrev pub lows : (tags firsts seconds : List ℕ) → List ℕ
lows ts xs ys = map spec.low_of (spec.entries ts xs ys)

abbrev pub highs : (ceiling : ℕ) (tags firsts seconds : List ℕ) → List ℕ
highs z ts xs ys = map (spec.high_of z) (spec.entries ts xs ys)

-- what a call leaves: its record, and the two lists of figures
pub record Totalled (ts xs ys : List ℕ) (z : ℕ) (r : Result Bounds Refusal)
    (firsts seconds : List ℕ) : Type 0 where
  pub record_is : range_in r ≡ spec.range_answer ts xs ys z
  pub firsts-are : firsts ≡ cond (eqb (spec.range_refusal ts xs ys z) 0) (lows ts xs ys) xs
  pub seconds-are : seconds ≡ cond (eqb (spec.range_refusal ts xs ys z) 0) (highs z ts xs ys) ys

pub record EntersRange (e : RangeEntry) (code : ℕ) (firsts seconds pair : List ℕ) : Type 0 where
  pub code_is : code ≡ e.code
  pub firsts-are : firsts ≡ e.firsts
  pub seconds-are : seconds ≡ e.seconds
  pub pair_is : pair ≡ e.pair
