-- What is rounded once: the sum of the elements, their magnitudes, their squares or their products,
-- as an exact number.
use Rattle.std.specs.Prelude.{Bool, true, List, map, ℕ}
use Rattle.totals_spec.specs.Basics.{Signed, raised}
use Rattle.totals_spec.specs.formats.Format.{Format, room, grid}
use Rattle.totals_spec.specs.formats.Settings.{Settings, Summand, value, magnitude, square, summand_of}
use Rattle.figures_spec.specs.ranges.Allowed.{sum_of_amounts}
use Rattle.totals_spec.specs.sums.Totals.{Answer, pairs, on_grid, is_square}
use Rattle.totals_spec.specs.entries.Promises.{ReadsBack}
use Rattle.totals_spec.specs.ten_bytes.Promises.{ReadsBack32}
use Rattle.promises.specs.Amounts.{amount, product}
use Rattle.promises.specs.Statements.{RoundedOnce, ExtendedOnce}

-- the exact sum of the amounts of a list, in the units in which the format's least number is
-- 2^grid; and that of the products of the pairs of two
abbrev pub exact_by : Summand → Format → Settings → List ℕ → Signed
exact_by value f c l = raised room (sum_of_amounts (map (amount f c value) l))
exact_by magnitude f c l = raised room (sum_of_amounts (map (amount f c magnitude) l))
exact_by square f c l = on_grid f true (raised room (sum_of_amounts (map (amount f c square) l)))

abbrev pub exact : Format → Settings → ℕ → List ℕ → Signed
exact f c u l = exact_by (summand_of u) f c l

abbrev pub exact_dot : Format → Settings → (left right : List ℕ) → Signed
exact_dot f c xs ys = on_grid f true (raised room (sum_of_amounts (map (product f c) (pairs xs ys))))

-- where the least number lies
abbrev pub grid_for : Format → ℕ → ℕ
grid_for f u = grid f (is_square (summand_of u))

-- what a byte entry has written is the exact sum x, rounded once; and so of kind 4
pub record HoldsOnce (f : Format) (c : Settings) (g : ℕ) (sub : Bool) (x : Signed) (old new : List ℕ) : Type 0 where
  pub answer : Answer
  pub reads : ReadsBack answer old new
  pub once : RoundedOnce f c g sub x answer

pub record HoldsTensOnce (c : Settings) (g : ℕ) (sub : Bool) (x : Signed) (old new : List ℕ) : Type 0 where
  pub answer : Answer
  pub reads : ReadsBack32 answer old new
  pub once : ExtendedOnce c g sub x answer
