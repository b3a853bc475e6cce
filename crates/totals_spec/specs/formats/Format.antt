-- Formats: the kind, the exponent field's width E and the whole width W; what follows from them;
-- and how positions are counted here. Positions. In the specification the bit of 2^k stands at
-- position k, which may be negative. Here every position is a natural number: it is counted from a
-- unit far below every bit that a term can have, so an exact sum is a plain number of units. `room`
-- is how far the unit lies below the lowest bit that a term can have: far enough that no edge of a
-- chain lies below the unit (`TrueEdges` of proofs/). Only a reported edge is turned back into the
-- specification's position (`Totals`).
--   The least non-zero number of a format is 2^(emin − p + 1) = 2^(lift − depth); `lift` is 0 but
--   for a named bias below 0.
--   In a sum the unit is 2^−(depth − lift + room), where terms are products it is 2^−(2 × (depth −
--   lift) + room).
--   `origin` less `fall` is the position, in units, of the bit worth 2^0. `grid` less `rise` is
--   that of the format's least non-zero number: with a
--   bias below 0 that of products may lie under their unit, so before a rounding a sum is counted
--   from a unit `rise` positions lower.
use Rattle.std.specs.Prelude.{ℕ, zero, suc, ◌-◌, ℤ, Bool, true, leb, nat_abs, ◌+◌, ◌&&◌, ◌^◌, pos}
use Rattle.std.specs.Prelude.{negsuc, cond}
use Rattle.std.proofs.Math.Option.{Option, none, some}

pub data Kind : Type 0 where
  ieee no_inf fnuz finite_only : Kind

abbrev pub kind_of : ℕ → Kind
kind_of zero = ieee
kind_of (suc zero) = no_inf
kind_of (suc (suc zero)) = fnuz
kind_of (suc (suc (suc n))) = finite_only

pub record Format : Type 0 where
  pub kind : ℕ
  pub E : ℕ
  pub W : ℕ
  -- the bias, where the format names one
  pub named : Option ℤ

-- the format of the program, and of amounts known within a range
unfoldable pub binary64 : Format
binary64 = record { kind = 0; E = 11; W = 64; named = none }

-- the farthest from 0 that a named bias may be, 2^28
abbrev pub farthest_bias : ℕ
farthest_bias = 268435456

-- a bias that may be named
abbrev pub offered : Option ℤ → Bool
offered none = true
offered (some b) = leb (nat_abs b) farthest_bias

-- refusal 3 is the failure of this
unfoldable pub valid_format : Format → Bool
valid_format f = leb f.kind 3 && leb 2 f.E && leb f.E 28 && leb (f.E + 2) f.W && leb f.W 64
    && offered f.named

-- p, of which all but one are stored in the fraction
abbrev pub digits : Format → ℕ
digits f = f.W - f.E

abbrev pub fraction_bits : Format → ℕ
fraction_bits f = f.W - f.E - 1

-- ---- the exponent range. A field of 1 stands for emin, the highest field that holds numbers for
-- emax

abbrev pub bias_of : Kind → ℕ → ℕ
bias_of ieee e = 2 ^ (e - 1) - 1
bias_of no_inf e = 2 ^ (e - 1) - 1
bias_of fnuz e = 2 ^ (e - 1)
bias_of finite_only e = 2 ^ (e - 1) - 1

-- the bias, named or the kind's own, is `bias` less `lift`: one of the two is 0
abbrev pub bias_part : Option ℤ → ℕ → ℕ
bias_part none own = own
bias_part (some (pos b)) own = b
bias_part (some (negsuc b)) own = 0

abbrev pub lift_part : Option ℤ → ℕ
lift_part none = 0
lift_part (some (pos b)) = 0
lift_part (some (negsuc b)) = suc b

unfoldable pub bias : Format → ℕ
bias f = bias_part f.named (bias_of (kind_of f.kind) f.E)

unfoldable pub lift : Format → ℕ
lift f = lift_part f.named

-- emax − emin
abbrev pub range_of : Kind → ℕ → ℕ
range_of ieee e = 2 ^ e - 3
range_of no_inf e = 2 ^ e - 2
range_of fnuz e = 2 ^ e - 2
range_of finite_only e = 2 ^ e - 2

unfoldable pub exponent_range : Format → ℕ
exponent_range f = range_of (kind_of f.kind) f.E

-- −(emin − p + 1) + lift = bias + p − 2: the least non-zero number is 2^(lift − depth)
unfoldable pub depth : Format → ℕ
depth f = bias f + digits f - 2

-- ---- units

abbrev pub room : ℕ
room = 1024

-- the position of the bit worth 1, plus `fall`: of a sum, and of a dot or square
unfoldable pub origin : Format → Bool → ℕ
origin f product = cond product (room + depth f + depth f) (room + depth f)

unfoldable pub fall : Format → Bool → ℕ
fall f product = cond product (lift f + lift f) (lift f)

-- the position of the format's least non-zero number, plus `rise`
unfoldable pub grid : Format → Bool → ℕ
grid f product = cond product (room + depth f) room

unfoldable pub rise : Format → Bool → ℕ
rise f product = cond product (lift f) 0

-- the positions of emin and emax, from the grid's
abbrev pub emin_at : Format → ℕ → ℕ
emin_at f g = g + (digits f - 1)

abbrev pub emax_at : Format → ℕ → ℕ
emax_at f g = g + (digits f - 1) + exponent_range f
