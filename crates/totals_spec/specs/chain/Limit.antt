-- T, B and the limit on the passes: 1 + ⌈(T − 702 − B) / (697 − p)⌉. T is `top_of` of the terms
-- (`Terms`). A difference of positions does not depend on where they are counted from. Here `-`
-- stops at 0: where T − 702 − B is negative, the limit is 1.
use Rattle.std.specs.Prelude.{ℕ, List, ◌+◌, ◌-◌, ◌/◌}
use Rattle.std.specs.Int.Count.{count_trailing_zeros}
use Rattle.std.specs.Float.Ieee.{size}
use Rattle.totals_spec.specs.terms.Terms.{Term, top_of}
use Rattle.totals_spec.specs.Basics.{least}
use Rattle.totals_spec.specs.formats.Format.{Format, digits}

-- the position of the lowest set bit of a number above 0
unfoldable pub low_bit : ℕ → ℕ
low_bit m = count_trailing_zeros (size m) m

abbrev pub low_of : Term → ℕ
low_of t = low_bit t.mag

-- B, where the last set bit of all terms stands
unfoldable pub bottom_of : List Term → ℕ
bottom_of ts = least (top_of ts) low_of ts

-- ⌈a / b⌉
unfoldable pub ceil_div : ℕ → ℕ → ℕ
ceil_div a b = (a + (b - 1)) / b

unfoldable pub most_passes : Format → List Term → ℕ
most_passes f ts = 1 + ceil_div (top_of ts - 702 - bottom_of ts) (697 - digits f)
