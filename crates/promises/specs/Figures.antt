-- The pence of a list as a property: a hundred times its exact sum, to the nearest whole number.
-- The least non-zero number of a format is 2^(lift − depth) of a pound. So a hundred times an
-- amount is that many 2^depth-ths of a penny, times 2^lift; and a penny is 2^depth of them.
use Rattle.std.specs.Prelude.{◌≡◌, ◌≢◌, Bool, cond, List, map, ℕ, ◌*◌, ◌^◌, ◌<◌, ◌≤◌, ℤ, pos, neg_ℤ}
use Rattle.totals_spec.specs.Basics.{Signed}
use Rattle.totals_spec.specs.formats.Format.{Format, depth, lift}
use Rattle.totals_spec.specs.formats.Settings.{no_settings, ties_to_away}
use Rattle.totals_spec.specs.formats.Decode.{decode}
use Rattle.totals_spec.specs.formats.Ordered.{worth}
use Rattle.figures_spec.specs.ranges.Allowed.{sum_of_amounts}
use Rattle.totals_spec.specs.sums.Totals.{sum_refusal}
use Rattle.totals_spec.specs.pence.Pence.{refused_pence, sum_pence}
use Rattle.totals_spec.specs.sums.Promises.{AllFinite}
use Rattle.promises.specs.Numbers.{distance, LargerWins, RoundsTo}

-- n pence are a whole number of pence nearest to x, and of two that are as near the one farther
-- from zero
pub record NearestPence (penny x n : ℕ) : Type 0 where
  pub nearest : (m : ℕ) → distance x (n * penny) ≤ distance x (m * penny)
  pub tie : (m : ℕ) → m ≢ n → distance x (m * penny) ≡ distance x (n * penny) → LargerWins n m

-- at most one number of pence is
abbrev pub Pence-one : Type 0
Pence-one = (penny x m n : ℕ) → NearestPence penny x m → NearestPence penny x n → m ≡ n

-- in the words of the roundings: to nearest with ties away from zero, on a grid of one penny
abbrev pub Pence-round : Type 0
Pence-round = (q grid x n : ℕ) (s : Bool) → n < 2 ^ q → NearestPence (2 ^ grid) x n
    → RoundsTo ties_to_away q grid s x (n * 2 ^ grid)

-- the exact sum of the list, in the format's least non-zero number
abbrev pub list_sum : Format → List ℕ → Signed
list_sum f l = sum_of_amounts (map (λ b. worth (decode f b)) l)

abbrev pub signed_figure : Bool → ℕ → ℤ
signed_figure s n = cond s (neg_ℤ (pos n)) (pos n)

-- n is the number of pence: up to 2^63 − 1 either way it is told, with the sum's sign, and beyond
-- that refused with 8
pub record PenceOf (f : Format) (l : List ℕ) : Type 0 where
  pub n : ℕ
  pub whole : NearestPence (2 ^ depth f) (100 * (list_sum f l).mag * 2 ^ lift f) n
  pub told : n < 2 ^ 63
      → sum_pence f l
      ≡ record { figure = signed_figure (list_sum f l).neg n; refusal = 0; place = 0 }
  pub beyond : 2 ^ 63 ≤ n → sum_pence f l ≡ refused_pence 8

-- of a list of finite values that a plain sum accepts
abbrev pub Pence-nearest : Type 0
Pence-nearest = (f : Format) (l : List ℕ) → sum_refusal f no_settings 0 l ≡ 0 → AllFinite f l
    → PenceOf f l
