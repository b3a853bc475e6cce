-- A pence figure that may be refused, as the specification's record; and what a sum has to be like
-- for its whole pence to be counted.
use Rattle.std.specs.Prelude.{◌≡◌, true, cond, List, ℕ, ◌+◌, ◌^◌, ◌≤◌, ◌<◌, ℤ, Result, Ok, Err}
use Rattle.limbs.specs.Value.{bit_length}
use Rattle.totals_spec.specs.Basics.{any}
use Rattle.totals_spec.specs.formats.Format.{Format}
use Rattle.totals_spec.specs.formats.Settings as env
use Rattle.totals_spec.specs.terms.Terms.{exact_sum}
use Rattle.totals_spec.specs.sums.Totals.{sum_terms}
use Rattle.totals_spec.specs.pence.Pence as spec
use Rattle.exact.specs.declared.Unrounded.{Unrounded}
use Rattle.exact.specs.Unrounded.{significand_of}
use Rattle.totals.specs.declared.refusal.Refusal.{Refusal}
use Rattle.totals.specs.Refusal.{number_of, place_of}

-- the record of a figure that may be refused
abbrev pub figure_in : Result ℤ Refusal → spec.Pence
figure_in (Ok x) = record { figure = x; refusal = 0; place = 0 }
figure_in (Err r) = spec.refused_at (number_of r) (place_of r)

-- the pence of a list of which only number 8 is left to tell
abbrev pub list_figure : Format → List ℕ → spec.Pence
list_figure f l =
    cond (any (spec.not_number f) l) (spec.refused_pence 8)
    (spec.sum_figure f (exact_sum (sum_terms f env.no_settings env.value l)))

-- a value of which whole pence can be counted: not 0, well above the unit, and a sticky bit below
-- its first 64 digits
pub record Countable (v : Unrounded) : Type 0 where
  pub some : 0 < significand_of v
  pub high : 64 ≤ v.position
  pub low : v.position < 2 ^ 62 + 640
  pub long : v.sticky ≡ true → 64 < bit_length (significand_of v)
