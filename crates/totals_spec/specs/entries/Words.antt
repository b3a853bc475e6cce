-- The entries over words: a list is one encoding a word. A format is five numbers: kind, exponent
-- bits, width, whether it names its bias, and the bias.
use Rattle.std.specs.Prelude.{ℕ, List, [], ◌++◌, length, drop, Bool, not, ◌&&◌, ◌||◌, ltb, eqb, ℤ}
use Rattle.std.specs.Prelude.{nat_abs, cond}
use Rattle.std.proofs.Math.Option.{none, some}
use Rattle.totals_spec.specs.formats.Format.{Format}

-- totals in front of a lent list; what lies beyond them stays
abbrev pub filled : List ℕ → List ℕ → List ℕ
filled totals old = totals ++ drop (length totals) old

-- 1 and a bias names it, 0 and 0 names none
abbrev pub misnamed : ℕ → ℤ → Bool
misnamed named b = ltb 1 named || (eqb named 0 && not (eqb (nat_abs b) 0))

abbrev pub format_by : (kind exponent_bits width named : ℕ) (bias : ℤ) → Format
format_by k e w named b = record {
  kind = k;
  E = e;
  W = w;
  named = cond (eqb named 1) (some b) none;
}
