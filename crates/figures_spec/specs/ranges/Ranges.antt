-- Amounts known within a range. An entry is known exactly, lies between two figures, or is missing,
-- and then lies between zero and a ceiling. Figures are binary64 encodings, and so are the two
-- totals: the least and the greatest sum that the entries allow.
use Rattle.std.specs.Prelude.{ℕ, [], zero, suc, List, ◌∷◌, map, Bool, not, ◌&&◌, true, false, ◌||◌}
use Rattle.std.specs.Prelude.{length, ltb, eqb, ◌^◌, cond}
use Rattle.totals_spec.specs.Basics.{Signed, any}
use Rattle.totals_spec.specs.formats.Format.{binary64}
use Rattle.totals_spec.specs.formats.Decode.{decode, is_number}
use Rattle.totals_spec.specs.formats.Ordered.{worth, at_most, nothing}
use Rattle.totals_spec.specs.sums.Totals.{stray, limit, refuse_if}
use Rattle.totals_spec.specs.formats.Settings.{with_rounding}
use Rattle.figures_spec.specs.tables.Table.{plain_total}

-- ---- entries

pub data Amount : Type 0 where
  known : (figure : ℕ) → Amount
  between : (low high : ℕ) → Amount
  missing : Amount
  -- a tag above 2
  untold : Amount

-- by its tag: a known entry uses the first figure alone, a missing one neither
abbrev pub amount_of : (tag first second : ℕ) → Amount
amount_of zero x y = known x
amount_of (suc zero) x y = between x y
amount_of (suc (suc zero)) x y = missing
amount_of (suc (suc (suc t))) x y = untold

-- three lists as one
abbrev pub triples : List ℕ → List ℕ → List ℕ → List (ℕ × ℕ × ℕ)
triples [] xs ys = []
triples (t ∷ ts) [] ys = []
triples (t ∷ ts) (x ∷ xs) [] = []
triples (t ∷ ts) (x ∷ xs) (y ∷ ys) = (t, x, y) ∷ triples ts xs ys

abbrev pub entry_of : ℕ × ℕ × ℕ → Amount
entry_of e = amount_of e.0 e.1 e.2

abbrev pub entries : (tags firsts seconds : List ℕ) → List Amount
entries ts xs ys = map entry_of (triples ts xs ys)

-- the least and the greatest amount that an entry allows
abbrev pub low_of : Amount → ℕ
low_of (known x) = x
low_of (between x y) = x
low_of missing = 0
low_of untold = 0

abbrev pub high_of : (ceiling : ℕ) → Amount → ℕ
high_of z (known x) = x
high_of z (between x y) = y
high_of z missing = z
high_of z untold = 0

unfoldable pub figure_worth : ℕ → Signed
figure_worth b = worth (decode binary64 b)

-- ---- refusals 5, 6 and 11, in this order

-- a finite double
abbrev pub good_figure : ℕ → Bool
good_figure b = not (stray binary64 b) && is_number (decode binary64 b)

-- its used figures are finite, and its low is not above its high
abbrev pub good_amount : Amount → Bool
good_amount (known x) = good_figure x
good_amount (between x y) = good_figure x && good_figure y
    && at_most (figure_worth x) (figure_worth y)
good_amount missing = true
good_amount untold = false

-- finite and not below zero, which −0 is not
abbrev pub good_ceiling : ℕ → Bool
good_ceiling z = good_figure z && at_most nothing (figure_worth z)

-- the ceiling is looked at where no entry is missing, too
unfoldable pub range_refusal : (tags firsts seconds : List ℕ) (ceiling : ℕ) → ℕ
range_refusal ts xs ys z =
    refuse_if (not (eqb (length ts) (length xs)) || not (eqb (length ts) (length ys))) 5
    (refuse_if (ltb limit (length ts)) 6
    (refuse_if (not (good_ceiling z) || any (λ a. not (good_amount a)) (entries ts xs ys)) 11 0))

-- ---- the pair

-- −0 is +0 in it
abbrev pub plus_zero : ℕ → ℕ
plus_zero b = cond (eqb b (2 ^ 63)) 0 b

-- the sum of the lows toward negative (4), and that of the highs toward positive (3)
unfoldable pub lower_total : List Amount → ℕ
lower_total l = plus_zero (plain_total binary64 (with_rounding 4) (map low_of l))

unfoldable pub upper_total : (ceiling : ℕ) → List Amount → ℕ
upper_total z l = plus_zero (plain_total binary64 (with_rounding 3) (map (high_of z) l))

pub record Range : Type 0 where
  pub lower : ℕ
  pub upper : ℕ
  pub refusal : ℕ
  pub place : ℕ

-- a refused call: the number, and nothing else
abbrev pub refused_range : ℕ → Range
refused_range n = record { lower = 0; upper = 0; refusal = n; place = 0 }

-- a call by its refusal number n
abbrev pub ranged : (n lower upper : ℕ) → Range
ranged n lower upper = cond (eqb n 0)
    (record { lower = lower; upper = upper; refusal = 0; place = 0 }) (refused_range n)

-- THE ANSWER of a range total
unfoldable pub range_answer : (tags firsts seconds : List ℕ) (ceiling : ℕ) → Range
range_answer ts xs ys z = ranged (range_refusal ts xs ys z) (lower_total (entries ts xs ys))
    (upper_total z (entries ts xs ys))
