-- The pence of an encoding: a hundred times its number, rounded to an integer, half a penny away
-- from zero; or a refusal, 3, 7 or 8. There is one element, so the place is 0. And the pence of a
-- list: a hundred times its exact sum, rounded once and in that way; or a refusal, 3, 6, 7 or 8.
use Rattle.std.specs.Prelude.{ℕ, ℤ, pos, suc, ◌+◌, ◌*◌, ◌/◌, ◌^◌, Bool, cond, ltb, neg_ℤ, not}
use Rattle.std.specs.Prelude.{false, List, length}
use Rattle.totals_spec.specs.formats.Decode.{Unpacked, zero_of, finite, infinity, nan, decode}
use Rattle.totals_spec.specs.formats.Decode.{is_number}
use Rattle.totals_spec.specs.formats.Format.{Format, valid_format, depth, lift, origin, fall}
use Rattle.totals_spec.specs.sums.Totals.{stray, limit, first_index, sum_terms}
use Rattle.totals_spec.specs.Basics.{Signed, any}
use Rattle.totals_spec.specs.formats.Settings.{no_settings, value}
use Rattle.totals_spec.specs.terms.Terms.{exact_sum}

pub record Pence : Type 0 where
  pub figure : ℤ
  pub refusal : ℕ
  pub place : ℕ

abbrev pub refused_at : ℕ → ℕ → Pence
refused_at n i = record { figure = pos 0; refusal = n; place = i }

abbrev pub refused_pence : ℕ → Pence
refused_pence n = refused_at n 0

-- m × 2^k / 2^d: 100 times that and a half, cut to a whole number
unfoldable pub pence_of : ℕ → ℕ → ℕ → ℕ
pence_of d k m = (200 * m * 2 ^ k + 2 ^ d) / 2 ^ suc d

-- at most 9,223,372,036,854,775,807 either way
abbrev pub in_range : Bool → ℕ → Pence
in_range s n = cond (ltb n (2 ^ 63))
    (record { figure = cond s (neg_ℤ (pos n)) (pos n); refusal = 0; place = 0 }) (refused_pence 8)

-- a decoded value, where the least non-zero number is 2^(n − d)
abbrev pub figure_of : ℕ → ℕ → Unpacked → Pence
figure_of d n (zero_of s) = record { figure = pos 0; refusal = 0; place = 0 }
figure_of d n (finite s k m) = in_range s (pence_of d (k + n) m)
figure_of d n (infinity s) = refused_pence 8
figure_of d n (nan s g m) = refused_pence 8

-- THE PENCE of one encoding
unfoldable pub pence_answer : Format → ℕ → Pence
pence_answer f b =
    cond (not (valid_format f)) (refused_pence 3)
    (cond (stray f b) (refused_pence 7)
    (figure_of (depth f) (lift f) (decode f b)))

-- ---- of a list

-- a NaN or an infinity
abbrev pub not_number : Format → ℕ → Bool
not_number f b = not (is_number (decode f b))

-- of a sum in units: 2^fall times that, where 2^origin is 1 (`Format`)
unfoldable pub sum_figure : Format → Signed → Pence
sum_figure f x = in_range x.neg (pence_of (origin f false) (fall f false) x.mag)

-- THE PENCE of a list. It has no settings, so subnormal numbers count as they are
unfoldable pub sum_pence : Format → List ℕ → Pence
sum_pence f l =
    cond (not (valid_format f)) (refused_pence 3)
    (cond (ltb limit (length l)) (refused_pence 6)
    (cond (any (stray f) l) (refused_at 7 (first_index (stray f) l))
    (cond (any (not_number f) l) (refused_pence 8)
    (sum_figure f (exact_sum (sum_terms f no_settings value l))))))
