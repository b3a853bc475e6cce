-- An exact sum, in units of the list's format, rounded once into another format: the target.
-- The unit is moved below the grid of either, so that both the sum and the grid are whole numbers of
-- units; a target has at most the list's digits, so what a chain ends with rounds as the exact sum
-- does.
use Rattle.std.specs.Prelude.{ℕ, [], List, ◌+◌, false, Bool, true, cond}
use Rattle.std.proofs.Math.IntN.{sub_ℕ}
use Rattle.totals_spec.specs.formats.Settings.{Settings, value}
use Rattle.totals_spec.specs.Basics.{Signed, raised, flag, any}
use Rattle.totals_spec.specs.formats.Format.{Format, digits, lift, origin, depth, fall}
use Rattle.totals_spec.specs.chain.Chain.{chain, Run}
use Rattle.totals_spec.specs.sums.Totals.{sum_terms, sum_rounded, towards_negative, Answer, special}
use Rattle.totals_spec.specs.sums.Totals.{zero_sign}
use Rattle.totals_spec.specs.chain.Settled.{settled}
use Rattle.totals_spec.specs.terms.Terms.{exact_sum, Item, is_zero, terms}
use Rattle.totals_spec.specs.rounding.Round.{Rounded}
use Rattle.totals_spec.specs.formats.Decode.{decode, zero_of}
use Rattle.totals_spec.specs.formats.Encode.{encode}
use Rattle.totals_spec.specs.rounding.Side.{side_of}

-- ---- reading the list

-- denormals-are-zero is given once, with the list: every setting 0 but that
unfoldable pub reading_with : ℕ → Settings
reading_with d =
    record {
      rounding = 0;
      tininess = 0;
      nan_propagation = 0;
      default_nan_sign = 0;
      flush_to_zero = 0;
      denormals_are_zero = d;
      saturate = 0;
      precision = 0;
    }

-- what the chain of passes over the list ends with, and the exact sum; in units of the list's
-- format
abbrev pub unrounded_total : Format → ℕ → List ℕ → Signed
unrounded_total f d l = settled (chain (digits f) (sum_terms f (reading_with d) value l)).outcome

abbrev pub exact_total : Format → ℕ → List ℕ → Signed
exact_total f d l = exact_sum (sum_terms f (reading_with d) value l)

-- ---- into a target t

-- From a unit `depth t + fall f` positions lower, the list's bit worth 1 stands at origin f + depth
-- t, and so the target's least non-zero number, which is 2^(lift t − depth t), at origin f + lift
-- t: neither lies below the unit, wherever the two grids are
abbrev pub target_grid : Format → Format → ℕ
target_grid f t = origin f false + lift t

abbrev pub on_target : Format → Format → Signed → Signed
on_target f t x = raised (depth t + fall f false) x

-- x, in units of the list's format f, rounded once; where it is 0, a zero of the sign that the
-- target's mode gives
unfoldable pub rounded_into : Format → Format → Settings → Signed → Rounded
rounded_into f t c x = sum_rounded t c (target_grid f t) (towards_negative c) (on_target f t x)

-- the sum x, rounded, and the chain behind it. Result, flags and side are the target's; flag 128,
-- the passes and the last edge are the list's
unfoldable pub printed : Format → Format → Bool → Signed → Rounded → Run → Answer
printed f t sub x r h = record {
  result = encode t r.value;
  flags = flag 128 sub + r.flags;
  passes = h.passes;
  last_edge = sub_ℕ (h.edge + fall f false) (origin f false);
  refusal = 0;
  place = 0;
  side = side_of (target_grid f t) (decode t (encode t r.value)) (on_target f t x);
}

-- finite values: the exact sum where there is a term, else a zero, of the sign that the
-- specification gives it under the target's mode
unfoldable pub printed_items : Format → Format → Settings → Bool → List Item → Answer
printed_items f t c sub l =
    cond (any (λ x. true) (terms l))
    (printed f t sub (exact_sum (terms l)) (rounded_into f t c (exact_sum (terms l)))
    (chain (digits f) (terms l)))
    (special t sub
    (zero_of (zero_sign (any (is_zero false) l) (any (is_zero true) l) (towards_negative c))) false)

-- ---- the settings c with another denormals-are-zero: those of a plain sum that reads the list as
-- this one does

unfoldable pub with_reading : ℕ → Settings → Settings
with_reading d c = record {
  rounding = c.rounding;
  tininess = c.tininess;
  nan_propagation = c.nan_propagation;
  default_nan_sign = c.default_nan_sign;
  flush_to_zero = c.flush_to_zero;
  denormals_are_zero = d;
  saturate = c.saturate;
  precision = c.precision;
}
