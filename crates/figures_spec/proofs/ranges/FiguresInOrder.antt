-- Finite doubles lie in the order of their bits below the sign.
use mathlib.Core.Path.{◌≡◌, refl, sym, ap₂, ap, ◌∙◌}
use mathlib.Core.Bool.{Bool, true, false, not, cond}
use Prim.Native.Nat.{ℕ, zero, suc, ◌^◌, ◌<◌, ◌%◌, ◌+◌}
use lib.Dec.{eqb, T, leb}
use borrow.Author.Tests.{lt-leb}
use lib.Pow.{field, mod-mod-pow}
use Rattle.totals_spec.specs.formats.Format.{binary64, fraction_bits}
use Rattle.totals_spec.specs.formats.Decode.{infinity, nan, field_of, fraction_of, number}
use Rattle.totals_spec.specs.formats.Decode.{is_number, decode, sign_bit}
use Rattle.totals_spec.specs.Basics.{plus_of, minus_of}
use Rattle.totals_spec.specs.sums.Totals.{stray}
use Rattle.totals_spec.specs.formats.Ordered.{worth, at_most}
use Rattle.totals_spec.proofs.formats.NumbersInOrder.{magnitude_at, magnitude_of, is-ieee}
use Rattle.totals_spec.proofs.formats.NumbersInOrder.{plus-by-fields, minus-by-fields, ordered_bits}
use Rattle.totals_spec.proofs.formats.NumbersInOrder.{bits-ordered}
use Rattle.totals_spec.proofs.formats.Valid.{and_right}
use Rattle.figures_spec.specs.ranges.Ranges.{good_figure, figure_worth}

-- ---- finite doubles, by their bits

-- no field but the last, which is that of infinities and NaNs
pub figure-by-field : (b : ℕ) → b < 2 ^ 64 → good_figure b ≡ not (eqb (field_of binary64 b) 2047)
unfolding decode binary64
figure-by-field b h = rw (lt-leb (2 ^ 64) b h) (go (eqb (field_of binary64 b) 2047) (eqb (fraction_of binary64 b) 0) _ (field_of binary64 b) _ _ _)
  where
    is-number : (t : ℕ) (s : Bool) (x m : ℕ) → is_number (number t s x m) ≡ true
    is-number t s zero zero = refl
    is-number t s zero (suc m) = refl
    is-number t s (suc x) m = refl

    go : (a z s : Bool) (x m : ℕ) (g : Bool) (n : ℕ) → is_number (cond a (cond z (infinity s) (nan s g n)) (number 52 s x m)) ≡ not a
    go true true s x m g n = refl
    go true false s x m g n = refl
    go false z s x m g n = is-number 52 s x m

-- what the bits below the sign are worth
bits-worth : (b : ℕ) → magnitude_at (fraction_bits binary64) (field_of binary64 b) (fraction_of binary64 b) ≡ magnitude_of 52 (b % 2 ^ 63)
unfolding binary64
bits-worth b = ap₂ (magnitude_at 52) (sym (field b 11 52)) (sym (mod-mod-pow b 11 52))

-- THE ORDER of two finite doubles
pub figures-ordered : (a b : ℕ) → T (good_figure a) → T (good_figure b)
    → at_most (figure_worth a) (figure_worth b) ≡ ordered_bits (sign_bit binary64 a) (sign_bit binary64 b) (a % 2 ^ 63) (b % 2 ^ 63)
unfolding figure_worth
figures-ordered a b h k =
    ap₂ leb (ap₂ ◌+◌ (plus a h) (minus b k)) (ap₂ ◌+◌ (plus b k) (minus a h))
    ∙ bits-ordered 52 (sign_bit binary64 a) (sign_bit binary64 b) (a % 2 ^ 63) (b % 2 ^ 63)
  where
    is-number : (n : ℕ) → T (good_figure n) → T (is_number (decode binary64 n))
    is-number n h = and_right (not (stray binary64 n)) (is_number (decode binary64 n)) h

    plus : (n : ℕ) → T (good_figure n) → plus_of (worth (decode binary64 n)) ≡ cond (sign_bit binary64 n) 0 (magnitude_of 52 (n % 2 ^ 63))
    plus n h = plus-by-fields binary64 is-ieee n (is-number n h) ∙ ap (cond (sign_bit binary64 n) 0) (bits-worth n)

    minus : (n : ℕ) → T (good_figure n) → minus_of (worth (decode binary64 n)) ≡ cond (sign_bit binary64 n) (magnitude_of 52 (n % 2 ^ 63)) 0
    minus n h = minus-by-fields binary64 is-ieee n (is-number n h) ∙ ap (λ (m : ℕ). cond (sign_bit binary64 n) m 0) (bits-worth n)
