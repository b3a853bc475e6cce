-- Figures of ranges by their bits, and entries by their tags.
use mathlib.Core.Path.{◌≡◌, refl, sym, ap, ap₂, ◌∙◌, subst}
use mathlib.Core.Logic.{◌≢◌}
use mathlib.Core.Bool.{Bool, true, false, not, ◌&&◌, cond, true≢false}
use Prim.Native.Nat.{ℕ, ◌+◌, ◌/◌, ◌%◌, ◌^◌, ◌≤◌, ◌<◌}
use native.Mathlib.Nat.{div-eq_of_lt, mod-eq_of_lt}
use native.Mathlib.Omega.{arith}
use lib.Dec.{T, eqb, leb}
use lib.Pow.{field}
use lib.Ieee as ieee
use lib.Ieee.Bits.{to_bits-of_bits, nan_bits_is}
use borrow.Author.Tests.{le-leb, lt-leb, leb-true, leb-false, eq-eqb, ne_eqb, eqb-true, eqb-false}
use Rattle.totals_spec.specs.formats.Format.{binary64}
use Rattle.totals_spec.specs.formats.Decode.{Unpacked, zero_of, finite, infinity, nan, sign_bit, field_of, fraction_of, decode, is_number, is_nan}
use Rattle.totals_spec.specs.sums.Totals.{stray}
use Rattle.figures_spec.specs.ranges.Ranges.{amount_of, known, between, figure_worth, good_figure}
use Rattle.totals_spec.specs.formats.Ordered.{at_most}
use Rattle.totals_spec.proofs.formats.Valid.{and_right}
use Rattle.totals_spec.proofs.formats.NumbersInOrder.{ordered_bits}
use Rattle.figures_spec.proofs.ranges.FiguresInOrder.{figures-ordered}

-- ---- the order of two finite doubles

abbrev sign : ℕ
sign = 9223372036854775808

plus-sign : (b : ℕ) → b < sign → sign_bit binary64 b ≡ false
unfolding binary64
plus-sign b h = ap (λ (n : ℕ). eqb (n % 2) 1) (div-eq_of_lt h)

minus-sign : (b : ℕ) → sign ≤ b → b < 2 ^ 64 → sign_bit binary64 b ≡ true
unfolding binary64
minus-sign b h k = ap (λ (n : ℕ). eqb (n % 2) 1) one
  where
    one : b / 2 ^ 63 ≡ 1
    one = omega arith

minus-bits : (b : ℕ) → sign ≤ b → b < 2 ^ 64 → b % 2 ^ 63 + sign ≡ b
minus-bits b h k = omega arith

module _ (a b : ℕ) (h : T (good_figure a)) (k : T (good_figure b)) where
  by-signs : {s t : Bool} → sign_bit binary64 a ≡ s → sign_bit binary64 b ≡ t
      → ordered_bits s t (a % 2 ^ 63) (b % 2 ^ 63) ≡ at_most (figure_worth a) (figure_worth b)
  by-signs p q = sym (figures-ordered a b h k ∙ ap₂ (λ s t. ordered_bits s t (a % 2 ^ 63) (b % 2 ^ 63)) p q)

  pub both-plus : a < sign → b < sign → leb a b ≡ at_most (figure_worth a) (figure_worth b)
  both-plus i j = ap₂ leb (sym (mod-eq_of_lt i)) (sym (mod-eq_of_lt j)) ∙ by-signs (plus-sign a i) (plus-sign b j)

  pub minus_plus : sign ≤ a → a < 2 ^ 64 → b < sign → true ≡ at_most (figure_worth a) (figure_worth b)
  minus_plus i l j = by-signs (minus-sign a i l) (plus-sign b j)

  pub both-minus : sign ≤ a → a < 2 ^ 64 → sign ≤ b → b < 2 ^ 64 → leb b a ≡ at_most (figure_worth a) (figure_worth b)
  both-minus i l j m = go (leb b a) refl ∙ by-signs (minus-sign a i l) (minus-sign b j m)
    where
      go : (t : Bool) → leb b a ≡ t → t ≡ leb (b % 2 ^ 63) (a % 2 ^ 63)
      go true e = sym (le-leb (b % 2 ^ 63) (a % 2 ^ 63) (omega (arith, leb-true b a e, minus-bits a i l, minus-bits b j m)))
      go false e = sym (lt-leb (b % 2 ^ 63) (a % 2 ^ 63) (omega (arith, leb-false b a e, minus-bits a i l, minus-bits b j m)))

  -- only zeros are alike
  pub plus-minus : a < sign → a ≢ 0 → sign ≤ b → b < 2 ^ 64 → false ≡ at_most (figure_worth a) (figure_worth b)
  plus-minus i n j m =
      sym (ap (λ t. t && eqb (b % 2 ^ 63) 0) (ne_eqb (a % 2 ^ 63) 0 (λ e. n (sym (mod-eq_of_lt i) ∙ e)))) ∙ by-signs (plus-sign a i) (minus-sign b j m)

  pub zero_minus : a ≡ 0 → sign ≤ b → b < 2 ^ 64 → eqb b sign ≡ at_most (figure_worth a) (figure_worth b)
  zero_minus e j m =
      go (eqb b sign) refl ∙ ap (λ n. eqb (n % 2 ^ 63) 0 && eqb (b % 2 ^ 63) 0) (sym e) ∙ by-signs (plus-sign a (omega (arith, e))) (minus-sign b j m)
    where
      go : (t : Bool) → eqb b sign ≡ t → t ≡ eqb (b % 2 ^ 63) 0
      go true e = sym (eq-eqb (b % 2 ^ 63) 0 (omega (arith, eqb-true b sign e, minus-bits b j m)))
      go false e = sym (ne_eqb (b % 2 ^ 63) 0 (λ i. eqb-false b sign e (omega (arith, i, minus-bits b j m))))

-- ---- doubles read from words

-- the kit's NaNs are ours
pub no_nan : (b : ℕ) → is_nan (decode binary64 b) ≡ false → T (not (ieee.nan_bits ieee.binary64 b))
unfolding decode binary64 ieee.nan_bits
no_nan b h = rw (field b 11 52) (go (eqb (field_of binary64 b) 2047) (eqb (fraction_of binary64 b) 0) _ _ _ _ h)
  where
    go : (a z s g : Bool) (n : ℕ) (v : Unpacked) → is_nan (cond a (cond z (infinity s) (nan s g n)) v) ≡ false → T (not (a && not z))
    go true true s g n v e = tt
    go true false s g n v e = absurd (true≢false e)
    go false z s g n v e = tt

pub figure-no-nan : (b : ℕ) → T (good_figure b) → is_nan (decode binary64 b) ≡ false
figure-no-nan b h = go (decode binary64 b) (and_right (not (stray binary64 b)) (is_number (decode binary64 b)) h)
  where
    go : (v : Unpacked) → T (is_number v) → is_nan v ≡ false
    go (zero_of s) h = refl
    go (finite s k m) h = refl
    go (infinity s) h = refl
    go (nan s g m) h = absurd h

pub written-again : (b : ℕ) → b < 2 ^ 64 → is_nan (decode binary64 b) ≡ false → ieee.to_bits ieee.binary64 (ieee.of_bits ieee.binary64 b) ≡ b
written-again b h k = to_bits-of_bits ieee.binary64 b h (subst (λ (t : Bool). T (not t)) (nan_bits_is ieee.binary64 b) (no_nan b k))

-- ---- entries by their tags

pub known_is : (t x y : ℕ) → t ≡ 0 → amount_of t x y ≡ known x
known_is t x y e = ap (λ n. amount_of n x y) e

pub between_is : (t x y : ℕ) → t ≡ 1 → amount_of t x y ≡ between x y
between_is t x y e = ap (λ n. amount_of n x y) e
