-- The whole number nearest to a sum (`nearest_whole`), as a program finds it: from the digits that
-- a cut keeps and from what it drops, and without a cut where it is too large.
use mathlib.Core.Path.{◌≡◌, ap₂, ◌∙◌, sym, ap, refl, subst}
use Prim.Native.Nat.{ℕ, suc, ◌+◌, ◌-◌, ◌*◌, ◌/◌, ◌^◌, ◌<◌, ◌≤◌, ◌%◌}
use native.Mathlib.Nat.{pow-succ', mul-div-mul_right, div-eq_of_lt, pow-suc, add-div_right}
use native.Mathlib.Nat.{div-div-eq-div-mul, div-eq_of_lt-le, mod-lt, mul-add-div_right}
use native.Mathlib.Nat.{sub-add_cancel, lt_of_lt_of_le, le_trans, mul-le-mul_right}
use native.Mathlib.Omega.{arith}
use lib.Pow.{pow-add, pow_pos, split, pow_mono, shr_lt, shr_mono, shl-shr}
use mathlib.Core.Bool.{Bool, ◌||◌, true, false, not, cond}
use lib.Dec.{T, ltb, eqb, eqb→eq, ltb→lt, nltb→le}
use borrow.Author.Tests.{lt-ltb, le-ltb}
use lib.IntN.{pos}
use Rattle.totals_spec.specs.rounding.Round.{Dropped, is_half, is_above, nothing, below_half}
use Rattle.totals_spec.specs.rounding.Round.{at_half, above_half, compared, dropped, rounds_up}
use Rattle.totals_spec.specs.Basics.{flag, Signed}
use Rattle.totals_spec.specs.formats.Settings.{ties_to_away}
use Rattle.totals_spec.specs.pence.Hundredfold.{nearest_whole, whole_figure}
use Rattle.totals_spec.specs.pence.Pence.{refused_pence, in_range}
use Rattle.totals_spec.specs.formats.Format.{Format, origin, fall}

-- ---- y / 2^(d + 1) and a half, cut to a whole number

-- a common factor 2^e falls out
pub rescaled : (y d e : ℕ) → (y * 2 ^ e + 2 ^ (d + e)) / 2 ^ suc (d + e) ≡ (y + 2 ^ d) / 2 ^ suc d
rescaled y d e = ap₂ ◌/◌ above below ∙ mul-div-mul_right (y + 2 ^ d) (2 ^ suc d) (pow_pos e)
  where
    above : y * 2 ^ e + 2 ^ (d + e) ≡ (y + 2 ^ d) * 2 ^ e
    above = rw (pow-add 2 d e) (omega arith)

    below : 2 ^ suc (d + e) ≡ 2 ^ suc d * 2 ^ e
    below = rw (pow-succ' 2 (d + e), pow-succ' 2 d, pow-add 2 d e) (omega arith)

pub none-up : (y d : ℕ) → y ≡ 0 → (y + 2 ^ d) / 2 ^ suc d ≡ 0
none-up y d e = div-eq_of_lt half
  where
    half : y + 2 ^ d < 2 ^ suc d
    half = omega (arith, pow-succ' 2 d, pow_pos d)

-- the same as y / 2^d, cut and then halved upwards
pub half_up : (y d : ℕ) → (y + 2 ^ d) / 2 ^ suc d ≡ (y / 2 ^ d + 1) / 2
half_up y d =
    ap (λ (n : ℕ). (y + 2 ^ d) / n) (pow-suc 2 d) ∙ sym (div-div-eq-div-mul (y + 2 ^ d) (2 ^ d) 2) ∙ ap (λ (n : ℕ). n / 2) (add-div_right y (pow_pos d))

-- ---- a cut: half or more of what is dropped goes up

abbrev goes_up : Dropped → Bool
goes_up d = is_above d || is_half d

-- by the three tests of `compared`
half-or-more : (r w : ℕ) → 0 < w → goes_up (compared r w) ≡ not (ltb (r + r) w)
half-or-more r w h = go (eqb r 0) (ltb (r + r) w) (eqb (r + r) w) (λ t. lt-ltb (r + r) w (none t))
  where
    none : T (eqb r 0) → r + r < w
    none t = omega (arith, eqb→eq r 0 t)

    go : (a b c : Bool) → (T a → b ≡ true) → goes_up (cond a nothing (cond b below_half (cond c at_half above_half))) ≡ not b
    go true b c e = rw (e tt)
    go false true c e = refl
    go false false true e = refl
    go false false false e = refl

rest_up : (r w : ℕ) → r < w → (2 * r + w) / (2 * w) ≡ flag 1 (goes_up (compared r w))
rest_up r w h = go (ltb (r + r) w) (ltb→lt (r + r) w) (nltb→le (r + r) w) ∙ ap (flag 1) (sym (half-or-more r w some))
  where
    some : 0 < w
    some = omega arith

    go : (b : Bool) → (T b → r + r < w) → (T (not b) → w ≤ r + r) → (2 * r + w) / (2 * w) ≡ flag 1 (not b)
    go true l g = div-eq_of_lt (omega (arith, l tt))
    go false l g = div-eq_of_lt-le (2 * w) (omega (arith, g tt)) (omega (arith, h))

up_at : (x u : ℕ) → (2 * x + 2 ^ u) / 2 ^ suc u ≡ x / 2 ^ u + flag 1 (goes_up (dropped x u))
unfolding dropped
up_at x u =
    ap (λ (n : ℕ). n / 2 ^ suc u) whole
    ∙ mul-add-div_right (pow_pos (suc u)) (x / 2 ^ u) (2 * (x % 2 ^ u) + 2 ^ u)
    ∙ ap (λ (n : ℕ). x / 2 ^ u + n) (ap (λ (n : ℕ). (2 * (x % 2 ^ u) + 2 ^ u) / n) (pow-succ' 2 u) ∙ rest_up (x % 2 ^ u) (2 ^ u) (mod-lt x (pow_pos u)))
  where
    whole : 2 * x + 2 ^ u ≡ x / 2 ^ u * 2 ^ suc u + (2 * (x % 2 ^ u) + 2 ^ u)
    whole = rw (pow-succ' 2 u) (omega (arith, split x u))

pub nearest-cut : (d k x : ℕ) (s : Bool) → k ≤ d
    → nearest_whole d k x ≡ x / 2 ^ (d - k) + flag 1 (rounds_up ties_to_away s (x / 2 ^ (d - k)) (dropped x (d - k)))
unfolding nearest_whole
nearest-cut d k x s h =
    ap₂ (λ (y n : ℕ). (y + 2 ^ n) / 2 ^ suc n) twice (sym (sub-add_cancel h)) ∙ rescaled (2 * x) (d - k) k ∙ up_at x (d - k)
  where
    twice : 2 * (x * 2 ^ k) ≡ 2 * x * 2 ^ k
    twice = omega arith

-- the digits kept leave room for one more
pub kept_small : (d k x n : ℕ) → x < 2 ^ n → n + k ≤ d + 63 → x / 2 ^ (d - k) < 2 ^ 63
kept_small d k x n h g = shr_lt 63 (d - k) (lt_of_lt_of_le h (pow_mono place))
  where
    place : n ≤ 63 + (d - k)
    place = omega arith

-- ---- too large

pub reaches : (c d y : ℕ) → 2 ^ (d + c) ≤ y → 2 ^ c ≤ (2 * y + 2 ^ d) / 2 ^ suc d
reaches c d y h = subst (λ (n : ℕ). n ≤ (2 * y + 2 ^ d) / 2 ^ suc d) (shl-shr (2 ^ c) (suc d)) (shr_mono (suc d) below)
  where
    below : 2 ^ c * 2 ^ suc d ≤ 2 * y + 2 ^ d
    below = rw (pow-succ' 2 d) (omega (arith, pow-add 2 d c))

pub nearest-large : (d k x n : ℕ) → 2 ^ n ≤ x → d + 63 ≤ n + k → 2 ^ 63 ≤ nearest_whole d k x
unfolding nearest_whole
nearest-large d k x n h g = reaches 63 d (x * 2 ^ k) (le_trans (pow_mono g) (rw (pow-add 2 n k) (mul-le-mul_right (2 ^ k) h)))

pub range-large : (s : Bool) (n : ℕ) → 2 ^ 63 ≤ n → in_range s n ≡ refused_pence 8
range-large s n h = rw (le-ltb n (2 ^ 63) h)

-- ---- the record of a sum in pence

module _ (f : Format) where
  pub figure-none : whole_figure f (record { neg = false; mag = 0 }) ≡ record { figure = pos 0; refusal = 0; place = 0 }
  unfolding whole_figure nearest_whole
  figure-none = ap (in_range false) (none-up (2 * (0 * 2 ^ fall f false)) (origin f false) (omega arith))

  -- the place of a penny
  abbrev pub penny : ℕ
  penny = origin f false - fall f false

  module _ (x : Signed) where
    pub figure-large : (n : ℕ) → 2 ^ n ≤ x.mag → origin f false + 63 ≤ n + fall f false → whole_figure f x ≡ refused_pence 8
    unfolding whole_figure
    figure-large n h g = range-large x.neg _ (nearest-large (origin f false) (fall f false) x.mag n h g)

    pub figure-cut : fall f false ≤ origin f false
        → whole_figure f x ≡ in_range x.neg (x.mag / 2 ^ penny + flag 1 (rounds_up ties_to_away x.neg (x.mag / 2 ^ penny) (dropped x.mag penny)))
    unfolding whole_figure
    figure-cut h = ap (in_range x.neg) (nearest-cut (origin f false) (fall f false) x.mag x.neg h)
