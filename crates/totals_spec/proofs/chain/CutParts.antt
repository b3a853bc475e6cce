-- A pass against the exact sum: the cut parts, in units of 2^w, and what the cut drops, add up to
-- the exact sums; and what is dropped from each term is less than 2^lost units, so it is less than
-- one unit of 2^w a term, and nothing where nothing is lost.
use mathlib.Core.List.{[], List, ◌∷◌}
use Prim.Native.Nat.{ℕ, ◌%◌, ◌^◌, ◌+◌, ◌-◌, ◌*◌, ◌/◌, ◌<◌, ◌≤◌, suc, zero-le, suc-le-suc}
use mathlib.Core.Path.{◌≡◌, ap, sym, subst}
use native.Mathlib.Nat.{zero-mul, div-add-mod', mod-lt, mod-eq_of_lt, zero-mod, lt_of_lt_of_le}
use native.Mathlib.Nat.{le_trans, le-max_left, le-max_right, suc-mul, le_refl}
use native.Mathlib.Omega.{arith}
use mathlib.Core.Bool.{Bool, true, false, cond}
use lib.Dec.{T, ltb, eqb, ltb→lt, eqb→eq}
use lib.Pow.{pow_pos, pow_mono}
use lib.Ieee.{size}
use lib.Ieee.Digits.{size-lt}
use lib.ListN.{length}
use Rattle.totals_spec.specs.terms.Terms.{Term, plus_part, minus_part, plus_sum, minus_sum}
use Rattle.totals_spec.specs.terms.Terms.{top_of_term, top_of}
use Rattle.totals_spec.specs.Basics.{total, greatest}
use Rattle.totals_spec.specs.chain.Chain.{cut_plus, cut_minus, lost_end, lost_of}
use Rattle.totals_spec.proofs.terms.GoodTerms.{Good, AllGood}

abbrev pub rest_plus : ℕ → Term → ℕ
rest_plus w t = plus_part t % 2 ^ w

abbrev pub rest_minus : ℕ → Term → ℕ
rest_minus w t = minus_part t % 2 ^ w

-- a total of quotients and a total of remainders
totals-split : (u : ℕ) (f : Term → ℕ) (ts : List Term) → total (λ t. f t / u) ts * u + total (λ t. f t % u) ts ≡ total f ts
totals-split u f [] = ap (λ (x : ℕ). x + 0) (zero-mul u)
totals-split u f (t ∷ ts) =
    joined (f t / u) (f t % u) (f t) (total (λ t. f t / u) ts) (total (λ t. f t % u) ts) (total f ts) (div-add-mod' (f t) u) (totals-split u f ts)
  where
    joined : (a b c x y z : ℕ) → a * u + b ≡ c → x * u + y ≡ z → (a + x) * u + (b + y) ≡ c + z
    joined a b c x y z p q = omega arith

pub plus-split : (w : ℕ) (ts : List Term) → total (cut_plus w) ts * 2 ^ w + total (rest_plus w) ts ≡ plus_sum ts
unfolding plus_sum
plus-split w ts = totals-split (2 ^ w) plus_part ts

pub minus-split : (w : ℕ) (ts : List Term) → total (cut_minus w) ts * 2 ^ w + total (rest_minus w) ts ≡ minus_sum ts
unfolding minus_sum
minus-split w ts = totals-split (2 ^ w) minus_part ts

-- ---- what is dropped

rest_lt : (w m : ℕ) → m % 2 ^ w < 2 ^ lost_end w m
unfolding lost_end
rest_lt w m = go (ltb m (2 ^ w)) (ltb→lt m (2 ^ w)) (eqb (m % 2 ^ w) 0) (eqb→eq (m % 2 ^ w) 0)
  where
    go : (b : Bool) → (T b → m < 2 ^ w) → (e : Bool) → (T e → m % 2 ^ w ≡ 0) → m % 2 ^ w < 2 ^ cond b (size m) (cond e 0 w)
    go true h e k = subst (λ (x : ℕ). x < 2 ^ size m) (sym (mod-eq_of_lt (h tt))) (size-lt m)
    go false h true k = subst (λ (x : ℕ). x < 2 ^ 0) (sym (k tt)) (pow_pos 0)
    go false h false k = mod-lt m (pow_pos w)

rest-term : (w L : ℕ) (t : Term) → lost_of w t ≤ L → rest_plus w t + rest_minus w t ≤ 2 ^ L - 1
rest-term w L t h = go t.neg
  where
    one : t.mag % 2 ^ w < 2 ^ L
    one = lt_of_lt_of_le (rest_lt w t.mag) (pow_mono h)

    go : (s : Bool) → (cond s 0 t.mag) % 2 ^ w + (cond s t.mag 0) % 2 ^ w ≤ 2 ^ L - 1
    go true = let e : 0 % 2 ^ w + t.mag % 2 ^ w ≤ 2 ^ L - 1 = omega (arith, one, zero-mod (2 ^ w)) in e
    go false = let e : t.mag % 2 ^ w + 0 % 2 ^ w ≤ 2 ^ L - 1 = omega (arith, one, zero-mod (2 ^ w)) in e

pub rests-le : (w L : ℕ) (ts : List Term) → greatest (lost_of w) ts ≤ L → total (rest_plus w) ts + total (rest_minus w) ts ≤ length ts * (2 ^ L - 1)
rests-le w L [] h = zero-le
rests-le w L (t ∷ ts) h =
    joined (rest_plus w t) (rest_minus w t) (total (rest_plus w) ts) (total (rest_minus w) ts) (length ts) (2 ^ L - 1)
    (rest-term w L t (le_trans (le-max_left (lost_of w t) (greatest (lost_of w) ts)) h))
    (rests-le w L ts (le_trans (le-max_right (lost_of w t) (greatest (lost_of w) ts)) h))
  where
    joined : (a b x y n k : ℕ) → a + b ≤ k → x + y ≤ n * k → (a + x) + (b + y) ≤ suc n * k
    joined a b x y n k p q = omega (arith, suc-mul n k)

-- ---- the exact sum is below the number of terms times twice the weight of T

mags-term : (z : ℕ) (t : Term) → Good t → t.top ≤ z → plus_part t + minus_part t ≤ 2 ^ suc z
mags-term z t g h = go t.neg
  where
    one : t.mag < 2 ^ suc z
    one = lt_of_lt_of_le g.fits (pow_mono (suc-le-suc h))

    go : (s : Bool) → cond s 0 t.mag + cond s t.mag 0 ≤ 2 ^ suc z
    go true = let e : 0 + t.mag ≤ 2 ^ suc z = omega (arith, one) in e
    go false = let e : t.mag + 0 ≤ 2 ^ suc z = omega (arith, one) in e

mags-total : (z : ℕ) (ts : List Term) → AllGood ts → greatest top_of_term ts ≤ z → total plus_part ts + total minus_part ts ≤ length ts * 2 ^ suc z
mags-total z [] g h = zero-le
mags-total z (t ∷ ts) g h =
    joined (plus_part t) (minus_part t) (total plus_part ts) (total minus_part ts) (length ts) (2 ^ suc z)
    (mags-term z t g.0 (le_trans (le-max_left t.top (greatest top_of_term ts)) h))
    (mags-total z ts g.1 (le_trans (le-max_right t.top (greatest top_of_term ts)) h))
  where
    joined : (a b x y n k : ℕ) → a + b ≤ k → x + y ≤ n * k → (a + x) + (b + y) ≤ suc n * k
    joined a b x y n k p q = omega (arith, suc-mul n k)

pub mags-le : (ts : List Term) → AllGood ts → plus_sum ts + minus_sum ts ≤ length ts * 2 ^ suc (top_of ts)
unfolding plus_sum minus_sum top_of
mags-le ts g = mags-total (greatest top_of_term ts) ts g (le_refl (greatest top_of_term ts))
