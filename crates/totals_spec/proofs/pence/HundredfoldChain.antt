-- The pence of a list by the chain over its terms, a hundred times each.
use mathlib.Core.List.{List, [], ◌∷◌, map}
use Prim.Native.Nat.{ℕ, ◌-◌, ◌≤◌, ◌+◌, ◌*◌, ◌^◌, ◌<◌, suc, ◌/◌}
use native.Mathlib.Omega.{arith}
use native.Mathlib.Nat.{le_trans, le_of_eq, mul-add, pow-succ', mul-le-mul_right}
use lib.ListN.{length, length-map}
use mathlib.Core.Path.{◌≡◌, refl, sym, ap₂, ◌∙◌, ap}
use mathlib.Core.Bool.{Bool, true, false, not}
use lib.Pow.{pow-add, shr-shr, pow_mono}
use lib.Dec.{T, ltb, ltb→lt, nltb→le, lit≤}
use borrow.Author.Tests.{lt-ltb, le-ltb}
use lib.Arith.{digits_div}
use mathlib.Core.Logic.{inl, inr}
use Rattle.totals_spec.specs.Basics.{keep, total, Signed, difference, raised}
use Rattle.totals_spec.specs.formats.Format.{Format, room, origin, fall}
use Rattle.totals_spec.specs.formats.Settings.{Settings, value, no_settings}
use Rattle.totals_spec.specs.formats.Decode.{Unpacked, zero_of, finite, infinity, nan, operand}
use Rattle.totals_spec.specs.terms.Terms.{term_of, Term, single, product, item, item_of, plus_part}
use Rattle.totals_spec.specs.terms.Terms.{plus_sum, minus_part, minus_sum, exact_sum}
use Rattle.totals_spec.specs.pence.Hundredfold.{hundred_of, hundred_item, hundred_terms}
use Rattle.totals_spec.specs.pence.Hundredfold.{nearest_whole, whole_figure}
use Rattle.totals_spec.specs.sums.Totals.{sum_terms}
use Rattle.totals_spec.specs.pence.Pence.{in_range, pence_of, sum_figure}
use Rattle.totals_spec.specs.pence.Promises.{Pence-by-chain}
use Rattle.totals_spec.proofs.terms.GoodTerms.{AllGood, Decoded, decoded-operand, good-product}
use Rattle.totals_spec.proofs.terms.GoodTerms.{picked-length}
use Rattle.totals_spec.proofs.pence.NearestWhole.{half_up, reaches, range-large}
use Rattle.totals_spec.proofs.chain.AlikeNumbers.{Between, Alike, alike-raised}
use Rattle.totals_spec.proofs.chain.RoundsAsTheSum.{chain-right}

-- ---- the terms: good, and no more of them than elements

pub good-hundred : (f : Format) (c : Settings) (l : List ℕ) → AllGood (hundred_terms f c l)
unfolding hundred_item
good-hundred f c [] = tt
good-hundred f c (b ∷ l) = go (operand f c b) (decoded-operand f c b) (good-hundred f c l)
  where
    go : (x : Unpacked) → Decoded f x → AllGood (hundred_terms f c l) → AllGood (keep (term_of (hundred_of x)) (hundred_terms f c l))
    go (zero_of s) d h = h
    go (finite s k m) d h = (good-product s k m 0 100 d.0 (omega arith), h)
    go (infinity s) d h = h
    go (nan s g m) d h = h

pub few-hundred : (f : Format) (c : Settings) (l : List ℕ) → length (hundred_terms f c l) ≤ length l
few-hundred f c l = le_trans (picked-length term_of (map (hundred_item f c) l)) (le_of_eq (length-map l (hundred_item f c)))

-- ---- a hundred times the list's own

-- a part of them, where it is so of each term
module _ (part : Term → ℕ) (each : (s : Bool) (k m : ℕ) → part (product s k m 0 100) ≡ 100 * part (single s k m)) where
  part-hundred : (f : Format) (c : Settings) (l : List ℕ) → total part (hundred_terms f c l) ≡ 100 * total part (sum_terms f c value l)
  unfolding hundred_item item
  part-hundred f c [] = refl
  part-hundred f c (b ∷ l) = go (operand f c b) (part-hundred f c l)
    where
      go : (x : Unpacked) → total part (hundred_terms f c l) ≡ 100 * total part (sum_terms f c value l)
          → total part (keep (term_of (hundred_of x)) (hundred_terms f c l))
          ≡ 100 * total part (keep (term_of (item_of value x)) (sum_terms f c value l))
      go (zero_of s) h = h
      go (finite s k m) h = ap₂ ◌+◌ (each s k m) h ∙ sym (mul-add 100 (part (single s k m)) (total part (sum_terms f c value l)))
      go (infinity s) h = h
      go (nan s g m) h = h

hundred-mag : (k m r : ℕ) → m * 100 * 2 ^ (k + 0 + r) ≡ 100 * (m * 2 ^ (k + r))
hundred-mag k m r = rw (pow-add 2 (k + 0) r, pow-add 2 k 0, pow-add 2 k r) (omega arith)

plus-hundred : (f : Format) (c : Settings) (l : List ℕ) → plus_sum (hundred_terms f c l) ≡ 100 * plus_sum (sum_terms f c value l)
unfolding plus_sum product single
plus-hundred = part-hundred plus_part each
  where
    each : (s : Bool) (k m : ℕ) → plus_part (product s k m 0 100) ≡ 100 * plus_part (single s k m)
    each true k m = refl
    each false k m = hundred-mag k m room

minus-hundred : (f : Format) (c : Settings) (l : List ℕ) → minus_sum (hundred_terms f c l) ≡ 100 * minus_sum (sum_terms f c value l)
unfolding minus_sum product single
minus-hundred = part-hundred minus_part each
  where
    each : (s : Bool) (k m : ℕ) → minus_part (product s k m 0 100) ≡ 100 * minus_part (single s k m)
    each true k m = hundred-mag k m room
    each false k m = refl

abbrev hundredfold : Signed → Signed
hundredfold x = record { neg = x.neg; mag = 100 * x.mag }

difference-hundred : (a b : ℕ) → difference (100 * a) (100 * b) ≡ hundredfold (difference a b)
unfolding difference
difference-hundred a b = λ i. record { neg = sign (ltb a b) (ltb→lt a b) (nltb→le a b) i; mag = size i }
  where
    sign : (t : Bool) → (T t → a < b) → (T (not t) → b ≤ a) → ltb (100 * a) (100 * b) ≡ t
    sign true h g = lt-ltb (100 * a) (100 * b) (omega (arith, h tt))
    sign false h g = le-ltb (100 * a) (100 * b) (omega (arith, g tt))

    size : 100 * a - 100 * b + (100 * b - 100 * a) ≡ 100 * (a - b + (b - a))
    size = omega arith

-- ---- numbers that are alike at 64 digits have one figure

-- a penny lies above what is not known of them: the figure is found from j
near : (d j t a : ℕ) → a < 2 ^ t → t < d → (2 * (j * 2 ^ t + a) + 2 ^ d) / 2 ^ suc d ≡ (j / 2 ^ (d - suc t) + 1) / 2
near d j t a h g = half_up (2 * (j * 2 ^ t + a)) d ∙ ap (λ (n : ℕ). (n + 1) / 2) from-j
  where
    twice : 2 * (j * 2 ^ t + a) ≡ j * 2 ^ suc t + 2 * a
    twice = rw (pow-succ' 2 t) (omega arith)

    place : d ≡ suc t + (d - suc t)
    place = omega arith

    small : 2 * a < 2 ^ suc t
    small = omega (arith, pow-succ' 2 t)

    from-j : 2 * (j * 2 ^ t + a) / 2 ^ d ≡ j / 2 ^ (d - suc t)
    from-j =
        ap₂ (λ (x n : ℕ). x / 2 ^ n) twice place
        ∙ sym (shr-shr (j * 2 ^ suc t + 2 * a) (suc t) (d - suc t))
        ∙ ap (λ (x : ℕ). x / 2 ^ (d - suc t)) (digits_div j small)

-- else it is too large
far : (d j t a : ℕ) → 2 ^ 64 ≤ j → d ≤ t → 2 ^ 63 ≤ (2 * (j * 2 ^ t + a) + 2 ^ d) / 2 ^ suc d
far d j t a h g = reaches 63 d (j * 2 ^ t + a) (le_trans (pow_mono place) (omega (arith, pow-add 2 64 t, mul-le-mul_right (2 ^ t) h)))
  where
    place : d + 63 ≤ 64 + t
    place = omega arith

figure-between : (d p : ℕ) (x y : Signed) → 64 ≤ p → Between p x y
    → in_range x.neg ((2 * x.mag + 2 ^ d) / 2 ^ suc d) ≡ in_range y.neg ((2 * y.mag + 2 ^ d) / 2 ^ suc d)
figure-between d p x y q h = rw (h.sign, h.x-is, h.y-is) (go (ltb h.t d) (ltb→lt h.t d) (nltb→le h.t d))
  where
    big : 2 ^ 64 ≤ h.j
    big = le_trans (pow_mono q) h.big

    go : (b : Bool) → (T b → h.t < d) → (T (not b) → d ≤ h.t)
        → in_range y.neg ((2 * (h.j * 2 ^ h.t + h.a) + 2 ^ d) / 2 ^ suc d) ≡ in_range y.neg ((2 * (h.j * 2 ^ h.t + h.b) + 2 ^ d) / 2 ^ suc d)
    go true l g = ap (in_range y.neg) (near d h.j h.t h.a h.a_lt (l tt) ∙ sym (near d h.j h.t h.b h.b_lt (l tt)))
    go false l g = range-large y.neg _ (far d h.j h.t h.a big (g tt)) ∙ sym (range-large y.neg _ (far d h.j h.t h.b big (g tt)))

figure-alike : (f : Format) (p : ℕ) (x y : Signed) → 64 ≤ p → Alike p x y → whole_figure f x ≡ whole_figure f y
unfolding whole_figure nearest_whole raised
figure-alike f p x y q h = go (alike-raised p (fall f false) x y h)
  where
    go : Alike p (raised (fall f false) x) (raised (fall f false) y) → whole_figure f x ≡ whole_figure f y
    go (inl e) = ap (λ (z : Signed). in_range z.neg ((2 * z.mag + 2 ^ origin f false) / 2 ^ suc (origin f false))) e
    go (inr e) = figure-between (origin f false) p (raised (fall f false) x) (raised (fall f false) y) q e

-- ---- THE PENCE of a list

figure-hundred : (f : Format) (x : Signed) → whole_figure f (hundredfold x) ≡ sum_figure f x
unfolding whole_figure sum_figure nearest_whole pence_of
figure-hundred f x = ap (λ (z : ℕ). in_range x.neg ((z + 2 ^ origin f false) / 2 ^ suc (origin f false))) twice
  where
    twice : 2 * (100 * x.mag * 2 ^ fall f false) ≡ 200 * x.mag * 2 ^ fall f false
    twice = omega arith

pub pence-by-chain : Pence-by-chain
pence-by-chain f l h =
    figure-alike f _ _ _ (lit≤ tt)
    (chain-right _ (hundred_terms f no_settings l) (lit≤ tt) (good-hundred f no_settings l) (le_trans (few-hundred f no_settings l) (le_trans h (lit≤ tt))))
    ∙ ap (whole_figure f) (ap₂ difference (plus-hundred f no_settings l) (minus-hundred f no_settings l) ∙ difference-hundred _ _)
    ∙ figure-hundred f (exact_sum (sum_terms f no_settings value l))
