-- How high and how low the terms of a format reach: T is at most the format's greatest position,
-- and B at least that of its least bit.
use mathlib.Core.List.{[], List, ◌∷◌, map}
use Prim.Native.Nat.{ℕ, ◌+◌, ◌-◌, ◌^◌, suc, ◌≤◌, ◌<◌, zero-le, ◌*◌, ◌/◌, ◌%◌}
use native.Mathlib.Omega.{arith}
use lib.Ieee.{size}
use lib.Ieee.Digits.{size-le}
use native.Mathlib.Nat.{max-le, le_trans, le_refl, lt_of_not-le, lt_of_lt_of_le, not-le_of_lt}
use native.Mathlib.Nat.{le_of_suc-le-suc, mul_assoc, mul-div_cancel, mul-mod_left, pow-succ'}
use native.Mathlib.Nat.{le-max_left}
use lib.Pow.{pow_mono, pow_pos}
use mathlib.Core.Path.{◌≡◌, sym, ap, ◌∙◌}
use Rattle.totals_spec.specs.formats.Format.{Format, fraction_bits, room}
use Rattle.totals_spec.specs.terms.Terms.{Item, nan_item, invalid_item, infinite, zero_item, term}
use Rattle.totals_spec.specs.terms.Terms.{Term, term_of, top_of_term, single, product, item_of}
use Rattle.totals_spec.specs.terms.Terms.{pair_of, terms, top_of, item, pair_item}
use Rattle.totals_spec.specs.Basics.{greatest, keep, least}
use Rattle.totals_spec.specs.formats.Settings.{Summand, value, magnitude, square, Settings}
use Rattle.totals_spec.specs.formats.Decode.{Unpacked, zero_of, finite, infinity, nan, operand}
use Rattle.totals_spec.specs.sums.Totals.{sum_terms, pairs, dot_terms}
use Rattle.totals_spec.specs.chain.Limit.{low_bit, low_of, bottom_of}
use Rattle.totals_spec.proofs.terms.GoodTerms.{Decoded, decoded-operand, Good, AllGood}
use Rattle.totals_spec.proofs.numbers.Bits.{multiple-ge, pow-split, low-set}

-- ---- T

-- the greatest position in a sum, and in a sum of products
abbrev pub top_most : Format → ℕ
top_most f = fraction_bits f + (2 ^ f.E - 2) + room

abbrev pub top_product : Format → ℕ
top_product f = (fraction_bits f + (2 ^ f.E - 2)) + (fraction_bits f + (2 ^ f.E - 2)) + 1 + room

single-top : (f : Format) (k m : ℕ) → m < 2 ^ suc (fraction_bits f) → k ≤ 2 ^ f.E - 2 → size m + k + room - 1 ≤ top_most f
single-top f k m h g = omega (arith, size-le m (suc (fraction_bits f)) h)

product-top : (f : Format) (k m j n : ℕ) → m < 2 ^ suc (fraction_bits f) → k ≤ 2 ^ f.E - 2 → n < 2 ^ suc (fraction_bits f) → j ≤ 2 ^ f.E - 2
    → size m + size n + k + j + room - 1 ≤ top_product f
product-top f k m j n h g i e = omega (arith, size-le m (suc (fraction_bits f)) h, size-le n (suc (fraction_bits f)) i)

abbrev pub TopLe : ℕ → Item → Type 0
TopLe z nan_item = Unit {0}
TopLe z invalid_item = Unit {0}
TopLe z (infinite s) = Unit {0}
TopLe z (zero_item s) = Unit {0}
TopLe z (term t) = t.top ≤ z

keep-top : (z : ℕ) (x : Item) (ts : List Term) → TopLe z x → greatest top_of_term ts ≤ z → greatest top_of_term (keep (term_of x) ts) ≤ z
keep-top z nan_item ts h k = k
keep-top z invalid_item ts h k = k
keep-top z (infinite s) ts h k = k
keep-top z (zero_item s) ts h k = k
keep-top z (term t) ts h k = max-le h k

most-product : (f : Format) → top_most f ≤ top_product f
most-product f = omega arith

pub item-top : (f : Format) (u : Summand) (x : Unpacked) → Decoded f x → TopLe (top_product f) (item_of u x)
unfolding single product
item-top f value (zero_of s) h = tt
item-top f value (finite s k m) h = le_trans (single-top f k m h.1 h.2) (most-product f)
item-top f value (infinity s) h = tt
item-top f value (nan s g m) h = tt
item-top f magnitude (zero_of s) h = tt
item-top f magnitude (finite s k m) h = le_trans (single-top f k m h.1 h.2) (most-product f)
item-top f magnitude (infinity s) h = tt
item-top f magnitude (nan s g m) h = tt
item-top f square (zero_of s) h = tt
item-top f square (finite s k m) h = product-top f k m k m h.1 h.2 h.1 h.2
item-top f square (infinity s) h = tt
item-top f square (nan s g m) h = tt

-- of values and magnitudes: no product
abbrev pub IsSingle : Summand → Type 0
IsSingle value = Unit {0}
IsSingle magnitude = Unit {0}
IsSingle square = ⊥

pub single-item-top : (f : Format) (u : Summand) (x : Unpacked) → IsSingle u → Decoded f x → TopLe (top_most f) (item_of u x)
unfolding single
single-item-top f value (zero_of s) i h = tt
single-item-top f value (finite s k m) i h = single-top f k m h.1 h.2
single-item-top f value (infinity s) i h = tt
single-item-top f value (nan s g m) i h = tt
single-item-top f magnitude (zero_of s) i h = tt
single-item-top f magnitude (finite s k m) i h = single-top f k m h.1 h.2
single-item-top f magnitude (infinity s) i h = tt
single-item-top f magnitude (nan s g m) i h = tt
single-item-top f square x i h = absurd i

pub pair-top : (f : Format) (x y : Unpacked) → Decoded f x → Decoded f y → TopLe (top_product f) (pair_of x y)
unfolding product
pair-top f (nan s g m) y h k = tt
pair-top f (zero_of s) (nan t b n) h k = tt
pair-top f (zero_of s) (zero_of t) h k = tt
pair-top f (zero_of s) (finite t j n) h k = tt
pair-top f (zero_of s) (infinity t) h k = tt
pair-top f (finite s i m) (nan t b n) h k = tt
pair-top f (finite s i m) (zero_of t) h k = tt
pair-top f (finite s i m) (finite t j n) h k = product-top f i m j n h.1 h.2 k.1 k.2
pair-top f (finite s i m) (infinity t) h k = tt
pair-top f (infinity s) (nan t b n) h k = tt
pair-top f (infinity s) (zero_of t) h k = tt
pair-top f (infinity s) (finite t j n) h k = tt
pair-top f (infinity s) (infinity t) h k = tt

-- one rule for a list of elements and for one of pairs
pub tops : {A : Type 0} (z : ℕ) (f : A → Item) → ((x : A) → TopLe z (f x)) → (l : List A) → top_of (terms (map f l)) ≤ z
unfolding top_of
tops z f h [] = zero-le
tops z f h (x ∷ l) = keep-top z (f x) (terms (map f l)) (h x) (tops z f h l)

pub sum_top : (f : Format) (c : Settings) (u : Summand) (l : List ℕ) → top_of (sum_terms f c u l) ≤ top_product f
sum_top f c u l = tops (top_product f) (item f c u) (λ b. unfold item in item-top f u (operand f c b) (decoded-operand f c b)) l

pub single-sum-top : (f : Format) (c : Settings) (u : Summand) → IsSingle u → (l : List ℕ) → top_of (sum_terms f c u l) ≤ top_most f
single-sum-top f c u i l = tops (top_most f) (item f c u) (λ b. unfold item in single-item-top f u (operand f c b) i (decoded-operand f c b)) l

pub dot-top : (f : Format) (c : Settings) (xs ys : List ℕ) → top_of (dot_terms f c xs ys) ≤ top_product f
dot-top f c xs ys =
    tops (top_product f) (pair_item f c)
    (λ x. unfold pair_item in pair-top f (operand f c x.0) (operand f c x.1) (decoded-operand f c x.0) (decoded-operand f c x.1)) (pairs xs ys)

-- ---- B

-- a term's top bit lies `room` above the unit at least
pub top-high : (t : Term) → Good t → room ≤ t.top
top-high t g =
    le_of_suc-le-suc
    (lt_of_not-le
    (λ (k : suc t.top ≤ room). not-le_of_lt (lt_of_lt_of_le g.fits (pow_mono k))
    (multiple-ge t.mag g.units room room g.whole (le_refl room) g.positive)))

-- a multiple of 2^j has no set bit below j
low-ge : (m q j : ℕ) → m ≡ q * 2 ^ j → 0 < m → j ≤ low_bit m
low-ge m q j e h = le_of_suc-le-suc (lt_of_not-le (λ (k : suc (low_bit m) ≤ j). even k))
  where
    twice : suc (low_bit m) ≤ j → m ≡ q * 2 ^ (j - suc (low_bit m)) * 2 * 2 ^ low_bit m
    twice k =
        e ∙ ap (λ (x : ℕ). q * x) (pow-split (suc (low_bit m)) j k ∙ ap (λ (x : ℕ). 2 ^ (j - suc (low_bit m)) * x) (pow-succ' 2 (low_bit m)))
        ∙ sym (mul_assoc q (2 ^ (j - suc (low_bit m))) (2 * 2 ^ low_bit m))
        ∙ sym (mul_assoc (q * 2 ^ (j - suc (low_bit m))) 2 (2 ^ low_bit m))

    even : suc (low_bit m) ≤ j → ⊥
    even k =
        let z : m / 2 ^ low_bit m % 2 ≡ 0 =
        ap (λ (x : ℕ). x / 2 ^ low_bit m % 2) (twice k)
        ∙ ap (λ (x : ℕ). x % 2) (mul-div_cancel (q * 2 ^ (j - suc (low_bit m)) * 2) (pow_pos (low_bit m)))
        ∙ mul-mod_left (q * 2 ^ (j - suc (low_bit m))) 2 in
        omega (arith, z, low-set m h)

least-ge : (z b : ℕ) (ts : List Term) → AllGood ts → z ≤ b → z ≤ room → z ≤ least b low_of ts
least-ge z b [] g h k = h
least-ge z b (t ∷ ts) g h k = omega (arith, least-ge z b ts g.1 h k, low-ge t.mag g.0.units room g.0.whole g.0.positive)

-- the lowest set bit of any term lies `room` above the unit at least
pub bottom-high : (t : Term) (ts : List Term) → AllGood (t ∷ ts) → room ≤ bottom_of (t ∷ ts)
unfolding bottom_of top_of
bottom-high t ts g = least-ge room _ (t ∷ ts) g (le_trans (top-high t g.0) (le-max_left t.top (greatest top_of_term ts))) (le_refl room)
