-- The exact sum is the sum of the elements' amounts.
use mathlib.Core.Path.{◌≡◌, sym, ap, ap₂, ◌∙◌}
use mathlib.Core.Bool.{Bool, true, false, cond}
use mathlib.Core.List.{List, [], ◌∷◌, map}
use Prim.Native.Nat.{ℕ, ◌+◌, ◌*◌, ◌^◌}
use native.Mathlib.Nat.{zero-mul, mul-zero, add-mul, mul_assoc, mul-mul-mul_comm}
use native.Mathlib.Omega.{arith}
use lib.Pow.{pow-add}
use Rattle.totals_spec.specs.Basics.{Signed, raised, difference, total, keep}
use Rattle.totals_spec.specs.formats.Format.{Format, room, rise}
use Rattle.totals_spec.specs.formats.Settings.{Settings, Summand, value, magnitude, square}
use Rattle.totals_spec.specs.formats.Decode.{Unpacked, zero_of, finite, infinity, nan, operand}
use Rattle.totals_spec.specs.formats.Ordered.{worth}
use Rattle.figures_spec.specs.ranges.Allowed.{sum_of_amounts}
use Rattle.totals_spec.specs.terms.Terms.{Item, Term, term_of, terms, item_of, item, pair_of}
use Rattle.totals_spec.specs.terms.Terms.{pair_item, single, product as product_term, unlike}
use Rattle.totals_spec.specs.terms.Terms.{plus_sum, minus_sum, exact_sum}
use Rattle.totals_spec.specs.sums.Totals.{pairs, sum_terms}
use Rattle.totals_spec.proofs.rounding.BestBounds.{off-grid}
use Rattle.totals_spec.proofs.numbers.SignedNumbers.{difference-raised, raised-none}
use Rattle.promises.specs.Amounts.{amount_of, amount, product_of, product, Exact-sum-means}

-- the negative part of a signed number where `minus` says so, else the positive one
abbrev part : (minus s : Bool) → ℕ → ℕ
part false s n = cond s 0 n
part true s n = cond s n 0

abbrev part_of : Bool → Signed → ℕ
part_of b x = part b x.neg x.mag

abbrev term_part : Bool → Term → ℕ
term_part b t = part b t.neg t.mag

-- a part of what an item adds
abbrev Adds : Bool → Item → Signed → Type 0
Adds b i x = (ts : List Term) → total (term_part b) (keep (term_of i) ts) ≡ part_of b x * 2 ^ room + total (term_part b) ts

scaled : (b s : Bool) (n m k : ℕ) → n ≡ m * 2 ^ k → part b s n ≡ part b s m * 2 ^ k
scaled true true n m k e = e
scaled true false n m k e = sym (zero-mul (2 ^ k))
scaled false true n m k e = sym (zero-mul (2 ^ k))
scaled false false n m k e = e

none : (b : Bool) (n : ℕ) → n ≡ part b false 0 * 2 ^ room + n
none true n = omega (arith, zero-mul (2 ^ room))
none false n = omega (arith, zero-mul (2 ^ room))

nothing-of : (b s : Bool) (n : ℕ) → n ≡ part b s 0 * 2 ^ room + n
nothing-of true true n = omega (arith, zero-mul (2 ^ room))
nothing-of true false n = omega (arith, zero-mul (2 ^ room))
nothing-of false true n = omega (arith, zero-mul (2 ^ room))
nothing-of false false n = omega (arith, zero-mul (2 ^ room))

both-scaled : (m k n j : ℕ) → m * n * 2 ^ (k + j + room) ≡ m * 2 ^ k * (n * 2 ^ j) * 2 ^ room
both-scaled m k n j =
    ap (λ (x : ℕ). m * n * x) (pow-add 2 (k + j) room ∙ ap (λ (x : ℕ). x * 2 ^ room) (pow-add 2 k j))
    ∙ sym (mul_assoc (m * n) (2 ^ k * 2 ^ j) (2 ^ room)) ∙ ap (λ (x : ℕ). x * 2 ^ room) (mul-mul-mul_comm m n (2 ^ k) (2 ^ j))

pub adds : (u : Summand) (b : Bool) (v : Unpacked) → Adds b (item_of u v) (amount_of u (worth v))
unfolding single product_term
adds value b (zero_of s) ts = none b _
adds value b (finite s k m) ts = ap (λ (n : ℕ). n + total (term_part b) ts) (scaled b s _ _ room (off-grid m k room))
adds value b (infinity s) ts = none b _
adds value b (nan s g m) ts = none b _
adds magnitude b (zero_of s) ts = none b _
adds magnitude b (finite s k m) ts = ap (λ (n : ℕ). n + total (term_part b) ts) (scaled b false _ _ room (off-grid m k room))
adds magnitude b (infinity s) ts = none b _
adds magnitude b (nan s g m) ts = none b _
adds square b (zero_of s) ts = none b _
adds square b (finite s k m) ts = ap (λ (n : ℕ). n + total (term_part b) ts) (scaled b false _ _ room (both-scaled m k m k))
adds square b (infinity s) ts = none b _
adds square b (nan s g m) ts = none b _

no-product : (b s : Bool) (x n : ℕ) → x ≡ 0 → n ≡ part b s x * 2 ^ room + n
no-product b s x n e = nothing-of b s n ∙ ap (λ (y : ℕ). part b s y * 2 ^ room + n) (sym e)

pub adds-pair : (b : Bool) (v w : Unpacked) → Adds b (pair_of v w) (product_of (worth v) (worth w))
unfolding product_term
adds-pair b (finite s k m) (finite t j n) ts = ap (λ (x : ℕ). x + total (term_part b) ts) (scaled b (unlike s t) _ _ room (both-scaled m k n j))
adds-pair b (zero_of s) (zero_of t) ts = no-product b _ _ _ (zero-mul 0)
adds-pair b (zero_of s) (finite t j n) ts = no-product b _ _ _ (zero-mul _)
adds-pair b (zero_of s) (infinity t) ts = no-product b _ _ _ (zero-mul 0)
adds-pair b (zero_of s) (nan t h n) ts = no-product b _ _ _ (zero-mul 0)
adds-pair b (finite s k m) (zero_of t) ts = no-product b _ _ _ (mul-zero _)
adds-pair b (finite s k m) (infinity t) ts = no-product b _ _ _ (mul-zero _)
adds-pair b (finite s k m) (nan t h n) ts = no-product b _ _ _ (mul-zero _)
adds-pair b (infinity s) (zero_of t) ts = no-product b _ _ _ (zero-mul 0)
adds-pair b (infinity s) (finite t j n) ts = no-product b _ _ _ (zero-mul _)
adds-pair b (infinity s) (infinity t) ts = no-product b _ _ _ (zero-mul 0)
adds-pair b (infinity s) (nan t h n) ts = no-product b _ _ _ (zero-mul 0)
adds-pair b (nan s g m) (zero_of t) ts = no-product b _ _ _ (zero-mul 0)
adds-pair b (nan s g m) (finite t j n) ts = no-product b _ _ _ (zero-mul _)
adds-pair b (nan s g m) (infinity t) ts = no-product b _ _ _ (zero-mul 0)
adds-pair b (nan s g m) (nan t h n) ts = no-product b _ _ _ (zero-mul 0)

-- ---- a list of items

module _ {A : Type 0} (i : A → Item) (x : A → Signed) (each : (b : Bool) (e : A) → Adds b (i e) (x e)) where
  sums : (b : Bool) (l : List A) → total (term_part b) (terms (map i l)) ≡ total (part_of b) (map x l) * 2 ^ room
  sums b [] = sym (zero-mul (2 ^ room))
  sums b (e ∷ l) =
      each b e (terms (map i l)) ∙ ap (λ (n : ℕ). part_of b (x e) * 2 ^ room + n) (sums b l)
      ∙ sym (add-mul (part_of b (x e)) (total (part_of b) (map x l)) (2 ^ room))

  pub means : (l : List A) → exact_sum (terms (map i l)) ≡ raised room (sum_of_amounts (map x l))
  unfolding plus_sum minus_sum
  means l = ap₂ difference (sums false l) (sums true l) ∙ difference-raised room _ _

pub list-means : (f : Format) (c : Settings) (u : Summand) (l : List ℕ) → exact_sum (sum_terms f c u l) ≡ raised room (sum_of_amounts (map (amount f c u) l))
unfolding item
list-means f c u = means (item f c u) (amount f c u) (λ b e. adds u b (operand f c e))

pub exact-sum-means : Exact-sum-means
unfolding rise pair_item
exact-sum-means = (
  λ f c l. raised-none _ ∙ list-means f c value l,
  λ f c l. raised-none _ ∙ list-means f c magnitude l,
  λ f c l. list-means f c square l,
  λ f c xs ys. means (pair_item f c) (product f c) (λ b e. adds-pair b (operand f c e.0) (operand f c e.1)) (pairs xs ys),
)
