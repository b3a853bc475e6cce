-- PROMISE 2, of finite values: no NaN, no infinity and no invalid product decides, so the record is
-- that of the exact sum rounded once.
use mathlib.Core.List.{[], List, ◌∷◌, map}
use mathlib.Core.Path.{◌≡◌, refl, ap₂, sym, ap, ◌∙◌}
use mathlib.Core.Bool.{Bool, false, ◌||◌, true, cond, ◌&&◌}
use Prim.Native.Nat.{◌<◌, ℕ}
use native.Mathlib.Nat.{not-suc-le-zero, suc_inj, suc-ne-zero}
use lib.ListN.{length}
use lib.Dec.{T}
use Rattle.totals_spec.specs.terms.Terms.{Item, nan_item, invalid_item, infinite, zero_item, term}
use Rattle.totals_spec.specs.terms.Terms.{Term, is_nan_item, is_invalid, is_infinite, terms}
use Rattle.totals_spec.specs.terms.Terms.{item_of, pair_of, item, pair_item}
use Rattle.totals_spec.specs.Basics.{any, is_set}
use Rattle.totals_spec.specs.formats.Format.{Format}
use Rattle.totals_spec.specs.formats.Settings.{Settings, Summand, value, magnitude, square}
use Rattle.totals_spec.specs.formats.Settings.{summand_of}
use Rattle.totals_spec.specs.formats.Decode.{Unpacked, zero_of, is_number, decode, operand}
use Rattle.totals_spec.specs.formats.Decode.{is_subnormal, sign_bit, finite, infinity, nan}
use Rattle.totals_spec.specs.sums.Totals.{finite_total, without_nan, accepted, pairs, is_square}
use Rattle.totals_spec.specs.sums.Totals.{sum_refusal, sum_terms, sum_accepted, sum_answer}
use Rattle.totals_spec.specs.sums.Totals.{dot_refusal, dot_terms, dot_accepted, dot_answer}
use Rattle.totals_spec.specs.sums.Promises.{zero_for, AllFiniteBy, AllFinite, Sum-exact, Dot-exact}
use Rattle.totals_spec.proofs.order.Order.{dot-lengths}

-- ---- zeros and terms

abbrev pub Plain : Item → Type 0
Plain nan_item = ⊥
Plain invalid_item = ⊥
Plain (infinite s) = ⊥
Plain (zero_item s) = Unit {0}
Plain (term t) = Unit {0}

abbrev pub AllPlain : List Item → Type 0
AllPlain [] = Unit {0}
AllPlain (x ∷ l) = Plain x × AllPlain l

-- what holds of neither holds of none
none_of : (t : Item → Bool) → ((s : Bool) → t (zero_item s) ≡ false) → ((x : Term) → t (term x) ≡ false) → (l : List Item) → AllPlain l → any t l ≡ false
none_of t z g [] h = refl
none_of t z g (nan_item ∷ l) h = absurd h.0
none_of t z g (invalid_item ∷ l) h = absurd h.0
none_of t z g (infinite s ∷ l) h = absurd h.0
none_of t z g (zero_item s ∷ l) h = ap₂ ◌||◌ (z s) (none_of t z g l h.1)
none_of t z g (term x ∷ l) h = ap₂ ◌||◌ (g x) (none_of t z g l h.1)

pub some-term : (ts : List Term) → 0 < length ts → any (λ t. true) ts ≡ true
some-term [] h = absurd (not-suc-le-zero h)
some-term (t ∷ ts) h = refl

pub plain-accepted : (f : Format) (c : Settings) (sub products first signaling : Bool) (v : Unpacked) (l : List Item) → AllPlain l
    → accepted f c sub products first signaling v l ≡ finite_total f c sub products (zero_for c l) (terms l)
unfolding accepted without_nan
plain-accepted f c sub products first signaling v l h =
    rw (
      none_of is_nan_item (λ s. refl) (λ x. refl) l h,
      none_of is_invalid (λ s. refl) (λ x. refl) l h,
      none_of (is_infinite false) (λ s. refl) (λ x. refl) l h,
      none_of (is_infinite true) (λ s. refl) (λ x. refl) l h,
    )

-- ---- finite values give zeros and terms

pub number-cond : (b s : Bool) (x : Unpacked) → T (is_number x) → T (is_number (cond b (zero_of s) x))
number-cond true s x h = tt
number-cond false s x h = h

pub number-operand : (f : Format) (c : Settings) (b : ℕ) → T (is_number (decode f b)) → T (is_number (operand f c b))
unfolding operand
number-operand f c b h = number-cond (is_set c.denormals_are_zero && is_subnormal f b) (sign_bit f b) (decode f b) h

pub plain-item : (u : Summand) (x : Unpacked) → T (is_number x) → Plain (item_of u x)
plain-item value (zero_of s) h = tt
plain-item value (finite s k m) h = tt
plain-item magnitude (zero_of s) h = tt
plain-item magnitude (finite s k m) h = tt
plain-item square (zero_of s) h = tt
plain-item square (finite s k m) h = tt
plain-item value (infinity s) h = absurd h
plain-item value (nan s g m) h = absurd h
plain-item magnitude (infinity s) h = absurd h
plain-item magnitude (nan s g m) h = absurd h
plain-item square (infinity s) h = absurd h
plain-item square (nan s g m) h = absurd h

pub plain-pair : (x y : Unpacked) → T (is_number x) → T (is_number y) → Plain (pair_of x y)
plain-pair (zero_of s) (zero_of t) h k = tt
plain-pair (zero_of s) (finite t j n) h k = tt
plain-pair (finite s i m) (zero_of t) h k = tt
plain-pair (finite s i m) (finite t j n) h k = tt
plain-pair (zero_of s) (infinity t) h k = absurd k
plain-pair (zero_of s) (nan t g n) h k = absurd k
plain-pair (finite s i m) (infinity t) h k = absurd k
plain-pair (finite s i m) (nan t g n) h k = absurd k
plain-pair (infinity s) y h k = absurd h
plain-pair (nan s g m) y h k = absurd h

-- whichever way they are read and made items
module _ (read : ℕ → Unpacked) where
  pub plain-all : (i : ℕ → Item) → ((b : ℕ) → T (is_number (read b)) → Plain (i b)) → (l : List ℕ) → AllFiniteBy read l → AllPlain (map i l)
  plain-all i p [] h = tt
  plain-all i p (b ∷ l) h = (p b h.0, plain-all i p l h.1)

  pub plain-both : (i : ℕ × ℕ → Item) → ((x : ℕ × ℕ) → T (is_number (read x.0)) → T (is_number (read x.1)) → Plain (i x))
      → (xs ys : List ℕ) → AllFiniteBy read xs → AllFiniteBy read ys → AllPlain (map i (pairs xs ys))
  plain-both i p [] ys h k = tt
  plain-both i p (x ∷ xs) [] h k = tt
  plain-both i p (x ∷ xs) (y ∷ ys) h k = (p (x, y) h.0 k.0, plain-both i p xs ys h.1 k.1)

plain-items : (f : Format) (c : Settings) (u : Summand) (l : List ℕ) → AllFinite f l → AllPlain (map (item f c u) l)
plain-items f c u = plain-all (decode f) (item f c u) (λ b h. unfold item in plain-item u (operand f c b) (number-operand f c b h))

plain-pairs : (f : Format) (c : Settings) (xs ys : List ℕ) → AllFinite f xs → AllFinite f ys → AllPlain (map (pair_item f c) (pairs xs ys))
plain-pairs f c =
    plain-both (decode f) (pair_item f c)
    (λ x h k. unfold pair_item in plain-pair (operand f c x.0) (operand f c x.1) (number-operand f c x.0 h) (number-operand f c x.1 k))

pub or-mix : (a b x y : Bool) → ((a || b) || (x || y)) ≡ ((a || x) || (b || y))
or-mix true b x y = refl
or-mix false true true y = refl
or-mix false true false y = refl
or-mix false false x y = refl

-- a test of the elements of either list is one of the pairs
pub pairs-any : (t : ℕ → Bool) (xs ys : List ℕ) → length xs ≡ length ys → any (λ x. t x.0 || t x.1) (pairs xs ys) ≡ (any t xs || any t ys)
pairs-any t [] [] e = refl
pairs-any t [] (y ∷ ys) e = absurd (suc-ne-zero (length ys) (sym e))
pairs-any t (x ∷ xs) [] e = absurd (suc-ne-zero (length xs) e)
pairs-any t (x ∷ xs) (y ∷ ys) e = ap (λ (b : Bool). (t x || t y) || b) (pairs-any t xs ys (suc_inj e)) ∙ or-mix (t x) (t y) (any t xs) (any t ys)

-- ---- so the record is one of finite values, with a term or without

pub sum-finite : (f : Format) (c : Settings) (u : ℕ) (l : List ℕ) → sum_refusal f c u l ≡ 0 → AllFinite f l
    → sum_answer f c u l
    ≡ finite_total f c (any (is_subnormal f) l) (is_square (summand_of u)) (zero_for c (map (item f c (summand_of u)) l)) (sum_terms f c (summand_of u) l)
unfolding sum_answer sum_accepted
sum-finite f c u l r h = rw r (plain-accepted f c _ _ _ _ _ (map (item f c (summand_of u)) l) (plain-items f c (summand_of u) l h))

pub dot-finite : (f : Format) (c : Settings) (xs ys : List ℕ) → dot_refusal f c xs ys ≡ 0 → AllFinite f xs → AllFinite f ys
    → dot_answer f c xs ys
    ≡ finite_total f c (any (is_subnormal f) xs || any (is_subnormal f) ys) true (zero_for c (map (pair_item f c) (pairs xs ys))) (dot_terms f c xs ys)
unfolding dot_answer dot_accepted
dot-finite f c xs ys r h k =
    rw (r, pairs-any (is_subnormal f) xs ys (dot-lengths f c xs ys r))
    (plain-accepted f c _ _ _ _ _ (map (pair_item f c) (pairs xs ys)) (plain-pairs f c xs ys h k))

-- ---- THE PROMISE

pub sum-exact : Sum-exact
unfolding finite_total
sum-exact f c u l r h some = sum-finite f c u l r h ∙ rw (some-term (sum_terms f c (summand_of u) l) some)

pub dot-exact : Dot-exact
unfolding finite_total
dot-exact f c xs ys r h k some = dot-finite f c xs ys r h k ∙ rw (some-term (dot_terms f c xs ys) some)
