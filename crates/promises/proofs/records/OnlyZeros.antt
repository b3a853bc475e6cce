-- A list of zeros, and a dot of products that are zeros.
use mathlib.Core.Path.{◌≡◌, refl, sym, ap, ◌∙◌, subst}
use mathlib.Core.Logic.{◌≢◌, ◌↔◌}
use mathlib.Core.Bool.{Bool, true, false, ◌&&◌, ◌||◌, cond, true≢false}
use mathlib.Core.List.{List, [], ◌∷◌, map}
use Prim.Native.Nat.{ℕ, zero, suc, ◌+◌, ◌-◌, ◌^◌}
use native.Mathlib.Nat.{suc-ne-zero, suc_inj, zero-mul}
use native.Mathlib.Omega.{arith}
use lib.Dec.{T, eqb}
use lib.ListN.{length}
use borrow.Author.Tests.{eqb-true, eq-eqb, ne_eqb}
use Rattle.totals_spec.specs.Basics.{any, flag, is_set}
use Rattle.totals_spec.specs.formats.Format.{Format, Kind, ieee, no_inf, fnuz, finite_only, kind_of}
use Rattle.totals_spec.specs.formats.Format.{fraction_bits}
use Rattle.totals_spec.specs.formats.Settings.{Settings, Summand, value, magnitude, square}
use Rattle.totals_spec.specs.formats.Settings.{summand_of, rounding_of, is_toward_negative}
use Rattle.totals_spec.specs.formats.Decode.{Unpacked, zero_of, finite, infinity, nan, decode}
use Rattle.totals_spec.specs.formats.Decode.{is_number, is_finite, is_subnormal, operand, sign_bit}
use Rattle.totals_spec.specs.formats.Decode.{field_of}
use Rattle.totals_spec.specs.formats.Encode.{encode, zero_bits}
use Rattle.totals_spec.specs.terms.Terms.{Item, zero_item, item, item_of, pair_item, pair_of}
use Rattle.totals_spec.specs.terms.Terms.{is_zero, terms, unlike}
use Rattle.totals_spec.specs.sums.Totals.{Answer, zero_sign, towards_negative, sum_terms, pairs}
use Rattle.totals_spec.specs.sums.Promises.{AllFinite, zero_for, zero_answer}
use Rattle.totals_spec.proofs.sums.ZeroTotals.{sum-zeros, dot-zeros}
use Rattle.totals_spec.proofs.order.Order.{dot-lengths}
use Rattle.promises.specs.Special.{AllOf, Given, some_subnormal, same, product_sign, is_zero_value, is_any_zero, zero_product, some_pair, ZeroSign}
use Rattle.promises.specs.Special.{Sum-of-zeros, Magnitudes-of-zeros, Dot-of-zeros, Zero-bits, Sum-cancelled, Dot-cancelled, Numbers-name}
use Rattle.totals_spec.specs.terms.Terms.{exact_sum}
use Rattle.totals_spec.specs.sums.Totals.{on_grid, reported, sum_rounded, dot_terms}
use Rattle.totals_spec.proofs.sums.FiniteLists.{dot-exact}
use native.Mathlib.Nat.{add-zero}
use Rattle.promises.proofs.roundings.SumsRoundedOnce.{sum-cancels}
use Rattle.promises.proofs.records.WithoutAPass.{any-map, none-pass}

-- ---- a zero's record

pub zero-given : (f : Format) (sub minus : Bool) → Given f (zero_of minus) sub false (zero_answer f sub minus)
zero-given f sub minus = record { result = refl; flags = none sub; passes = refl; last_edge = refl }
  where
    none : (t : Bool) → flag 128 t ≡ flag 128 t + 0
    none true = refl
    none false = refl

-- toward negative is mode 4
mode-four : (n : ℕ) → is_toward_negative (rounding_of n) ≡ eqb n 4
mode-four zero = refl
mode-four (suc zero) = refl
mode-four (suc (suc zero)) = refl
mode-four (suc (suc (suc zero))) = refl
mode-four (suc (suc (suc (suc zero)))) = refl
mode-four (suc (suc (suc (suc (suc zero))))) = refl
mode-four (suc (suc (suc (suc (suc (suc zero)))))) = refl
mode-four (suc (suc (suc (suc (suc (suc (suc n))))))) = sym (ne_eqb (suc (suc (suc (suc (suc (suc (suc n))))))) 4 (λ e. omega (arith, e)))

pub zero-sign-is : (c : Settings) (plus minus : Bool) → ZeroSign c plus minus (zero_sign plus minus (towards_negative c))
zero-sign-is c false false = refl
zero-sign-is c true false = refl
zero-sign-is c false true = refl
zero-sign-is c true true = (
  λ e. eqb-true c.rounding 4 (sym (mode-four c.rounding) ∙ e),
  λ e. mode-four c.rounding ∙ eq-eqb c.rounding 4 e,
)

-- ---- zeros among the operands

pub zero-number : (x : Unpacked) (a z s : Bool) → is_any_zero (cond (a && (is_finite x && z)) (zero_of s) x) ≡ true → T (is_number x)
zero-number (zero_of t) a z s e = tt
zero-number (finite t k m) a z s e = tt
zero-number (infinity t) true z s e = absurd (true≢false (sym e))
zero-number (infinity t) false z s e = absurd (true≢false (sym e))
zero-number (nan t g m) true z s e = absurd (true≢false (sym e))
zero-number (nan t g m) false z s e = absurd (true≢false (sym e))

operand-number : (f : Format) (c : Settings) (b : ℕ) → is_any_zero (operand f c b) ≡ true → T (is_number (decode f b))
unfolding operand is_subnormal
operand-number f c b e = zero-number (decode f b) (is_set c.denormals_are_zero) (eqb (field_of f b) 0) (sign_bit f b) e

all-numbers : (f : Format) (c : Settings) (l : List ℕ) → AllOf (λ b. is_any_zero (operand f c b) ≡ true) l → AllFinite f l
all-numbers f c [] h = tt
all-numbers f c (b ∷ l) h = (operand-number f c b h.0, all-numbers f c l h.1)

pub no-term : (u : Summand) (x : Unpacked) (i : List Item) → is_any_zero x ≡ true → terms (item_of u x ∷ i) ≡ terms i
no-term value (zero_of t) i e = refl
no-term magnitude (zero_of t) i e = refl
no-term square (zero_of t) i e = refl
no-term u (finite t k m) i e = absurd (true≢false (sym e))
no-term u (infinity t) i e = absurd (true≢false (sym e))
no-term u (nan t g m) i e = absurd (true≢false (sym e))

pub no-terms : (f : Format) (c : Settings) (u : Summand) (l : List ℕ) → AllOf (λ b. is_any_zero (operand f c b) ≡ true) l → length (sum_terms f c u l) ≡ 0
unfolding item
no-terms f c u [] h = refl
no-terms f c u (b ∷ l) h = ap length (no-term u (operand f c b) (map (item f c u) l) h.0) ∙ no-terms f c u l h.1

pub value-zero : (s : Bool) (x : Unpacked) → is_zero s (item_of value x) ≡ is_zero_value s x
value-zero true (zero_of true) = refl
value-zero true (zero_of false) = refl
value-zero false (zero_of true) = refl
value-zero false (zero_of false) = refl
value-zero s (finite t k m) = refl
value-zero s (infinity t) = refl
value-zero s (nan t g m) = refl

pub never-minus : (u : ℕ) (x : Unpacked) → is_zero true (item_of (summand_of (suc u)) x) ≡ false
never-minus zero (zero_of t) = refl
never-minus zero (finite t k m) = refl
never-minus zero (infinity t) = refl
never-minus zero (nan t g m) = refl
never-minus (suc u) (zero_of t) = refl
never-minus (suc u) (finite t k m) = refl
never-minus (suc u) (infinity t) = refl
never-minus (suc u) (nan t g m) = refl

pub sum-of-zeros : Sum-of-zeros
unfolding item
sum-of-zeros f c l r h = (
  zero_for c (map (item f c value) l),
  subst (λ (x : Bool). ZeroSign c x (any (λ b. is_zero_value true (operand f c b)) l) (zero_for c (map (item f c value) l))) (signed false)
      (subst (λ (x : Bool). ZeroSign c (any (is_zero false) (map (item f c value) l)) x (zero_for c (map (item f c value) l))) (signed true)
      (zero-sign-is c _ _)),
  subst (Given f (zero_of (zero_for c (map (item f c value) l))) (some_subnormal f l) false)
      (sym (sum-zeros f c 0 l r (all-numbers f c l h) (no-terms f c value l h)))
      (zero-given f (some_subnormal f l) (zero_for c (map (item f c value) l))),
)
  where
    signed : (s : Bool) → any (is_zero s) (map (item f c value) l) ≡ any (λ b. is_zero_value s (operand f c b)) l
    signed s = any-map (is_zero s) (item f c value) (λ b. is_zero_value s (operand f c b)) (λ b. value-zero s (operand f c b)) l

pub magnitudes-of-zeros : Magnitudes-of-zeros
unfolding item
magnitudes-of-zeros f c u l r h =
    subst (λ (a : Answer). Given f (zero_of false) (some_subnormal f l) false a)
    (ap (zero_answer f (some_subnormal f l)) (sym plus)
    ∙ sym (sum-zeros f c (suc u) l r (all-numbers f c l h) (no-terms f c (summand_of (suc u)) l h)))
    (zero-given f (some_subnormal f l) false)
  where
    none : any (is_zero true) (map (item f c (summand_of (suc u))) l) ≡ false
    none = any-map (is_zero true) (item f c (summand_of (suc u))) (λ b. false) (λ b. never-minus u (operand f c b)) l
        ∙ none-pass (λ b. false) (λ b. refl) l

    plus : zero_for c (map (item f c (summand_of (suc u))) l) ≡ false
    plus = rw none refl

-- ---- pairs

signs : (s t u : Bool) → is_zero s (zero_item (unlike t u)) ≡ same s (product_sign t u)
signs true true true = refl
signs true true false = refl
signs true false true = refl
signs true false false = refl
signs false true true = refl
signs false true false = refl
signs false false true = refl
signs false false false = refl

pub pair-zero : (s : Bool) (x y : Unpacked) → is_zero s (pair_of x y) ≡ zero_product s x y
pair-zero s (zero_of t) (zero_of u) = signs s t u
pair-zero s (zero_of t) (finite u k m) = signs s t u
pair-zero s (zero_of t) (infinity u) = refl
pair-zero s (zero_of t) (nan u g m) = refl
pair-zero s (finite t k m) (zero_of u) = signs s t u
pair-zero s (finite t k m) (finite u j n) = refl
pair-zero s (finite t k m) (infinity u) = refl
pair-zero s (finite t k m) (nan u g n) = refl
pair-zero s (infinity t) (zero_of u) = refl
pair-zero s (infinity t) (finite u k m) = refl
pair-zero s (infinity t) (infinity u) = refl
pair-zero s (infinity t) (nan u g m) = refl
pair-zero s (nan t g m) (zero_of u) = refl
pair-zero s (nan t g m) (finite u k n) = refl
pair-zero s (nan t g m) (infinity u) = refl
pair-zero s (nan t g m) (nan u h n) = refl

abbrev ZeroPair : Unpacked → Unpacked → Type 0
ZeroPair x y = (zero_product false x y || zero_product true x y) ≡ true

pub pair-no-term : (x y : Unpacked) (i : List Item) → ZeroPair x y → terms (pair_of x y ∷ i) ≡ terms i
pair-no-term (zero_of t) (zero_of u) i e = refl
pair-no-term (zero_of t) (finite u k m) i e = refl
pair-no-term (finite t k m) (zero_of u) i e = refl
pair-no-term (finite t k m) (finite u j n) i e = absurd (true≢false (sym e))
pair-no-term (zero_of t) (infinity u) i e = absurd (true≢false (sym e))
pair-no-term (zero_of t) (nan u g m) i e = absurd (true≢false (sym e))
pair-no-term (finite t k m) (infinity u) i e = absurd (true≢false (sym e))
pair-no-term (finite t k m) (nan u g n) i e = absurd (true≢false (sym e))
pair-no-term (infinity t) y i e = absurd (true≢false (sym e))
pair-no-term (nan t g m) y i e = absurd (true≢false (sym e))

pub pair-numbers : (x y : Unpacked) → ZeroPair x y → T (is_number x) × T (is_number y)
pair-numbers (zero_of t) (zero_of u) e = (tt, tt)
pair-numbers (zero_of t) (finite u k m) e = (tt, tt)
pair-numbers (finite t k m) (zero_of u) e = (tt, tt)
pair-numbers (finite t k m) (finite u j n) e = (tt, tt)
pair-numbers (zero_of t) (infinity u) e = absurd (true≢false (sym e))
pair-numbers (zero_of t) (nan u g m) e = absurd (true≢false (sym e))
pair-numbers (finite t k m) (infinity u) e = absurd (true≢false (sym e))
pair-numbers (finite t k m) (nan u g n) e = absurd (true≢false (sym e))
pair-numbers (infinity t) y e = absurd (true≢false (sym e))
pair-numbers (nan t g m) y e = absurd (true≢false (sym e))

pub number-back : (x : Unpacked) (a z s : Bool) → T (is_number (cond (a && (is_finite x && z)) (zero_of s) x)) → T (is_number x)
number-back (zero_of t) a z s e = tt
number-back (finite t k m) a z s e = tt
number-back (infinity t) true z s e = e
number-back (infinity t) false z s e = e
number-back (nan t g m) true z s e = e
number-back (nan t g m) false z s e = e

decoded-number : (f : Format) (c : Settings) (b : ℕ) → T (is_number (operand f c b)) → T (is_number (decode f b))
unfolding operand is_subnormal
decoded-number f c b e = number-back (decode f b) (is_set c.denormals_are_zero) (eqb (field_of f b) 0) (sign_bit f b) e

abbrev AllZeros : Format → Settings → List ℕ → List ℕ → Type 0
AllZeros f c xs ys = AllOf (λ x. (zero_product false (operand f c x.0) (operand f c x.1) || zero_product true (operand f c x.0) (operand f c x.1)) ≡ true) (pairs xs ys)

both-finite : (f : Format) (c : Settings) (xs ys : List ℕ) → length xs ≡ length ys → AllZeros f c xs ys → AllFinite f xs × AllFinite f ys
both-finite f c [] [] e h = (tt, tt)
both-finite f c [] (y ∷ ys) e h = absurd (suc-ne-zero (length ys) (sym e))
both-finite f c (x ∷ xs) [] e h = absurd (suc-ne-zero (length xs) e)
both-finite f c (x ∷ xs) (y ∷ ys) e h =
    let p = pair-numbers (operand f c x) (operand f c y) h.0 in
    let q = both-finite f c xs ys (suc_inj e) h.1 in
    ((decoded-number f c x p.0, q.0), (decoded-number f c y p.1, q.1))

no-products : (f : Format) (c : Settings) (l : List (ℕ × ℕ))
    → AllOf (λ x. (zero_product false (operand f c x.0) (operand f c x.1) || zero_product true (operand f c x.0) (operand f c x.1)) ≡ true) l
    → length (terms (map (pair_item f c) l)) ≡ 0
unfolding pair_item
no-products f c [] h = refl
no-products f c (x ∷ l) h = ap length (pair-no-term (operand f c x.0) (operand f c x.1) (map (pair_item f c) l) h.0) ∙ no-products f c l h.1

pub dot-of-zeros : Dot-of-zeros
unfolding pair_item
dot-of-zeros f c xs ys r h = (
  zero_for c (map (pair_item f c) (pairs xs ys)),
  subst (λ (x : Bool). ZeroSign c x (some_pair (zero_product true) f c xs ys) (zero_for c (map (pair_item f c) (pairs xs ys)))) (signed false)
      (subst (λ (x : Bool). ZeroSign c (any (is_zero false) (map (pair_item f c) (pairs xs ys))) x (zero_for c (map (pair_item f c) (pairs xs ys))))
      (signed true) (zero-sign-is c _ _)),
  subst (Given f (zero_of (zero_for c (map (pair_item f c) (pairs xs ys)))) (some_subnormal f xs || some_subnormal f ys) false)
      (sym (dot-zeros f c xs ys r numbers.0 numbers.1 (no-products f c (pairs xs ys) h)))
      (zero-given f _ (zero_for c (map (pair_item f c) (pairs xs ys)))),
)
  where
    numbers : AllFinite f xs × AllFinite f ys
    numbers = both-finite f c xs ys (dot-lengths f c xs ys r) h

    signed : (s : Bool) → any (is_zero s) (map (pair_item f c) (pairs xs ys)) ≡ some_pair (zero_product s) f c xs ys
    signed s = any-map (is_zero s) (pair_item f c) (λ x. zero_product s (operand f c x.0) (operand f c x.1))
        (λ x. pair-zero s (operand f c x.0) (operand f c x.1)) (pairs xs ys)

-- ---- bits

pub zero-bits : Zero-bits
unfolding encode
zero-bits f = (plus (kind_of f.kind), fnuz-minus f.kind, minus f.kind)
  where
    plus : (k : Kind) → zero_bits k f false ≡ 0
    plus ieee = omega (arith, zero-mul (2 ^ fraction_bits f))
    plus no_inf = omega (arith, zero-mul (2 ^ fraction_bits f))
    plus fnuz = omega (arith, zero-mul (2 ^ fraction_bits f))
    plus finite_only = omega (arith, zero-mul (2 ^ fraction_bits f))

    fnuz-minus : (k : ℕ) → k ≡ 2 → zero_bits (kind_of k) f true ≡ 0
    fnuz-minus k e = subst (λ (j : ℕ). zero_bits (kind_of j) f true ≡ 0) (sym e) (omega (arith, zero-mul (2 ^ fraction_bits f)))

    minus : (k : ℕ) → k ≢ 2 → zero_bits (kind_of k) f true ≡ 2 ^ (f.W - 1)
    minus zero e = omega (arith, zero-mul (2 ^ fraction_bits f))
    minus (suc zero) e = omega (arith, zero-mul (2 ^ fraction_bits f))
    minus (suc (suc zero)) e = absurd (e refl)
    minus (suc (suc (suc k))) e = omega (arith, zero-mul (2 ^ fraction_bits f))

-- ---- terms that cancel

module _ (c : Settings) where
  pub toward-four : (towards_negative c ≡ true) ↔ (c.rounding ≡ 4)
  toward-four = (
    λ e. eqb-true c.rounding 4 (sym (mode-four c.rounding) ∙ e),
    λ e. mode-four c.rounding ∙ eq-eqb c.rounding 4 e,
  )

pub sum-cancelled : Sum-cancelled
sum-cancelled f c u l r h n e =
    let z = sum-cancels f c u l r h n e in
    record { negative = towards_negative c; sign = toward-four c; result = z.0; flags = z.1 }

pub dot-cancelled : Dot-cancelled
unfolding reported sum_rounded
dot-cancelled f c xs ys r h k n e =
    let a = dot-exact f c xs ys r h k n in
    let z = eq-eqb (on_grid f true (exact_sum (dot_terms f c xs ys))).mag 0 e in
    record {
      negative = towards_negative c;
      sign = toward-four c;
      result = ap (λ (x : Answer). x.result) a ∙ rw z refl;
      flags = ap (λ (x : Answer). x.flags) a ∙ rw z (add-zero (flag 128 (any (is_subnormal f) xs || any (is_subnormal f) ys)));
    }

pub numbers-name : Numbers-name
numbers-name = (refl, refl, refl, refl, refl, refl, refl, refl, refl, refl, refl, refl, refl, refl, refl)
