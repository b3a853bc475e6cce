-- Kind 4: the records without a pass, by the elements of the list.
use mathlib.Core.Path.{◌≡◌, refl, sym, ap, ap₂, ◌∙◌, subst}
use mathlib.Core.Bool.{Bool, true, false, not, ◌&&◌, ◌||◌}
use mathlib.Core.List.{List, [], ◌∷◌, map}
use Prim.Native.Nat.{ℕ, zero, suc, ◌+◌, ◌<◌}
use native.Mathlib.Nat.{add-zero}
use native.Mathlib.Omega.{arith}
use lib.Dec.{T, eqb}
use lib.ListN.{length}
use borrow.Author.Tests.{eq-eqb}
use Rattle.totals_spec.specs.Basics.{any, flag, is_set}
use Rattle.totals_spec.specs.formats.Format.{Format}
use Rattle.totals_spec.specs.formats.Settings.{Settings, Summand, value, summand_of}
use Rattle.totals_spec.specs.formats.Decode.{Unpacked, zero_of, infinity, is_nan, is_signaling}
use Rattle.totals_spec.specs.formats.Decode.{is_number}
use Rattle.totals_spec.specs.terms.Terms.{Item, is_nan_item, is_invalid, is_infinite, is_zero}
use Rattle.totals_spec.specs.terms.Terms.{terms}
use Rattle.totals_spec.specs.sums.Totals.{Answer, special, accepted, without_nan, reported}
use Rattle.totals_spec.specs.sums.Totals.{sum_rounded}
use Rattle.totals_spec.specs.sums.Totals.{is_value, is_square, pairs, towards_negative}
use Rattle.totals_spec.specs.ten_bytes.Promises.{AllNumbers}
use Rattle.totals_spec.specs.sums.Promises.{zero_for, zero_answer}
use Rattle.totals_spec.specs.ten_bytes.Extended.{extended, unsupported, decode_extended}
use Rattle.totals_spec.specs.ten_bytes.Extended.{subnormal_extended}
use Rattle.totals_spec.specs.ten_bytes.Extended.{extended_operand, field_in, sign_in, spread}
use Rattle.totals_spec.specs.ten_bytes.Extended.{with_spread}
use Rattle.totals_spec.specs.ten_bytes.Extended.{extended_accepted, extended_item, extended_terms}
use Rattle.totals_spec.specs.ten_bytes.Extended.{extended_sum}
use Rattle.totals_spec.specs.ten_bytes.Extended.{extended_sum_refusal, extended_sum_answer}
use Rattle.totals_spec.specs.ten_bytes.Extended.{extended_pair}
use Rattle.totals_spec.specs.ten_bytes.Extended.{both_of, extended_dot}
use Rattle.totals_spec.specs.ten_bytes.Extended.{extended_dot_refusal, extended_dot_answer}
use Rattle.totals_spec.proofs.sums.RecordRule.{cond_has}
use Rattle.totals_spec.proofs.ten_bytes.Totals.{extended-dot-accepts, extended-zeros}
use Rattle.totals_spec.proofs.ten_bytes.Totals.{extended-exact}
use Rattle.totals_spec.proofs.ten_bytes.Terms.{extended-nans, extended-pair-nans, both-any}
use Rattle.promises.specs.Special.{AllOf, Given, default_of, is_infinity, is_infinite_value}
use Rattle.promises.specs.Special.{infinity_times_zero, infinite_product, ZeroSign, zero_product}
use Rattle.promises.specs.Special.{is_zero_value, is_any_zero}
use Rattle.promises.specs.SpecialExtended.{ExtendedNanOf, some_extended}
use Rattle.promises.specs.Kind4.{exact_of, exact_dot}
use Rattle.promises.specs.SpecialKind4.{ExtendedGiven, either_subnormal, either}
use Rattle.promises.specs.SpecialKind4.{some_extended_pair, ExtendedZero, ZeroPair}
use Rattle.promises.specs.SpecialKind4.{Extended-sum-unsupported, Extended-dot-unsupported}
use Rattle.promises.specs.SpecialKind4.{Extended-magnitudes-quiet, Extended-magnitudes-infinite}
use Rattle.promises.specs.SpecialKind4.{Extended-sum-infinities, Extended-sum-infinite}
use Rattle.promises.specs.SpecialKind4.{Extended-dot-invalid, Extended-dot-infinities}
use Rattle.promises.specs.SpecialKind4.{Extended-dot-infinite, Extended-sum-of-zeros}
use Rattle.promises.specs.SpecialKind4.{Extended-magnitudes-of-zeros, Extended-dot-of-zeros}
use Rattle.promises.specs.SpecialKind4.{Extended-sum-cancelled, Extended-dot-cancelled}
use Rattle.promises.specs.SpecialKind4.{Extended-sum-subnormal, Extended-dot-subnormal}
use Rattle.promises.proofs.records.WithoutAPass.{any-map, none-pass, operand-infinite, value-infinite}
use Rattle.promises.proofs.records.WithoutAPass.{positive-infinite, never-negative, either-infinite}
use Rattle.promises.proofs.records.WithoutAPass.{never-invalid, default-given, invalid-given, both-given}
use Rattle.promises.proofs.records.WithoutAPass.{one-given, pair-invalid, pair-infinite}
use Rattle.promises.proofs.records.TenByteNans.{sum-decides}
use Rattle.promises.proofs.records.OnlyZeros.{zero-given, zero-sign-is, zero-number, no-term, value-zero}
use Rattle.promises.proofs.records.OnlyZeros.{never-minus, pair-zero, pair-no-term, pair-numbers}
use Rattle.promises.proofs.records.OnlyZeros.{number-back, toward-four}
use Rattle.promises.proofs.records.Subnormals.{rest-accepted}

-- ---- a record with its leading bit written out

spread-given : (v : Unpacked) (sub invalid : Bool) (a : Answer) → Given extended v sub invalid a
    → ExtendedGiven v sub invalid (with_spread a)
spread-given v sub invalid a g =
    record { result = ap spread g.result; flags = g.flags; passes = g.passes; last_edge = g.last_edge }

module _ (c : Settings) (products first : Bool) (l : List ℕ) (items : List Item) where
  unsupported-given : any unsupported l ≡ true
      → ExtendedGiven (default_of c) (any subnormal_extended l) true (extended_accepted c products first l items)
  unfolding extended_accepted
  unsupported-given h = rw h (spread-given _ _ _ _ (default-given extended c (any subnormal_extended l)))

  without : any unsupported l ≡ false
      → (any is_nan_item items && not (first && not (some_extended is_signaling l) && any (is_infinite false) items)) ≡ false
      → extended_accepted c products first l items
      ≡ with_spread (without_nan extended c (any subnormal_extended l) products items)
  unfolding extended_accepted accepted
  without e h = rw (e, h) refl

  abbrev Rest : Answer → Type 0
  Rest a = (rest : ℕ) × (rest < 128) × (a.flags ≡ flag 128 (any subnormal_extended l) + rest)

  rest : Rest (extended_accepted c products first l items)
  unfolding extended_accepted special
  rest = cond_has (λ a. Rest (with_spread a)) (any unsupported l) _ _ (1, omega arith, refl)
      (rest-accepted extended c (any subnormal_extended l) products items first _ _)

-- ---- the items of a list

module _ (c : Settings) where
  element-infinite : (s : Bool) (b : ℕ) → is_infinity s (extended_operand c b) ≡ is_infinity s (decode_extended b)
  unfolding extended_operand subnormal_extended
  element-infinite s b =
      operand-infinite s (decode_extended b) (is_set c.denormals_are_zero) (eqb (field_in b) 0) (sign_in b)

  element-number : (b : ℕ) → is_any_zero (extended_operand c b) ≡ true → T (is_number (decode_extended b))
  unfolding extended_operand subnormal_extended
  element-number b e =
      zero-number (decode_extended b) (is_set c.denormals_are_zero) (eqb (field_in b) 0) (sign_in b) e

  operand-number : (b : ℕ) → T (is_number (extended_operand c b)) → T (is_number (decode_extended b))
  unfolding extended_operand subnormal_extended
  operand-number b e =
      number-back (decode_extended b) (is_set c.denormals_are_zero) (eqb (field_in b) 0) (sign_in b) e

  module _ (l : List ℕ) where
    values : (s : Bool) → any (is_infinite s) (map (extended_item c value) l) ≡ some_extended (is_infinity s) l
    unfolding extended_item
    values s =
        any-map (is_infinite s) (extended_item c value) (λ b. is_infinity s (decode_extended b))
        (λ b. value-infinite s (extended_operand c b) ∙ element-infinite s b) l

    magnitudes : (u : ℕ) → any (is_infinite false) (map (extended_item c (summand_of (suc u))) l)
        ≡ some_extended is_infinite_value l
    unfolding extended_item
    magnitudes u =
        any-map (is_infinite false) (extended_item c (summand_of (suc u))) (λ b. is_infinite_value (decode_extended b))
        (λ b.
        positive-infinite u (extended_operand c b) ∙ ap₂ ◌||◌ (element-infinite false b) (element-infinite true b)
        ∙ sym (either-infinite (decode_extended b))) l

    no-minus : (u : ℕ) → any (is_infinite true) (map (extended_item c (summand_of (suc u))) l) ≡ false
    unfolding extended_item
    no-minus u =
        any-map (is_infinite true) (extended_item c (summand_of (suc u))) (λ b. false)
        (λ b. never-negative u (extended_operand c b)) l ∙ none-pass (λ b. false) (λ b. refl) l

    invalids : (u : Summand) → any is_invalid (map (extended_item c u) l) ≡ false
    unfolding extended_item
    invalids u =
        any-map is_invalid (extended_item c u) (λ b. false) (λ b. never-invalid u (extended_operand c b)) l
        ∙ none-pass (λ b. false) (λ b. refl) l

-- ---- sums

module _ (f : Format) (c : Settings) (u : ℕ) (l : List ℕ) (r : extended_sum_refusal f c u l ≡ 0) where
  abbrev items : List Item
  items = map (extended_item c (summand_of u)) l

  sum-is : extended_sum_answer f c u l
      ≡ extended_accepted c (is_square (summand_of u)) (not (is_value (summand_of u))) l items
  unfolding extended_sum_answer extended_sum
  sum-is = rw r refl

  sum-without : any unsupported l ≡ false
      → (some_extended is_nan l
      && not (not (is_value (summand_of u)) && not (some_extended is_signaling l) && any (is_infinite false) items)) ≡ false
      → extended_sum_answer f c u l
      ≡ with_spread (without_nan extended c (any subnormal_extended l) (is_square (summand_of u)) items)
  sum-without e h =
      sum-is
      ∙ without c (is_square (summand_of u)) (not (is_value (summand_of u))) l items e (rw (extended-nans c (summand_of u) l) h)

pub extended-sum-unsupported : Extended-sum-unsupported
extended-sum-unsupported f c u l r h =
    subst (ExtendedGiven (default_of c) (any subnormal_extended l) true) (sym (sum-is f c u l r))
    (unsupported-given c _ _ l _ h)

pub extended-magnitudes-quiet : Extended-magnitudes-quiet
extended-magnitudes-quiet f c u l r e h q i =
    subst (λ (x : Bool). ExtendedNanOf c l x (extended_sum_answer f c (suc u) l)) q
    (sum-decides f c (suc u) l r e h (rw (q, magnitudes c l u, i) (nothing (not (is_value (summand_of (suc u)))))))
  where
    nothing : (x : Bool) → (x && not false && false) ≡ false
    nothing true = refl
    nothing false = refl

pub extended-magnitudes-infinite : Extended-magnitudes-infinite
extended-magnitudes-infinite f c u l r e h q =
    subst (ExtendedGiven (infinity false) (any subnormal_extended l) false)
    (sym (sum-without f c (suc u) l r e (rw (q, magnitudes c l u, h) (first u (some_extended is_nan l)))))
    (spread-given _ _ _ _
    (one-given extended c (any subnormal_extended l) (is_square (summand_of (suc u))) (map (extended_item c (summand_of (suc u))) l) false
    (invalids c l (summand_of (suc u))) (magnitudes c l u ∙ h) (no-minus c l u)))
  where
    first : (u : ℕ) (n : Bool) → (n && not (not (is_value (summand_of (suc u))) && true && true)) ≡ false
    first zero true = refl
    first zero false = refl
    first (suc u) true = refl
    first (suc u) false = refl

module _ (f : Format) (c : Settings) (l : List ℕ) (r : extended_sum_refusal f c 0 l ≡ 0) (e : any unsupported l ≡ false)
    (h : some_extended is_nan l ≡ false) where
  value-answer : extended_sum_answer f c 0 l
      ≡ with_spread (without_nan extended c (any subnormal_extended l) false (map (extended_item c value) l))
  value-answer = sum-without f c 0 l r e (rw h refl)

pub extended-sum-infinities : Extended-sum-infinities
extended-sum-infinities f c l r e h p m =
    subst (ExtendedGiven (default_of c) (any subnormal_extended l) true) (sym (value-answer f c l r e h))
    (spread-given _ _ _ _
    (both-given extended c _ false (map (extended_item c value) l) (invalids c l value) (values c l false ∙ p) (values c l true ∙ m)))

pub extended-sum-infinite : Extended-sum-infinite
extended-sum-infinite f c s l r e h p m =
    subst (ExtendedGiven (infinity s) (any subnormal_extended l) false) (sym (value-answer f c l r e h))
    (spread-given _ _ _ _
    (one-given extended c _ false (map (extended_item c value) l) s (invalids c l value) (values c l s ∙ p) (values c l (not s) ∙ m)))

-- ---- dots

module _ (f : Format) (c : Settings) (xs ys : List ℕ) (r : extended_dot_refusal f c xs ys ≡ 0) where
  abbrev products : List Item
  products = map (extended_pair c) (pairs xs ys)

  even : length xs ≡ length ys
  even = (extended-dot-accepts f c xs ys r).1

  dot-is : extended_dot_answer f c xs ys ≡ extended_accepted c true false (both_of (pairs xs ys)) products
  unfolding extended_dot_answer extended_dot
  dot-is = rw r refl

  subnormals : any subnormal_extended (both_of (pairs xs ys)) ≡ either_subnormal xs ys
  subnormals = both-any subnormal_extended xs ys even

  dot-without : (any unsupported xs || any unsupported ys) ≡ false → either is_nan xs ys ≡ false
      → extended_dot_answer f c xs ys ≡ with_spread (without_nan extended c (either_subnormal xs ys) true products)
  dot-without u n =
      dot-is
      ∙ without c true false (both_of (pairs xs ys)) products (both-any unsupported xs ys even ∙ u) (rw no-nans refl)
      ∙ ap (λ (s : Bool). with_spread (without_nan extended c s true products)) subnormals
    where
      no-nans : any is_nan_item products ≡ false
      no-nans = extended-pair-nans c (pairs xs ys) ∙ both-any (λ b. is_nan (decode_extended b)) xs ys even ∙ n

  pair-invalids : any is_invalid products ≡ some_extended_pair infinity_times_zero c xs ys
  unfolding extended_pair
  pair-invalids =
      any-map is_invalid (extended_pair c) (λ x. infinity_times_zero (extended_operand c x.0) (extended_operand c x.1))
      (λ x. pair-invalid (extended_operand c x.0) (extended_operand c x.1)) (pairs xs ys)

  pair-infinities : (s : Bool) → any (is_infinite s) products ≡ some_extended_pair (infinite_product s) c xs ys
  unfolding extended_pair
  pair-infinities s =
      any-map (is_infinite s) (extended_pair c) (λ x. infinite_product s (extended_operand c x.0) (extended_operand c x.1))
      (λ x. pair-infinite s (extended_operand c x.0) (extended_operand c x.1)) (pairs xs ys)

pub extended-dot-unsupported : Extended-dot-unsupported
extended-dot-unsupported f c xs ys r h =
    subst (ExtendedGiven (default_of c) (either_subnormal xs ys) true) (sym (dot-is f c xs ys r))
    (subst (λ (s : Bool). ExtendedGiven (default_of c) s true (extended_accepted c true false (both_of (pairs xs ys)) (products f c xs ys r)))
    (subnormals f c xs ys r)
    (unsupported-given c true false (both_of (pairs xs ys)) _ (both-any unsupported xs ys (even f c xs ys r) ∙ h)))

pub extended-dot-invalid : Extended-dot-invalid
extended-dot-invalid f c xs ys r u n i =
    subst (ExtendedGiven (default_of c) (either_subnormal xs ys) true) (sym (dot-without f c xs ys r u n))
    (spread-given _ _ _ _ (invalid-given extended c _ true (products f c xs ys r) (pair-invalids f c xs ys r ∙ i)))

pub extended-dot-infinities : Extended-dot-infinities
extended-dot-infinities f c xs ys r u n i p m =
    subst (ExtendedGiven (default_of c) (either_subnormal xs ys) true) (sym (dot-without f c xs ys r u n))
    (spread-given _ _ _ _
    (both-given extended c _ true (products f c xs ys r) (pair-invalids f c xs ys r ∙ i)
    (pair-infinities f c xs ys r false ∙ p) (pair-infinities f c xs ys r true ∙ m)))

pub extended-dot-infinite : Extended-dot-infinite
extended-dot-infinite f c s xs ys r u n i p m =
    subst (ExtendedGiven (infinity s) (either_subnormal xs ys) false) (sym (dot-without f c xs ys r u n))
    (spread-given _ _ _ _
    (one-given extended c _ true (products f c xs ys r) s (pair-invalids f c xs ys r ∙ i)
    (pair-infinities f c xs ys r s ∙ p) (pair-infinities f c xs ys r (not s) ∙ m)))

-- ---- zeros

module _ (c : Settings) where
  zeros-numbers : (l : List ℕ) → AllOf (λ b. is_any_zero (extended_operand c b) ≡ true) l → AllNumbers l
  zeros-numbers [] h = tt
  zeros-numbers (b ∷ l) h = (element-number c b h.0, zeros-numbers l h.1)

  no-terms : (u : Summand) (l : List ℕ) → AllOf (λ b. is_any_zero (extended_operand c b) ≡ true) l
      → length (extended_terms c u l) ≡ 0
  unfolding extended_item
  no-terms u [] h = refl
  no-terms u (b ∷ l) h = ap length (no-term u (extended_operand c b) (map (extended_item c u) l) h.0) ∙ no-terms u l h.1

  both-numbers : (xs ys : List ℕ) → length xs ≡ length ys → AllOf (ZeroPair c) (pairs xs ys)
      → AllNumbers xs × AllNumbers ys
  both-numbers [] [] e h = (tt, tt)
  both-numbers [] (y ∷ ys) e h = absurd (let z : ⊥ = omega (arith, e) in z)
  both-numbers (x ∷ xs) [] e h = absurd (let z : ⊥ = omega (arith, e) in z)
  both-numbers (x ∷ xs) (y ∷ ys) e h =
      let p = pair-numbers (extended_operand c x) (extended_operand c y) h.0 in
      let q = both-numbers xs ys (let z : length xs ≡ length ys = omega (arith, e) in z) h.1 in
      ((operand-number c x p.0, q.0), (operand-number c y p.1, q.1))

  no-products : (l : List (ℕ × ℕ)) → AllOf (ZeroPair c) l → length (terms (map (extended_pair c) l)) ≡ 0
  unfolding extended_pair
  no-products [] h = refl
  no-products (x ∷ l) h =
      ap length (pair-no-term (extended_operand c x.0) (extended_operand c x.1) (map (extended_pair c) l) h.0) ∙ no-products l h.1

  -- by the signs of the zeros among the items
  zero-record : (items : List Item) (plus minus sub : Bool) (a : Answer)
      → any (is_zero false) items ≡ plus → any (is_zero true) items ≡ minus
      → a ≡ with_spread (zero_answer extended sub (zero_for c items)) → ExtendedZero c plus minus sub a
  zero-record items plus minus sub a p m e = (
    zero_for c items,
    subst (λ (x : Bool). ZeroSign c x minus (zero_for c items)) p
        (subst (λ (x : Bool). ZeroSign c (any (is_zero false) items) x (zero_for c items)) m (zero-sign-is c _ _)),
    subst (ExtendedGiven (zero_of (zero_for c items)) sub false) (sym e)
        (spread-given _ _ _ _ (zero-given extended sub (zero_for c items))),
  )

pub extended-sum-of-zeros : Extended-sum-of-zeros
unfolding extended_item
extended-sum-of-zeros f c l r h =
    zero-record c (map (extended_item c value) l) _ _ _ _ (signed false) (signed true)
    (extended-zeros.0 f c 0 l r (zeros-numbers c l h) (no-terms c value l h))
  where
    signed : (s : Bool) → any (is_zero s) (map (extended_item c value) l) ≡ any (λ b. is_zero_value s (extended_operand c b)) l
    signed s =
        any-map (is_zero s) (extended_item c value) (λ b. is_zero_value s (extended_operand c b))
        (λ b. value-zero s (extended_operand c b)) l

pub extended-magnitudes-of-zeros : Extended-magnitudes-of-zeros
unfolding extended_item
extended-magnitudes-of-zeros f c u l r h =
    subst (ExtendedGiven (zero_of false) (any subnormal_extended l) false)
    (ap (λ (s : Bool). with_spread (zero_answer extended (any subnormal_extended l) s)) (sym plus)
    ∙ sym (extended-zeros.0 f c (suc u) l r (zeros-numbers c l h) (no-terms c (summand_of (suc u)) l h)))
    (spread-given _ _ _ _ (zero-given extended (any subnormal_extended l) false))
  where
    none : any (is_zero true) (map (extended_item c (summand_of (suc u))) l) ≡ false
    none =
        any-map (is_zero true) (extended_item c (summand_of (suc u))) (λ b. false) (λ b. never-minus u (extended_operand c b)) l
        ∙ none-pass (λ b. false) (λ b. refl) l

    plus : zero_for c (map (extended_item c (summand_of (suc u))) l) ≡ false
    plus = rw none refl

pub extended-dot-of-zeros : Extended-dot-of-zeros
unfolding extended_pair
extended-dot-of-zeros f c xs ys r h =
    zero-record c (map (extended_pair c) (pairs xs ys)) _ _ _ _ (signed false) (signed true)
    (extended-zeros.1 f c xs ys r numbers.0 numbers.1 (no-products c (pairs xs ys) h))
  where
    numbers : AllNumbers xs × AllNumbers ys
    numbers = both-numbers c xs ys (extended-dot-accepts f c xs ys r).1 h

    signed : (s : Bool) → any (is_zero s) (map (extended_pair c) (pairs xs ys)) ≡ some_extended_pair (zero_product s) c xs ys
    signed s =
        any-map (is_zero s) (extended_pair c) (λ x. zero_product s (extended_operand c x.0) (extended_operand c x.1))
        (λ x. pair-zero s (extended_operand c x.0) (extended_operand c x.1)) (pairs xs ys)

-- ---- terms that cancel

pub extended-sum-cancelled : Extended-sum-cancelled
unfolding reported sum_rounded
extended-sum-cancelled f c u l r h n e =
    let a = extended-exact.0 f c u l r h n in
    let z = eq-eqb (exact_of c u l).mag 0 e in
    record {
      negative = towards_negative c;
      sign = toward-four c;
      result = ap (λ (x : Answer). x.result) a ∙ rw z refl;
      flags = ap (λ (x : Answer). x.flags) a ∙ rw z (add-zero (flag 128 (any subnormal_extended l)));
    }

pub extended-dot-cancelled : Extended-dot-cancelled
unfolding reported sum_rounded
extended-dot-cancelled f c xs ys r h k n e =
    let a = extended-exact.1 f c xs ys r h k n in
    let z = eq-eqb (exact_dot c xs ys).mag 0 e in
    record {
      negative = towards_negative c;
      sign = toward-four c;
      result = ap (λ (x : Answer). x.result) a ∙ rw z refl;
      flags = ap (λ (x : Answer). x.flags) a ∙ rw z (add-zero (flag 128 (either_subnormal xs ys)));
    }

-- ---- flag 128

pub extended-sum-subnormal : Extended-sum-subnormal
extended-sum-subnormal f c u l r =
    subst (λ (a : Answer). (rest : ℕ) × (rest < 128) × (a.flags ≡ flag 128 (any subnormal_extended l) + rest))
    (sym (sum-is f c u l r)) (rest c _ _ l _)

pub extended-dot-subnormal : Extended-dot-subnormal
extended-dot-subnormal f c xs ys r =
    subst (λ (s : Bool). (rest : ℕ) × (rest < 128) × ((extended_dot_answer f c xs ys).flags ≡ flag 128 s + rest)) (subnormals f c xs ys r)
    (subst (λ (a : Answer). (rest : ℕ) × (rest < 128) × (a.flags ≡ flag 128 (any subnormal_extended (both_of (pairs xs ys))) + rest))
    (sym (dot-is f c xs ys r)) (rest c true false (both_of (pairs xs ys)) _))
