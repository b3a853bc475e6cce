-- The records without a pass: by the elements of the list, each test of an item being one of the
-- value it was made of.
use mathlib.Core.Path.{◌≡◌, refl, sym, ap, ap₂, ◌∙◌, subst}
use mathlib.Core.Bool.{Bool, true, false, not, ◌&&◌, ◌||◌, cond, true≢false}
use mathlib.Core.List.{List, [], ◌∷◌, map}
use Prim.Native.Nat.{ℕ, zero, suc}
use lib.Dec.{eqb}
use lib.ListN.{length}
use Rattle.totals_spec.specs.Basics.{any, is_set}
use Rattle.totals_spec.specs.formats.Format.{Format}
use Rattle.totals_spec.specs.formats.Settings.{Settings, Summand, value, magnitude, square}
use Rattle.totals_spec.specs.formats.Settings.{summand_of}
use Rattle.totals_spec.specs.formats.Decode.{Unpacked, zero_of, finite, infinity, nan, decode}
use Rattle.totals_spec.specs.formats.Decode.{is_nan, is_signaling, is_finite, is_subnormal, operand}
use Rattle.totals_spec.specs.formats.Decode.{sign_bit, field_of}
use Rattle.totals_spec.specs.terms.Terms.{Item, infinite, item, item_of, pair_item, pair_of}
use Rattle.totals_spec.specs.terms.Terms.{is_nan_item, is_invalid}
use Rattle.totals_spec.specs.terms.Terms.{is_infinite, unlike}
use Rattle.totals_spec.specs.sums.Nan.{default_nan_of, select_all}
use Rattle.totals_spec.specs.sums.Totals.{special, without_nan, accepted, is_square, is_value}
use Rattle.totals_spec.specs.sums.Totals.{sum_refusal, sum_accepted, sum_answer}
use Rattle.totals_spec.specs.sums.Totals.{pairs, operands, dot_refusal, dot_accepted, dot_answer}
use Rattle.totals_spec.proofs.order.Order.{item-nan, pair-nan, items-nan, dot-lengths}
use Rattle.totals_spec.proofs.sums.FiniteLists.{pairs-any}
use Rattle.promises.specs.Special.{NanOf, Given, default_of, some, some_subnormal, is_infinity, is_infinite_value, in_turn, infinity_times_zero}
use Rattle.promises.specs.Special.{product_sign, same, infinite_product, some_pair}
use Rattle.promises.specs.Special.{Sum-nan, Magnitudes-signaling, Magnitudes-quiet, Magnitudes-infinite, Sum-infinities, Sum-infinite}
use Rattle.promises.specs.Special.{Dot-nan, Dot-invalid, Dot-infinities, Dot-infinite}
use Rattle.promises.proofs.records.ChosenNan.{selected}

-- ---- a test of items is one of elements

pub any-map : {A B : Type 0} (t : B → Bool) (i : A → B) (s : A → Bool) → ((x : A) → t (i x) ≡ s x) → (l : List A) → any t (map i l) ≡ any s l
any-map t i s h [] = refl
any-map t i s h (x ∷ l) = ap₂ ◌||◌ (h x) (any-map t i s h l)

any-or : {A : Type 0} (t s : A → Bool) (l : List A) → any (λ x. t x || s x) l ≡ (any t l || any s l)
any-or t s [] = refl
any-or t s (x ∷ l) = ap (λ (b : Bool). (t x || s x) || b) (any-or t s l) ∙ mix (t x) (s x) (any t l) (any s l)
  where
    mix : (a b p q : Bool) → ((a || b) || (p || q)) ≡ ((a || p) || (b || q))
    mix true b p q = refl
    mix false true true q = refl
    mix false true false q = refl
    mix false false p q = refl

-- what is true of some signaling NaN is true of some NaN
signaling-nan : (v : Unpacked) → is_signaling v ≡ true → is_nan v ≡ true
signaling-nan (nan s g m) e = refl
signaling-nan (zero_of s) e = absurd (true≢false (sym e))
signaling-nan (finite s k m) e = absurd (true≢false (sym e))
signaling-nan (infinity s) e = absurd (true≢false (sym e))

some-nan : (f : Format) (l : List ℕ) → some is_signaling f l ≡ true → some is_nan f l ≡ true
some-nan f [] e = absurd (true≢false (sym e))
some-nan f (b ∷ l) e = go (some-nan f l) (is_signaling (decode f b)) refl e
  where
    or-true : (x : Bool) → (x || true) ≡ true
    or-true true = refl
    or-true false = refl

    go : (some is_signaling f l ≡ true → some is_nan f l ≡ true) → (x : Bool) → is_signaling (decode f b) ≡ x → (x || some is_signaling f l) ≡ true
        → (is_nan (decode f b) || some is_nan f l) ≡ true
    go p true i k = ap (λ (y : Bool). y || some is_nan f l) (signaling-nan (decode f b) i)
    go p false i k = ap (λ (y : Bool). is_nan (decode f b) || y) (p k) ∙ or-true (is_nan (decode f b))

-- ---- infinities

pub operand-infinite : (s : Bool) (x : Unpacked) (a z t : Bool) → is_infinity s (cond (a && (is_finite x && z)) (zero_of t) x) ≡ is_infinity s x
operand-infinite s (zero_of u) true z true = zeros s
  where
    zeros : (s : Bool) → is_infinity s (zero_of u) ≡ is_infinity s (zero_of u)
    zeros s = refl
operand-infinite s (zero_of u) true z false = refl
operand-infinite s (zero_of u) false z t = refl
operand-infinite true (finite u k m) true true t = refl
operand-infinite false (finite u k m) true true t = refl
operand-infinite s (finite u k m) true false t = refl
operand-infinite s (finite u k m) false z t = refl
operand-infinite s (infinity u) true z t = refl
operand-infinite s (infinity u) false z t = refl
operand-infinite s (nan u g m) true z t = refl
operand-infinite s (nan u g m) false z t = refl

pub value-infinite : (s : Bool) (x : Unpacked) → is_infinite s (item_of value x) ≡ is_infinity s x
value-infinite true (zero_of u) = refl
value-infinite false (zero_of u) = refl
value-infinite true (finite u k m) = refl
value-infinite false (finite u k m) = refl
value-infinite true (infinity true) = refl
value-infinite true (infinity false) = refl
value-infinite false (infinity true) = refl
value-infinite false (infinity false) = refl
value-infinite true (nan u g m) = refl
value-infinite false (nan u g m) = refl

element-infinite : (f : Format) (c : Settings) (s : Bool) (b : ℕ) → is_infinite s (item f c value b) ≡ is_infinity s (decode f b)
unfolding item operand is_subnormal
element-infinite f c s b =
    value-infinite s (operand f c b) ∙ operand-infinite s (decode f b) (is_set c.denormals_are_zero) (eqb (field_of f b) 0) (sign_bit f b)

-- magnitudes and squares
abbrev both : Unpacked → Bool
both x = is_infinity false x || is_infinity true x

pub either-infinite : (x : Unpacked) → is_infinite_value x ≡ both x
either-infinite (zero_of u) = refl
either-infinite (finite u k m) = refl
either-infinite (infinity true) = refl
either-infinite (infinity false) = refl
either-infinite (nan u g m) = refl

pub positive-infinite : (u : ℕ) (x : Unpacked) → is_infinite false (item_of (summand_of (suc u)) x) ≡ both x
positive-infinite zero (zero_of t) = refl
positive-infinite zero (finite t k m) = refl
positive-infinite zero (infinity true) = refl
positive-infinite zero (infinity false) = refl
positive-infinite zero (nan t g m) = refl
positive-infinite (suc u) (zero_of t) = refl
positive-infinite (suc u) (finite t k m) = refl
positive-infinite (suc u) (infinity true) = refl
positive-infinite (suc u) (infinity false) = refl
positive-infinite (suc u) (nan t g m) = refl

pub never-negative : (u : ℕ) (x : Unpacked) → is_infinite true (item_of (summand_of (suc u)) x) ≡ false
never-negative zero (zero_of t) = refl
never-negative zero (finite t k m) = refl
never-negative zero (infinity t) = refl
never-negative zero (nan t g m) = refl
never-negative (suc u) (zero_of t) = refl
never-negative (suc u) (finite t k m) = refl
never-negative (suc u) (infinity t) = refl
never-negative (suc u) (nan t g m) = refl

pub never-invalid : (u : Summand) (x : Unpacked) → is_invalid (item_of u x) ≡ false
never-invalid value (zero_of t) = refl
never-invalid value (finite t k m) = refl
never-invalid value (infinity t) = refl
never-invalid value (nan t g m) = refl
never-invalid magnitude (zero_of t) = refl
never-invalid magnitude (finite t k m) = refl
never-invalid magnitude (infinity t) = refl
never-invalid magnitude (nan t g m) = refl
never-invalid square (zero_of t) = refl
never-invalid square (finite t k m) = refl
never-invalid square (infinity t) = refl
never-invalid square (nan t g m) = refl

pub none-pass : {A : Type 0} (t : A → Bool) → ((x : A) → t x ≡ false) → (l : List A) → any t l ≡ false
none-pass t h [] = refl
none-pass t h (x ∷ l) = ap₂ ◌||◌ (h x) (none-pass t h l)

any-same : {A : Type 0} (t s : A → Bool) → ((x : A) → t x ≡ s x) → (l : List A) → any t l ≡ any s l
any-same t s h [] = refl
any-same t s h (x ∷ l) = ap₂ ◌||◌ (h x) (any-same t s h l)

-- ---- the records

pub special-nan : (f : Format) (c : Settings) (l : List Unpacked) (sub invalid : Bool) → any is_nan l ≡ true
    → NanOf f c l sub invalid (special f sub (select_all c l) invalid)
unfolding special
special-nan f c l sub invalid h =
    record { value = select_all c l; selected = selected c l h; result = refl; flags = refl; passes = refl; last_edge = refl }

special-given : (f : Format) (v : Unpacked) (sub invalid : Bool) → Given f v sub invalid (special f sub v invalid)
unfolding special
special-given f v sub invalid = record { result = refl; flags = refl; passes = refl; last_edge = refl }

pub default-given : (f : Format) (c : Settings) (sub : Bool) → Given f (default_of c) sub true (special f sub (default_nan_of c) true)
unfolding default_nan_of
default-given f c sub = special-given f (default_of c) sub true

module _ (f : Format) (c : Settings) (l : List ℕ) where
  any-decode : (t : Unpacked → Bool) → any t (map (decode f) l) ≡ some t f l
  any-decode t = any-map t (decode f) (λ b. t (decode f b)) (λ b. refl) l

  nans : (u : Summand) → any is_nan_item (map (item f c u) l) ≡ some is_nan f l
  nans u = items-nan (item f c u) (λ b. is_nan (decode f b)) (item-nan f c u) l

  invalids : (u : Summand) → any is_invalid (map (item f c u) l) ≡ false
  unfolding item
  invalids u = any-map is_invalid (item f c u) (λ b. false) (λ b. never-invalid u (operand f c b)) l ∙ none-pass (λ b. false) (λ b. refl) l

  infinite-values : (s : Bool) → any (is_infinite s) (map (item f c value) l) ≡ some (is_infinity s) f l
  infinite-values s = any-map (is_infinite s) (item f c value) (λ b. is_infinity s (decode f b)) (element-infinite f c s) l

  infinite-magnitudes : (u : ℕ) → any (is_infinite false) (map (item f c (summand_of (suc u))) l) ≡ some is_infinite_value f l
  unfolding item operand is_subnormal
  infinite-magnitudes u =
      any-map (is_infinite false) (item f c (summand_of (suc u))) (λ b. is_infinite_value (decode f b))
      (λ b.
      positive-infinite u (operand f c b)
      ∙ ap₂ ◌||◌ (operand-infinite false (decode f b) (is_set c.denormals_are_zero) (eqb (field_of f b) 0) (sign_bit f b))
      (operand-infinite true (decode f b) (is_set c.denormals_are_zero) (eqb (field_of f b) 0) (sign_bit f b))
      ∙ sym (either-infinite (decode f b))) l

  negative-magnitudes : (u : ℕ) → any (is_infinite true) (map (item f c (summand_of (suc u))) l) ≡ false
  unfolding item
  negative-magnitudes u =
      any-map (is_infinite true) (item f c (summand_of (suc u))) (λ b. false) (λ b. never-negative u (operand f c b)) l
      ∙ none-pass (λ b. false) (λ b. refl) l

  or-none : (x : Bool) → (x || false) ≡ x
  or-none true = refl
  or-none false = refl

  -- a NaN decides
  nan-decides : (u : ℕ) → sum_refusal f c u l ≡ 0 → some is_nan f l ≡ true
      → (not (is_value (summand_of u)) && not (some is_signaling f l) && any (is_infinite false) (map (item f c (summand_of u)) l)) ≡ false
      → NanOf f c (map (decode f) l) (some_subnormal f l) (some is_signaling f l) (sum_answer f c u l)
  unfolding sum_answer sum_accepted accepted
  nan-decides u r h k =
      rw (r, nans (summand_of u), h, k, invalids (summand_of u), or-none (some is_signaling f l))
      (special-nan f c (map (decode f) l) (some_subnormal f l) (some is_signaling f l) (any-decode is_nan ∙ h))

  -- no NaN decides
  no-nan-decides : (u : ℕ) → sum_refusal f c u l ≡ 0
      → (some is_nan f l
      && not (not (is_value (summand_of u)) && not (some is_signaling f l) && any (is_infinite false) (map (item f c (summand_of u)) l))) ≡ false
      → sum_answer f c u l ≡ without_nan f c (some_subnormal f l) (is_square (summand_of u)) (map (item f c (summand_of u)) l)
  unfolding sum_answer sum_accepted accepted
  no-nan-decides u r h = rw (r, nans (summand_of u), h) refl

-- an infinity times a zero, infinities of both signs, of one sign
module _ (f : Format) (c : Settings) (sub products : Bool) (l : List Item) where
  pub invalid-given : any is_invalid l ≡ true → Given f (default_of c) sub true (without_nan f c sub products l)
  unfolding without_nan
  invalid-given h = rw h (default-given f c sub)

  pub both-given : any is_invalid l ≡ false → any (is_infinite false) l ≡ true → any (is_infinite true) l ≡ true
      → Given f (default_of c) sub true (without_nan f c sub products l)
  unfolding without_nan
  both-given h p m = rw (h, p, m) (default-given f c sub)

  pub one-given : (s : Bool) → any is_invalid l ≡ false → any (is_infinite s) l ≡ true → any (is_infinite (not s)) l ≡ false
      → Given f (infinity s) sub false (without_nan f c sub products l)
  unfolding without_nan
  one-given true h p m = rw (h, p, m) (special-given f (infinity true) sub false)
  one-given false h p m = rw (h, p, m) (special-given f (infinity false) sub false)

pub sum-nan : Sum-nan
sum-nan f c l r h = nan-decides f c l 0 r h refl

pub magnitudes-signaling : Magnitudes-signaling
magnitudes-signaling f c u l r h =
    subst (λ (i : Bool). NanOf f c (map (decode f) l) (some_subnormal f l) i (sum_answer f c (suc u) l)) h
    (nan-decides f c l (suc u) r (some-nan f l h) (rw h (nothing (not (is_value (summand_of (suc u)))) _)))
  where
    nothing : (x y : Bool) → (x && not true && y) ≡ false
    nothing true true = refl
    nothing true false = refl
    nothing false true = refl
    nothing false false = refl

pub magnitudes-quiet : Magnitudes-quiet
magnitudes-quiet f c u l r h q i =
    subst (λ (x : Bool). NanOf f c (map (decode f) l) (some_subnormal f l) x (sum_answer f c (suc u) l)) q
    (nan-decides f c l (suc u) r h (rw (q, infinite-magnitudes f c l u, i) (nothing (not (is_value (summand_of (suc u)))))))
  where
    nothing : (x : Bool) → (x && not false && false) ≡ false
    nothing true = refl
    nothing false = refl

pub magnitudes-infinite : Magnitudes-infinite
magnitudes-infinite f c u l r h q =
    subst (Given f (infinity false) (some_subnormal f l) false)
    (sym (no-nan-decides f c l (suc u) r (rw (q, infinite-magnitudes f c l u, h) (first u (some is_nan f l)))))
    (one-given f c (some_subnormal f l) (is_square (summand_of (suc u))) (map (item f c (summand_of (suc u))) l) false (invalids f c l (summand_of (suc u)))
    (infinite-magnitudes f c l u ∙ h) (negative-magnitudes f c l u))
  where
    first : (u : ℕ) (n : Bool) → (n && not (not (is_value (summand_of (suc u))) && true && true)) ≡ false
    first zero true = refl
    first zero false = refl
    first (suc u) true = refl
    first (suc u) false = refl

module _ (f : Format) (c : Settings) (l : List ℕ) (r : sum_refusal f c 0 l ≡ 0) (h : some is_nan f l ≡ false) where
  value-answer : sum_answer f c 0 l ≡ without_nan f c (some_subnormal f l) false (map (item f c value) l)
  value-answer = no-nan-decides f c l 0 r (rw h refl)

  pub sum-infinities-of : some (is_infinity false) f l ≡ true → some (is_infinity true) f l ≡ true
      → Given f (default_of c) (some_subnormal f l) true (sum_answer f c 0 l)
  sum-infinities-of p m =
      subst (Given f (default_of c) (some_subnormal f l) true) (sym value-answer)
      (both-given f c (some_subnormal f l) false (map (item f c value) l) (invalids f c l value)
      (infinite-values f c l false ∙ p) (infinite-values f c l true ∙ m))

  pub sum-infinite-of : (s : Bool) → some (is_infinity s) f l ≡ true → some (is_infinity (not s)) f l ≡ false
      → Given f (infinity s) (some_subnormal f l) false (sum_answer f c 0 l)
  sum-infinite-of s p m =
      subst (Given f (infinity s) (some_subnormal f l) false) (sym value-answer)
      (one-given f c (some_subnormal f l) false (map (item f c value) l) s (invalids f c l value)
      (infinite-values f c l s ∙ p) (infinite-values f c l (not s) ∙ m))

pub sum-infinities : Sum-infinities
sum-infinities f c l r h p m = sum-infinities-of f c l r h p m

pub sum-infinite : Sum-infinite
sum-infinite f c s l r h p m = sum-infinite-of f c l r h s p m

-- ---- dots

pub pair-invalid : (x y : Unpacked) → is_invalid (pair_of x y) ≡ infinity_times_zero x y
pair-invalid (zero_of s) (zero_of t) = refl
pair-invalid (zero_of s) (finite t k m) = refl
pair-invalid (zero_of s) (infinity t) = refl
pair-invalid (zero_of s) (nan t g m) = refl
pair-invalid (finite s k m) (zero_of t) = refl
pair-invalid (finite s k m) (finite t j n) = refl
pair-invalid (finite s k m) (infinity t) = refl
pair-invalid (finite s k m) (nan t g n) = refl
pair-invalid (infinity s) (zero_of t) = refl
pair-invalid (infinity s) (finite t k m) = refl
pair-invalid (infinity s) (infinity t) = refl
pair-invalid (infinity s) (nan t g m) = refl
pair-invalid (nan s g m) (zero_of t) = refl
pair-invalid (nan s g m) (finite t k n) = refl
pair-invalid (nan s g m) (infinity t) = refl
pair-invalid (nan s g m) (nan t h n) = refl

-- the sign of a product
signs : (s t u : Bool) → is_infinite s (infinite (unlike t u)) ≡ same s (product_sign t u)
signs true true true = refl
signs true true false = refl
signs true false true = refl
signs true false false = refl
signs false true true = refl
signs false true false = refl
signs false false true = refl
signs false false false = refl

pub pair-infinite : (s : Bool) (x y : Unpacked) → is_infinite s (pair_of x y) ≡ infinite_product s x y
pair-infinite s (zero_of t) (zero_of u) = refl
pair-infinite s (zero_of t) (finite u k m) = refl
pair-infinite s (zero_of t) (infinity u) = refl
pair-infinite s (zero_of t) (nan u g m) = refl
pair-infinite s (finite t k m) (zero_of u) = refl
pair-infinite s (finite t k m) (finite u j n) = refl
pair-infinite s (finite t k m) (infinity u) = signs s t u
pair-infinite s (finite t k m) (nan u g n) = refl
pair-infinite s (infinity t) (zero_of u) = refl
pair-infinite s (infinity t) (finite u k m) = signs s t u
pair-infinite s (infinity t) (infinity u) = signs s t u
pair-infinite s (infinity t) (nan u g m) = refl
pair-infinite s (nan t g m) (zero_of u) = refl
pair-infinite s (nan t g m) (finite u k n) = refl
pair-infinite s (nan t g m) (infinity u) = refl
pair-infinite s (nan t g m) (nan u h n) = refl

in-turn : (f : Format) (xs ys : List ℕ) → operands f (pairs xs ys) ≡ map (decode f) (in_turn xs ys)
in-turn f [] ys = refl
in-turn f (x ∷ xs) [] = refl
in-turn f (x ∷ xs) (y ∷ ys) = ap (λ (l : List Unpacked). decode f x ∷ (decode f y ∷ l)) (in-turn f xs ys)

turned-nan : (f : Format) (xs ys : List ℕ) → any is_nan (map (decode f) (in_turn xs ys)) ≡ any (λ x. is_nan (decode f x.0) || is_nan (decode f x.1)) (pairs xs ys)
turned-nan f [] ys = refl
turned-nan f (x ∷ xs) [] = refl
turned-nan f (x ∷ xs) (y ∷ ys) = step (is_nan (decode f x)) (is_nan (decode f y)) _ _ (turned-nan f xs ys)
  where
    step : (a b p q : Bool) → p ≡ q → (a || (b || p)) ≡ ((a || b) || q)
    step true b p q e = refl
    step false b p q e = ap (λ (z : Bool). b || z) e

module _ (f : Format) (c : Settings) (xs ys : List ℕ) (r : dot_refusal f c xs ys ≡ 0) where
  abbrev l : List Item
  l = map (pair_item f c) (pairs xs ys)

  even : length xs ≡ length ys
  even = dot-lengths f c xs ys r

  some-in-pairs : (t : Unpacked → Bool) → any (λ x. t (decode f x.0) || t (decode f x.1)) (pairs xs ys) ≡ (some t f xs || some t f ys)
  some-in-pairs t = pairs-any (λ b. t (decode f b)) xs ys even

  subnormals : any (λ x. is_subnormal f x.0 || is_subnormal f x.1) (pairs xs ys) ≡ (some_subnormal f xs || some_subnormal f ys)
  subnormals = pairs-any (is_subnormal f) xs ys even

  pair-nans : any is_nan_item l ≡ (some is_nan f xs || some is_nan f ys)
  pair-nans = items-nan (pair_item f c) (λ x. is_nan (decode f x.0) || is_nan (decode f x.1)) (pair-nan f c) (pairs xs ys) ∙ some-in-pairs is_nan

  pair-invalids : any is_invalid l ≡ some_pair infinity_times_zero f c xs ys
  unfolding pair_item
  pair-invalids =
      any-map is_invalid (pair_item f c) (λ x. infinity_times_zero (operand f c x.0) (operand f c x.1))
      (λ x. pair-invalid (operand f c x.0) (operand f c x.1)) (pairs xs ys)

  pair-infinities : (s : Bool) → any (is_infinite s) l ≡ some_pair (infinite_product s) f c xs ys
  unfolding pair_item
  pair-infinities s =
      any-map (is_infinite s) (pair_item f c) (λ x. infinite_product s (operand f c x.0) (operand f c x.1))
      (λ x. pair-infinite s (operand f c x.0) (operand f c x.1)) (pairs xs ys)

  dot-nan-of : (some is_nan f xs || some is_nan f ys) ≡ true
      → NanOf f c (map (decode f) (in_turn xs ys)) (some_subnormal f xs || some_subnormal f ys)
      ((some is_signaling f xs || some is_signaling f ys) || some_pair infinity_times_zero f c xs ys) (dot_answer f c xs ys)
  unfolding dot_answer dot_accepted accepted
  dot-nan-of h =
      rw (r, pair-nans, h, pair-invalids, some-in-pairs is_signaling, subnormals, in-turn f xs ys)
      (special-nan f c (map (decode f) (in_turn xs ys)) _ _ (turned-nan f xs ys ∙ some-in-pairs is_nan ∙ h))

  dot-without : (some is_nan f xs || some is_nan f ys) ≡ false
      → dot_answer f c xs ys ≡ without_nan f c (some_subnormal f xs || some_subnormal f ys) true l
  unfolding dot_answer dot_accepted accepted
  dot-without h = rw (r, pair-nans, h, subnormals) refl

pub dot-nan : Dot-nan
dot-nan f c xs ys r h = dot-nan-of f c xs ys r h

pub dot-invalid : Dot-invalid
dot-invalid f c xs ys r h i =
    subst (Given f (default_of c) (some_subnormal f xs || some_subnormal f ys) true) (sym (dot-without f c xs ys r h))
    (invalid-given f c _ true (l f c xs ys r) (pair-invalids f c xs ys r ∙ i))

pub dot-infinities : Dot-infinities
dot-infinities f c xs ys r h i p m =
    subst (Given f (default_of c) (some_subnormal f xs || some_subnormal f ys) true) (sym (dot-without f c xs ys r h))
    (both-given f c _ true (l f c xs ys r) (pair-invalids f c xs ys r ∙ i) (pair-infinities f c xs ys r false ∙ p)
    (pair-infinities f c xs ys r true ∙ m))

pub dot-infinite : Dot-infinite
dot-infinite f c s xs ys r h i p m =
    subst (Given f (infinity s) (some_subnormal f xs || some_subnormal f ys) false) (sym (dot-without f c xs ys r h))
    (one-given f c _ true (l f c xs ys r) s (pair-invalids f c xs ys r ∙ i) (pair-infinities f c xs ys r s ∙ p)
    (pair-infinities f c xs ys r (not s) ∙ m))
