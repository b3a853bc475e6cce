-- Promise 3, the order: an accepted list without a NaN and each rearrangement of it have one
-- record.
use mathlib.Core.Path.{◌≡◌, fun_ext, sym, ◌∙◌, refl, ap₂, ap}
use mathlib.Core.Bool.{Bool, true, false, not, ◌&&◌, cond, ◌||◌, true≢false}
use mathlib.Core.List.{List, [], Permᴰ, ◌∷◌, map}
use Prim.Native.Nat.{ℕ, suc}
use lib.Dec.{eqb, T, eqb→eq, eqb_refl}
use native.Mathlib.Nat.{suc-ne-zero, suc_inj}
use lib.ListN.{length}
use Rattle.totals_spec.specs.formats.Format.{Format, digits, valid_format}
use Rattle.totals_spec.specs.formats.Settings.{Settings, Summand, value, magnitude, square}
use Rattle.totals_spec.specs.formats.Settings.{summand_of, valid_settings}
use Rattle.totals_spec.specs.terms.Terms.{Term, plus_part, minus_part, plus_sum, minus_sum}
use Rattle.totals_spec.specs.terms.Terms.{top_of_term, top_of, Item, is_nan_item, is_invalid}
use Rattle.totals_spec.specs.terms.Terms.{is_infinite, is_zero, term_of, item_of, pair_of, item}
use Rattle.totals_spec.specs.terms.Terms.{pair_item}
use Rattle.totals_spec.specs.chain.Chain.{look_at, cut_plus, cut_minus, lost_of, chain}
use Rattle.totals_spec.specs.sums.Totals.{finite_total, zero_sign, towards_negative, without_nan}
use Rattle.totals_spec.specs.sums.Totals.{accepted, pairs, is_value, is_square, stray, sum_refusal}
use Rattle.totals_spec.specs.sums.Totals.{sum_accepted, sum_answer, refuse_if, dot_refusal}
use Rattle.totals_spec.specs.sums.Totals.{dot_accepted, dot_answer}
use Rattle.totals_spec.specs.Basics.{any, is_set}
use Rattle.totals_spec.specs.formats.Decode.{Unpacked, zero_of, finite, infinity, nan, is_finite}
use Rattle.totals_spec.specs.formats.Decode.{is_nan, field_of, sign_bit, decode, is_subnormal}
use Rattle.totals_spec.specs.formats.Decode.{operand}
use Rattle.totals_spec.specs.order.Rearranged.{holds_nan, same_pair}
use Rattle.totals_spec.specs.order.Promises.{Sum-order, Dot-order, Sum-entry-order, Dot-entry-order}
use Rattle.totals_spec.specs.entries.Bytes.{values_in, sum_entry, dot_entry}
use Rattle.totals_spec.proofs.order.Rearrangements.{total-perm, greatest-perm, any-perm}
use Rattle.totals_spec.proofs.order.Rearrangements.{picked-perm, length-perm, map-perm}
use Rattle.totals_spec.proofs.order.Rearrangements.{perm-of-counts}
use Rattle.totals_spec.proofs.formats.Valid.{and_left, and_right}

-- ---- the chain and the finite totals are the same for a rearrangement of the terms

module _ {ts us : List Term} (d : Permᴰ ts us) where
  pub look-perm : (w : ℕ) → look_at ts w ≡ look_at us w
  unfolding look_at
  look-perm w = λ i. record { plus = total-perm (cut_plus w) d i; minus = total-perm (cut_minus w) d i; lost = greatest-perm (lost_of w) d i }

  pub top-perm : top_of ts ≡ top_of us
  unfolding top_of
  top-perm = greatest-perm top_of_term d

  pub plus-perm : plus_sum ts ≡ plus_sum us
  unfolding plus_sum
  plus-perm = total-perm plus_part d

  pub minus-perm : minus_sum ts ≡ minus_sum us
  unfolding minus_sum
  minus-perm = total-perm minus_part d

  pub chain-perm : (p : ℕ) → chain p ts ≡ chain p us
  unfolding chain
  chain-perm p = cc (fun_ext look-perm, top-perm)

  finite-perm : (f : Format) (c : Settings) (sub products minus : Bool) → finite_total f c sub products minus ts ≡ finite_total f c sub products minus us
  unfolding finite_total
  finite-perm f c sub products minus = cc (any-perm (λ t. true) d, plus-perm, minus-perm, chain-perm (digits f))

-- ---- a rearrangement of the items, where no NaN decides

module _ (f : Format) (c : Settings) (sub products : Bool) {l₁ l₂ : List Item} (d : Permᴰ l₁ l₂) where
  without-perm : without_nan f c sub products l₁ ≡ without_nan f c sub products l₂
  unfolding without_nan
  without-perm =
      cc (
        any-perm is_invalid d,
        any-perm (is_infinite false) d,
        any-perm (is_infinite true) d,
        any-perm (is_zero false) d,
        any-perm (is_zero true) d,
        finite-perm (picked-perm term_of d) f c sub products (zero_sign (any (is_zero false) l₁) (any (is_zero true) l₁) (towards_negative c)),
      )

  -- the NaN of the rule is not asked for
  pub accepted-perm : (infinity_first sig₁ sig₂ : Bool) (v₁ v₂ : Unpacked) → any is_nan_item l₁ ≡ false
      → accepted f c sub products infinity_first sig₁ v₁ l₁ ≡ accepted f c sub products infinity_first sig₂ v₂ l₂
  unfolding accepted
  accepted-perm infinity_first sig₁ sig₂ v₁ v₂ h =
      let k : any is_nan_item l₂ ≡ false = sym (any-perm is_nan_item d) ∙ h in
      rw (h, k) without-perm

-- ---- no element is a NaN, so no item is

-- denormals-are-zero makes no NaN, and hides none
pub operand-nan : (x : Unpacked) (a z s : Bool) → is_nan (cond (a && (is_finite x && z)) (zero_of s) x) ≡ is_nan x
operand-nan (zero_of t) true z s = refl
operand-nan (zero_of t) false z s = refl
operand-nan (finite t k m) true true s = refl
operand-nan (finite t k m) true false s = refl
operand-nan (finite t k m) false z s = refl
operand-nan (infinity t) true z s = refl
operand-nan (infinity t) false z s = refl
operand-nan (nan t g m) true z s = refl
operand-nan (nan t g m) false z s = refl

operand-is_nan : (f : Format) (c : Settings) (b : ℕ) → is_nan (operand f c b) ≡ is_nan (decode f b)
unfolding operand is_subnormal
operand-is_nan f c b = operand-nan (decode f b) (is_set c.denormals_are_zero) (eqb (field_of f b) 0) (sign_bit f b)

pub item_of-nan : (u : Summand) (x : Unpacked) → is_nan_item (item_of u x) ≡ is_nan x
item_of-nan value (zero_of t) = refl
item_of-nan value (finite t k m) = refl
item_of-nan value (infinity t) = refl
item_of-nan value (nan t g m) = refl
item_of-nan magnitude (zero_of t) = refl
item_of-nan magnitude (finite t k m) = refl
item_of-nan magnitude (infinity t) = refl
item_of-nan magnitude (nan t g m) = refl
item_of-nan square (zero_of t) = refl
item_of-nan square (finite t k m) = refl
item_of-nan square (infinity t) = refl
item_of-nan square (nan t g m) = refl

pub pair_of-nan : (x y : Unpacked) → is_nan_item (pair_of x y) ≡ (is_nan x || is_nan y)
pair_of-nan (nan s g m) y = refl
pair_of-nan (zero_of s) (nan t h n) = refl
pair_of-nan (zero_of s) (zero_of t) = refl
pair_of-nan (zero_of s) (finite t j n) = refl
pair_of-nan (zero_of s) (infinity t) = refl
pair_of-nan (finite s k m) (nan t h n) = refl
pair_of-nan (finite s k m) (zero_of t) = refl
pair_of-nan (finite s k m) (finite t j n) = refl
pair_of-nan (finite s k m) (infinity t) = refl
pair_of-nan (infinity s) (nan t h n) = refl
pair_of-nan (infinity s) (zero_of t) = refl
pair_of-nan (infinity s) (finite t j n) = refl
pair_of-nan (infinity s) (infinity t) = refl

pub item-nan : (f : Format) (c : Settings) (u : Summand) (b : ℕ) → is_nan_item (item f c u b) ≡ is_nan (decode f b)
unfolding item
item-nan f c u b = item_of-nan u (operand f c b) ∙ operand-is_nan f c b

pub pair-nan : (f : Format) (c : Settings) (x : ℕ × ℕ) → is_nan_item (pair_item f c x) ≡ (is_nan (decode f x.0) || is_nan (decode f x.1))
unfolding pair_item
pair-nan f c x = pair_of-nan (operand f c x.0) (operand f c x.1) ∙ ap₂ ◌||◌ (operand-is_nan f c x.0) (operand-is_nan f c x.1)

-- one rule for a list of elements and for one of pairs
pub items-nan : {A : Type 0} (i : A → Item) (t : A → Bool) → ((x : A) → is_nan_item (i x) ≡ t x) → (l : List A) → any is_nan_item (map i l) ≡ any t l
items-nan i t h [] = refl
items-nan i t h (x ∷ l) = ap₂ ◌||◌ (h x) (items-nan i t h l)

neither : (a b r : Bool) → a ≡ false → b ≡ false → r ≡ false → (a || b || r) ≡ false
neither a b r p q e = rw (p, q, e)

pub or_split : (a b : Bool) → (a || b) ≡ false → (a ≡ false) × (b ≡ false)
or_split true b e = absurd (true≢false e)
or_split false b e = (refl, e)

pairs-nan : (f : Format) (c : Settings) (xs ys : List ℕ) → holds_nan f xs ≡ false → holds_nan f ys ≡ false
    → any is_nan_item (map (pair_item f c) (pairs xs ys)) ≡ false
pairs-nan f c [] ys p q = refl
pairs-nan f c (x ∷ xs) [] p q = refl
pairs-nan f c (x ∷ xs) (y ∷ ys) p q =
    let a = or_split (is_nan (decode f x)) (holds_nan f xs) p in
    let b = or_split (is_nan (decode f y)) (holds_nan f ys) q in
    ap₂ ◌||◌ (pair-nan f c (x, y) ∙ ap₂ ◌||◌ a.0 b.0) (pairs-nan f c xs ys a.1 b.1)

-- ---- THE ORDER of a sum, magnitude sum and square sum

module _ (f : Format) (c : Settings) (u : ℕ) {l₁ l₂ : List ℕ} (d : Permᴰ l₁ l₂) where
  refusal-perm : sum_refusal f c u l₁ ≡ sum_refusal f c u l₂
  unfolding sum_refusal
  refusal-perm = cc (length-perm d, any-perm (stray f) d)

  sum-accepted-perm : (s : Summand) → holds_nan f l₁ ≡ false → sum_accepted f c s l₁ ≡ sum_accepted f c s l₂
  unfolding sum_accepted
  sum-accepted-perm s h =
      rw (← (any-perm (is_subnormal f) d))
      (accepted-perm f c (any (is_subnormal f) l₁) (is_square s) (map-perm (item f c s) d) (not (is_value s)) _ _ _ _
      (items-nan (item f c s) (λ b. is_nan (decode f b)) (item-nan f c s) l₁ ∙ h))

  pub sum-perm : sum_refusal f c u l₁ ≡ 0 → holds_nan f l₁ ≡ false → sum_answer f c u l₁ ≡ sum_answer f c u l₂
  unfolding sum_answer
  sum-perm r h =
      let r₂ : sum_refusal f c u l₂ ≡ 0 = sym refusal-perm ∙ r in
      rw (r, r₂) (sum-accepted-perm (summand_of u) h)

-- ---- THE ORDER of a dot, its pairs moving together

pub first-zero : (b : Bool) (n rest : ℕ) → refuse_if b (suc n) rest ≡ 0 → (b ≡ false) × (rest ≡ 0)
first-zero true n rest e = absurd (suc-ne-zero n e)
first-zero false n rest e = (refl, e)

pub not-false : (b : Bool) → not b ≡ false → T b
not-false true e = tt
not-false false e = absurd (true≢false e)

pub dot-lengths : (f : Format) (c : Settings) (xs ys : List ℕ) → dot_refusal f c xs ys ≡ 0 → length xs ≡ length ys
unfolding dot_refusal
dot-lengths f c xs ys e =
    let a = first-zero (not (valid_format f)) 2 _ e in
    let b = first-zero (not (valid_settings f c)) 3 _ a.1 in
    let g = first-zero (not (eqb (length xs) (length ys))) 4 _ b.1 in
    eqb→eq (length xs) (length ys) (not-false (eqb (length xs) (length ys)) g.0)

pub pairs-length : (xs ys : List ℕ) → length xs ≡ length ys → length (pairs xs ys) ≡ length xs
pairs-length [] ys e = refl
pairs-length (x ∷ xs) [] e = absurd (suc-ne-zero (length xs) e)
pairs-length (x ∷ xs) (y ∷ ys) e = ap suc (pairs-length xs ys (suc_inj e))

pairs-left : (t : ℕ → Bool) (xs ys : List ℕ) → length xs ≡ length ys → any (λ x. t x.0) (pairs xs ys) ≡ any t xs
pairs-left t [] ys e = refl
pairs-left t (x ∷ xs) [] e = absurd (suc-ne-zero (length xs) e)
pairs-left t (x ∷ xs) (y ∷ ys) e = ap (λ r. t x || r) (pairs-left t xs ys (suc_inj e))

pairs-right : (t : ℕ → Bool) (xs ys : List ℕ) → length xs ≡ length ys → any (λ x. t x.1) (pairs xs ys) ≡ any t ys
pairs-right t [] [] e = refl
pairs-right t [] (y ∷ ys) e = absurd (suc-ne-zero (length ys) (sym e))
pairs-right t (x ∷ xs) [] e = absurd (suc-ne-zero (length xs) e)
pairs-right t (x ∷ xs) (y ∷ ys) e = ap (λ r. t y || r) (pairs-right t xs ys (suc_inj e))

module _ (f : Format) (c : Settings) (xs ys xs' ys' : List ℕ) (d : Permᴰ (pairs xs ys) (pairs xs' ys')) where
  dot-refusal-perm : length xs ≡ length ys → length xs' ≡ length ys' → dot_refusal f c xs ys ≡ dot_refusal f c xs' ys'
  unfolding dot_refusal
  dot-refusal-perm e e' =
      let n : length xs ≡ length xs' = sym (pairs-length xs ys e) ∙ length-perm d ∙ pairs-length xs' ys' e' in
      let a : any (stray f) xs ≡ any (stray f) xs' = sym (pairs-left (stray f) xs ys e) ∙ any-perm (λ x. stray f x.0) d ∙ pairs-left (stray f) xs' ys' e' in
      let b : any (stray f) ys ≡ any (stray f) ys' = sym (pairs-right (stray f) xs ys e) ∙ any-perm (λ x. stray f x.1) d
      ∙ pairs-right (stray f) xs' ys' e' in
      let m : length ys ≡ length ys' = sym e ∙ n ∙ e' in
      cc

  pub dot-perm : dot_refusal f c xs ys ≡ 0 → length xs' ≡ length ys' → holds_nan f xs ≡ false → holds_nan f ys ≡ false
      → dot_answer f c xs ys ≡ dot_answer f c xs' ys'
  unfolding dot_answer dot_accepted
  dot-perm r e' h k =
      let r' : dot_refusal f c xs' ys' ≡ 0 = sym (dot-refusal-perm (dot-lengths f c xs ys r) e') ∙ r in
      rw (r, r', ← (any-perm (λ x. is_subnormal f x.0 || is_subnormal f x.1) d))
      (accepted-perm f c _ true (map-perm (pair_item f c) d) false _ _ _ _ (pairs-nan f c xs ys h k))

-- ---- promise 3 as it is stated: a rearrangement is given by how often each element, or each pair,
-- occurs

pub sum-order : Sum-order
sum-order f c u l₁ l₂ h r k =
    let d = perm-of-counts eqb eqb→eq eqb_refl l₁ l₂ h in
    (sym (refusal-perm f c u d) ∙ r, sum-perm f c u d r k)

pub pair-sound : (x y : ℕ × ℕ) → T (same_pair x y) → x ≡ y
pair-sound x y t =
    let l = eqb→eq x.0 y.0 (and_left (eqb x.0 y.0) (eqb x.1 y.1) t) in
    let r = eqb→eq x.1 y.1 (and_right (eqb x.0 y.0) (eqb x.1 y.1) t) in
    λ i. (l i, r i)

and-join : (a b : Bool) → T a → T b → T (a && b)
and-join true true t s = tt
and-join false b t s = elim t [ ]
and-join true false t s = elim s [ ]

pub pair-alike : (x : ℕ × ℕ) → T (same_pair x x)
pair-alike x = and-join (eqb x.0 x.0) (eqb x.1 x.1) (eqb_refl x.0) (eqb_refl x.1)

pub dot-order : Dot-order
dot-order f c xs ys xs' ys' e h r j k =
    let d = perm-of-counts same_pair pair-sound pair-alike (pairs xs ys) (pairs xs' ys') h in
    (sym (dot-refusal-perm f c xs ys xs' ys' d (dot-lengths f c xs ys r) e) ∙ r, dot-perm f c xs ys xs' ys' d r e j k)

-- ---- and through the byte entries

pub sum-entry-order : Sum-entry-order
unfolding sum_entry
sum-entry-order f c u b₁ b₂ old e₁ e₂ h r k = cc (sum-order f c u (values_in b₁) (values_in b₂) h r k).1

pub dot-entry-order : Dot-entry-order
unfolding dot_entry
dot-entry-order f c x y x' y' old e₁ e₂ n h r j k =
    cc (dot-order f c (values_in x) (values_in y) (values_in x') (values_in y') n h r j k).1
