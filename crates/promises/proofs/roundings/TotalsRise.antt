-- A larger exact sum never has a smaller total.
use mathlib.Core.Path.{◌≡◌, refl, sym, ap, ◌∙◌, subst}
use mathlib.Core.Logic.{◌⊎◌, inl, inr}
use mathlib.Core.Bool.{Bool, true, false, ◌&&◌, cond, true≢false}
use mathlib.Core.List.{List, [], ◌∷◌, map}
use Prim.Native.Nat.{ℕ, ◌+◌, ◌-◌, ◌*◌, ◌^◌, ◌≤◌, ◌<◌}
use native.Mathlib.Nat.{zero-mul, mul-zero, add-mul, le_refl, mul-le-mul_right}
use native.Mathlib.Omega.{arith}
use lib.Dec.{T, eqb, leb→le, le→leb}
use lib.ListN.{length}
use borrow.Author.Tests.{eqb-true, eqb-false}
use Rattle.totals_spec.specs.Basics.{Signed, plus_of, minus_of, raised, total, is_set}
use Rattle.totals_spec.specs.formats.Bounds.{RangeBounds, SettingsBounds}
use Rattle.totals_spec.specs.formats.Format.{Format, Kind, ieee, no_inf, fnuz, finite_only, kind_of}
use Rattle.totals_spec.specs.formats.Format.{digits, room, grid, rise}
use Rattle.totals_spec.specs.formats.Settings.{Settings, summand_of}
use Rattle.totals_spec.specs.formats.Decode.{Unpacked, zero_of, finite, infinity, nan, decode}
use Rattle.totals_spec.specs.formats.Decode.{operand, is_nan, is_subnormal, sign_bit}
use Rattle.totals_spec.specs.formats.Encode.{encode}
use Rattle.totals_spec.specs.formats.Ordered.{worth, at_most, nothing}
use Rattle.totals_spec.specs.formats.Ordered.{Ordered}
use Rattle.totals_spec.specs.terms.Terms.{exact_sum, unlike}
use Rattle.totals_spec.specs.sums.Totals.{Answer, on_grid, is_square, pairs, sum_refusal, sum_terms}
use Rattle.totals_spec.specs.sums.Totals.{sum_answer, dot_refusal, dot_terms, dot_answer}
use Rattle.totals_spec.specs.sums.Promises.{AllFinite}
use Rattle.totals_spec.specs.rounding.Promises.{kept_as}
use Rattle.totals_spec.proofs.refusals.AcceptedCalls.{sum-accepts, dot-accepts}
use Rattle.totals_spec.proofs.numbers.SignedNumbers.{difference-parts}
use Rattle.totals_spec.proofs.sums.ZeroTotals.{sum-zeros, dot-zeros}
use Rattle.totals_spec.proofs.rounding.RoundedBack.{held_back}
use Rattle.promises.specs.Rounding.{Once}
use Rattle.promises.specs.Statements.{RoundedOnce}
use Rattle.promises.specs.Special.{SubnormalNumber}
use Rattle.promises.specs.Amounts.{amount, product_of, product, AllAtMost}
use Rattle.promises.specs.Rising.{sum_amount, dot_amount, Sum-rises, Dot-rises, Sum-number, Dot-number}
use Rattle.promises.specs.Rising.{AllRise, Amounts-rise, Values-rise, NoneNegative, Factors-rise}
use Rattle.promises.proofs.roundings.SumsOfAmounts.{list-means, exact-sum-means}
use Rattle.promises.proofs.roundings.SumsRoundedOnce.{sum-rounded-once, dot-rounded-once}
use Rattle.promises.proofs.records.OnlyZeros.{sum-cancelled, dot-cancelled}
use Rattle.promises.proofs.records.Subnormals.{subnormal-means}
use Rattle.promises.proofs.roundings.RoundingRises.{Gives, a-zero, gives, gives-rise, once-nan}

-- ---- as a format keeps its values, it keeps their order

kept-nan : (k : Kind) (v : Unpacked) → is_nan (kept_as k v) ≡ is_nan v
kept-nan ieee v = refl
kept-nan no_inf v = refl
kept-nan finite_only v = refl
kept-nan fnuz (zero_of s) = refl
kept-nan fnuz (finite s k m) = refl
kept-nan fnuz (infinity s) = refl
kept-nan fnuz (nan s g m) = refl

kept-order : (k : Kind) (v u : Unpacked) → Ordered v u → Ordered (kept_as k v) (kept_as k u)
kept-order ieee v u h = h
kept-order no_inf v u h = h
kept-order finite_only v u h = h
kept-order fnuz (zero_of s) (zero_of t) h = h
kept-order fnuz (zero_of s) (finite t j n) h = h
kept-order fnuz (zero_of s) (infinity t) h = h
kept-order fnuz (zero_of s) (nan t g n) h = h
kept-order fnuz (finite s k m) (zero_of t) h = h
kept-order fnuz (finite s k m) (finite t j n) h = h
kept-order fnuz (finite s k m) (infinity t) h = h
kept-order fnuz (finite s k m) (nan t g n) h = h
kept-order fnuz (infinity s) (zero_of t) h = h
kept-order fnuz (infinity s) (finite t j n) h = h
kept-order fnuz (infinity s) (infinity t) h = h
kept-order fnuz (infinity s) (nan t g n) h = h
kept-order fnuz (nan s g m) (zero_of t) h = absurd h
kept-order fnuz (nan s g m) (finite t j n) h = absurd h
kept-order fnuz (nan s g m) (infinity t) h = absurd h
kept-order fnuz (nan s g m) (nan t h' n) h = absurd h

-- ---- what a total is: a zero of a sum of 0, or the sum rounded once

module _ (f : Format) (c : Settings) (g : ℕ) (b : RangeBounds f) (w : SettingsBounds f c) where
  record Comes (x : Signed) (d : Unpacked) : Type 0 where
    value : Unpacked
    kept : d ≡ kept_as (kind_of f.kind) value
    from : ((x.mag ≡ 0) × (t : Bool) × (value ≡ zero_of t)) ⊎ ((n : ℕ) × Once f c g x.neg x.mag value n)

  of-once : (sub : Bool) (x : Signed) (a : Answer) → RoundedOnce f c g sub x a → Comes x (decode f a.result)
  of-once sub x a o = record { value = o.value; kept = o.back; from = inr (o.set_flags, o.once) }

  of-zero : (x : Signed) (t : Bool) (n : ℕ) → x.mag ≡ 0 → n ≡ encode f (zero_of t) → Comes x (decode f n)
  of-zero x t n e r =
      record { value = zero_of t; kept = ap (decode f) r ∙ held_back f b (zero_of t) tt; from = inl (e, t, refl) }

  comes-gives : (x : Signed) (d : Unpacked) (k : Comes x d) → is_nan d ≡ false
      → (is_nan k.value ≡ false) × Gives f c g b w x.neg x.mag k.value
  comes-gives x d k n = (whole, go k.from)
    where
      whole : is_nan k.value ≡ false
      whole = sym (kept-nan (kind_of f.kind) k.value) ∙ ap is_nan (sym k.kept) ∙ n

      go : ((x.mag ≡ 0) × (t : Bool) × (k.value ≡ zero_of t)) ⊎ ((n : ℕ) × Once f c g x.neg x.mag k.value n)
          → Gives f c g b w x.neg x.mag k.value
      go (inl e) = a-zero e.1 e.2 (inl e.0)
      go (inr e) = gives f c g b w x.neg x.mag k.value e.0 e.1 whole

  comes-rise : (x y : Signed) (d e : Unpacked) → Comes x d → Comes y e → T (at_most x y) → is_nan d ≡ false → is_nan e ≡ false
      → Ordered d e
  comes-rise x y d e k l h n m =
      let p = comes-gives x d k n in
      let q = comes-gives y e l m in
      rw (k.kept, l.kept)
      (kept-order (kind_of f.kind) k.value l.value (gives-rise f c g b w x y k.value l.value h p.1 q.1 p.0 q.0))

  -- no NaN comes in a kind with infinities, or without NaNs
  comes-number : (f.kind ≡ 0) ⊎ (f.kind ≡ 3) → (x : Signed) (d : Unpacked) → Comes x d → is_nan d ≡ false
  comes-number kinds x d k = ap is_nan k.kept ∙ kept-nan (kind_of f.kind) k.value ∙ whole k.from
    where
      apart : (f.kind ≡ 0) ⊎ (f.kind ≡ 3) → (kind_of f.kind ≡ no_inf) ⊎ (kind_of f.kind ≡ fnuz) → ⊥
      apart (inl e) (inl i) = let z : ieee ≡ no_inf = ap kind_of (sym e) ∙ i in cc
      apart (inl e) (inr i) = let z : ieee ≡ fnuz = ap kind_of (sym e) ∙ i in cc
      apart (inr e) (inl i) = let z : finite_only ≡ no_inf = ap kind_of (sym e) ∙ i in cc
      apart (inr e) (inr i) = let z : finite_only ≡ fnuz = ap kind_of (sym e) ∙ i in cc

      once : (n : ℕ) → Once f c g x.neg x.mag k.value n → (t : Bool) → is_nan k.value ≡ t → is_nan k.value ≡ false
      once n o true e = absurd (apart kinds (once-nan f c g x.neg x.mag k.value n o e).kind)
      once n o false e = e

      whole : ((x.mag ≡ 0) × (t : Bool) × (k.value ≡ zero_of t)) ⊎ ((n : ℕ) × Once f c g x.neg x.mag k.value n)
          → is_nan k.value ≡ false
      whole (inl e) = ap is_nan e.2
      whole (inr e) = once e.0 e.1 _ refl

module _ (f : Format) (c : Settings) (u : ℕ) (l : List ℕ) (r : sum_refusal f c u l ≡ 0) (h : AllFinite f l) where
  abbrev sq : Bool
  sq = is_square (summand_of u)

  abbrev exact : Signed
  exact = on_grid f sq (exact_sum (sum_terms f c (summand_of u) l))

  sum-comes : (b : RangeBounds f) (w : SettingsBounds f c) → Comes f c (grid f sq) b w exact (decode f (sum_answer f c u l).result)
  sum-comes b w = go (eqb exact.mag 0) refl (eqb (length (sum_terms f c (summand_of u) l)) 0) refl
    where
      go : (t : Bool) → eqb exact.mag 0 ≡ t → (e : Bool) → eqb (length (sum_terms f c (summand_of u) l)) 0 ≡ e
          → Comes f c (grid f sq) b w exact (decode f (sum_answer f c u l).result)
      go false t e i = of-once f c (grid f sq) b w _ exact (sum_answer f c u l)
          (sum-rounded-once f c u l r h (let z : 0 < exact.mag = omega (arith, eqb-false exact.mag 0 t) in z))
      go true t true i =
          of-zero f c (grid f sq) b w exact _ _ (eqb-true exact.mag 0 t)
          (ap (λ (a : Answer). a.result) (sum-zeros f c u l r h (eqb-true _ 0 i)))
      go true t false i =
          of-zero f c (grid f sq) b w exact _ _ (eqb-true exact.mag 0 t)
          (sum-cancelled f c u l r h (let z : 0 < length (sum_terms f c (summand_of u) l) = omega (arith, eqb-false _ 0 i) in z)
          (eqb-true exact.mag 0 t)).result

  sum-is : exact ≡ raised (rise f sq) (raised room (sum_amount f c u l))
  sum-is = ap (raised (rise f sq)) (list-means f c (summand_of u) l)

module _ (f : Format) (c : Settings) (xs ys : List ℕ) (r : dot_refusal f c xs ys ≡ 0) (h : AllFinite f xs) (k : AllFinite f ys) where
  abbrev exact-dot : Signed
  exact-dot = on_grid f true (exact_sum (dot_terms f c xs ys))

  dot-comes : (b : RangeBounds f) (w : SettingsBounds f c) → Comes f c (grid f true) b w exact-dot (decode f (dot_answer f c xs ys).result)
  dot-comes b w = go (eqb exact-dot.mag 0) refl (eqb (length (dot_terms f c xs ys)) 0) refl
    where
      go : (t : Bool) → eqb exact-dot.mag 0 ≡ t → (e : Bool) → eqb (length (dot_terms f c xs ys)) 0 ≡ e
          → Comes f c (grid f true) b w exact-dot (decode f (dot_answer f c xs ys).result)
      go false t e i = of-once f c (grid f true) b w _ exact-dot (dot_answer f c xs ys)
          (dot-rounded-once f c xs ys r h k (let z : 0 < exact-dot.mag = omega (arith, eqb-false exact-dot.mag 0 t) in z))
      go true t true i =
          of-zero f c (grid f true) b w exact-dot _ _ (eqb-true exact-dot.mag 0 t)
          (ap (λ (a : Answer). a.result) (dot-zeros f c xs ys r h k (eqb-true _ 0 i)))
      go true t false i =
          of-zero f c (grid f true) b w exact-dot _ _ (eqb-true exact-dot.mag 0 t)
          (dot-cancelled f c xs ys r h k (let z : 0 < length (dot_terms f c xs ys) = omega (arith, eqb-false _ 0 i) in z)
          (eqb-true exact-dot.mag 0 t)).result

  dot-is : exact-dot ≡ raised (rise f true) (raised room (dot_amount f c xs ys))
  dot-is = ap (raised (rise f true)) (exact-sum-means.3 f c xs ys)

-- in a finer unit the order is the same
raised-most : (n : ℕ) (x y : Signed) → T (at_most x y) → T (at_most (raised n x) (raised n y))
unfolding raised
raised-most n x y h = le→leb _ _ (le (x.neg) (y.neg) x.mag y.mag (leb→le _ _ h))
  where
    plus : (s : Bool) (m : ℕ) → cond s 0 (m * 2 ^ n) ≡ cond s 0 m * 2 ^ n
    plus true m = sym (zero-mul (2 ^ n))
    plus false m = refl

    minus : (s : Bool) (m : ℕ) → cond s (m * 2 ^ n) 0 ≡ cond s m 0 * 2 ^ n
    minus true m = refl
    minus false m = sym (zero-mul (2 ^ n))

    le : (s t : Bool) (m k : ℕ) → cond s 0 m + cond t k 0 ≤ cond t 0 k + cond s m 0
        → cond s 0 (m * 2 ^ n) + cond t (k * 2 ^ n) 0 ≤ cond t 0 (k * 2 ^ n) + cond s (m * 2 ^ n) 0
    le s t m k l =
        rw (plus s m, minus t k, plus t k, minus s m)
        (rw (← (add-mul (cond s 0 m) (cond t k 0) (2 ^ n)), ← (add-mul (cond t 0 k) (cond s m 0) (2 ^ n))) (mul-le-mul_right (2 ^ n) l))

most-of : (n : ℕ) (x y p q : Signed) → p ≡ raised n (raised room x) → q ≡ raised n (raised room y) → T (at_most x y) → T (at_most p q)
most-of n x y p q e i h =
    subst (λ (z : Signed). T (at_most p z)) (sym i)
    (subst (λ (z : Signed). T (at_most z (raised n (raised room y)))) (sym e) (raised-most n _ _ (raised-most room x y h)))

pub sum-rises : Sum-rises
sum-rises f c u l k r h r' h' m n n' =
    let a = sum-accepts f c u l r in
    comes-rise f c (grid f (is_square (summand_of u))) a.format.range a.settings _ _ _ _ (sum-comes f c u l r h a.format.range a.settings)
    (sum-comes f c u k r' h' a.format.range a.settings)
    (most-of (rise f (is_square (summand_of u))) _ _ _ _ (sum-is f c u l r h) (sum-is f c u k r' h') m) n n'

pub dot-rises : Dot-rises
dot-rises f c xs ys xs' ys' r h k r' h' k' m n n' =
    let a = dot-accepts f c xs ys r in
    comes-rise f c (grid f true) a.format.range a.settings _ _ _ _ (dot-comes f c xs ys r h k a.format.range a.settings)
    (dot-comes f c xs' ys' r' h' k' a.format.range a.settings)
    (most-of (rise f true) _ _ _ _ (dot-is f c xs ys r h k) (dot-is f c xs' ys' r' h' k') m) n n'

pub sum-number : Sum-number
sum-number f c u l kinds r h =
    let a = sum-accepts f c u l r in
    comes-number f c _ a.format.range a.settings kinds _ _ (sum-comes f c u l r h a.format.range a.settings)

pub dot-number : Dot-number
dot-number f c xs ys kinds r h k =
    let a = dot-accepts f c xs ys r in
    comes-number f c _ a.format.range a.settings kinds _ _ (dot-comes f c xs ys r h k a.format.range a.settings)

-- ---- one by one

all-apart : (xs ys : List Signed) → AllRise xs ys → total plus_of xs + total minus_of ys ≤ total plus_of ys + total minus_of xs
all-apart [] [] h = le_refl 0
all-apart [] (y ∷ ys) h = absurd h
all-apart (x ∷ xs) [] h = absurd h
all-apart (x ∷ xs) (y ∷ ys) h = omega (arith, leb→le _ _ h.0, all-apart xs ys h.1)

pub amounts-rise : Amounts-rise
amounts-rise xs ys h =
    le→leb _ _
    (omega (
      arith,
      all-apart xs ys h,
      difference-parts (total plus_of xs) (total minus_of xs),
      difference-parts (total plus_of ys) (total minus_of ys),
    ))

-- under denormals-are-zero what is larger is taken as no less
module _ (f : Format) where
  up : (v u : Unpacked) → SubnormalNumber f v → ¬ SubnormalNumber f u → T (at_most (worth v) (worth u)) → T (at_most nothing (worth u))
  up v (zero_of t) a b h = tt
  up v (infinity t) a b h = tt
  up v (nan t g m) a b h = tt
  up v (finite false j n) a b h = le→leb _ _ (omega arith)
  up (finite true k m) (finite true j n) a b h = absurd (b (let i : n * 2 ^ j < 2 ^ (digits f - 1) = omega (arith, a, leb→le _ _ h) in i))
  up (finite false k m) (finite true j n) a b h = absurd (b (let i : n * 2 ^ j < 2 ^ (digits f - 1) = omega (arith, a, leb→le _ _ h) in i))
  up (zero_of s) (finite true j n) a b h = absurd a
  up (infinity s) (finite true j n) a b h = absurd a
  up (nan s g m) (finite true j n) a b h = absurd a

  down : (v u : Unpacked) → ¬ SubnormalNumber f v → SubnormalNumber f u → T (at_most (worth v) (worth u)) → T (at_most (worth v) nothing)
  down (zero_of s) u a b h = tt
  down (infinity s) u a b h = tt
  down (nan s g m) u a b h = tt
  down (finite true k m) u a b h = le→leb _ _ (omega arith)
  down (finite false k m) (finite true j n) a b h = absurd (a (let i : m * 2 ^ k < 2 ^ (digits f - 1) = omega (arith, b, leb→le _ _ h) in i))
  down (finite false k m) (finite false j n) a b h = absurd (a (let i : m * 2 ^ k < 2 ^ (digits f - 1) = omega (arith, b, leb→le _ _ h) in i))
  down (finite false k m) (zero_of t) a b h = absurd b
  down (finite false k m) (infinity t) a b h = absurd b
  down (finite false k m) (nan t g n) a b h = absurd b

  module _ (c : Settings) where
    operand-rises : (a b : ℕ) → T (at_most (worth (decode f a)) (worth (decode f b))) → T (at_most (worth (operand f c a)) (worth (operand f c b)))
    unfolding operand
    operand-rises a b h = go (is_set c.denormals_are_zero) (is_subnormal f a) (is_subnormal f b) refl refl
      where
        sub : (b : ℕ) → is_subnormal f b ≡ true → SubnormalNumber f (decode f b)
        sub b = (subnormal-means f b).0

        not-sub : (b : ℕ) → is_subnormal f b ≡ false → ¬ SubnormalNumber f (decode f b)
        not-sub b e z = true≢false (sym ((subnormal-means f b).1 z) ∙ e)

        go : (d s t : Bool) → is_subnormal f a ≡ s → is_subnormal f b ≡ t
            → T (at_most (worth (cond (d && s) (zero_of (sign_bit f a)) (decode f a))) (worth (cond (d && t) (zero_of (sign_bit f b)) (decode f b))))
        go false s t i j = h
        go true true true i j = tt
        go true true false i j = up (decode f a) (decode f b) (sub a i) (not-sub b j) h
        go true false true i j = down (decode f a) (decode f b) (not-sub a i) (sub b j) h
        go true false false i j = h

    all-operands : (l k : List ℕ) → AllAtMost f l k → AllRise (map (amount f c (summand_of 0)) l) (map (amount f c (summand_of 0)) k)
    all-operands [] [] h = tt
    all-operands [] (b ∷ k) h = absurd h
    all-operands (a ∷ l) [] h = absurd h
    all-operands (a ∷ l) (b ∷ k) h = (operand-rises a b h.0, all-operands l k h.1)

    operand-plus : (b : ℕ) → minus_of (worth (decode f b)) ≡ 0 → minus_of (worth (operand f c b)) ≡ 0
    unfolding operand
    operand-plus b e = go (is_set c.denormals_are_zero && is_subnormal f b)
      where
        go : (t : Bool) → minus_of (worth (cond t (zero_of (sign_bit f b)) (decode f b))) ≡ 0
        go true = refl
        go false = e

-- the parts of a product whose right factor is not negative
module _ (x y : Signed) (h : minus_of y ≡ 0) where
  product-plus : plus_of (product_of x y) ≡ plus_of x * plus_of y
  product-plus = go x.neg y.neg x.mag y.mag h
    where
      go : (s t : Bool) (m n : ℕ) → cond t n 0 ≡ 0 → cond (unlike s t) 0 (m * n) ≡ cond s 0 m * cond t 0 n
      go true false m n e = sym (zero-mul n)
      go false false m n e = refl
      go true true m n e = ap (λ (k : ℕ). m * k) e ∙ mul-zero m ∙ sym (zero-mul 0)
      go false true m n e = sym (mul-zero m)

  product-minus : minus_of (product_of x y) ≡ minus_of x * plus_of y
  product-minus = go x.neg y.neg x.mag y.mag h
    where
      go : (s t : Bool) (m n : ℕ) → cond t n 0 ≡ 0 → cond (unlike s t) (m * n) 0 ≡ cond s m 0 * cond t 0 n
      go true false m n e = refl
      go false false m n e = sym (zero-mul n)
      go true true m n e = sym (mul-zero m)
      go false true m n e = ap (λ (k : ℕ). m * k) e ∙ mul-zero m ∙ sym (zero-mul 0)

product-rises : (x y z : Signed) → minus_of z ≡ 0 → T (at_most x y) → T (at_most (product_of x z) (product_of y z))
product-rises x y z e h =
    le→leb _ _
    (rw (product-plus x z e, product-minus y z e, product-plus y z e, product-minus x z e)
    (rw (← (add-mul (plus_of x) (minus_of y) (plus_of z)), ← (add-mul (plus_of y) (minus_of x) (plus_of z)))
    (mul-le-mul_right (plus_of z) (leb→le _ _ h))))

factors : (f : Format) (c : Settings) (xs xs' ys : List ℕ) → AllAtMost f xs xs' → NoneNegative f ys
    → AllRise (map (product f c) (pairs xs ys)) (map (product f c) (pairs xs' ys))
factors f c [] [] ys h k = tt
factors f c [] (x' ∷ xs') ys h k = absurd h
factors f c (x ∷ xs) [] ys h k = absurd h
factors f c (x ∷ xs) (x' ∷ xs') [] h k = tt
factors f c (x ∷ xs) (x' ∷ xs') (y ∷ ys) h k = (
  product-rises (worth (operand f c x)) (worth (operand f c x')) (worth (operand f c y)) (operand-plus f c y k.0) (operand-rises f c x x' h.0),
  factors f c xs xs' ys h.1 k.1,
)

pub values-rise : Values-rise
values-rise f c l k r h r' h' m n n' = sum-rises f c 0 l k r h r' h' (amounts-rise _ _ (all-operands f c l k m)) n n'

pub factors-rise : Factors-rise
factors-rise f c xs xs' ys r h k r' h' m p n n' =
    dot-rises f c xs ys xs' ys r h k r' h' k (amounts-rise _ _ (factors f c xs xs' ys m p)) n n'
