-- MIRROR, of terms: those of negated values, and of a dot with a negated left list, are the list's
-- with the other signs.
use mathlib.Core.Bool.{not, Bool, true, false, cond, ◌||◌, ◌&&◌}
use mathlib.Core.List.{[], map, List, ◌∷◌}
use mathlib.Core.Path.{◌≡◌, refl, ap, sym, ◌∙◌, ap₂, subst}
use mathlib.Core.Option.{Option, none, some}
use Prim.Native.Nat.{ℕ, ◌^◌, ◌<◌}
use mathlib.Core.Option
use lib.Dec.{T, eqb}
use borrow.Author.Tests.{leb-false, lt-leb}
use Rattle.totals_spec.specs.terms.Terms.{Term, Item, term_of, single, item_of, unlike, product}
use Rattle.totals_spec.specs.terms.Terms.{pair_of, terms, item, pair_item}
use Rattle.totals_spec.specs.formats.Decode.{Unpacked, zero_of, finite, infinity, nan, is_number}
use Rattle.totals_spec.specs.formats.Decode.{is_finite, decode, is_subnormal, operand}
use Rattle.totals_spec.specs.formats.Settings.{value, Settings}
use Rattle.totals_spec.specs.formats.Format.{Kind, ieee, no_inf, fnuz, finite_only, Format, kind_of}
use Rattle.totals_spec.specs.rounding.Promises.{kept_as}
use Rattle.totals_spec.specs.Basics.{keep, any, is_set}
use Rattle.totals_spec.specs.sums.Totals.{pairs, stray, sum_terms, dot_terms}
use Rattle.totals_spec.specs.sums.Promises.{AllFinite}
use Rattle.totals_spec.specs.formats.Bounds.{RangeBounds}
use Rattle.totals_spec.proofs.order.Order.{or_split}
use Rattle.mirror_spec.specs.Mirror.{opposite, negated, mirrored}
use Rattle.mirror_spec.proofs.Encodings.{negates}

-- ---- the term of a value with the other sign

abbrev pub turned : Term → Term
turned t = record { neg = not t.neg; mag = t.mag; top = t.top }

-- items that no zero gives a term to, and that turn with the value's sign: elements of a sum, and
-- pairs by their left value
pub record Odd (g : Unpacked → Item) : Type 0 where
  without : (s : Bool) → term_of (g (zero_of s)) ≡ none
  turns : (s : Bool) (k m : ℕ) → term_of (g (finite (not s) k m)) ≡ Option.map turned (term_of (g (finite s k m)))

odd-values : Odd (item_of value)
unfolding single
odd-values = record { without = λ s. refl; turns = λ s k m. refl }

unlike-not : (s t : Bool) → unlike (not s) t ≡ not (unlike s t)
unlike-not true true = refl
unlike-not true false = refl
unlike-not false true = refl
unlike-not false false = refl

odd-pairs : (y : Unpacked) → Odd (λ x. pair_of x y)
unfolding product
odd-pairs (zero_of t) = record { without = λ s. refl; turns = λ s k m. refl }
odd-pairs (finite t j n) = record { without = λ s. refl; turns = λ s k m. ap (λ (u : Bool). some (product u k m j n)) (unlike-not s t) }
odd-pairs (infinity t) = record { without = λ s. refl; turns = λ s k m. refl }
odd-pairs (nan t g n) = record { without = λ s. refl; turns = λ s k m. refl }

module _ (g : Unpacked → Item) (odd : Odd g) where
  opposite-term : (x : Unpacked) → T (is_number x) → term_of (g (opposite x)) ≡ Option.map turned (term_of (g x))
  opposite-term (zero_of s) i = odd.without (not s) ∙ sym (ap (Option.map turned) (odd.without s))
  opposite-term (finite s k m) i = odd.turns s k m
  opposite-term (infinity s) i = absurd i
  opposite-term (nan s h m) i = absurd i

  kept-term : (k : Kind) (x : Unpacked) → T (is_number x) → term_of (g (kept_as k (opposite x))) ≡ Option.map turned (term_of (g x))
  kept-term ieee x i = opposite-term x i
  kept-term no_inf x i = opposite-term x i
  kept-term fnuz (zero_of s) i = odd.without false ∙ sym (ap (Option.map turned) (odd.without s))
  kept-term fnuz (finite s k m) i = odd.turns s k m
  kept-term fnuz (infinity s) i = absurd i
  kept-term fnuz (nan s h m) i = absurd i
  kept-term finite_only x i = opposite-term x i

  -- as it is read: denormals-are-zero makes it a zero, of whichever sign, or leaves it
  pub read-term : (k : Kind) (z s s' : Bool) (x : Unpacked) {y : Unpacked} → T (is_number x) → y ≡ kept_as k (opposite x)
      → term_of (g (cond z (zero_of s') y)) ≡ Option.map turned (term_of (g (cond z (zero_of s) x)))
  read-term k true s s' x i e = odd.without s' ∙ sym (ap (Option.map turned) (odd.without s))
  read-term k false s s' x i e = ap (λ (v : Unpacked). term_of (g v)) e ∙ kept-term k x i

-- ---- the terms of a list and of its negatives, whichever way they are read

abbrev pub All : (ℕ → Type 0) → List ℕ → Type 0
All ok [] = Unit {0}
All ok (b ∷ l) = ok b × All ok l

keep-turned : (o : Option Term) (ts : List Term) {p : Option Term} {us : List Term} → p ≡ Option.map turned o → us ≡ map turned ts
    → keep p us ≡ map turned (keep o ts)
keep-turned none ts e d = ap₂ keep e d
keep-turned (some t) ts e d = ap₂ keep e d

abbrev pub Turns : (ok : ℕ → Type 0) (negative : ℕ → ℕ) (read read' : ℕ → Unpacked) → Type 0
Turns ok negative read read' =
    (g : Unpacked → Item) → Odd g → (b : ℕ) → ok b → term_of (g (read' (negative b))) ≡ Option.map turned (term_of (g (read b)))

module _ {ok : ℕ → Type 0} (negative : ℕ → ℕ) (read read' : ℕ → Unpacked) (each : Turns ok negative read read') where
  pub values-turned : (l : List ℕ) → All ok l
      → terms (map (λ b. item_of value (read' b)) (map negative l)) ≡ map turned (terms (map (λ b. item_of value (read b)) l))
  values-turned [] h = refl
  values-turned (b ∷ l) h = keep-turned (term_of (item_of value (read b))) _ (each (item_of value) odd-values b h.0) (values-turned l h.1)

  pub pairs-turned : ((b : ℕ) → read' b ≡ read b) → (xs ys : List ℕ) → All ok xs
      → terms (map (λ x. pair_of (read' x.0) (read' x.1)) (pairs (map negative xs) ys))
      ≡ map turned (terms (map (λ x. pair_of (read x.0) (read x.1)) (pairs xs ys)))
  pairs-turned same [] ys h = refl
  pairs-turned same (x ∷ xs) [] h = refl
  pairs-turned same (x ∷ xs) (y ∷ ys) h =
      keep-turned (term_of (pair_of (read x) (read y))) _
      (ap (λ (v : Unpacked). term_of (pair_of (read' (negative x)) v)) (same y) ∙ each (λ v. pair_of v (read y)) (odd-pairs (read y)) x h.0)
      (pairs-turned same xs ys h.1)

-- a test of the elements that stays with each stays with the list
pub any-stays : {ok : ℕ → Type 0} (negative : ℕ → ℕ) (t : ℕ → Bool) → ((b : ℕ) → ok b → t (negative b) ≡ t b)
    → (l : List ℕ) → All ok l → any t (map negative l) ≡ any t l
any-stays negative t e [] h = refl
any-stays negative t e (b ∷ l) h = ap₂ ◌||◌ (e b h.0) (any-stays negative t e l h.1)

-- ---- finite values of a format without a stray bit

-- two tests that do not read a sign
abbrev pub Untouched : Unpacked → Unpacked → Type 0
Untouched v w = (is_finite w ≡ is_finite v) × (is_number w ≡ is_number v)

pub opposite-tests : (v : Unpacked) → Untouched v (opposite v)
opposite-tests (zero_of s) = (refl, refl)
opposite-tests (finite s e m) = (refl, refl)
opposite-tests (infinity s) = (refl, refl)
opposite-tests (nan s g m) = (refl, refl)

kept-tests : (k : Kind) (v : Unpacked) → Untouched v (kept_as k (opposite v))
kept-tests ieee v = opposite-tests v
kept-tests no_inf v = opposite-tests v
kept-tests fnuz (zero_of s) = (refl, refl)
kept-tests fnuz (finite s e m) = (refl, refl)
kept-tests fnuz (infinity s) = (refl, refl)
kept-tests fnuz (nan s g m) = (refl, refl)
kept-tests finite_only v = opposite-tests v

pub record Fine (f : Format) (b : ℕ) : Type 0 where
  pub inside : b < 2 ^ f.W
  pub number : T (is_number (decode f b))

pub all-fine : (f : Format) (l : List ℕ) → any (stray f) l ≡ false → AllFinite f l → All (Fine f) l
all-fine f [] h n = tt
all-fine f (b ∷ l) h n =
    let s = or_split (stray f b) (any (stray f) l) h in
    (record { inside = leb-false (2 ^ f.W) b s.0; number = n.0 }, all-fine f l s.1 n.1)

module _ (f : Format) (r : RangeBounds f) where
  stray-negated : (b : ℕ) → Fine f b → stray f (negated f b) ≡ false
  stray-negated b h = lt-leb (2 ^ f.W) (negated f b) (negates f r b h.inside h.number).inside

  subnormal-negated : (b : ℕ) → Fine f b → is_subnormal f (negated f b) ≡ is_subnormal f b
  unfolding is_subnormal
  subnormal-negated b h =
      let n = negates f r b h.inside h.number in
      ap₂ (λ (x : Bool) (e : ℕ). x && eqb e 0) (ap is_finite n.value ∙ (kept-tests (kind_of f.kind) (decode f b)).0) n.field

  number-negated : (b : ℕ) → Fine f b → T (is_number (decode f (negated f b)))
  number-negated b h =
      let n = negates f r b h.inside h.number in
      subst T (sym (ap is_number n.value ∙ (kept-tests (kind_of f.kind) (decode f b)).1)) h.number

  pub strays-negated : (l : List ℕ) → All (Fine f) l → any (stray f) (map (negated f) l) ≡ any (stray f) l
  strays-negated = any-stays (negated f) (stray f) (λ b h. stray-negated b h ∙ sym (lt-leb (2 ^ f.W) b h.inside))

  pub subnormals-negated : (l : List ℕ) → All (Fine f) l → any (is_subnormal f) (map (negated f) l) ≡ any (is_subnormal f) l
  subnormals-negated = any-stays (negated f) (is_subnormal f) subnormal-negated

  pub all-negated : (l : List ℕ) → All (Fine f) l → AllFinite f (map (negated f) l)
  all-negated [] h = tt
  all-negated (b ∷ l) h = (number-negated b h.0, all-negated l h.1)

  module _ (c : Settings) where
    operand-turned : Turns (Fine f) (negated f) (operand f c) (operand f (mirrored c))
    unfolding operand mirrored
    operand-turned g odd b h =
        rw (subnormal-negated b h)
        (read-term g odd (kind_of f.kind) (is_set c.denormals_are_zero && is_subnormal f b) _ _ (decode f b) h.number
        (negates f r b h.inside h.number).value)

    -- the mode has no part in an operand
    operand_same : (b : ℕ) → operand f (mirrored c) b ≡ operand f c b
    unfolding operand mirrored
    operand_same b = refl

    pub sum-turned : (l : List ℕ) → All (Fine f) l → sum_terms f (mirrored c) value (map (negated f) l) ≡ map turned (sum_terms f c value l)
    unfolding item
    sum-turned = values-turned (negated f) (operand f c) (operand f (mirrored c)) operand-turned

    pub dot-turned : (xs ys : List ℕ) → All (Fine f) xs → dot_terms f (mirrored c) (map (negated f) xs) ys ≡ map turned (dot_terms f c xs ys)
    unfolding pair_item
    dot-turned = pairs-turned (negated f) (operand f c) (operand f (mirrored c)) operand-turned operand_same
