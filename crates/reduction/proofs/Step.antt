-- One element more: what a scan has gathered with it. The same law serves elements of a list and
-- pairs of a dot, taken as items or plainly normal.
use mathlib.Core.Path.{◌≡◌, refl, sym, ap, ap₂, ◌∙◌, subst}
use mathlib.Core.Bool.{Bool, true, false, ◌||◌, or-false}
use mathlib.Core.List.{List, [], ◌∷◌, ◌++◌, map, map-append}
use Prim.Native.Nat.{ℕ, ◌+◌, ◌<◌, max}
use native.Mathlib.Nat.{max-zero}
use native.Mathlib.Numerals.{add-one}
use native.Mathlib.Omega.{arith}
use lib.ListN.{length, take, get_or}
use lib.Seq.{take-suc, take-length}
use Rattle.std.specs.Prelude.{Option}
use Rattle.totals_spec.specs.Basics.{any, greatest, keep}
use Rattle.totals_spec.specs.formats.Format as spec
use Rattle.totals_spec.specs.formats.Settings as env
use Rattle.totals_spec.specs.formats.Decode as dec
use Rattle.totals_spec.specs.sums.Nan as nans
use Rattle.totals_spec.specs.terms.Terms as terms
use Rattle.totals_spec.proofs.lists.FirstElements.{any_append, greatest-append, picked-append}
use Rattle.binary.specs.Nans.{nan_of, if_nan}
use Rattle.format.specs.Fits.{Encodes}
use Rattle.binary.specs.declared.nan.Nan.{Nan}
use Rattle.binary.specs.declared.term.Item.{Item}
use Rattle.binary.specs.declared.term.Item.TheVariants as item
use Rattle.binary.specs.Terms.{item_of}
use Rattle.reduction.specs.declared.scan.Scan.{Scan}
use Rattle.reduction.specs.Scan.{top_of_item, is_invalid_item, is_infinite_of, is_zero_of, with_item, with_top, seen, Gathered}
use Rattle.reduction.proofs.Choice.{AllEncode, if-nan, held-some, held-if, chosen-append, chosen-held, chosen_nan, chosen_none, chosen-encodes}

-- ---- what one item says, in the code and in totals_spec

invalid-is : (i : terms.Item) → is_invalid_item (item_of i) ≡ terms.is_invalid i
invalid-is terms.nan_item = refl
invalid-is terms.invalid_item = refl
invalid-is (terms.infinite s) = refl
invalid-is (terms.zero_item s) = refl
invalid-is (terms.term t) = refl

infinite-is : (b : Bool) (i : terms.Item) → is_infinite_of b (item_of i) ≡ terms.is_infinite b i
infinite-is b terms.nan_item = refl
infinite-is b terms.invalid_item = refl
infinite-is b (terms.infinite s) = refl
infinite-is b (terms.zero_item s) = refl
infinite-is b (terms.term t) = refl

zero_is : (b : Bool) (i : terms.Item) → is_zero_of b (item_of i) ≡ terms.is_zero b i
zero_is b terms.nan_item = refl
zero_is b terms.invalid_item = refl
zero_is b (terms.infinite s) = refl
zero_is b (terms.zero_item s) = refl
zero_is b (terms.term t) = refl

top-is : (i : terms.Item) → top_of_item (item_of i) ≡ greatest terms.top_of_term (keep (terms.term_of i) [])
top-is terms.nan_item = refl
top-is terms.invalid_item = refl
top-is (terms.infinite s) = refl
top-is (terms.zero_item s) = refl
top-is (terms.term t) = sym (max-zero t.top)

any-one : {A : Type 0} (p : A → Bool) (l : List A) (x : A) → any p (l ++ (x ∷ [])) ≡ (any p l || p x)
any-one p l x = any_append p l (x ∷ []) ∙ ap (λ b. any p l || b) (or-false (p x))

-- ---- one element more: its operands vs, and the item that it is

pub record Adds (f : spec.Format) (vs : List dec.Unpacked) (i : terms.Item) : Type 0 where
  pub nan : terms.is_nan_item i ≡ any dec.is_nan vs
  pub encode : AllEncode f vs
  pub placed : top_of_item (item_of i) ≡ 0 → keep (terms.term_of i) [] ≡ []

abbrev rule_of : env.Settings → env.Propagation
rule_of c = env.propagation_of c.nan_propagation

module _ (f : spec.Format) (c : env.Settings) where
  gathered-more : (sub sig sub₁ sig₁ : Bool) (ops vs : List dec.Unpacked) (l : List terms.Item) (i : terms.Item) (s : Scan) (n : Option Nan)
      → Gathered f c sub sig ops l s → Adds f vs i → nan_of n ≡ if_nan (nans.chosen_of (rule_of c) (nan_of s.nan) vs)
      → Gathered f c (sub || sub₁) (sig || sig₁) (ops ++ vs) (l ++ (i ∷ [])) (with_item (item_of i) (seen sub₁ sig₁ n s))
  unfolding terms.top_of
  gathered-more sub sig sub₁ sig₁ ops vs l i s n g a e =
      record {
        subnormal = ap (λ b. b || sub₁) g.subnormal;
        signaling = ap (λ b. b || sig₁) g.signaling;
        nan =
            e ∙ ap (λ x. if_nan (nans.chosen_of (rule_of c) x vs)) g.nan
            ∙ chosen-held (rule_of c) (nans.chosen_of (rule_of c) (dec.zero_of false) ops) vs
            ∙ ap if_nan (sym (chosen-append (rule_of c) (dec.zero_of false) ops vs));
        some = sym (held-some n) ∙ ap dec.is_nan e ∙ if-nan (nans.chosen_of (rule_of c) (nan_of s.nan) vs) ∙ chosen_nan (rule_of c) (nan_of s.nan) vs
            ∙ ap₂ ◌||◌ (held-some s.nan ∙ g.some) (sym a.nan) ∙ sym (any-one terms.is_nan_item l i);
        encodes =
            rw e (chosen-encodes (rule_of c) f (nan_of s.nan) vs (subst (Encodes f) (sym (held-if s.nan)) g.encodes) a.encode);
        invalid = ap₂ ◌||◌ g.invalid (invalid-is i) ∙ sym (any-one terms.is_invalid l i);
        positive-infinity = ap₂ ◌||◌ g.positive-infinity (infinite-is false i) ∙ sym (any-one (terms.is_infinite false) l i);
        negative-infinity = ap₂ ◌||◌ g.negative-infinity (infinite-is true i) ∙ sym (any-one (terms.is_infinite true) l i);
        positive-zero = ap₂ ◌||◌ g.positive-zero (zero_is false i) ∙ sym (any-one (terms.is_zero false) l i);
        negative-zero = ap₂ ◌||◌ g.negative-zero (zero_is true i) ∙ sym (any-one (terms.is_zero true) l i);
        top =
            ap₂ max g.top (top-is i) ∙ sym (greatest-append terms.top_of_term (terms.terms l) (keep (terms.term_of i) []))
            ∙ ap (greatest terms.top_of_term) (sym (picked-append terms.term_of l (i ∷ [])));
        no-term = λ z. picked-append terms.term_of l (i ∷ []) ∙ ap₂ ◌++◌ (g.no-term (omega (arith, z))) (a.placed (omega (arith, z)));
      }

-- ---- the same scan, written two ways

taken-raised : (i : Item) (t : ℕ) (s : Scan) → with_top t (with_item i s) ≡ with_item i (with_top t s)
taken-raised i t s = λ j. record {
  subnormal = s.subnormal;
  signaling = s.signaling;
  invalid = s.invalid || is_invalid_item i;
  positive_infinity = s.positive_infinity || is_infinite_of false i;
  negative_infinity = s.negative_infinity || is_infinite_of true i;
  positive_zero = s.positive_zero || is_zero_of false i;
  negative_zero = s.negative_zero || is_zero_of true i;
  top = e j;
  nan = s.nan;
}
  where
    e : max (max s.top (top_of_item i)) t ≡ max (max s.top t) (top_of_item i)
    e = omega arith

-- nothing is kept apart yet
pub raised-none : (s : Scan) → s ≡ with_top 0 s
raised-none s = λ j. record {
  subnormal = s.subnormal;
  signaling = s.signaling;
  invalid = s.invalid;
  positive_infinity = s.positive_infinity;
  negative_infinity = s.negative_infinity;
  positive_zero = s.positive_zero;
  negative_zero = s.negative_zero;
  top = sym (max-zero s.top) j;
  nan = s.nan;
}

-- a plainly normal element only raises the position
raised-more : (t p : ℕ) (s : Scan) → with_top (max t p) s ≡ with_item (item.Top p) (seen false false s.nan (with_top t s))
raised-more t p s = λ j. record {
  subnormal = sym (or-false s.subnormal) j;
  signaling = sym (or-false s.signaling) j;
  invalid = sym (or-false s.invalid) j;
  positive_infinity = sym (or-false s.positive_infinity) j;
  negative_infinity = sym (or-false s.negative_infinity) j;
  positive_zero = sym (or-false s.positive_zero) j;
  negative_zero = sym (or-false s.negative_zero) j;
  top = e j;
  nan = s.nan;
}
  where
    e : max s.top (max t p) ≡ max (max s.top t) p
    e = omega arith

-- ---- a list of elements

-- how a list is read: the flags, the operands and the item of each element, and the position of a
-- plainly normal one by its field
pub record Reading (f : spec.Format) (A : Type 0) : Type 0 where
  pub subnormal : A → Bool
  pub signaling : A → Bool
  pub operands : A → List dec.Unpacked
  pub item : A → terms.Item
  pub position : ℕ → ℕ
  pub position-none : position 0 ≡ 0
  pub position-max : (m n : ℕ) → position (max m n) ≡ max (position m) (position n)
  pub all : List A → List dec.Unpacked
  pub all_more : (l : List A) (x : A) → all (l ++ (x ∷ [])) ≡ all l ++ operands x
  pub adds : (x : A) → Adds f (operands x) (item x)

module _ {A : Type 0} (f : spec.Format) (c : env.Settings) (q : Reading f A) where
  abbrev pub Over : List A → Scan → Type 0
  Over l s = Gathered f c (any q.subnormal l) (any q.signaling l) (q.all l) (map q.item l) s

  more : (l : List A) (x : A) (s : Scan) (n : Option Nan) → Over l s → nan_of n ≡ if_nan (nans.chosen_of (rule_of c) (nan_of s.nan) (q.operands x))
      → Over (l ++ (x ∷ [])) (with_item (item_of (q.item x)) (seen (q.subnormal x) (q.signaling x) n s))
  more l x s n g e =
      rw (any-one q.subnormal l x, any-one q.signaling l x, q.all_more l x, map-append q.item l (x ∷ []))
      (gathered-more f c _ _ (q.subnormal x) (q.signaling x) (q.all l) (q.operands x) (map q.item l) (q.item x) s n g (q.adds x) e)

  -- an element that was taken, with a position t kept apart
  pub over-taken : (l : List A) (x : A) (s r : Scan) (n : Option Nan) → r ≡ with_item (item_of (q.item x)) (seen (q.subnormal x) (q.signaling x) n s)
      → nan_of n ≡ if_nan (nans.chosen_of (rule_of c) (nan_of s.nan) (q.operands x)) → (t : ℕ)
      → Over l (with_top t s) → Over (l ++ (x ∷ [])) (with_top t r)
  over-taken l x s r n e h t g =
      subst (Over (l ++ (x ∷ []))) (sym (ap (with_top t) e ∙ taken-raised (item_of (q.item x)) t (seen (q.subnormal x) (q.signaling x) n s)))
      (more l x (with_top t s) n g h)

  -- an element that is plainly normal, with its field n
  pub record Plainly (x : A) (n : ℕ) : Type 0 where
    pub subnormal : q.subnormal x ≡ false
    pub signaling : q.signaling x ≡ false
    pub nan : any dec.is_nan (q.operands x) ≡ false
    pub item : item_of (q.item x) ≡ item.Top (q.position n)

  over_plain : (l : List A) (x : A) (m n : ℕ) (s : Scan) → Plainly x n → Over l (with_top (q.position m) s)
      → Over (l ++ (x ∷ [])) (with_top (q.position (max m n)) s)
  over_plain l x m n s h g =
      subst (Over (l ++ (x ∷ [])))
      (sym (ap (λ (t : ℕ). with_top t s) (q.position-max m n) ∙ raised-more (q.position m) (q.position n) s ∙ rw (h.subnormal, h.signaling, h.item)))
      (more l x (with_top (q.position m) s) s.nan g (sym (chosen_none (rule_of c) (nan_of s.nan) (q.operands x) h.nan ∙ held-if s.nan)))

  -- ---- a walk: the scan s and the position of the field m kept apart are that of the first i

  pub walk_start : (l : List A) (s : Scan) → Over [] s → Over (take 0 l) (with_top (q.position 0) s)
  walk_start l s g = rw q.position-none (subst (Over []) (raised-none s) g)

  pub walk-done : (l : List A) (i : ℕ) (s r : Scan) (m t : ℕ) → i ≡ length l → r ≡ with_top t s → t ≡ q.position m
      → Over (take i l) (with_top (q.position m) s) → Over l r
  walk-done l i s r m t e h k g = rw (h, k) (subst (λ y. Over y (with_top (q.position m) s)) (ap (λ (n : ℕ). take n l) e ∙ take-length l) g)

  -- a turn, at the element x of index i; d stands past the end
  pub record Turn (l : List A) (d : A) (i : ℕ) (x : A) (s : Scan) (m : ℕ) : Type 0 where
    pub inside : i < length l
    pub here : x ≡ get_or l i d
    pub so_far : Over (take i l) (with_top (q.position m) s)

module _ {A : Type 0} {f : spec.Format} {c : env.Settings} {q : Reading f A} {l : List A} {d : A} {i : ℕ} {x : A} {s : Scan} {m : ℕ}
    (t : Turn f c q l d i x s m) where
  next : (r : Scan) → Over f c q (take i l ++ (x ∷ [])) r → Over f c q (take (i + 1) l) r
  next r = rw (add-one i, take-suc l i d t.inside, ← t.here) (λ g. g)

  pub walk-taken : (r : Scan) → ((k : List A) (p : ℕ) → Over f c q k (with_top p s) → Over f c q (k ++ (x ∷ [])) (with_top p r))
      → Over f c q (take (i + 1) l) (with_top (q.position m) r)
  walk-taken r a = next (with_top (q.position m) r) (a (take i l) (q.position m) t.so_far)

  pub walk-plain : (n m' : ℕ) → Plainly f c q x n → m' ≡ max m n → Over f c q (take (i + 1) l) (with_top (q.position m') s)
  walk-plain n m' a b = rw b (next (with_top (q.position (max m n)) s) (over_plain f c q (take i l) x m n s a t.so_far))
