-- The scan of a list, and of the pairs of a dot, with one element more: what `take` and `take_pair`
-- give, and a turn of a walk, in any encoding.
use mathlib.Core.Path.{◌≡◌, refl, sym, ap, ap₂, ◌∙◌}
use mathlib.Core.Bool.{Bool, ◌||◌, or-false, or_assoc}
use mathlib.Core.List.{List, [], ◌∷◌, ◌++◌, map, map-append}
use Prim.Native.Nat.{ℕ, ◌≤◌, ◌<◌}
use native.Mathlib.Omega.{arith}
use lib.ListN.{length, get_or}
use Rattle.totals_spec.specs.Basics.{keep}
use Rattle.totals_spec.specs.formats.Format as spec
use Rattle.totals_spec.specs.formats.Settings as env
use Rattle.totals_spec.specs.formats.Decode as dec
use Rattle.totals_spec.specs.sums.Nan as nans
use Rattle.totals_spec.specs.terms.Terms as terms
use Rattle.totals_spec.specs.sums.Totals as totals
use Rattle.totals_spec.specs.ten_bytes.Extended.{both_of}
use Rattle.totals_spec.proofs.terms.GoodTerms.{AllGood, good-items, good-item_of, good-pair_of}
use Rattle.totals_spec.proofs.terms.HighestAndLowest.{top-high}
use Rattle.totals_spec.proofs.order.Order.{item_of-nan, pair_of-nan}
use Rattle.format.specs.Unpacked.{unpacked_of}
use Rattle.binary.specs.declared.Read.{Read}
use Rattle.binary.specs.Nans.{nan_of, if_nan}
use Rattle.binary.specs.Terms.{Bounded, item_of}
use Rattle.binary.proofs.Elements.{bounded}
use Rattle.binary.proofs.Pairs.{pairs-at}
use Rattle.reduction.specs.declared.scan.Scan.{Scan}
use Rattle.reduction.specs.Scan.{top_of_item, with_item, with_top, seen, Reads, Takes, TakesPair}
use Rattle.reduction.specs.Encodings.{Encoding, signaling_in, item_in, pair_in, ReadAs, TakesPairIn, FieldIn, FieldsIn}
use Rattle.reduction.proofs.Choice.{if-nan, if-left, if-right, if-signaling, none-signaling}
use Rattle.reduction.proofs.Step.{Reading, Plainly, Over, over-taken}

-- ---- what was read

module _ (rule : ℕ) where
  -- an operand reads as any value with the same NaN in it
  reads_as : (sub : Bool) (v w : dec.Unpacked) (s r : Scan) → if_nan v ≡ if_nan w → Reads rule sub v s r → Reads rule sub w s r
  reads_as sub v w s r e h = record {
    rest = h.rest ∙ ap (λ b. seen sub b r.nan s) (sym (if-signaling v) ∙ ap dec.is_signaling e ∙ if-signaling w);
    nan = h.nan ∙ sym (if-right (env.propagation_of rule) (nan_of s.nan) v) ∙ ap (λ y. if_nan (nans.choose (env.propagation_of rule) (nan_of s.nan) y)) e
        ∙ if-right (env.propagation_of rule) (nan_of s.nan) w;
  }

  -- two operands read
  module _ (sub sub₁ : Bool) (v w : dec.Unpacked) (s t r : Scan) (h : Reads rule sub v s t) (k : Reads rule sub₁ w t r) where
    twice-rest : r ≡ seen (sub || sub₁) (dec.is_signaling v || dec.is_signaling w) r.nan s
    twice-rest = k.rest ∙ ap (seen sub₁ (dec.is_signaling w) r.nan) h.rest ∙ (λ j. record {
      subnormal = or_assoc s.subnormal sub sub₁ j;
      signaling = or_assoc s.signaling (dec.is_signaling v) (dec.is_signaling w) j;
      invalid = s.invalid;
      positive_infinity = s.positive_infinity;
      negative_infinity = s.negative_infinity;
      positive_zero = s.positive_zero;
      negative_zero = s.negative_zero;
      top = s.top;
      nan = r.nan;
    })

    twice-nan : nan_of r.nan ≡ if_nan (nans.chosen_of (env.propagation_of rule) (nan_of s.nan) (v ∷ w ∷ []))
    twice-nan =
        k.nan ∙ ap (λ x. if_nan (nans.choose (env.propagation_of rule) x w)) h.nan
        ∙ if-left (env.propagation_of rule) (nans.choose (env.propagation_of rule) (nan_of s.nan) v) w

-- ---- what `take` and `take_pair` give, of any reading of an element with its operands

module _ {A : Type 0} (f : spec.Format) (c : env.Settings) (q : Reading f A) (x : A) (s r : Scan) where
  pub one-taken : (v w : dec.Unpacked) (t : Scan) → q.operands x ≡ w ∷ [] → q.signaling x ≡ dec.is_signaling w → if_nan v ≡ if_nan w
      → Reads c.nan_propagation (q.subnormal x) v s t → r ≡ with_item (item_of (q.item x)) t
      → (l : List A) (apart : ℕ) → Over f c q l (with_top apart s) → Over f c q (l ++ (x ∷ [])) (with_top apart r)
  one-taken v w t o g e h is l apart =
      let k = reads_as c.nan_propagation (q.subnormal x) v w s t e h in
      let rest : t ≡ seen (q.subnormal x) (q.signaling x) t.nan s = rw g k.rest in
      over-taken f c q l x s r t.nan (is ∙ ap (with_item (item_of (q.item x))) rest) (rw o k.nan) apart

  pub two-taken : (sub sub₁ : Bool) (v₀ v w₀ w : dec.Unpacked) (t p : Scan) → q.operands x ≡ v ∷ w ∷ []
      → q.signaling x ≡ (dec.is_signaling v || dec.is_signaling w) → q.subnormal x ≡ (sub || sub₁)
      → if_nan v₀ ≡ if_nan v → if_nan w₀ ≡ if_nan w → Reads c.nan_propagation sub v₀ s t → Reads c.nan_propagation sub₁ w₀ t p
      → r ≡ with_item (item_of (q.item x)) p
      → (l : List A) (apart : ℕ) → Over f c q l (with_top apart s) → Over f c q (l ++ (x ∷ [])) (with_top apart r)
  two-taken sub sub₁ v₀ v w₀ w t p o g d e₀ e h k is l apart =
      let a = reads_as c.nan_propagation sub v₀ v s t e₀ h in
      let b = reads_as c.nan_propagation sub₁ w₀ w t p e k in
      let rest : p ≡ seen (q.subnormal x) (q.signaling x) p.nan s = rw (g, d) (twice-rest _ _ _ _ _ s t p a b) in
      over-taken f c q l x s r p.nan (is ∙ ap (with_item (item_of (q.item x))) rest) (rw o (twice-nan _ _ _ _ _ s t p a b)) apart

-- a term lies above position 0
pub placed : (i : terms.Item) → AllGood (keep (terms.term_of i) []) → top_of_item (item_of i) ≡ 0 → keep (terms.term_of i) [] ≡ []
placed terms.nan_item g e = refl
placed terms.invalid_item g e = refl
placed (terms.infinite s) g e = refl
placed (terms.zero_item s) g e = refl
placed (terms.term t) g e = absurd (none t.top (top-high t g.0) e)
  where
    none : (n : ℕ) → 1024 ≤ n → n ≡ 0 → ⊥
    none n h e = omega arith

-- ---- the codes of a list, and the pairs of two, in any encoding

module _ (e : Encoding) (c : env.Settings) where
  pub nan-is : (b : ℕ) → dec.is_nan (e.operand c b) ≡ dec.is_nan (e.decode b)
  nan-is b = sym (if-nan (e.operand c b)) ∙ ap dec.is_nan (e.held c b) ∙ if-nan (e.decode b)

  -- what was read can be taken
  pub can-take : (b : ℕ) (v : dec.Unpacked) → v ≡ e.operand c b → Bounded v
  can-take b v p = rw p (bounded e.format e.range (e.operand c b) (e.decoded c b))

  module _ (u : env.Summand) where
    abbrev pub list : Reading e.format ℕ
    list = record {
      subnormal = e.subnormal;
      signaling = signaling_in e;
      operands = λ b. e.decode b ∷ [];
      item = item_in e c u;
      position = e.top u;
      position-none = e.top-none u;
      position-max = e.top-max u;
      all = map e.decode;
      all_more = λ l b. map-append e.decode l (b ∷ []);
      adds = λ b. record {
        nan = item_of-nan u (e.operand c b) ∙ nan-is b ∙ sym (or-false (dec.is_nan (e.decode b)));
        encode = (e.encodes b, tt);
        placed = placed (item_in e c u b) (good-items (item_in e c u) (λ x. good-item_of e.format u (e.operand c x) (e.decoded c x)) (b ∷ []));
      };
    }

    -- what `take` gives
    pub list-taken : (b : ℕ) (sub : Bool) (v : dec.Unpacked) (s r : Scan) → (v ≡ e.operand c b) × (sub ≡ e.subnormal b) → Takes c u sub v s r
        → (l : List ℕ) (apart : ℕ) → Over e.format c list l (with_top apart s) → Over e.format c list (l ++ (b ∷ [])) (with_top apart r)
    list-taken b sub v s r (p, q) h =
        one-taken e.format c list b s r (e.operand c b) (e.decode b) h.between refl refl (e.held c b) (rw (p, q) at h.read) (rw p at h.noted)

    -- what `plain_field` says
    pub list-plainly : (b n : ℕ) → FieldIn e b n → 0 < n → Plainly e.format c list b n
    list-plainly b n h z =
        let a = h.plain z u c in
        record { subnormal = a.0; signaling = none-signaling (e.decode b) a.1; nan = or-false (dec.is_nan (e.decode b)) ∙ a.1; item = a.2 }

  pub both-more : (l : List (ℕ × ℕ)) (x : ℕ × ℕ)
      → map e.decode (both_of (l ++ (x ∷ []))) ≡ map e.decode (both_of l) ++ (e.decode x.0 ∷ e.decode x.1 ∷ [])
  both-more [] x = refl
  both-more (y ∷ l) x = ap (λ r. e.decode y.0 ∷ e.decode y.1 ∷ r) (both-more l x)

  abbrev pub dot : Reading e.format (ℕ × ℕ)
  dot = record {
    subnormal = λ x. e.subnormal x.0 || e.subnormal x.1;
    signaling = λ x. signaling_in e x.0 || signaling_in e x.1;
    operands = λ x. e.decode x.0 ∷ e.decode x.1 ∷ [];
    item = pair_in e c;
    position = e.pair_top;
    position-none = e.pair-top-none;
    position-max = e.pair-top-max;
    all = λ l. map e.decode (both_of l);
    all_more = both-more;
    adds = λ x. record {
      nan =
          pair_of-nan (e.operand c x.0) (e.operand c x.1)
          ∙ ap₂ ◌||◌ (nan-is x.0) (nan-is x.1 ∙ sym (or-false (dec.is_nan (e.decode x.1))));
      encode = (e.encodes x.0, (e.encodes x.1, tt));
      placed =
          placed (pair_in e c x)
          (good-items (pair_in e c) (λ y. good-pair_of e.format (e.operand c y.0) (e.operand c y.1) (e.decoded c y.0) (e.decoded c y.1)) (x ∷ []));
    };
  }

  -- a pair of operands that were read
  pub both-read : {x y : ℕ} (a b : Read) {s r : Scan} → ReadAs e c x a → ReadAs e c y b
      → TakesPair c a.subnormal b.subnormal (unpacked_of a.value) (unpacked_of b.value) s r → TakesPairIn e c (x, y) s r
  both-read a b (p, q) (m, n) h = rw (p, q, m, n) at h

  -- what `take_pair` gives
  pub pair-taken : (x y : ℕ) (s r : Scan) → TakesPairIn e c (x, y) s r → (l : List (ℕ × ℕ)) (apart : ℕ)
      → Over e.format c dot l (with_top apart s) → Over e.format c dot (l ++ ((x, y) ∷ [])) (with_top apart r)
  pair-taken x y s r h =
      two-taken e.format c dot (x, y) s r (e.subnormal x) (e.subnormal y) (e.operand c x) (e.decode x) (e.operand c y) (e.decode y)
      h.between h.next refl refl refl (e.held c x) (e.held c y) h.left h.right h.noted

  -- what `plain_fields` says
  pub pair-plainly : (x y n : ℕ) → FieldsIn e x y n → 0 < n → Plainly e.format c dot (x, y) n
  pair-plainly x y n h z =
      let a = h.plain z c in
      record {
        subnormal = ap₂ ◌||◌ a.0 a.1;
        signaling = ap₂ ◌||◌ (none-signaling (e.decode x) a.2) (none-signaling (e.decode y) a.3);
        nan = ap₂ ◌||◌ a.2 (or-false (dec.is_nan (e.decode y)) ∙ a.3);
        item = a.4;
      }

-- the elements of index i of two lists of one length are their pair
pub pair-here : (xs ys : List ℕ) (i x y : ℕ) → length ys ≡ length xs → i < length xs → x ≡ get_or xs i 0 → y ≡ get_or ys i 0
    → (x, y) ≡ get_or (totals.pairs xs ys) i (0, 0)
pair-here xs ys i x y j h d e = ap₂ (λ a b. (a, b)) d e ∙ sym (pairs-at xs ys i j h)
