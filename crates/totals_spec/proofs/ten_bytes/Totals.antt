-- The totals of kind 4 (`Extended` of specs/): refusals, the record, the passes, the order. Each
-- law is one of the other kinds' totals, at 64 digits.
use Prim.Native.Nat.{◌≤◌, ℕ, ◌+◌, ◌^◌, zero, suc}
use native.Mathlib.Nat.{le_refl, le_trans, le_of_eq}
use mathlib.Core.Logic.{◌↔◌, ◌≢◌}
use mathlib.Core.Bool.{not, ◌&&◌, Bool, true, false, cond, ◌||◌}
use mathlib.Core.Option.{Option, none, some}
use lib.Dec.{T, eqb, leb, ltb, leb→le, eqb→eq, eqb_refl}
use lib.IntN.{ℤ, pos}
use mathlib.Core.List.{List, map, Permᴰ}
use lib.ListN.{length}
use mathlib.Core.Path.{◌≡◌, sym, ap, ◌∙◌, refl, subst}
use borrow.Author.Tests.{ltb-false, ne_eqb}
use native.Mathlib.Omega.{arith}
use Rattle.totals_spec.specs.formats.Format.{digits, Format, grid}
use Rattle.totals_spec.specs.ten_bytes.Extended.{extended, unnamed, valid_extended}
use Rattle.totals_spec.specs.ten_bytes.Extended.{extended_sum_refusal, extended_dot_refusal, kind4}
use Rattle.totals_spec.specs.ten_bytes.Extended.{unsupported, decode_extended, subnormal_extended}
use Rattle.totals_spec.specs.ten_bytes.Extended.{with_spread, extended_accepted, extended_sum}
use Rattle.totals_spec.specs.ten_bytes.Extended.{extended_sum_answer, both_of, extended_dot}
use Rattle.totals_spec.specs.ten_bytes.Extended.{extended_dot_answer, spread, extended_item}
use Rattle.totals_spec.specs.ten_bytes.Extended.{extended_terms, extended_pair, extended_dot_terms}
use Rattle.totals_spec.specs.ten_bytes.Conditions.{NamesBias, BadExtended, extended_sum_conditions}
use Rattle.totals_spec.specs.ten_bytes.Conditions.{extended_dot_conditions}
use Rattle.totals_spec.specs.formats.Settings.{Settings, valid_settings, summand_of}
use Rattle.totals_spec.specs.sums.Totals.{limit, Answer, special, reported, accepted, finite_total}
use Rattle.totals_spec.specs.sums.Totals.{pairs, refused, answered, is_square, on_grid}
use Rattle.totals_spec.specs.formats.Bounds.{SettingsBounds}
use Rattle.totals_spec.specs.Basics.{any, flag, is_set}
use Rattle.totals_spec.specs.formats.Decode.{Unpacked, is_number, nan, decode, is_nan}
use Rattle.totals_spec.specs.sums.Nan.{default_nan_of}
use Rattle.totals_spec.specs.terms.Terms.{Item, terms, top_of, Term, exact_sum, is_nan_item}
use Rattle.totals_spec.specs.chain.Limit.{most_passes}
use Rattle.totals_spec.specs.sums.Promises.{FieldsFit, zero_for}
use Rattle.totals_spec.specs.ten_bytes.Promises.{Extended-refused-exactly, Extended-refused}
use Rattle.totals_spec.specs.ten_bytes.Promises.{Extended-fits, invalid_extended}
use Rattle.totals_spec.specs.ten_bytes.Promises.{Extended-unsupported, AllNumbers, Extended-exact}
use Rattle.totals_spec.specs.ten_bytes.Promises.{Extended-zeros, Extended-back, Canonical}
use Rattle.totals_spec.specs.ten_bytes.Promises.{Extended-canonical, Extended-side}
use Rattle.totals_spec.specs.ten_bytes.Promises.{Extended-no-side, Extended-by-chain, most_extended}
use Rattle.totals_spec.specs.ten_bytes.Promises.{Extended-limit, Extended-most, Extended-ends}
use Rattle.totals_spec.specs.ten_bytes.Promises.{Extended-edges, Extended-order}
use Rattle.totals_spec.specs.formats.Encode.{encode}
use Rattle.totals_spec.specs.rounding.Side.{side_of}
use Rattle.totals_spec.specs.rounding.Round.{round}
use Rattle.totals_spec.specs.order.Rearranged.{nan_looked_at, same_pair}
use Rattle.totals_spec.proofs.refusals.Exactly.{different, not-both, Tests, test, last}
use Rattle.totals_spec.proofs.refusals.Exactly.{settings-fail, summand-fails, many-found}
use Rattle.totals_spec.proofs.refusals.Exactly.{unequal-found, exactly}
use Rattle.totals_spec.proofs.order.Order.{first-zero, not-false, pairs-length, accepted-perm}
use Rattle.totals_spec.proofs.order.Order.{pair-sound, pair-alike}
use Rattle.totals_spec.proofs.chain.PassesOfRecords.{valid-of, special-passes, accepted-passes}
use Rattle.totals_spec.proofs.chain.PassesOfRecords.{answered-passes}
use Rattle.totals_spec.proofs.formats.Valid.{and_left, and_right, settings-bounds, precision-most}
use Rattle.totals_spec.proofs.formats.Valid.{precision-least}
use Rattle.totals_spec.proofs.sums.RecordRule.{cond_has, accepted-has}
use Rattle.totals_spec.proofs.entries.AnswerFields.{Fields, without, accepted-fields}
use Rattle.totals_spec.proofs.sums.FiniteLists.{AllPlain, plain-accepted, some-term}
use Rattle.totals_spec.proofs.sums.FieldsFit.{few-passes, answered-fit}
use Rattle.totals_spec.proofs.terms.GoodTerms.{AllGood}
use Rattle.totals_spec.proofs.rounding.SideByFlags.{no_number}
use Rattle.totals_spec.proofs.refusals.RefusedRecords.{Unrefused, special-unrefused}
use Rattle.totals_spec.proofs.refusals.RefusedRecords.{accepted-unrefused, answered-number}
use Rattle.totals_spec.proofs.sums.Sides.{NoSide, finite-side}
use Rattle.totals_spec.proofs.terms.HighestAndLowest.{top_product, top_most}
use Rattle.totals_spec.proofs.ten_bytes.WrittenOut.{extended-bounds, spread-decoded, spread-fits}
use Rattle.totals_spec.proofs.ten_bytes.WrittenOut.{spread-canonical}
use Rattle.totals_spec.proofs.ten_bytes.Terms.{extended-good, extended-good-pairs, extended-top}
use Rattle.totals_spec.proofs.ten_bytes.Terms.{extended-dot-top, both-any, extended-plain}
use Rattle.totals_spec.proofs.ten_bytes.Terms.{all-supported, extended-plain-pairs}
use Rattle.totals_spec.proofs.ten_bytes.Terms.{extended-single-top, extended-nans}
use Rattle.totals_spec.proofs.ten_bytes.Terms.{extended-pair-nans, any-both}
use Rattle.totals_spec.proofs.sums.ZeroTotals.{no-term}
use Rattle.totals_spec.proofs.rounding.RoundedNumbers.{round-held}
use Rattle.totals_spec.proofs.rounding.RoundedBack.{held_back}
use Rattle.totals_spec.proofs.chain.ByChain.{finite-by-chain, few-terms}
use Rattle.totals_spec.proofs.chain.Binary64Limit.{passes-within}
use Rattle.totals_spec.proofs.chain.PassLimit.{chain-ends}
use Rattle.totals_spec.proofs.chain.TrueEdges.{edges-true}
use Rattle.totals_spec.proofs.order.Rearrangements.{length-perm, any-perm, map-perm, perm-of-counts}

sixty-four : digits extended ≤ 64
unfolding extended
sixty-four = le_refl 64

-- ---- refusals

unnamed-found : (n : Option ℤ) → T (not (unnamed n)) ↔ NamesBias n
unnamed-found none = ((λ t. t), λ t. t)
unnamed-found (some b) = ((λ t. t), λ t. t)

pub extended-fails : (f : Format) → T (not (valid_extended f)) ↔ BadExtended f
unfolding valid_extended
extended-fails f =
    not-both (eqb f.E 15) (eqb f.W 80 && unnamed f.named) (different f.E 15)
    (not-both (eqb f.W 80) (unnamed f.named) (different f.W 80) (unnamed-found f.named))

pub extended-sum-tests : (f : Format) (c : Settings) (u : ℕ) (l : List ℕ) → Tests (extended_sum_conditions f c u l) (extended_sum_refusal f c u l)
unfolding extended_sum_refusal
extended-sum-tests f c u l =
    test (not (valid_extended f)) (extended-fails f)
    (test (not (valid_settings extended c && leb u 2)) (not-both (valid_settings extended c) (leb u 2) (settings-fail extended c) (summand-fails u))
    (test (ltb limit (length l)) (many-found l) last))

pub extended-dot-tests : (f : Format) (c : Settings) (xs ys : List ℕ) → Tests (extended_dot_conditions f c xs ys) (extended_dot_refusal f c xs ys)
unfolding extended_dot_refusal
extended-dot-tests f c xs ys =
    test (not (valid_extended f)) (extended-fails f)
    (test (not (valid_settings extended c)) (settings-fail extended c)
    (test (not (eqb (length xs) (length ys))) (unequal-found xs ys)
    (test (ltb limit (length xs)) (many-found xs) last)))

-- what an accepted call has shown
pub record ExtendedAccepts (c : Settings) (n : ℕ) : Type 0 where
  pub settings : SettingsBounds extended c
  pub few : n ≤ limit

pub extended-sum-accepts : (f : Format) (c : Settings) (u : ℕ) (l : List ℕ) → extended_sum_refusal f c u l ≡ 0 → ExtendedAccepts c (length l) × (u ≤ 2)
unfolding extended_sum_refusal
extended-sum-accepts f c u l e =
    let a = first-zero (not (valid_extended f)) 2 _ e in
    let b = first-zero (not (valid_settings extended c && leb u 2)) 3 _ a.1 in
    let g = first-zero (ltb limit (length l)) 5 _ b.1 in
    let t = valid-of (valid_settings extended c && leb u 2) 3 _ a.1 in (
      record {
        settings = settings-bounds extended c (and_left (valid_settings extended c) (leb u 2) t);
        few = ltb-false limit (length l) g.0;
      },
      leb→le u 2 (and_right (valid_settings extended c) (leb u 2) t),
    )

pub extended-dot-accepts : (f : Format) (c : Settings) (xs ys : List ℕ) → extended_dot_refusal f c xs ys ≡ 0
    → ExtendedAccepts c (length xs) × (length xs ≡ length ys)
unfolding extended_dot_refusal
extended-dot-accepts f c xs ys e =
    let a = first-zero (not (valid_extended f)) 2 _ e in
    let b = first-zero (not (valid_settings extended c)) 3 _ a.1 in
    let g = first-zero (not (eqb (length xs) (length ys))) 4 _ b.1 in
    let h = first-zero (ltb limit (length xs)) 5 _ g.1 in (
      record { settings = settings-bounds extended c (valid-of (valid_settings extended c) 3 _ a.1); few = ltb-false limit (length xs) h.0 },
      eqb→eq (length xs) (length ys) (not-false (eqb (length xs) (length ys)) g.0),
    )

-- ---- every record of an accepted call, by the two ways in which it is made

module _ (c : Settings) (products first : Bool) (l : List ℕ) (items : List Item) where
  abbrev sub : Bool
  sub = any subnormal_extended l

  -- before its leading bit is written out
  inner-has : (Q : Answer → Type 0) → Q (special extended sub (default_nan_of c) true)
      → ((signaling : Bool) (v : Unpacked) → Q (accepted extended c sub products first signaling v items))
      → (Q⁺ : Answer → Type 0) → ((a : Answer) → Q a → Q⁺ (with_spread a)) → Q⁺ (extended_accepted c products first l items)
  unfolding extended_accepted
  inner-has Q h k Q⁺ out = out _ (cond_has Q (any unsupported l) _ _ h (k _ _))

  pub extended-unrefused : Unrefused (extended_accepted c products first l items)
  extended-unrefused =
      inner-has Unrefused (special-unrefused extended sub (default_nan_of c) true) (accepted-unrefused extended c sub products items first)
      Unrefused (λ a h. record { number = h.number; place = h.place })

  pub extended-fields : Fields (extended_accepted c products first l items)
  extended-fields =
      inner-has Fields (without extended c sub products items (default_nan_of c) true) (accepted-fields extended c sub products items first)
      Fields (λ a h. record { flags = h.flags; side = h.side })

  pub extended-passes : AllGood (terms items) → (extended_accepted c products first l items).passes ≤ most_passes extended (terms items)
  extended-passes g =
      inner-has Few (special-passes _ extended sub (default_nan_of c) true)
      (accepted-passes extended c sub products items sixty-four g first) Few (λ a h. h)
    where
      Few : Answer → Type 0
      Few a = a.passes ≤ most_passes extended (terms items)

  extended-fit : AllGood (terms items) → top_of (terms items) ≤ top_product extended → FieldsFit kind4 (extended_accepted c products first l items)
  extended-fit g t = record {
    result = unfold extended_accepted in spread-fits _;
    flags = extended-fields.flags;
    side = extended-fields.side;
    passes = omega (arith, extended-passes g, few-passes extended (terms items) extended-bounds t);
  }

  extended-no-number : is_number (decode_extended (extended_accepted c products first l items).result) ≡ false
      → (extended_accepted c products first l items).side ≡ 3
  unfolding special reported
  extended-no-number =
      inner-has (NoSide extended) (λ e. no_number 0 _ _ e)
      (accepted-has (NoSide extended) extended c sub products items (λ v i e. no_number 0 _ _ e) (λ e. no_number _ _ _ e) first)
      (λ a. is_number (decode_extended a.result) ≡ false → a.side ≡ 3) (λ a h e. h (ap is_number (sym (spread-decoded a.result)) ∙ e))

  pub extended-finite : any unsupported l ≡ false → AllPlain items
      → extended_accepted c products first l items ≡ with_spread (finite_total extended c sub products (zero_for c items) (terms items))
  unfolding extended_accepted
  extended-finite u h = rw u (ap with_spread (plain-accepted extended c _ products first _ _ items h))

-- ---- the number, and the record of a refused call

pub extended-sum-refusal : (f : Format) (c : Settings) (u : ℕ) (l : List ℕ) → (extended_sum_answer f c u l).refusal ≡ extended_sum_refusal f c u l
unfolding extended_sum_answer extended_sum
extended-sum-refusal f c u l = answered-number (extended_sum_refusal f c u l) 0 _ (λ _. extended-unrefused c _ _ l _)

pub extended-dot-refusal : (f : Format) (c : Settings) (xs ys : List ℕ) → (extended_dot_answer f c xs ys).refusal ≡ extended_dot_refusal f c xs ys
unfolding extended_dot_answer extended_dot
extended-dot-refusal f c xs ys = answered-number (extended_dot_refusal f c xs ys) 0 _ (λ _. extended-unrefused c _ _ (both_of (pairs xs ys)) _)

pub extended-refused-exactly : Extended-refused-exactly
extended-refused-exactly = (
  λ f c u l n. rw (extended-sum-refusal f c u l) (exactly (extended-sum-tests f c u l) n),
  λ f c xs ys n. rw (extended-dot-refusal f c xs ys) (exactly (extended-dot-tests f c xs ys) n),
)

-- no number has a place
answered-none : (n : ℕ) (a : Answer) → n ≢ 0 → answered n 0 a ≡ refused n 0
answered-none n a h = rw (ne_eqb n 0 h) (ap (refused n) (none (eqb n 7)))
  where
    none : (b : Bool) → cond {A = ℕ} b 0 0 ≡ 0
    none true = refl
    none false = refl

pub extended-refused : Extended-refused
unfolding extended_sum_answer extended_dot_answer
extended-refused = (
  λ f c u l h. let e = extended-sum-refusal f c u l in answered-none (extended_sum_refusal f c u l) _ (λ z. h (e ∙ z)) ∙ ap (λ (n : ℕ). refused n 0) (sym e),
  λ f c xs ys h.
      let e = extended-dot-refusal f c xs ys in answered-none (extended_dot_refusal f c xs ys) _ (λ z. h (e ∙ z)) ∙ ap (λ (n : ℕ). refused n 0) (sym e),
)

-- ---- the fields and their places

pub extended-fits : Extended-fits
unfolding extended_sum_answer extended_sum extended_dot_answer extended_dot
extended-fits = (
  λ f c u l.
      answered-fit kind4 (extended_sum_refusal f c u l) 0 _
      (λ _. extended-fit c _ _ l _ (extended-good c (summand_of u) l) (extended-top c (summand_of u) l)),
  λ f c xs ys.
      answered-fit kind4 (extended_dot_refusal f c xs ys) 0 _
      (λ _. extended-fit c _ _ (both_of (pairs xs ys)) _ (extended-good-pairs c (pairs xs ys)) (extended-dot-top c (pairs xs ys))),
)

-- ---- an unsupported encoding

invalid-record : (c : Settings) (sub : Bool) → with_spread (special extended sub (default_nan_of c) true) ≡ invalid_extended c sub
unfolding default_nan_of special
invalid-record c sub = go (is_set c.default_nan_sign)
  where
    go : (s : Bool)
        → with_spread (special extended sub (nan s false 0) true)
        ≡ record {
          result = flag (2 ^ 79) s + 0x7fffc000000000000000;
          flags = flag 128 sub + 1;
          passes = 0;
          last_edge = pos 0;
          refusal = 0;
          place = 0;
          side = 3;
        }
    go true = unfold special extended spread encode decode side_of in refl
    go false = unfold special extended spread encode decode side_of in refl

pub extended-unsupported : Extended-unsupported
unfolding extended_sum_answer extended_sum extended_dot_answer extended_dot extended_accepted
extended-unsupported = (
  λ f c u l r h. rw (r, h) (invalid-record c (any subnormal_extended l)),
  λ f c xs ys r h.
      let e = (extended-dot-accepts f c xs ys r).1 in
      rw (r, both-any unsupported xs ys e, h, both-any subnormal_extended xs ys e) (invalid-record c (any subnormal_extended xs || any subnormal_extended ys)),
)

-- ---- finite values

pub extended-sum-finite : (f : Format) (c : Settings) (u : ℕ) (l : List ℕ) → extended_sum_refusal f c u l ≡ 0 → AllNumbers l
    → extended_sum_answer f c u l
    ≡ with_spread (finite_total extended c (any subnormal_extended l) (is_square (summand_of u)) (zero_for c (map (extended_item c (summand_of u)) l))
    (extended_terms c (summand_of u) l))
unfolding extended_sum_answer extended_sum
extended-sum-finite f c u l r h = rw r (extended-finite c _ _ l _ (all-supported l h) (extended-plain c (summand_of u) l h))

pub extended-dot-finite : (f : Format) (c : Settings) (xs ys : List ℕ) → extended_dot_refusal f c xs ys ≡ 0 → AllNumbers xs → AllNumbers ys
    → extended_dot_answer f c xs ys
    ≡ with_spread (finite_total extended c (any subnormal_extended xs || any subnormal_extended ys) true (zero_for c (map (extended_pair c) (pairs xs ys)))
    (extended_dot_terms c xs ys))
unfolding extended_dot_answer extended_dot
extended-dot-finite f c xs ys r h k =
    let e = (extended-dot-accepts f c xs ys r).1 in
    rw (r, ← both-any subnormal_extended xs ys e)
    (extended-finite c true false (both_of (pairs xs ys)) _ (both-any unsupported xs ys e ∙ rw (all-supported xs h, all-supported ys k))
    (extended-plain-pairs c xs ys h k))

pub extended-exact : Extended-exact
unfolding finite_total
extended-exact = (
  λ f c u l r h some. extended-sum-finite f c u l r h ∙ rw (some-term (extended_terms c (summand_of u) l) some),
  λ f c xs ys r h k some. extended-dot-finite f c xs ys r h k ∙ rw (some-term (extended_dot_terms c xs ys) some),
)

pub extended-zeros : Extended-zeros
extended-zeros = (
  λ f c u l r h e.
      extended-sum-finite f c u l r h ∙ ap with_spread (no-term extended c _ _ _ (extended_terms c (summand_of u) l) extended-bounds (omega (arith, e))),
  λ f c xs ys r h k e.
      extended-dot-finite f c xs ys r h k ∙ ap with_spread (no-term extended c _ _ _ (extended_dot_terms c xs ys) extended-bounds (omega (arith, e))),
)

-- ---- what is read again

pub extended-back : Extended-back
extended-back = (spread-decoded, λ c g s m v. spread-decoded _ ∙ held c g s m (settings-bounds extended c v))
  where
    held : (c : Settings) (g : ℕ) (s : Bool) (m : ℕ) → SettingsBounds extended c
        → decode extended (encode extended (round extended c g s m).value) ≡ (round extended c g s m).value
    held c g s m b =
        held_back extended extended-bounds _
        (round-held extended extended-bounds c (precision-least extended c extended-bounds) (precision-most extended c b) g s m)
        ∙ unfold extended in refl

pub extended-canonical : Extended-canonical
unfolding extended_sum_answer extended_sum extended_dot_answer extended_dot extended_accepted
extended-canonical = (
  λ f c u l. whole (extended_sum_refusal f c u l) _,
  λ f c xs ys. whole (extended_dot_refusal f c xs ys) _,
)
  where
    whole : (n : ℕ) (a : Answer) → Canonical (answered n 0 (with_spread a)).result
    whole n a = cond_has (λ r. Canonical r.result) (eqb n 0) (with_spread a) _ (spread-canonical a.result) refl

-- ---- the side

finite-leans : (c : Settings) (sub products minus : Bool) (ts : List Term) (r : Answer)
    → r ≡ with_spread (finite_total extended c sub products minus ts)
    → r.side ≡ side_of (grid extended products) (decode_extended r.result) (on_grid extended products (exact_sum ts))
finite-leans c sub products minus ts r e =
    let a = finite_total extended c sub products minus ts in
    let g = grid extended products in
    let x = on_grid extended products (exact_sum ts) in
    subst (λ (r : Answer). r.side ≡ side_of g (decode_extended r.result) x) (sym e)
    (finite-side extended c sub products minus ts extended-bounds ∙ ap (λ (v : Unpacked). side_of g v x) (sym (spread-decoded a.result)))

pub extended-side : Extended-side
extended-side = (
  λ f c u l r h. finite-leans c _ _ _ (extended_terms c (summand_of u) l) _ (extended-sum-finite f c u l r h),
  λ f c xs ys r h k. finite-leans c _ _ _ (extended_dot_terms c xs ys) _ (extended-dot-finite f c xs ys r h k),
)

pub extended-no-side : Extended-no-side
unfolding extended_sum_answer extended_sum extended_dot_answer extended_dot
extended-no-side = (
  λ f c u l r. rw (sym (extended-sum-refusal f c u l) ∙ r) (extended-no-number c _ _ l _),
  λ f c xs ys r. rw (sym (extended-dot-refusal f c xs ys) ∙ r) (extended-no-number c _ _ (both_of (pairs xs ys)) _),
)

-- ---- the chain

pub extended-by-chain : Extended-by-chain
extended-by-chain = (
  λ f c u l sub products minus r.
      let a = (extended-sum-accepts f c u l r).0 in
      finite-by-chain extended c sub products minus (extended_terms c (summand_of u) l) extended-bounds a.settings (extended-good c (summand_of u) l)
      (few-terms (extended_item c (summand_of u)) l a.few),
  λ f c xs ys sub products minus r.
      let a = extended-dot-accepts f c xs ys r in
      finite-by-chain extended c sub products minus (extended_dot_terms c xs ys) extended-bounds a.0.settings (extended-good-pairs c (pairs xs ys))
      (few-terms (extended_pair c) (pairs xs ys) (le_trans (le_of_eq (pairs-length xs ys a.1)) a.0.few)),
)

pub extended-limit : Extended-limit
unfolding extended_sum_answer extended_sum extended_dot_answer extended_dot
extended-limit = (
  λ f c u l. answered-passes _ (extended_sum_refusal f c u l) 0 _ (λ _. within _ (extended-passes c _ _ l _ (extended-good c (summand_of u) l))),
  λ f c xs ys.
      answered-passes _ (extended_dot_refusal f c xs ys) 0 _
      (λ _. within _ (extended-passes c _ _ (both_of (pairs xs ys)) _ (extended-good-pairs c (pairs xs ys)))),
)
  where
    within : {n : ℕ} (ts : List Term) → n ≤ most_passes extended ts → n ≤ most_extended ts
    within ts h = unfold most_passes extended in h

pub extended-most : Extended-most
unfolding extended
extended-most = (
  λ f c u l h.
      le_trans (extended-limit.0 f c u l)
      (unfold most_passes in passes-within extended 33853 51 (extended_terms c (summand_of u) l) sixty-four (extended-good c (summand_of u) l)
      (top c l u h) (omega arith)),
  λ f c u l.
      le_trans (extended-limit.0 f c u l)
      (unfold most_passes in passes-within extended 66683 103 (extended_terms c (summand_of u) l) sixty-four (extended-good c (summand_of u) l)
      (extended-top c (summand_of u) l) (omega arith)),
  λ f c xs ys.
      le_trans (extended-limit.1 f c xs ys)
      (unfold most_passes in passes-within extended 66683 103 (extended_dot_terms c xs ys) sixty-four (extended-good-pairs c (pairs xs ys))
      (extended-dot-top c (pairs xs ys)) (omega arith)),
)
  where
    top : (c : Settings) (l : List ℕ) (u : ℕ) → u ≤ 1 → top_of (extended_terms c (summand_of u) l) ≤ top_most extended
    top c l zero h = extended-single-top c (summand_of 0) tt l
    top c l (suc zero) h = extended-single-top c (summand_of 1) tt l
    top c l (suc (suc u)) h = absurd (let z : ⊥ = omega arith in z)

pub extended-ends : Extended-ends
extended-ends = (
  λ c u l. chain-ends (digits extended) (extended_terms c (summand_of u) l) sixty-four (extended-good c (summand_of u) l),
  λ c xs ys. chain-ends (digits extended) (extended_dot_terms c xs ys) sixty-four (extended-good-pairs c (pairs xs ys)),
)

pub extended-edges : Extended-edges
extended-edges = (
  λ c u l. edges-true (extended_terms c (summand_of u) l) (extended-good c (summand_of u) l),
  λ c xs ys. edges-true (extended_dot_terms c xs ys) (extended-good-pairs c (pairs xs ys)),
)

-- ---- the order

-- elements of which as many are unsupported and subnormal, and whose items are rearranged
extended-perm : (c : Settings) (products first : Bool) (l₁ l₂ : List ℕ) (i₁ i₂ : List Item)
    → any unsupported l₁ ≡ any unsupported l₂ → any subnormal_extended l₁ ≡ any subnormal_extended l₂ → Permᴰ i₁ i₂
    → (any unsupported l₁ ≡ false → any is_nan_item i₁ ≡ false)
    → extended_accepted c products first l₁ i₁ ≡ extended_accepted c products first l₂ i₂
unfolding extended_accepted
extended-perm c products first l₁ l₂ i₁ i₂ u s d h =
    rw (← u, ← s)
    (ap with_spread (unless (any unsupported l₁) _ _ _ (λ e. accepted-perm extended c _ products d first _ _ _ _ (h e))))
  where
    unless : (t : Bool) (x y z : Answer) → (t ≡ false → y ≡ z) → cond t x y ≡ cond t x z
    unless true x y z h = refl
    unless false x y z h = h refl

-- where no NaN decides
no_nan : (l : List ℕ) → nan_looked_at l ≡ false → any unsupported l ≡ false → any (λ b. is_nan (decode_extended b)) l ≡ false
no_nan l h e = rw e at h

-- a refusal goes by lengths alone
dot-refusal-perm : (f : Format) (c : Settings) (xs ys xs' ys' : List ℕ) → Permᴰ (pairs xs ys) (pairs xs' ys')
    → length xs ≡ length ys → length xs' ≡ length ys' → extended_dot_refusal f c xs ys ≡ extended_dot_refusal f c xs' ys'
unfolding extended_dot_refusal
dot-refusal-perm f c xs ys xs' ys' d e e' =
    let n : length xs ≡ length xs' = sym (pairs-length xs ys e) ∙ length-perm d ∙ pairs-length xs' ys' e' in
    let m : length ys ≡ length ys' = sym e ∙ n ∙ e' in
    cc

pub extended-order : Extended-order
unfolding extended_sum_answer extended_sum extended_dot_answer extended_dot
extended-order = (
  λ f c u l₁ l₂ h r k.
      let d = perm-of-counts eqb eqb→eq eqb_refl l₁ l₂ h in
      let r₂ : extended_sum_refusal f c u l₂ ≡ 0 = unfold extended_sum_refusal in rw (← length-perm d) r in (
        r₂,
        rw (r, r₂)
            (extended-perm c _ _ l₁ l₂ _ _ (any-perm unsupported d) (any-perm subnormal_extended d) (map-perm (extended_item c (summand_of u)) d)
            (λ e. extended-nans c (summand_of u) l₁ ∙ no_nan l₁ k e)),
      ),
  λ f c xs ys xs' ys' e h r k.
      let d = perm-of-counts same_pair pair-sound pair-alike (pairs xs ys) (pairs xs' ys') h in
      let r₂ : extended_dot_refusal f c xs' ys' ≡ 0 = sym (dot-refusal-perm f c xs ys xs' ys' d (extended-dot-accepts f c xs ys r).1 e) ∙ r in (
        r₂,
        rw (r, r₂)
            (extended-perm c true false (both_of (pairs xs ys)) (both_of (pairs xs' ys')) _ _ (both-perm unsupported d) (both-perm subnormal_extended d)
            (map-perm (extended_pair c) d)
            (λ z. extended-pair-nans c (pairs xs ys) ∙ no_nan (both_of (pairs xs ys)) k z)),
      ),
)
  where
    both-perm : (t : ℕ → Bool) {l₁ l₂ : List (ℕ × ℕ)} → Permᴰ l₁ l₂ → any t (both_of l₁) ≡ any t (both_of l₂)
    both-perm t {l₁} {l₂} d = any-both t l₁ ∙ any-perm (λ x. t x.0 || t x.1) d ∙ sym (any-both t l₂)
