-- The pence of a list: refused records, the place of refusal 7, the order, and lists of one
-- element.
use mathlib.Core.Path.{◌≡◌, refl, subst, ◌∙◌, ap₂, ap}
use mathlib.Core.Logic.{◌≢◌}
use mathlib.Core.Bool.{Bool, cond, true, false, not, ◌||◌, ◌&&◌}
use mathlib.Core.List.{[], List, ◌∷◌, map}
use Prim.Native.Nat.{ℕ, ◌<◌, ◌^◌, ◌≤◌, ◌+◌, ◌*◌, suc, ◌/◌}
use lib.IntN.{pos, ℤ, neg_ℤ}
use native.Mathlib.Omega.{arith}
use lib.Dec.{ltb, T, nltb→le, eqb, eqb→eq, eqb_refl}
use lib.ListN.{length}
use native.Mathlib.Nat.{add_comm, mul-pos}
use lib.Pow.{pow-add, pow_pos}
use Rattle.totals_spec.specs.pence.Pence.{Pence, refused_pence, refused_at, in_range, pence_of}
use Rattle.totals_spec.specs.pence.Pence.{sum_figure, not_number, sum_pence, figure_of}
use Rattle.totals_spec.specs.pence.Pence.{pence_answer}
use Rattle.totals_spec.specs.Basics.{Signed, any, difference, keep, is_set}
use Rattle.totals_spec.specs.formats.Format.{Format, origin, fall, valid_format, room, depth, lift}
use Rattle.totals_spec.specs.formats.Settings.{no_settings, value, Settings}
use Rattle.totals_spec.specs.terms.Terms.{exact_sum, item, term_of, single, item_of, plus_sum}
use Rattle.totals_spec.specs.terms.Terms.{minus_sum, Term, Item, is_nan_item, is_infinite}
use Rattle.totals_spec.specs.sums.Totals.{sum_terms, stray, limit, first_index}
use Rattle.totals_spec.specs.pence.Promises.{Sum-pence-refused, Pence-entry-refused, Pence-place}
use Rattle.totals_spec.specs.pence.Promises.{Pence-order, One-pence}
use Rattle.totals_spec.specs.entries.Words.{misnamed, format_by}
use Rattle.totals_spec.specs.pence.Entry.{FigureEntry, figure_entered, pence_entry}
use Rattle.totals_spec.specs.refusals.Places.{StrayAt}
use Rattle.totals_spec.specs.formats.Decode.{Unpacked, zero_of, finite, infinity, nan, is_number}
use Rattle.totals_spec.specs.formats.Decode.{decode, operand, sign_bit, field_of, is_finite}
use Rattle.totals_spec.specs.formats.Decode.{is_subnormal}
use Rattle.totals_spec.proofs.refusals.FirstIndex.{first-stray}
use Rattle.totals_spec.proofs.order.Rearrangements.{any-perm, length-perm, picked-perm, map-perm}
use Rattle.totals_spec.proofs.order.Rearrangements.{perm-of-counts}
use Rattle.totals_spec.proofs.order.Order.{plus-perm, minus-perm}
use Rattle.totals_spec.proofs.pence.NearestWhole.{rescaled, none-up}
use Rattle.totals_spec.proofs.terms.GoodTerms.{Decoded, decoded}
use Rattle.totals_spec.proofs.chain.AlikeNumbers.{diff-plus, diff-minus}

-- ---- the record by its four tests: x is that of a list that passes them

abbrev tested : (a b c d : Bool) (at : ℕ) → Pence → Pence
tested a b c d at x =
    cond a (refused_pence 3)
    (cond b (refused_pence 6)
    (cond c (refused_at 7 at)
    (cond d (refused_pence 8) x)))

record Plain (x : Pence) : Type 0 where
  pub number : x.refusal ≢ 7
  pub place : x.place ≡ 0
  pub none : x.refusal ≢ 0 → x.figure ≡ pos 0
  pub small : x.refusal < 256

range-plain : (s : Bool) (n : ℕ) → Plain (in_range s n)
range-plain s n = go (ltb n (2 ^ 63)) (cond s (neg_ℤ (pos n)) (pos n))
  where
    go : (b : Bool) (z : ℤ) → Plain (cond b (record { figure = z; refusal = 0; place = 0 }) (refused_pence 8))
    go true z = record { number = λ e. omega (arith, e); place = refl; none = λ h. absurd (h refl); small = omega arith }
    go false z = record { number = λ e. omega (arith, e); place = refl; none = λ h. refl; small = omega arith }

figure-plain : (f : Format) (x : Signed) → Plain (sum_figure f x)
unfolding sum_figure
figure-plain f x = range-plain x.neg (pence_of (origin f false) (fall f false) x.mag)

module _ (at : ℕ) (x : Pence) (h : Plain x) where
  no-figure : (a b c d : Bool) → (tested a b c d at x).refusal ≢ 0 → (tested a b c d at x).figure ≡ pos 0
  no-figure true b c d k = refl
  no-figure false true c d k = refl
  no-figure false false true d k = refl
  no-figure false false false true k = refl
  no-figure false false false false k = h.none k

  small : (a b c d : Bool) → (tested a b c d at x).refusal < 256
  small true b c d = omega arith
  small false true c d = omega arith
  small false false true d = omega arith
  small false false false true = omega arith
  small false false false false = h.small

  small-place : (a b c d : Bool) → (T (not b) → T c → at < 4294967296) → (tested a b c d at x).place < 4294967296
  small-place true b c d k = omega arith
  small-place false true c d k = omega arith
  small-place false false true d k = k tt tt
  small-place false false false true k = omega arith
  small-place false false false false k = omega (arith, h.place)

  no_place : (a b c d : Bool) → (tested a b c d at x).refusal ≢ 7 → (tested a b c d at x).place ≡ 0
  no_place true b c d k = refl
  no_place false true c d k = refl
  no_place false false true d k = absurd (k refl)
  no_place false false false true k = refl
  no_place false false false false k = h.place

  seven : (a b c d : Bool) → (tested a b c d at x).refusal ≡ 7 → T c × (at ≡ (tested a b c d at x).place)
  seven true b c d e = absurd (let z : ⊥ = omega (arith, e) in z)
  seven false true c d e = absurd (let z : ⊥ = omega (arith, e) in z)
  seven false false true d e = (tt, refl)
  seven false false false true e = absurd (let z : ⊥ = omega (arith, e) in z)
  seven false false false false e = absurd (h.number e)

  -- only number 7 has a place to differ in
  other_place : (a b c d : Bool) (at' : ℕ) → (tested a b c d at x).refusal ≢ 7 → tested a b c d at x ≡ tested a b c d at' x
  other_place true b c d at' k = refl
  other_place false true c d at' k = refl
  other_place false false true d at' k = absurd (k refl)
  other_place false false false d at' k = refl

-- ---- refused records, and the place

abbrev sum_of : Format → List ℕ → Signed
sum_of f l = exact_sum (sum_terms f no_settings value l)

pub sum-pence-refused : Sum-pence-refused
unfolding sum_pence
sum-pence-refused f l =
    no-figure (first_index (stray f) l) _ (figure-plain f (sum_of f l)) (not (valid_format f)) (ltb limit (length l)) (any (stray f) l) (any (not_number f) l)

-- the number fits a byte
pub sum-pence-number : (f : Format) (l : List ℕ) → (sum_pence f l).refusal < 256
unfolding sum_pence
sum-pence-number f l =
    small (first_index (stray f) l) _ (figure-plain f (sum_of f l)) (not (valid_format f)) (ltb limit (length l)) (any (stray f) l) (any (not_number f) l)

-- and the place four
pub sum-pence-place : (f : Format) (l : List ℕ) → (sum_pence f l).place < 4294967296
unfolding sum_pence
sum-pence-place f l =
    small-place (first_index (stray f) l) _ (figure-plain f (sum_of f l)) (not (valid_format f)) (ltb limit (length l)) (any (stray f) l) (any (not_number f) l)
    (λ t s. inside (nltb→le limit (length l) t) (first-stray f l s).inside)
  where
    inside : {n i : ℕ} → n ≤ limit → i < n → i < 4294967296
    inside h k = omega (arith, h, k)

pub pence-entry-refused : Pence-entry-refused
unfolding pence_entry
pence-entry-refused k e w named b l old = go (misnamed named b) (sum_pence (format_by k e w named b) l)
  where
    written : (t : Bool) (p : Pence)
        → let r : FigureEntry = cond t (record { code = 0; figure = p.figure }) (record { code = p.refusal + 256 * p.place; figure = old }) in
        r.code ≢ 0 → r.figure ≡ old
    written true p h = absurd (h refl)
    written false p h = refl

    go : (a : Bool) (p : Pence) → let r : FigureEntry = cond a (record { code = 3; figure = old }) (figure_entered p old) in r.code ≢ 0 → r.figure ≡ old
    go true p h = refl
    go false p h = written (eqb p.refusal 0) p h

pub pence-place : Pence-place
unfolding sum_pence
pence-place f l =
    let at = first_index (stray f) l in
    let h = figure-plain f (sum_of f l) in
    let many = ltb limit (length l) in
    let some = any (stray f) l in
    let odd = any (not_number f) l in (
      no_place at _ h (not (valid_format f)) many some odd,
      λ e. let s = seven at _ h (not (valid_format f)) many some odd e in subst (StrayAt f l) s.1 (first-stray f l s.0),
    )

-- ---- the order

pub pence-order : Pence-order
unfolding sum_pence
pence-order f l₁ l₂ h k =
    let d = perm-of-counts eqb eqb→eq eqb_refl l₁ l₂ h in
    let t = picked-perm term_of (map-perm (item f no_settings value) d) in
    other_place (first_index (stray f) l₁) _ (figure-plain f (sum_of f l₁)) (not (valid_format f)) (ltb limit (length l₁)) (any (stray f) l₁)
    (any (not_number f) l₁) (first_index (stray f) l₂) k
    ∙ cc (length-perm d, any-perm (stray f) d, any-perm (not_number f) d, plus-perm t, minus-perm t)

-- ---- lists of one element

-- a unit r positions lower, for both the number and 1
lower-unit : (d k n m r : ℕ) → pence_of (r + d) n (m * 2 ^ (k + r)) ≡ pence_of d (k + n) m
unfolding pence_of
lower-unit d k n m r = ap₂ (λ (y e : ℕ). (y + 2 ^ e) / 2 ^ suc e) twice (add_comm r d) ∙ rescaled (200 * m * 2 ^ (k + n)) d r
  where
    twice : 200 * (m * 2 ^ (k + r)) * 2 ^ n ≡ 200 * m * 2 ^ (k + n) * 2 ^ r
    twice = rw (pow-add 2 k r, pow-add 2 k n) (omega arith)

-- the figure of 0
no-pence : (d k : ℕ) → pence_of d k 0 ≡ 0
unfolding pence_of
no-pence d k = none-up (200 * 0 * 2 ^ k) d (omega arith)

-- the figure of a decoded value, from its term
figure-alone : (f : Format) (x : Unpacked) → Decoded f x
    → cond (not (is_number x)) (refused_pence 8) (sum_figure f (exact_sum (keep (term_of (item_of value x)) []))) ≡ figure_of (depth f) (lift f) x
unfolding sum_figure plus_sum minus_sum difference origin fall single
figure-alone f (zero_of s) h = ap (in_range false) (no-pence (room + depth f) (lift f))
figure-alone f (finite true k m) h =
    ap (sum_figure f) (diff-minus (m * 2 ^ (k + room) + 0) 0 (m * 2 ^ (k + room)) (omega arith) (mul-pos h.0 (pow_pos (k + room))))
    ∙ ap (in_range true) (lower-unit (depth f) k (lift f) m room)
figure-alone f (finite false k m) h =
    ap (sum_figure f) (diff-plus (m * 2 ^ (k + room) + 0) 0 (m * 2 ^ (k + room)) (omega arith))
    ∙ ap (in_range false) (lower-unit (depth f) k (lift f) m room)
figure-alone f (infinity s) h = refl
figure-alone f (nan s g m) h = refl

-- the one test of number 7, and its place
alone : (a c d : Bool) (x : Pence) → tested a false (c || false) (d || false) (cond c 0 1) x
    ≡ cond a (refused_pence 3) (cond c (refused_pence 7) (cond d (refused_pence 8) x))
alone true c d x = refl
alone false true d x = refl
alone false false true x = refl
alone false false false x = refl

pub one-pence : One-pence
unfolding sum_pence pence_answer item operand
one-pence f b =
    alone (not (valid_format f)) (stray f b) (not_number f b) (sum_figure f (sum_of f (b ∷ [])))
    ∙ ap (λ (x : Pence). cond (not (valid_format f)) (refused_pence 3) (cond (stray f b) (refused_pence 7) x)) (figure-alone f (decode f b) (decoded f b))

-- ---- what a scan of the list tells

-- a sum of no term is 0 pence
pub none-figure : (f : Format) (ts : List Term) → ts ≡ [] → sum_figure f (exact_sum ts) ≡ record { figure = pos 0; refusal = 0; place = 0 }
unfolding sum_figure plus_sum minus_sum difference
none-figure f ts e = rw e (ap (in_range false) (no-pence (origin f false) (fall f false)))

-- a NaN or an infinity of either sign, among the items
abbrev pub odd_items : List Item → Bool
odd_items is = any is_nan_item is || (any (is_infinite false) is || any (is_infinite true) is)

pub odd-items : (f : Format) (c : Settings) (l : List ℕ) → any (not_number f) l ≡ odd_items (map (item f c value) l)
unfolding item operand is_subnormal
odd-items f c [] = refl
odd-items f c (b ∷ l) =
    let is = map (item f c value) l in
    let i = item f c value b in
    ap₂ ◌||◌ (each (decode f b) (is_set c.denormals_are_zero) (eqb (field_of f b) 0) (sign_bit f b)) (odd-items f c l)
    ∙ joined (is_nan_item i) (is_infinite false i) (is_infinite true i) (any is_nan_item is) (any (is_infinite false) is) (any (is_infinite true) is)
  where
    -- with denormals-are-zero a zero stands for a finite number alone
    each : (x : Unpacked) (z low s : Bool) → let i = item_of value (cond (z && (is_finite x && low)) (zero_of s) x) in
        not (is_number x) ≡ (is_nan_item i || (is_infinite false i || is_infinite true i))
    each (zero_of s) true low t = refl
    each (zero_of s) false low t = refl
    each (finite s k m) true true t = refl
    each (finite s k m) true false t = refl
    each (finite s k m) false low t = refl
    each (infinity true) true low t = refl
    each (infinity true) false low t = refl
    each (infinity false) true low t = refl
    each (infinity false) false low t = refl
    each (nan s g m) true low t = refl
    each (nan s g m) false low t = refl

    joined : (a b c x y z : Bool) → ((a || (b || c)) || (x || (y || z))) ≡ ((a || x) || ((b || y) || (c || z)))
    joined true b c x y z = refl
    joined false true c true y z = refl
    joined false true c false y z = refl
    joined false false true true y z = refl
    joined false false true false true z = refl
    joined false false true false false z = refl
    joined false false false x y z = refl
