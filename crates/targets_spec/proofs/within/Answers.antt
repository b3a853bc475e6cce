-- A sum or a dot within an allowance of passes: full answers, unfinished ones and their bound,
-- refusals, the order, and that the fields fit.
use mathlib.Core.Path.{◌≡◌, refl, ◌∙◌, sym, ap, subst, fun_ext}
use mathlib.Core.Bool.{Bool, true, false, cond, not, ◌||◌}
use mathlib.Core.List.{List, map, Permᴰ}
use Prim.Native.Nat.{◌-◌, ◌≤◌, ℕ, suc, ◌+◌, ◌<◌, ◌^◌}
use lib.ListN.{length, length-map}
use lib.IntN.{pos, ℤ, negsuc, sub_ℕ, nat_abs}
use mathlib.Core.Logic.{◌⊎◌, inl, inr, ◌≢◌, ◌↔◌}
use lib.Dec.{T, eqb, eqb→eq, ltb, ltb→lt, nltb→le, lit<, leb, eqb_refl}
use native.Mathlib.Omega.{arith}
use mathlib.Core.Option.{Option, none, some}
use lib.Pow.{pow_mono, pow_pos}
use native.Mathlib.Nat.{mod-lt, le_of_lt, le_trans, mul-le-mul_left}
use borrow.Author.Tests.{le-leb, lt-leb, leb-true, leb-false, ne_eqb, eqb-true, eqb-false}
use Rattle.totals_spec.specs.formats.Bounds.{FormatBounds, Offered, RangeBounds}
use Rattle.totals_spec.specs.formats.Format.{Format, digits, origin, fall, kind_of, bias, bias_of}
use Rattle.totals_spec.specs.formats.Format.{bias_part, lift, lift_part, depth}
use Rattle.totals_spec.specs.terms.Terms.{Term, top_of, item, term_of, pair_item}
use Rattle.totals_spec.specs.chain.Chain.{chain, half, signed_from, Look, residue, wrapped}
use Rattle.totals_spec.specs.chain.Chain.{Boundary, sum_of, look_at, no_boundary, boundary}
use Rattle.totals_spec.specs.sums.Totals.{Answer, refused, answered, special, reported, is_square}
use Rattle.totals_spec.specs.sums.Totals.{is_value, stray, first_index, sum_refusal, sum_terms}
use Rattle.totals_spec.specs.sums.Totals.{sum_accepted, sum_answer, pairs, operands, dot_refusal}
use Rattle.totals_spec.specs.sums.Totals.{dot_terms, dot_place, dot_accepted, dot_answer, refuse_if}
use Rattle.totals_spec.specs.Basics.{any, Signed, plus_of, minus_of}
use Rattle.totals_spec.specs.formats.Settings.{Settings, summand_of}
use Rattle.totals_spec.specs.formats.Decode.{decode, is_subnormal, is_signaling}
use Rattle.totals_spec.specs.sums.Nan.{select_all}
use Rattle.totals_spec.specs.chain.Standing.{pass_of}
use Rattle.totals_spec.specs.sums.Promises.{FieldsFit}
use Rattle.totals_spec.specs.refusals.Places.{StrayAt, DotStrayAt}
use Rattle.totals_spec.specs.chain.Limit.{most_passes}
use Rattle.totals_spec.specs.order.Rearranged.{same_pair}
use Rattle.totals_spec.proofs.terms.GoodTerms.{AllGood, good-terms, picked-length, good-pairs}
use Rattle.totals_spec.proofs.chain.Margin.{terms-max}
use Rattle.totals_spec.proofs.refusals.RefusedRecords.{Unrefused, sum-refusal, sum-place}
use Rattle.totals_spec.proofs.refusals.RefusedRecords.{dot-refusal, dot-place, sum-refused}
use Rattle.totals_spec.proofs.refusals.RefusedRecords.{dot-refused}
use Rattle.totals_spec.proofs.terms.HighestAndLowest.{top_product, sum_top, dot-top}
use Rattle.totals_spec.proofs.sums.RecordRule.{accepted-has}
use Rattle.totals_spec.proofs.refusals.AcceptedCalls.{sum-accepts, dot-accepts}
use Rattle.totals_spec.proofs.order.Order.{pairs-length, look-perm, top-perm, sum-order, dot-order}
use Rattle.totals_spec.proofs.order.Order.{pair-sound, pair-alike}
use Rattle.totals_spec.proofs.formats.NamedBias.{own-le}
use Rattle.totals_spec.proofs.chain.Sizes.{KeptBoundary}
use Rattle.totals_spec.proofs.chain.PassesOfRecords.{le-64, sum-limit, dot-limit}
use Rattle.totals_spec.proofs.formats.Valid.{digits_le}
use Rattle.totals_spec.proofs.refusals.Exactly.{test, exactly, sum-tests, dot-tests}
use Rattle.totals_spec.proofs.order.Rearrangements.{picked-perm, map-perm, perm-of-counts}
use Rattle.totals_spec.proofs.sums.FieldsFit.{sum-fits, dot-fits}
use Rattle.targets_spec.specs.within.Estimate.{position_of, Estimate, full, whole_of, sign_of}
use Rattle.targets_spec.specs.within.Estimate.{unit_of, unfinished_at, within, allowed, shown}
use Rattle.targets_spec.specs.within.Estimate.{widest, sum_within, dot_within}
use Rattle.targets_spec.specs.within.Promises.{Unfinished, NearSum, EstimateFits, Within-in-time}
use Rattle.targets_spec.specs.within.Promises.{Within-limit, Within-same, Within-unfinished}
use Rattle.targets_spec.specs.within.Promises.{Within-near, Within-narrower, Within-last}
use Rattle.targets_spec.specs.within.Promises.{Within-refusal, Within-refused, Within-place}
use Rattle.targets_spec.specs.within.Promises.{Within-order, Within-fits}
use Rattle.targets_spec.specs.within.Conditions.{NoAllowance}
use Rattle.targets_spec.proofs.within.Standing.{place_of, pass-near, pass_kept, pass-high}
use Rattle.targets_spec.proofs.within.Standing.{pass-last, some-terms, pass-falls}

-- ---- what is known of a total's answer: no pass was run for it, or it is that of a chain over
-- terms of an accepted call

record Idle (a : Answer) : Type 0 where
  passes : a.passes ≡ 0
  edge : a.last_edge ≡ pos 0

record Ran (f : Format) (products : Bool) (ts : List Term) (a : Answer) : Type 0 where
  passes : a.passes ≡ (chain (digits f) ts).passes
  edge : a.last_edge ≡ position_of f products (chain (digits f) ts).edge

record Known (f : Format) (products : Bool) (ts : List Term) (a : Answer) : Type 0 where
  format : FormatBounds f
  good : AllGood ts
  few : length ts ≤ terms-max
  top : top_of ts ≤ top_product f
  ran : Ran f products ts a
  unrefused : Unrefused a

answered-ran : (f : Format) (products : Bool) (ts : List Term) (n at : ℕ) (a : Answer) → Idle a ⊎ Ran f products ts a
    → Idle (answered n at a) ⊎ ((n ≡ 0) × Ran f products ts (answered n at a))
answered-ran f products ts n at a h = go (eqb n 0) (eqb→eq n 0) h
  where
    go : (t : Bool) → (T t → n ≡ 0) → Idle a ⊎ Ran f products ts a
        → let r = cond t a (refused n (cond (eqb n 7) at 0)) in Idle r ⊎ ((n ≡ 0) × Ran f products ts r)
    go true e (inl i) = inl i
    go true e (inr r) = inr (e tt, r)
    go false e i = inl (record { passes = refl; edge = refl })

nought : {n : ℕ} → n ≡ 0 → n ≢ 7
nought e k = omega (arith, e, k)

sum-known : (f : Format) (c : Settings) (u : ℕ) (l : List ℕ)
    → let a = sum_answer f c u l in Idle a ⊎ Known f (is_square (summand_of u)) (sum_terms f c (summand_of u) l) a
unfolding sum_answer sum_accepted
sum-known f c u l = known (answered-ran f _ _ (sum_refusal f c u l) (first_index (stray f) l) (sum_accepted f c (summand_of u) l) made)
  where
    made : Idle (sum_accepted f c (summand_of u) l) ⊎ Ran f (is_square (summand_of u)) (sum_terms f c (summand_of u) l) (sum_accepted f c (summand_of u) l)
    made = unfold sum_accepted special reported in
        accepted-has (λ (a : Answer). Idle a ⊎ Ran f (is_square (summand_of u)) (sum_terms f c (summand_of u) l) a)
        f c (any (is_subnormal f) l) (is_square (summand_of u)) (map (item f c (summand_of u)) l)
        (λ v i. inl (record { passes = refl; edge = refl })) (inr (record { passes = refl; edge = refl }))
        (not (is_value (summand_of u))) (any (λ b. is_signaling (decode f b)) l) (select_all c (map (decode f) l))

    known : Idle (sum_answer f c u l) ⊎ ((sum_refusal f c u l ≡ 0) × Ran f (is_square (summand_of u)) (sum_terms f c (summand_of u) l) (sum_answer f c u l))
        → Idle (sum_answer f c u l) ⊎ Known f (is_square (summand_of u)) (sum_terms f c (summand_of u) l) (sum_answer f c u l)
    known (inl i) = inl i
    known (inr (e, r)) =
        let h = sum-accepts f c u l e in
        inr (record {
          format = h.format;
          good = good-terms f c (summand_of u) l;
          few = omega (arith, picked-length term_of (map (item f c (summand_of u)) l), length-map l (item f c (summand_of u)), h.few);
          top = sum_top f c (summand_of u) l;
          ran = r;
          unrefused = record { number = sum-refusal f c u l ∙ e; place = (sum-place f c u l).0 (nought e) };
        })

dot-known : (f : Format) (c : Settings) (xs ys : List ℕ) → let a = dot_answer f c xs ys in Idle a ⊎ Known f true (dot_terms f c xs ys) a
unfolding dot_answer dot_accepted
dot-known f c xs ys = known (answered-ran f _ _ (dot_refusal f c xs ys) (dot_place f xs ys) (dot_accepted f c (pairs xs ys)) made)
  where
    made : Idle (dot_accepted f c (pairs xs ys)) ⊎ Ran f true (dot_terms f c xs ys) (dot_accepted f c (pairs xs ys))
    made = unfold dot_accepted special reported in
        accepted-has (λ (a : Answer). Idle a ⊎ Ran f true (dot_terms f c xs ys) a)
        f c (any (λ x. is_subnormal f x.0 || is_subnormal f x.1) (pairs xs ys)) true (map (pair_item f c) (pairs xs ys))
        (λ v i. inl (record { passes = refl; edge = refl })) (inr (record { passes = refl; edge = refl }))
        false (any (λ x. is_signaling (decode f x.0) || is_signaling (decode f x.1)) (pairs xs ys)) (select_all c (operands f (pairs xs ys)))

    known : Idle (dot_answer f c xs ys) ⊎ ((dot_refusal f c xs ys ≡ 0) × Ran f true (dot_terms f c xs ys) (dot_answer f c xs ys))
        → Idle (dot_answer f c xs ys) ⊎ Known f true (dot_terms f c xs ys) (dot_answer f c xs ys)
    known (inl i) = inl i
    known (inr (e, r)) =
        let h = dot-accepts f c xs ys e in
        let long = pairs-length xs ys (sym h.same) in
        inr (record {
          format = h.format;
          good = good-pairs f c (pairs xs ys);
          few = omega (arith, picked-length term_of (map (pair_item f c) (pairs xs ys)), length-map (pairs xs ys) (pair_item f c), long, h.few);
          top = dot-top f c xs ys;
          ran = r;
          unrefused = record { number = dot-refusal f c xs ys ∙ e; place = (dot-place f c xs ys).0 (nought e) };
        })

-- ---- positions

-- a place can be told from its position
position-one : (f : Format) (products : Bool) (w v : ℕ) → position_of f products w ≡ position_of f products v → w ≡ v
position-one f products w v e =
    omega (
      arith,
      sym (counted (w + fall f products) (origin f products)) ∙ ap (λ (i : ℤ). back i (origin f products)) e
          ∙ counted (v + fall f products) (origin f products),
    )
  where
    back : ℤ → ℕ → ℕ
    back (pos n) b = b + n
    back (negsuc n) b = b - suc n

    counted : (a b : ℕ) → back (sub_ℕ a b) b ≡ a
    counted a b = go (ltb a b) (ltb→lt a b) (nltb→le a b)
      where
        go : (t : Bool) → (T t → a < b) → (T (not t) → b ≤ a) → back (cond t (negsuc (b - suc a)) (pos (a - b))) b ≡ a
        go true h k = let l = h tt in let z : b - suc (b - suc a) ≡ a = omega (arith, l) in z
        go false h k = let l = k tt in let z : b + (a - b) ≡ a = omega (arith, l) in z

-- and is small
sub_small : (a b n : ℕ) → a < n → b < n → nat_abs (sub_ℕ a b) < n
sub_small a b n h k = go (ltb a b) (ltb→lt a b)
  where
    go : (t : Bool) → (T t → a < b) → nat_abs (cond t (negsuc (b - suc a)) (pos (a - b))) < n
    go true l = let z : suc (b - suc a) < n = omega (arith, l tt, k) in z
    go false l = let z : a - b < n = omega (arith, h) in z

module _ (f : Format) (r : RangeBounds f) where
  bias-small : bias f ≤ 2 ^ 28
  unfolding bias
  bias-small = go f.named r.named-le
    where
      go : (n : Option ℤ) → Offered n → bias_part n (bias_of (kind_of f.kind) f.E) ≤ 2 ^ 28
      go none o = own-le (kind_of f.kind) f.E r.e-le
      go (some (pos b)) o = omega (arith, o)
      go (some (negsuc b)) o = omega arith

  lift-small : lift f ≤ 2 ^ 28
  unfolding lift
  lift-small = go f.named r.named-le
    where
      go : (n : Option ℤ) → Offered n → lift_part n ≤ 2 ^ 28
      go none o = omega arith
      go (some (pos b)) o = omega arith
      go (some (negsuc b)) o = omega (arith, o)

  fall-small : (products : Bool) → fall f products ≤ 2 ^ 29
  unfolding fall
  fall-small true = omega (arith, lift-small)
  fall-small false = omega (arith, lift-small)

  origin-small : (products : Bool) → origin f products ≤ 2 ^ 30
  unfolding origin depth
  origin-small true = omega (arith, bias-small, r.p-le)
  origin-small false = omega (arith, bias-small, r.p-le)

  position-small : (products : Bool) (w : ℕ) → w ≤ top_product f + 768 → nat_abs (position_of f products w) < 2 ^ 63
  position-small products w h =
      sub_small (w + fall f products) (origin f products) (2 ^ 63)
      (omega (arith, h, fall-small products, pow_mono {i = f.E} {j = 28} r.e-le, r.p-le))
      (omega (arith, origin-small products))

-- ---- S, from −2^767 to 2^767 − 1: a number below 2^768 read with a sign

abbrev pub Windowed : Signed → Type 0
Windowed x = (y : ℕ) × (y < half + half) × (x ≡ signed_from half y)

sum-windowed : (b : Boundary) (w : ℕ) (l : Look) → Windowed (sum_of b w l)
unfolding sum_of wrapped residue
sum-windowed b w l = (_, mod-lt _ (omega (arith, positive)), refl)
  where
    positive : 0 < half
    positive = unfold half in pow_pos 767

zero-windowed : Windowed (record { neg = false; mag = 0 })
unfolding half signed_from
zero-windowed = (0, lit< tt, refl)

windowed-parts : (x : Signed) → Windowed x → (plus_of x < half) × (minus_of x ≤ half)
unfolding signed_from
windowed-parts x (y, h, e) =
    subst (λ (x : Signed). (plus_of x < half) × (minus_of x ≤ half)) (sym e) (go (ltb y half) (ltb→lt y half) (nltb→le y half))
  where
    positive : 0 < half
    positive = unfold half in pow_pos 767

    go : (t : Bool) → (T t → y < half) → (T (not t) → half ≤ y)
        → let x = cond {A = Signed} t (record { neg = false; mag = y }) (record { neg = true; mag = half + half - y }) in
        (plus_of x < half) × (minus_of x ≤ half)
    go true l g = (l tt, omega arith)
    go false l g = (positive, let z : half + half - y ≤ half = omega (arith, g tt) in z)

-- ---- by the two tests of an answer

module _ (f : Format) (products : Bool) (ts : List Term) (a : Answer) (k : ℕ) where
  abbrev estimate : Estimate
  estimate = allowed k (within f products ts k a)

  abbrev seen : Estimate
  seen = unfinished_at f products ts k (pass_of (digits f) ts k)

  in-time : 0 < k → a.passes ≤ k → estimate ≡ full a
  unfolding within
  in-time k0 h = rw (ne_eqb k 0 (λ e. omega (arith, k0, e)), le-leb a.passes k h)

  too_long : 0 < k → k < a.passes → estimate ≡ seen
  unfolding within
  too_long k0 h = rw (ne_eqb k 0 (λ e. omega (arith, k0, e)), lt-leb a.passes k h)

  -- an answer is refused with 16, full, or unfinished
  by_tests : (Q : Estimate → Type 0) → (k ≡ 0 → Q (full (refused 16 0))) → (0 < k → a.passes ≤ k → Q (full a)) → (0 < k → k < a.passes → Q seen)
      → Q estimate
  by_tests Q nothing whole part = go (eqb k 0) (eqb-true k 0) (eqb-false k 0) (leb a.passes k) (leb-true a.passes k) (leb-false a.passes k) refl refl
    where
      pos : (n : ℕ) → n ≢ 0 → 0 < n
      pos n z = omega (arith, z)

      go : (z : Bool) → (eqb k 0 ≡ true → k ≡ 0) → (eqb k 0 ≡ false → k ≢ 0) → (t : Bool) → (leb a.passes k ≡ true → a.passes ≤ k)
          → (leb a.passes k ≡ false → k < a.passes) → eqb k 0 ≡ z → leb a.passes k ≡ t → Q estimate
      go true z y t l g e d = unfold within in rw e (nothing (z e))
      go false z y true l g e d = subst Q (sym (in-time (pos k (y e)) (l d))) (whole (pos k (y e)) (l d))
      go false z y false l g e d = subst Q (sym (too_long (pos k (y e)) (g d))) (part (pos k (y e)) (g d))

  -- ---- marks

  one-zero : ◌≡◌ {A = ℕ} 1 0 → ⊥
  one-zero e = omega (arith, e)

  record Marked : Type 0 where
    some : 0 < k
    longer : k < a.passes

  marked : estimate.mark ≡ 1 → Marked
  unfolding unfinished_at
  marked =
      by_tests (λ (e : Estimate). e.mark ≡ 1 → Marked) (λ z m. absurd (one-zero (sym m))) (λ k0 h m. absurd (one-zero (sym m)))
      (λ k0 h m. record { some = k0; longer = h })

  unmarked : 0 < k → estimate.mark ≡ 0 → a.passes ≤ k
  unfolding unfinished_at
  unmarked k0 =
      by_tests (λ (e : Estimate). e.mark ≡ 0 → a.passes ≤ k) (λ z m. absurd (let n : ⊥ = omega (arith, k0, z) in n)) (λ _ h m. h)
      (λ _ h m. absurd (one-zero m))

  -- an accepted answer without a mark is the total's
  full_is : estimate.answer.refusal ≡ 0 → estimate.mark ≡ 0 → estimate ≡ full a
  unfolding unfinished_at
  full_is =
      by_tests (λ (e : Estimate). e.answer.refusal ≡ 0 → e.mark ≡ 0 → e ≡ full a) (λ z r m. absurd (let n : ⊥ = omega (arith, r) in n))
      (λ k0 h r m. refl) (λ k0 h r m. absurd (one-zero m))

  unfinished : 0 < k → k < a.passes → Unfinished k estimate
  unfinished k0 h =
      subst (Unfinished k) (sym (too_long k0 h))
      (unfold unfinished_at in
      record { mark = refl; result = refl; flags = refl; passes = refl; refusal = refl; place = refl; side = refl })

  -- ---- number and place are those of the total

  module _ (known : Idle a ⊎ Known f products ts a) where
    -- an answer whose chain is longer
    ran : 0 < k → k < a.passes → Known f products ts a
    ran k0 h = go known
      where
        go : Idle a ⊎ Known f products ts a → Known f products ts a
        go (inl i) = absurd (let z : ⊥ = omega (arith, k0, h, i.passes) in z)
        go (inr d) = d

    estimate-number : estimate.answer.refusal ≡ refuse_if (eqb k 0) 16 a.refusal
    unfolding unfinished_at
    estimate-number =
        by_tests (λ (e : Estimate). e.answer.refusal ≡ refuse_if (eqb k 0) 16 a.refusal) (λ z. rw z)
        (λ k0 h. rw (ne_eqb k 0 (λ e. omega (arith, k0, e))))
        (λ k0 h. rw (ne_eqb k 0 (λ e. omega (arith, k0, e))) (sym (ran k0 h).unrefused.number))

    estimate-refused : (a.refusal ≢ 0 → a ≡ refused a.refusal a.place) → estimate.answer.refusal ≢ 0
        → estimate ≡ full (refused estimate.answer.refusal estimate.answer.place)
    unfolding unfinished_at
    estimate-refused whole =
        by_tests (λ (e : Estimate). e.answer.refusal ≢ 0 → e ≡ full (refused e.answer.refusal e.answer.place)) (λ z n. refl)
        (λ k0 h n. ap full (whole n)) (λ k0 h n. absurd (n refl))

    estimate-place : (P : ℕ → Type 0) → (a.refusal ≢ 7 → a.place ≡ 0) × (a.refusal ≡ 7 → P a.place)
        → (estimate.answer.refusal ≢ 7 → estimate.answer.place ≡ 0) × (estimate.answer.refusal ≡ 7 → P estimate.answer.place)
    unfolding unfinished_at
    estimate-place P whole =
        by_tests (λ (e : Estimate). (e.answer.refusal ≢ 7 → e.answer.place ≡ 0) × (e.answer.refusal ≡ 7 → P e.answer.place))
        (λ z. ((λ n. refl), λ e. absurd (let y : ⊥ = omega (arith, e) in y))) (λ k0 h. whole)
        (λ k0 h. ((λ n. refl), λ e. absurd (let y : ⊥ = omega (arith, e) in y)))

    -- ---- the bound

    module _ (k0 : 0 < k) (longer : k < a.passes) where
      d : Known f products ts a
      d = ran k0 longer

      hp : digits f ≤ 64
      hp = omega (arith, d.format.e-ge, d.format.w_le)

      chain-longer : k < (chain (digits f) ts).passes
      chain-longer = omega (arith, longer, d.ran.passes)

      has-term : 0 < length ts
      has-term = some-terms (digits f) ts k hp k0 chain-longer

      seen-near : NearSum f products ts seen
      unfolding unfinished_at shown
      seen-near = record {
        edge = (pass_of (digits f) ts k).edge;
        place = place_of (pass_of (digits f) ts k).bound;
        edge_at = refl;
        place_at = unit-at (pass_of (digits f) ts k).bound;
        near = omega (arith, pass-near (digits f) ts hp d.good d.few k k0 chain-longer has-term);
      }
        where
          unit-at : (b : Boundary) → whole_of b ≢ 0 → unit_of f products b ≡ position_of f products (place_of b)
          unit-at no_boundary h = absurd (h refl)
          unit-at (boundary s m e) h = refl

    estimate-near : estimate.mark ≡ 1 → NearSum f products ts estimate
    estimate-near m =
        let h = marked m in
        subst (NearSum f products ts) (sym (too_long h.some h.longer)) (seen-near h.some h.longer)

    seen-edge : estimate.mark ≡ 1 → (w : ℕ) → estimate.answer.last_edge ≡ position_of f products w → (pass_of (digits f) ts k).edge ≡ w
    seen-edge m w e =
        let h = marked m in
        position-one f products _ w (sym (ap (λ (x : Estimate). x.answer.last_edge) (too_long h.some h.longer) ∙ unfold unfinished_at in refl) ∙ e)

    -- ---- the fields

    boundary-fits : (b : Boundary) → RangeBounds f → digits f ≤ 62 → top_of ts ≤ top_product f → KeptBoundary (digits f) (top_of ts) b
        → (whole_of b < 2 ^ 64) × (sign_of b ≤ 1) × (nat_abs (unit_of f products b) < 2 ^ 63)
    boundary-fits no_boundary r p t h = (omega arith, omega arith, omega arith)
    boundary-fits (boundary s m e) r p t h =
        (omega (arith, h.1, pow_mono {i = suc (digits f)} {j = 63} (omega (arith, p))), sign s, position-small f r products e (omega (arith, h.3, t)))
      where
        sign : (s : Bool) → sign_of (boundary s m e) ≤ 1
        sign true = omega arith
        sign false = omega arith

    seen-fits : FieldsFit f a → 0 < k → k < a.passes → EstimateFits f seen
    unfolding unfinished_at
    seen-fits fit k0 h =
        let g = ran k0 h in
        let s = pass_of (digits f) ts k in
        let most : digits f ≤ 62 = omega (arith, g.format.e-ge, g.format.w_le) in
        let longer : k < (chain (digits f) ts).passes = omega (arith, h, g.ran.passes) in
        let some = some-terms (digits f) ts k (le-64 most) k0 longer in
        let b = boundary-fits s.bound g.format.range most g.top (pass_kept (digits f) ts (le-64 most) g.good g.few k k0 longer some).bound in
        let x = windowed-parts _ (sum-windowed s.bound s.edge (look_at ts s.edge)) in
        let high : s.edge ≤ top_of ts = pass-high (digits f) ts (le-64 most) g.good k in
        record {
          fields = record { result = pow_pos f.W; flags = omega arith; side = omega arith; passes = omega (arith, h, fit.passes) };
          mark = omega arith;
          high = unfold half in x.0;
          low = unfold half in x.1;
          whole = b.0;
          minus = b.1;
          last_edge = position-small f g.format.range products s.edge (omega (arith, high, g.top));
          unit = b.2;
        }

    -- the total's last edge
    edge-small : nat_abs a.last_edge < 2 ^ 63
    edge-small = go known
      where
        go : Idle a ⊎ Known f products ts a → nat_abs a.last_edge < 2 ^ 63
        go (inl i) = subst (λ (x : ℤ). nat_abs x < 2 ^ 63) (sym i.edge) (let z : 0 < 2 ^ 63 = omega arith in z)
        go (inr g) =
            let most : digits f ≤ 62 = omega (arith, g.format.e-ge, g.format.w_le) in
            let last = pass-last (digits f) ts (le-64 most) g.good in
            let high = pass-high (digits f) ts (le-64 most) g.good (chain (digits f) ts).passes in
            subst (λ (x : ℤ). nat_abs x < 2 ^ 63) (sym g.ran.edge)
            (position-small f g.format.range products (chain (digits f) ts).edge (omega (arith, last, high, g.top)))

    estimate-fits : FieldsFit f a → EstimateFits f estimate
    estimate-fits fit = by_tests (EstimateFits f) (λ z. whole-fits (refused 16 0) none-fit (omega arith)) (λ k0 h. whole-fits a fit edge-small) (seen-fits fit)
      where
        none-fit : FieldsFit f (refused 16 0)
        none-fit = record { result = pow_pos f.W; flags = omega arith; side = omega arith; passes = omega arith }

        whole-fits : (a : Answer) → FieldsFit f a → nat_abs a.last_edge < 2 ^ 63 → EstimateFits f (full a)
        whole-fits a h e = record {
          fields = h;
          mark = omega arith;
          high = pow_pos 767;
          low = le_of_lt (pow_pos 767);
          whole = omega arith;
          minus = omega arith;
          last_edge = e;
          unit = omega arith;
        }

    estimate-windowed : Windowed estimate.sum
    unfolding unfinished_at
    estimate-windowed =
        by_tests (λ (e : Estimate). Windowed e.sum) (λ z. zero-windowed) (λ k0 h. zero-windowed)
        (λ k0 h. sum-windowed _ (pass_of (digits f) ts k).edge _)

-- ---- two allowances

module _ (f : Format) (products : Bool) (ts : List Term) (a : Answer) (known : Idle a ⊎ Known f products ts a) (k n : ℕ) (more : k ≤ n) where
  same : 0 < k → (estimate f products ts a k).mark ≡ 0 → estimate f products ts a n ≡ estimate f products ts a k
  same k0 m =
      let h = unmarked f products ts a k k0 m in
      in-time f products ts a n (omega (arith, k0, more)) (le_trans h more) ∙ sym (in-time f products ts a k k0 h)

  narrower : (estimate f products ts a k).mark ≡ 1 → (estimate f products ts a n).mark ≡ 1
      → (w v : ℕ) → (estimate f products ts a k).answer.last_edge ≡ position_of f products w
      → (estimate f products ts a n).answer.last_edge ≡ position_of f products v → widest ts v ≤ widest ts w
  narrower m m' w v e e' =
      let h = marked f products ts a k m in
      let g = ran f products ts a k known h.some h.longer in
      let most : digits f ≤ 64 = omega (arith, g.format.e-ge, g.format.w_le) in
      let falls = pass-falls (digits f) ts most g.good k n more in
      mul-le-mul_left (length ts)
      (pow_mono (omega (arith, falls, seen-edge f products ts a k known m w e, seen-edge f products ts a n known m' v e')))

-- ---- a rearrangement of the terms

within-perm : (f : Format) (products : Bool) {ts us : List Term} → Permᴰ ts us → (k : ℕ) (a : Answer) → within f products ts k a ≡ within f products us k a
unfolding within unfinished_at pass_of
within-perm f products d k a = cc (fun_ext (look-perm d), top-perm d)

-- ---- THE PROMISES

module _ (f : Format) (c : Settings) (u : ℕ) (l : List ℕ) where
  abbrev products : Bool
  products = is_square (summand_of u)

  abbrev sum-terms : List Term
  sum-terms = sum_terms f c (summand_of u) l

  abbrev sum-record : Answer
  sum-record = sum_answer f c u l

  sum-whole : sum-record.refusal ≢ 0 → sum-record ≡ refused sum-record.refusal sum-record.place
  sum-whole h =
      subst (λ (n : ℕ). sum-record ≡ refused n sum-record.place) (sym (sum-refusal f c u l))
      (sum-refused f c u l (λ e. h (sum-refusal f c u l ∙ e)))

  sum-at : (sum-record.refusal ≢ 7 → sum-record.place ≡ 0) × (sum-record.refusal ≡ 7 → StrayAt f l sum-record.place)
  sum-at = rw (sum-refusal f c u l) (sum-place f c u l)

  pub sum-within-number : (k : ℕ) → (sum_within f c u l k).answer.refusal ≡ refuse_if (eqb k 0) 16 (sum_refusal f c u l)
  unfolding sum_within
  sum-within-number k =
      estimate-number f products sum-terms sum-record k (sum-known f c u l) ∙ ap (refuse_if (eqb k 0) 16) (sum-refusal f c u l)

  pub sum-within-windowed : (k : ℕ) → Windowed (sum_within f c u l k).sum
  unfolding sum_within
  sum-within-windowed k = estimate-windowed f products sum-terms sum-record k (sum-known f c u l)

  pub sum-within-full : (k : ℕ) → (sum_within f c u l k).answer.refusal ≡ 0 → (sum_within f c u l k).mark ≡ 0 → sum_within f c u l k ≡ full sum-record
  unfolding sum_within
  sum-within-full k = full_is f products sum-terms sum-record k

module _ (f : Format) (c : Settings) (xs ys : List ℕ) where
  abbrev dot-record : Answer
  dot-record = dot_answer f c xs ys

  dot-whole : dot-record.refusal ≢ 0 → dot-record ≡ refused dot-record.refusal dot-record.place
  dot-whole h =
      subst (λ (n : ℕ). dot-record ≡ refused n dot-record.place) (sym (dot-refusal f c xs ys))
      (dot-refused f c xs ys (λ e. h (dot-refusal f c xs ys ∙ e)))

  dot_at : (dot-record.refusal ≢ 7 → dot-record.place ≡ 0) × (dot-record.refusal ≡ 7 → DotStrayAt f xs ys dot-record.place)
  dot_at = rw (dot-refusal f c xs ys) (dot-place f c xs ys)

  pub dot-within-number : (k : ℕ) → (dot_within f c xs ys k).answer.refusal ≡ refuse_if (eqb k 0) 16 (dot_refusal f c xs ys)
  unfolding dot_within
  dot-within-number k =
      estimate-number f true (dot_terms f c xs ys) dot-record k (dot-known f c xs ys) ∙ ap (refuse_if (eqb k 0) 16) (dot-refusal f c xs ys)

  pub dot-within-windowed : (k : ℕ) → Windowed (dot_within f c xs ys k).sum
  unfolding dot_within
  dot-within-windowed k = estimate-windowed f true (dot_terms f c xs ys) dot-record k (dot-known f c xs ys)

  pub dot-within-full : (k : ℕ) → (dot_within f c xs ys k).answer.refusal ≡ 0 → (dot_within f c xs ys k).mark ≡ 0 → dot_within f c xs ys k ≡ full dot-record
  unfolding dot_within
  dot-within-full k = full_is f true (dot_terms f c xs ys) dot-record k

pub within-in-time : Within-in-time
unfolding sum_within dot_within
within-in-time = (
  λ f c u l k. in-time f _ _ (sum_answer f c u l) k,
  λ f c xs ys k. in-time f _ _ (dot_answer f c xs ys) k,
)

pub within-limit : Within-limit
within-limit = (
  λ f c u l k h. within-in-time.0 f c u l k (le_trans (some f (sum-terms f c u l)) h) (le_trans (sum-limit f c u l) h),
  λ f c xs ys k h. within-in-time.1 f c xs ys k (le_trans (some f (dot_terms f c xs ys)) h) (le_trans (dot-limit f c xs ys) h),
)
  where
    some : (f : Format) (ts : List Term) → 1 ≤ most_passes f ts
    some f ts = unfold most_passes in omega arith

pub within-same : Within-same
unfolding sum_within dot_within
within-same = (
  λ f c u l k n k0 h. same f _ _ (sum_answer f c u l) (sum-known f c u l) k n h k0,
  λ f c xs ys k n k0 h. same f _ _ (dot_answer f c xs ys) (dot-known f c xs ys) k n h k0,
)

pub within-unfinished : Within-unfinished
unfolding sum_within dot_within
within-unfinished = (
  λ f c u l k. unfinished f _ _ (sum_answer f c u l) k,
  λ f c xs ys k. unfinished f _ _ (dot_answer f c xs ys) k,
)

pub within-near : Within-near
unfolding sum_within dot_within
within-near = (
  λ f c u l k. estimate-near f _ _ (sum_answer f c u l) k (sum-known f c u l),
  λ f c xs ys k. estimate-near f _ _ (dot_answer f c xs ys) k (dot-known f c xs ys),
)

pub within-narrower : Within-narrower
unfolding sum_within dot_within
within-narrower = (
  λ f c u l k n h. narrower f _ _ (sum_answer f c u l) (sum-known f c u l) k n h,
  λ f c xs ys k n h. narrower f _ _ (dot_answer f c xs ys) (dot-known f c xs ys) k n h,
)

pub within-last : Within-last
within-last = (
  λ f c u l v. pass-last (digits f) (sum-terms f c u l) (le-64 (digits_le f v)) (good-terms f c (summand_of u) l),
  λ f c xs ys v. pass-last (digits f) (dot_terms f c xs ys) (le-64 (digits_le f v)) (good-pairs f c (pairs xs ys)),
)

pub no-allowance : (k : ℕ) → T (eqb k 0) ↔ NoAllowance k
no-allowance k = (eqb→eq k 0, λ e. subst (λ (n : ℕ). T (eqb n 0)) (sym e) tt)

pub within-refusal : Within-refusal
within-refusal = (
  λ f c u l k n. rw (sum-within-number f c u l k) (exactly (test (eqb k 0) (no-allowance k) (sum-tests f c u l)) n),
  λ f c xs ys k n. rw (dot-within-number f c xs ys k) (exactly (test (eqb k 0) (no-allowance k) (dot-tests f c xs ys)) n),
)

pub within-refused : Within-refused
unfolding sum_within dot_within
within-refused = (
  λ f c u l k. estimate-refused f _ _ (sum_answer f c u l) k (sum-known f c u l) (sum-whole f c u l),
  λ f c xs ys k. estimate-refused f _ _ (dot_answer f c xs ys) k (dot-known f c xs ys) (dot-whole f c xs ys),
)

pub within-place : Within-place
unfolding sum_within dot_within
within-place = (
  λ f c u l k. estimate-place f _ _ (sum_answer f c u l) k (sum-known f c u l) (StrayAt f l) (sum-at f c u l),
  λ f c xs ys k. estimate-place f _ _ (dot_answer f c xs ys) k (dot-known f c xs ys) (DotStrayAt f xs ys) (dot_at f c xs ys),
)

pub within-order : Within-order
unfolding sum_within dot_within
within-order = (
  λ f c u l₁ l₂ k h r n.
      let d = perm-of-counts eqb eqb→eq eqb_refl l₁ l₂ h in
      let p = picked-perm term_of (map-perm (item f c (summand_of u)) d) in
      cc ((sum-order f c u l₁ l₂ h r n).1, within-perm f (is_square (summand_of u)) p k (sum_answer f c u l₂)),
  λ f c xs ys xs' ys' k e h r n m.
      let d = perm-of-counts same_pair pair-sound pair-alike (pairs xs ys) (pairs xs' ys') h in
      let p = picked-perm term_of (map-perm (pair_item f c) d) in
      cc ((dot-order f c xs ys xs' ys' e h r n m).1, within-perm f true p k (dot_answer f c xs' ys')),
)

pub within-fits : Within-fits
unfolding sum_within dot_within
within-fits = (
  λ f c u l k. estimate-fits f _ _ (sum_answer f c u l) k (sum-known f c u l) (sum-fits f c u l),
  λ f c xs ys k. estimate-fits f _ _ (dot_answer f c xs ys) k (dot-known f c xs ys) (dot-fits f c xs ys),
)
