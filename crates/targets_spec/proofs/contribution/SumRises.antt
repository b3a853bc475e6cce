-- The plain sum of a list with a number behind it rises with that number: of an Ieee format, where
-- subnormal numbers are kept.
use mathlib.Core.Path.{◌≡◌, refl, sym, ap, ◌∙◌}
use mathlib.Core.List.{List, [], ◌∷◌, ◌++◌, map}
use Prim.Native.Nat.{ℕ, ◌+◌, ◌*◌, ◌^◌, ◌≤◌, ◌<◌}
use native.Mathlib.Nat.{add-zero, mul_assoc, zero-mul, mul-le-mul_right, add-mul, zero-lt-suc}
use lib.Pow.{pow-add}
use mathlib.Core.Bool.{true, false}
use lib.Dec.{T, leb→le}
use native.Mathlib.Omega.{arith}
use lib.ListN.{length}
use Rattle.totals_spec.specs.Basics.{keep, plus_of, minus_of, is_set, Signed, difference}
use Rattle.totals_spec.specs.formats.Format.{Format, room, Kind, ieee, kind_of, digits, grid, rise}
use Rattle.totals_spec.specs.formats.Settings.{Settings, value, precision_of}
use Rattle.totals_spec.specs.terms.Terms.{item, term_of, plus_part, plus_sum, minus_part, minus_sum}
use Rattle.totals_spec.specs.terms.Terms.{item_of, single, Term, exact_sum}
use Rattle.totals_spec.specs.sums.Totals.{sum_terms, Answer, reported, sum_rounded, on_grid}
use Rattle.totals_spec.specs.sums.Totals.{towards_negative, sum_refusal, sum_answer}
use Rattle.totals_spec.specs.formats.Decode.{Unpacked, zero_of, finite, infinity, nan, is_number}
use Rattle.totals_spec.specs.formats.Decode.{decode, operand, is_nan}
use Rattle.totals_spec.specs.formats.Ordered.{at_most}
use Rattle.totals_spec.specs.formats.Bounds.{RangeBounds}
use Rattle.totals_spec.specs.formats.Encode.{encode}
use Rattle.totals_spec.specs.sums.Promises.{AllFinite, zero_for}
use Rattle.totals_spec.specs.rounding.Promises.{kept_as}
use Rattle.totals_spec.proofs.lists.FirstElements.{keep_append, total-append}
use Rattle.totals_spec.proofs.numbers.SignedNumbers.{difference-parts, raised-none}
use Rattle.totals_spec.proofs.sums.FiniteLists.{sum-exact}
use Rattle.totals_spec.proofs.sums.ZeroTotals.{sum-zeros}
use Rattle.totals_spec.proofs.rounding.RoundedNumbers.{Held, sum-held}
use Rattle.totals_spec.proofs.rounding.RoundedBack.{held_back}
use Rattle.targets_spec.specs.contribution.Contribution.{rank_of}
use Rattle.targets_spec.proofs.contribution.Ranks.{extent, rank-extents}
use Rattle.targets_spec.proofs.contribution.RoundingRises.{sum-whole, sum-rises}

-- ---- a list with one number more

terms-append : (f : Format) (c : Settings) (l : List ℕ) (n : ℕ)
    → sum_terms f c value (l ++ (n ∷ [])) ≡ sum_terms f c value l ++ keep (term_of (item f c value n)) []
terms-append f c [] n = refl
terms-append f c (x ∷ l) n =
    ap (keep (term_of (item f c value x))) (terms-append f c l n)
    ∙ sym (keep_append (term_of (item f c value x)) (sum_terms f c value l) (keep (term_of (item f c value n)) []))

plus-append : (f : Format) (c : Settings) (l : List ℕ) (n : ℕ)
    → plus_sum (sum_terms f c value (l ++ (n ∷ []))) ≡ plus_sum (sum_terms f c value l) + plus_sum (keep (term_of (item f c value n)) [])
unfolding plus_sum
plus-append f c l n = rw (terms-append f c l n) (total-append plus_part (sum_terms f c value l) (keep (term_of (item f c value n)) []))

minus-append : (f : Format) (c : Settings) (l : List ℕ) (n : ℕ)
    → minus_sum (sum_terms f c value (l ++ (n ∷ []))) ≡ minus_sum (sum_terms f c value l) + minus_sum (keep (term_of (item f c value n)) [])
unfolding minus_sum
minus-append f c l n = rw (terms-append f c l n) (total-append minus_part (sum_terms f c value l) (keep (term_of (item f c value n)) []))

-- the sums of one value, in units
scaled : (k m : ℕ) → m * 2 ^ (k + room) + 0 ≡ m * 2 ^ k * 2 ^ room
scaled k m = add-zero (m * 2 ^ (k + room)) ∙ ap (λ (n : ℕ). m * n) (pow-add 2 k room) ∙ sym (mul_assoc m (2 ^ k) (2 ^ room))

plus-of : (f : Format) (v : Unpacked) → T (is_number v) → plus_sum (keep (term_of (item_of value v)) []) ≡ plus_of (extent f v) * 2 ^ room
unfolding plus_sum single
plus-of f (zero_of s) h = sym (zero-mul (2 ^ room))
plus-of f (finite true k m) h = sym (zero-mul (2 ^ room))
plus-of f (finite false k m) h = scaled k m
plus-of f (infinity s) h = absurd h
plus-of f (nan s g m) h = absurd h

minus-of : (f : Format) (v : Unpacked) → T (is_number v) → minus_sum (keep (term_of (item_of value v)) []) ≡ minus_of (extent f v) * 2 ^ room
unfolding minus_sum single
minus-of f (zero_of s) h = sym (zero-mul (2 ^ room))
minus-of f (finite true k m) h = scaled k m
minus-of f (finite false k m) h = sym (zero-mul (2 ^ room))
minus-of f (infinity s) h = absurd h
minus-of f (nan s g m) h = absurd h

module _ (f : Format) (c : Settings) (daz : c.denormals_are_zero ≡ 0) (l : List ℕ) where
  item-is : (n : ℕ) → item f c value n ≡ item_of value (decode f n)
  unfolding item operand
  item-is n = rw (ap is_set daz)

  plus-with : (n : ℕ) → T (is_number (decode f n))
      → plus_sum (sum_terms f c value (l ++ (n ∷ []))) ≡ plus_sum (sum_terms f c value l) + plus_of (extent f (decode f n)) * 2 ^ room
  plus-with n h = plus-append f c l n ∙ rw (item-is n) (ap (λ (k : ℕ). plus_sum (sum_terms f c value l) + k) (plus-of f (decode f n) h))

  minus-with : (n : ℕ) → T (is_number (decode f n))
      → minus_sum (sum_terms f c value (l ++ (n ∷ []))) ≡ minus_sum (sum_terms f c value l) + minus_of (extent f (decode f n)) * 2 ^ room
  minus-with n h = minus-append f c l n ∙ rw (item-is n) (ap (λ (k : ℕ). minus_sum (sum_terms f c value l) + k) (minus-of f (decode f n) h))

-- of two lists the exact sum of the first is at most that of the second
abbrev pub AtMost : (ts us : List Term) → Type 0
AtMost ts us = plus_sum ts + minus_sum us ≤ plus_sum us + minus_sum ts

-- a larger number makes a larger sum
pub exact-rises : (f : Format) (c : Settings) (daz : c.denormals_are_zero ≡ 0) (l : List ℕ) (m n : ℕ) → T (is_number (decode f m)) → T (is_number (decode f n))
    → T (at_most (extent f (decode f m)) (extent f (decode f n))) → AtMost (sum_terms f c value (l ++ (m ∷ []))) (sum_terms f c value (l ++ (n ∷ [])))
exact-rises f c daz l m n hm hn h =
    joined _ _ _ _ _ _ (plus-with f c daz l m hm) (minus-with f c daz l m hm) (plus-with f c daz l n hn) (minus-with f c daz l n hn) apart
  where
    x : Signed
    x = extent f (decode f m)

    y : Signed
    y = extent f (decode f n)

    joined : (P N p q p' q' : ℕ) {a b a' b' : ℕ} → a ≡ P + p → b ≡ N + q → a' ≡ P + p' → b' ≡ N + q' → p + q' ≤ p' + q → a + b' ≤ a' + b
    joined P N p q p' q' e₁ e₂ e₃ e₄ h = omega arith

    apart : plus_of (extent f (decode f m)) * 2 ^ room + minus_of (extent f (decode f n)) * 2 ^ room
        ≤ plus_of (extent f (decode f n)) * 2 ^ room + minus_of (extent f (decode f m)) * 2 ^ room
    apart = rw (← (add-mul (plus_of x) (minus_of y) (2 ^ room)), ← (add-mul (plus_of y) (minus_of x) (2 ^ room))) (mul-le-mul_right (2 ^ room) (leb→le _ _ h))

-- ---- the plain sum of finite values, as a rounding of the exact sum

module _ (f : Format) (b : RangeBounds f) (kind : kind_of f.kind ≡ ieee) (c : Settings) (fl : c.flush_to_zero ≡ 0)
    (q0 : 1 ≤ precision_of f c) (qp : precision_of f c ≤ digits f) where
  abbrev rounded_sum : List Term → Unpacked
  rounded_sum ts = (sum_rounded f c (grid f false) (towards_negative c) (exact_sum ts)).value

  record Given (l : List ℕ) : Type 0 where
    same : extent f (decode f (sum_answer f c 0 l).result) ≡ extent f (rounded_sum (sum_terms f c value l))
    whole : is_nan (decode f (sum_answer f c 0 l).result) ≡ false

  kept_back : (v : Unpacked) → Held f v → decode f (encode f v) ≡ v
  kept_back v h = held_back f b v h ∙ ap (λ (k : Kind). kept_as k v) kind

  given : (l : List ℕ) → sum_refusal f c 0 l ≡ 0 → AllFinite f l → Given l
  given l r h = go (sum_terms f c value l) refl
    where
      plain : on_grid f false (exact_sum (sum_terms f c value l)) ≡ exact_sum (sum_terms f c value l)
      plain = unfold rise in raised-none (exact_sum (sum_terms f c value l))

      go : (ts : List Term) → sum_terms f c value l ≡ ts → Given l
      go [] e = record { same = ap (extent f) back ∙ sym (ap (λ (us : List Term). extent f (rounded_sum us)) e ∙ none); whole = ap is_nan back }
        where
          back : decode f (sum_answer f c 0 l).result ≡ zero_of (zero_for c (map (item f c value) l))
          back =
              ap (λ (a : Answer). decode f a.result) (sum-zeros f c 0 l r h (ap length e)) ∙ kept_back (zero_of (zero_for c (map (item f c value) l))) tt

          none : extent f (rounded_sum []) ≡ record { neg = false; mag = 0 }
          none = unfold sum_rounded plus_sum minus_sum difference in refl
      go (t ∷ ts) e = record { same = ap (extent f) back; whole = ap is_nan back ∙ sum-whole f b kind c fl q0 qp (grid f false) (towards_negative c) _ }
        where
          some : 0 < length (sum_terms f c value l)
          some = rw e (zero-lt-suc (length ts))

          result : (sum_answer f c 0 l).result ≡ encode f (rounded_sum (sum_terms f c value l))
          result = ap (λ (a : Answer). a.result) (sum-exact f c 0 l r h some) ∙ (unfold reported in rw plain)

          back : decode f (sum_answer f c 0 l).result ≡ rounded_sum (sum_terms f c value l)
          back = ap (decode f) result ∙ kept_back _ (sum-held f b c q0 qp (grid f false) (towards_negative c) (exact_sum (sum_terms f c value l)))

  pub sum-whole-result : (l : List ℕ) → sum_refusal f c 0 l ≡ 0 → AllFinite f l → is_nan (decode f (sum_answer f c 0 l).result) ≡ false
  sum-whole-result l r h = (given l r h).whole

  -- THE RANK rises with the exact sum
  pub rank_rises : (l k : List ℕ) → sum_refusal f c 0 l ≡ 0 → AllFinite f l → sum_refusal f c 0 k ≡ 0 → AllFinite f k
      → AtMost (sum_terms f c value l) (sum_terms f c value k) → rank_of f (sum_answer f c 0 l).result ≤ rank_of f (sum_answer f c 0 k).result
  rank_rises l k r h r' h' le =
      let g = given l r h in
      let g' = given k r' h' in
      (rank-extents f b kind _ _ g.whole g'.whole).1
      (rw (g.same, g'.same) (sum-rises f b kind c fl q0 qp (grid f false) (towards_negative c) _ _ (parts (sum_terms f c value l) (sum_terms f c value k) le)))
    where
      parts : (ts us : List Term) → AtMost ts us → plus_of (exact_sum ts) + minus_of (exact_sum us) ≤ plus_of (exact_sum us) + minus_of (exact_sum ts)
      parts ts us e = omega (arith, e, difference-parts (plus_sum ts) (minus_sum ts), difference-parts (plus_sum us) (minus_sum us))
