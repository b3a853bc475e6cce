-- The contribution that reaches a target: the sum rises with the number behind the list, so the
-- numbers that reach a total stand together; the answer is the least of them.
use mathlib.Core.Path.{◌≡◌, sym, ◌∙◌, refl, subst, ap, ap₂}
use mathlib.Core.Bool.{false, Bool, true, not, ◌&&◌, ◌||◌, true≢false, cond}
use mathlib.Core.List.{List, [], ◌∷◌, ◌++◌}
use Prim.Native.Nat.{ℕ, ◌-◌, ◌<◌, ◌+◌, ◌^◌, ◌≤◌, zero, suc}
use lib.Dec.{T, leb, eqb, eqb→eq, ltb, ltb→lt}
use lib.ListN.{length, length-append}
use mathlib.Core.Logic.{◌≢◌, ◌↔◌}
use borrow.Author.Tests.{leb-false, ltb-true, ltb-false, leb-true, eqb-true, eqb-false, ne_eqb}
use borrow.Author.Tests.{le-ltb, lt-leb}
use native.Mathlib.Nat.{le_refl, le_antisymm, not-le_of_lt, lt_of_lt_of_le, le_trans, le_of_eq}
use native.Mathlib.Nat.{suc-ne-zero}
use native.Mathlib.Omega.{arith}
use Rattle.totals_spec.specs.Basics.{any}
use Rattle.totals_spec.specs.formats.Bounds.{FormatBounds, SettingsBounds}
use Rattle.totals_spec.specs.formats.Format.{Format, valid_format, ieee, kind_of, digits}
use Rattle.totals_spec.specs.formats.Settings.{Settings, valid_settings, precision_of}
use Rattle.totals_spec.specs.formats.Decode.{finite, decode, is_number, Unpacked, zero_of, infinity}
use Rattle.totals_spec.specs.formats.Decode.{nan, is_nan}
use Rattle.totals_spec.specs.sums.Totals.{limit, stray, sum_refusal, sum_answer}
use Rattle.totals_spec.specs.pence.Pence.{not_number}
use Rattle.totals_spec.specs.formats.Ordered.{Ordered}
use Rattle.totals_spec.specs.sums.Promises.{AllFinite}
use Rattle.totals_spec.proofs.formats.Valid.{and_left, and_right, format-bounds, settings-bounds}
use Rattle.totals_spec.proofs.formats.Valid.{precision-most, precision-least}
use Rattle.totals_spec.proofs.chain.PassesOfRecords.{valid-of}
use Rattle.totals_spec.proofs.order.Order.{first-zero, or_split}
use Rattle.totals_spec.proofs.lists.FirstElements.{any_append}
use Rattle.targets_spec.specs.contribution.Conditions.{FiniteIn, Reaches, Unreached}
use Rattle.targets_spec.specs.contribution.Contribution.{contribution_refusal, first_of, rank_of}
use Rattle.targets_spec.specs.contribution.Contribution.{number_at, first_rank, last_rank}
use Rattle.targets_spec.specs.contribution.Contribution.{rank_with, reaches, least_rank, found}
use Rattle.targets_spec.specs.contribution.Contribution.{Contribution, refused_contribution}
use Rattle.targets_spec.specs.contribution.Contribution.{contribution, contributed}
use Rattle.targets_spec.specs.contribution.Promises.{Contribution-rises, Contribution-least}
use Rattle.targets_spec.proofs.several.RoundedAsTheSum.{all-finite}
use Rattle.targets_spec.proofs.contribution.Ranks.{rank-extents, rank-ordered}
use Rattle.targets_spec.proofs.contribution.NumbersOfRanks.{rank-numbers, first-le-last}
use Rattle.targets_spec.proofs.contribution.SumRises.{exact-rises, rank_rises, sum-whole-result}

-- ---- what a call that gets as far as the search has shown

pub record Accepts (f : Format) (c : Settings) (l : List ℕ) (wanted : ℕ) : Type 0 where
  pub valid : T (valid_format f)
  pub allowed : T (valid_settings f c)
  pub format : FormatBounds f
  pub kind-is : f.kind ≡ 0
  pub settings : SettingsBounds f c
  pub flush : c.flush_to_zero ≡ 0
  pub denormals : c.denormals_are_zero ≡ 0
  pub few : length l < limit
  pub unstray : any (stray f) l ≡ false
  pub finite : any (not_number f) l ≡ false
  pub wanted-in : FiniteIn f wanted

pub accepts : (f : Format) (c : Settings) (l : List ℕ) (wanted : ℕ) → contribution_refusal f c l wanted ≡ 0 → Accepts f c l wanted
unfolding contribution_refusal
accepts f c l wanted e =
    let kept = eqb c.flush_to_zero 0 && eqb c.denormals_are_zero 0 in
    let a = first-zero (not (valid_format f && eqb f.kind 0)) 2 _ e in
    let b = first-zero (not (valid_settings f c && kept)) 3 _ a.1 in
    let g = first-zero (leb limit (length l)) 5 _ b.1 in
    let h = first-zero (any (stray f) (l ++ (wanted ∷ []))) 6 _ g.1 in
    let k = first-zero (any (not_number f) (l ++ (wanted ∷ []))) 14 0 h.1 in
    let v = valid-of (valid_format f && eqb f.kind 0) 2 _ e in
    let w = valid-of (valid_settings f c && kept) 3 _ a.1 in
    let z = and_right (valid_settings f c) kept w in
    let s = or_split (any (stray f) l) (stray f wanted || false) (sym (any_append (stray f) l (wanted ∷ [])) ∙ h.0) in
    let n = or_split (any (not_number f) l) (not_number f wanted || false) (sym (any_append (not_number f) l (wanted ∷ [])) ∙ k.0) in
    record {
      valid = and_left (valid_format f) (eqb f.kind 0) v;
      allowed = and_left (valid_settings f c) kept w;
      format = format-bounds f (and_left (valid_format f) (eqb f.kind 0) v);
      kind-is = eqb→eq f.kind 0 (and_right (valid_format f) (eqb f.kind 0) v);
      settings = settings-bounds f c (and_left (valid_settings f c) kept w);
      flush = eqb→eq c.flush_to_zero 0 (and_left (eqb c.flush_to_zero 0) (eqb c.denormals_are_zero 0) z);
      denormals = eqb→eq c.denormals_are_zero 0 (and_right (eqb c.flush_to_zero 0) (eqb c.denormals_are_zero 0) z);
      few = leb-false limit (length l) g.0;
      unstray = s.0;
      finite = n.0;
      wanted-in = (leb-false (2 ^ f.W) wanted (or_split (stray f wanted) false s.1).0, number (is_number (decode f wanted)) n.1);
    }
  where
    number : (t : Bool) → (not t || false) ≡ false → T t
    number true e = tt
    number false e = absurd (true≢false e)

-- a number is no NaN
pub whole-number : (v : Unpacked) → T (is_number v) → is_nan v ≡ false
whole-number (zero_of s) h = refl
whole-number (finite s k m) h = refl
whole-number (infinity s) h = absurd h
whole-number (nan s g m) h = absurd h

-- ---- the first number for which a test holds

record First (t : ℕ → Bool) (n from r : ℕ) : Type 0 where
  low : from ≤ r
  high : r ≤ from + n
  before : (i : ℕ) → from ≤ i → i < r → t i ≡ false
  at : r < from + n → t r ≡ true

first-is : (t : ℕ → Bool) (n from : ℕ) → First t n from (first_of t n from)
first-is t zero from = record {
  low = le_refl from;
  high = omega arith;
  before = λ i h k. absurd (not-le_of_lt k h);
  at = λ h. absurd (let z : ⊥ = omega (arith, h) in z);
}
first-is t (suc n) from = go (t from) refl (first-is t n (suc from))
  where
    go : (b : Bool) → t from ≡ b → First t n (suc from) (first_of t n (suc from)) → First t (suc n) from (cond b from (first_of t n (suc from)))
    go true e h = record { low = le_refl from; high = omega arith; before = λ i k l. absurd (not-le_of_lt l k); at = λ k. e }
    go false e h = record {
      low = omega (arith, h.low);
      high = omega (arith, h.high);
      before = λ i k l. pick i k l (ltb from i) refl;
      at = λ k. h.at (omega (arith, k));
    }
      where
        pick : (i : ℕ) → from ≤ i → i < first_of t n (suc from) → (b : Bool) → ltb from i ≡ b → t i ≡ false
        pick i k l true p = h.before i (ltb-true from i p) l
        pick i k l false p = subst (λ (j : ℕ). t j ≡ false) (le_antisymm k (ltb-false from i p)) e

first-unique : (t : ℕ → Bool) (n from r s : ℕ) → First t n from r → First t n from s → r ≡ s
first-unique t n from r s a b = go (ltb r s) (ltb s r) refl refl
  where
    go : (x y : Bool) → ltb r s ≡ x → ltb s r ≡ y → r ≡ s
    go true y h k = let l = ltb-true r s h in absurd (true≢false (sym (a.at (lt_of_lt_of_le l b.high)) ∙ b.before r a.low l))
    go false true h k = let l = ltb-true s r k in absurd (true≢false (sym (b.at (lt_of_lt_of_le l a.high)) ∙ a.before s b.low l))
    go false false h k = le_antisymm (ltb-false s r k) (ltb-false r s h)

-- ---- the longer lists

module _ (f : Format) (c : Settings) (l : List ℕ) (wanted : ℕ) (e : contribution_refusal f c l wanted ≡ 0) where
  acc : Accepts f c l wanted
  acc = accepts f c l wanted e

  kind : kind_of f.kind ≡ ieee
  kind = ap kind_of acc.kind-is

  q0 : 1 ≤ precision_of f c
  q0 = precision-least f c acc.format.range

  qp : precision_of f c ≤ digits f
  qp = precision-most f c acc.settings

  with-one : (t : ℕ → Bool) (b : ℕ) → any t l ≡ false → t b ≡ false → any t (l ++ (b ∷ [])) ≡ false
  with-one t b h k = any_append t l (b ∷ []) ∙ ap₂ ◌||◌ h (ap (λ (x : Bool). x || false) k)

  pub longer-accepted : (b : ℕ) → FiniteIn f b → sum_refusal f c 0 (l ++ (b ∷ [])) ≡ 0
  unfolding sum_refusal
  longer-accepted b h =
      rw (valid, allowed, le-ltb limit (length (l ++ (b ∷ []))) room, with-one (stray f) b acc.unstray (lt-leb (2 ^ f.W) b h.0))
    where
      is_true : (t : Bool) → T t → t ≡ true
      is_true false h = elim h [ ]
      is_true true h = refl

      valid : valid_format f ≡ true
      valid = is_true (valid_format f) acc.valid

      allowed : valid_settings f c ≡ true
      allowed = is_true (valid_settings f c) acc.allowed

      room : length (l ++ (b ∷ [])) ≤ limit
      room = omega (arith, length-append l (b ∷ []), acc.few)

  pub longer-finite : (b : ℕ) → FiniteIn f b → AllFinite f (l ++ (b ∷ []))
  longer-finite b h = all-finite f (l ++ (b ∷ [])) (with-one (not_number f) b acc.finite (number (is_number (decode f b)) h.1))
    where
      number : (t : Bool) → T t → not t ≡ false
      number false h = elim h [ ]
      number true h = refl

  result-whole : (b : ℕ) → FiniteIn f b → is_nan (decode f (sum_answer f c 0 (l ++ (b ∷ []))).result) ≡ false
  result-whole b h =
      sum-whole-result f acc.format.range kind c acc.flush q0 qp (l ++ (b ∷ [])) (longer-accepted b h) (longer-finite b h)

  -- THE RANK of the sum rises with that of the number
  pub with-rises : (a b : ℕ) → FiniteIn f a → FiniteIn f b → rank_of f a ≤ rank_of f b → rank_with f c l a ≤ rank_with f c l b
  unfolding rank_with
  with-rises a b ha hb h =
      let r = acc.format.range in
      rank_rises f r kind c acc.flush q0 qp _ _ (longer-accepted a ha) (longer-finite a ha) (longer-accepted b hb) (longer-finite b hb)
      (exact-rises f c acc.denormals l a b ha.1 hb.1
      ((rank-extents f r kind a b (whole-number (decode f a) ha.1) (whole-number (decode f b) hb.1)).0 h))

  pub ranks-rise : (r s : ℕ) → first_rank f ≤ r → r ≤ s → s ≤ last_rank f → rank_with f c l (number_at f r) ≤ rank_with f c l (number_at f s)
  ranks-rise r s h g j =
      let x = (rank-numbers f acc.format.range kind).1 r h (le_trans g j) in
      let y = (rank-numbers f acc.format.range kind).1 s (le_trans h g) j in
      with-rises _ _ x.0 y.0 (rw (x.1, y.1) g)

  -- equal ranks are equal numbers
  reach-rank : (b : ℕ) → FiniteIn f b → Reaches f c l wanted b ↔ (rank_with f c l b ≡ rank_of f wanted)
  unfolding rank_with
  reach-rank b h = ((λ x. le_antisymm (up.1 x.0) (down.1 x.1)), λ x. (up.0 (le_of_eq x), down.0 (le_of_eq (sym x))))
    where
      n : is_nan (decode f wanted) ≡ false
      n = whole-number (decode f wanted) acc.wanted-in.1

      up : rank_of f (sum_answer f c 0 (l ++ (b ∷ []))).result ≤ rank_of f wanted
          ↔ Ordered (decode f (sum_answer f c 0 (l ++ (b ∷ []))).result) (decode f wanted)
      up = rank-ordered f acc.format.range kind _ wanted (result-whole b h) n

      down : rank_of f wanted ≤ rank_of f (sum_answer f c 0 (l ++ (b ∷ []))).result
          ↔ Ordered (decode f wanted) (decode f (sum_answer f c 0 (l ++ (b ∷ []))).result)
      down = rank-ordered f acc.format.range kind wanted _ n (result-whole b h)

  -- a number that reaches the total, by its rank
  reaches-at : (b : ℕ) → FiniteIn f b → Reaches f c l wanted b → rank_with f c l (number_at f (rank_of f b)) ≡ rank_of f wanted
  reaches-at b h x =
      let i = (rank-numbers f acc.format.range kind).0 b h in
      let y = (rank-numbers f acc.format.range kind).1 (rank_of f b) i.0 i.1 in
      le_antisymm (with-rises _ b y.0 h (le_of_eq y.1)) (with-rises b _ h y.0 (le_of_eq (sym y.1))) ∙ (reach-rank b h).0 x

  -- ---- THE SEARCH

  count : first_rank f + (suc (last_rank f) - first_rank f) ≡ suc (last_rank f)
  count = omega (arith, first-le-last f acc.format.range kind)

  least_first : First (reaches f c l wanted) (suc (last_rank f) - first_rank f) (first_rank f) (least_rank f c l wanted)
  unfolding least_rank
  least_first = first-is (reaches f c l wanted) (suc (last_rank f) - first_rank f) (first_rank f)

  reached : (r : ℕ) → reaches f c l wanted r ≡ true → rank_with f c l (number_at f r) ≡ rank_of f wanted
  unfolding reaches
  reached r h = eqb-true _ _ h

  missed : (r : ℕ) → reaches f c l wanted r ≡ false → rank_with f c l (number_at f r) ≡ rank_of f wanted → ⊥
  unfolding reaches
  missed r h k = eqb-false _ _ h k

  least-le : (b : ℕ) → FiniteIn f b → Reaches f c l wanted b → least_rank f c l wanted ≤ rank_of f b
  least-le b h x = go (ltb (rank_of f b) (least_rank f c l wanted)) refl
    where
      go : (t : Bool) → ltb (rank_of f b) (least_rank f c l wanted) ≡ t → least_rank f c l wanted ≤ rank_of f b
      go true i =
          let low = ((rank-numbers f acc.format.range kind).0 b h).0 in
          absurd (missed (rank_of f b) (least_first.before (rank_of f b) low (ltb-true (rank_of f b) (least_rank f c l wanted) i)) (reaches-at b h x))
      go false i = ltb-false (rank_of f b) (least_rank f c l wanted) i

  -- past the last rank no number does it, and up to the last the number of the rank found does
  pub unreached : T (ltb (last_rank f) (least_rank f c l wanted)) ↔ Unreached f c l wanted
  unreached = (none, λ u. pick u (ltb (last_rank f) (least_rank f c l wanted)) refl)
    where
      none : T (ltb (last_rank f) (least_rank f c l wanted)) → Unreached f c l wanted
      none t b h x =
          let high = ((rank-numbers f acc.format.range kind).0 b h).1 in
          not-le_of_lt (ltb→lt (last_rank f) (least_rank f c l wanted) t) (le_trans (least-le b h x) high)

      pick : Unreached f c l wanted → (t : Bool) → ltb (last_rank f) (least_rank f c l wanted) ≡ t → T t
      pick u true i = tt
      pick u false i =
          let r = least_rank f c l wanted in
          let inside = ltb-false (last_rank f) r i in
          let x = (rank-numbers f acc.format.range kind).1 r least_first.low inside in
          u (number_at f r) x.0 ((reach-rank (number_at f r) x.0).1 (reached r (least_first.at (omega (arith, inside, count)))))

  record Least (n : ℕ) : Type 0 where
    finite-in : FiniteIn f n
    does : Reaches f c l wanted n
    plus-zero : n ≢ 2 ^ (f.W - 1)
    smallest : (b : ℕ) → FiniteIn f b → Reaches f c l wanted b → Ordered (decode f n) (decode f b)

  least : least_rank f c l wanted ≤ last_rank f → Least (number_at f (least_rank f c l wanted))
  least h =
      let r = least_rank f c l wanted in
      let b = acc.format.range in
      let x = (rank-numbers f b kind).1 r least_first.low h in
      record {
        finite-in = x.0;
        does = (reach-rank (number_at f r) x.0).1 (reached r (least_first.at (omega (arith, h, count))));
        plus-zero = x.2;
        smallest = λ a ha i.
            (rank-ordered f b kind (number_at f r) a (whole-number (decode f (number_at f r)) x.0.1) (whole-number (decode f a) ha.1)).0
            (rw x.1 (least-le a ha i));
      }

  -- r is where halving ends: below it the sum is below the wanted total, and at it, where there is
  -- such a number, it is not
  pub least-halved : (r : ℕ) → first_rank f ≤ r → r ≤ suc (last_rank f)
      → ((i : ℕ) → first_rank f ≤ i → i < r → rank_with f c l (number_at f i) < rank_of f wanted)
      → (r ≤ last_rank f → rank_of f wanted ≤ rank_with f c l (number_at f r))
      → least_rank f c l wanted ≡ cond (leb r (last_rank f) && reaches f c l wanted r) r (suc (last_rank f))
  unfolding reaches
  least-halved r h g under here =
      first-unique at-rank (suc (last_rank f) - first_rank f) (first_rank f) _ _ (unfold reaches in least_first)
      (go (leb r (last_rank f)) (at-rank r) refl refl)
    where
      at-rank : ℕ → Bool
      at-rank i = eqb (rank_with f c l (number_at f i)) (rank_of f wanted)

      below : (i : ℕ) → first_rank f ≤ i → i < r → eqb (rank_with f c l (number_at f i)) (rank_of f wanted) ≡ false
      below i k j = ne_eqb (rank_with f c l (number_at f i)) (rank_of f wanted) (λ z. omega (arith, z, under i k j))

      above : r ≤ last_rank f → (rank_with f c l (number_at f r) ≡ rank_of f wanted → ⊥) → (i : ℕ) → r ≤ i → i ≤ last_rank f
          → eqb (rank_with f c l (number_at f i)) (rank_of f wanted) ≡ false
      above k n i j m = ne_eqb (rank_with f c l (number_at f i)) (rank_of f wanted) off
        where
          off : rank_with f c l (number_at f i) ≡ rank_of f wanted → ⊥
          off z = n (le_antisymm (subst (λ (x : ℕ). rank_with f c l (number_at f r) ≤ x) z (ranks-rise r i h j m)) (here k))

      either_side : (i : ℕ) → (i < r → eqb (rank_with f c l (number_at f i)) (rank_of f wanted) ≡ false)
          → (r ≤ i → eqb (rank_with f c l (number_at f i)) (rank_of f wanted) ≡ false) → eqb (rank_with f c l (number_at f i)) (rank_of f wanted) ≡ false
      either_side i a b = pick (ltb i r) refl
        where
          pick : (x : Bool) → ltb i r ≡ x → eqb (rank_with f c l (number_at f i)) (rank_of f wanted) ≡ false
          pick true p = a (ltb-true i r p)
          pick false p = b (ltb-false i r p)

      go : (a b : Bool) → leb r (last_rank f) ≡ a → eqb (rank_with f c l (number_at f r)) (rank_of f wanted) ≡ b
          → First (λ i. eqb (rank_with f c l (number_at f i)) (rank_of f wanted)) (suc (last_rank f) - first_rank f) (first_rank f)
          (cond (a && b) r (suc (last_rank f)))
      go true true k z = record { low = h; high = omega (arith, count, leb-true r (last_rank f) k); before = below; at = λ m. z }
      go true false k z = record {
        low = le_trans h g;
        high = le_of_eq (sym count);
        before = λ i m n. either_side i (below i m) (λ o. above (leb-true r (last_rank f) k) (eqb-false _ _ z) i o (omega (arith, n)));
        at = λ m. absurd (let y : ⊥ = omega (arith, count, m) in y);
      }
      go false b k z = record {
        low = le_trans h g;
        high = le_of_eq (sym count);
        before = λ i m n. below i m (omega (arith, n, leb-false r (last_rank f) k));
        at = λ m. absurd (let y : ⊥ = omega (arith, count, m) in y);
      }

-- ---- the promises

pub contribution-rises : Contribution-rises
contribution-rises f c l wanted e = (
  longer-accepted f c l wanted e,
  λ a b ha hb h.
      let r = (acc f c l wanted e).format.range in
      let k = kind f c l wanted e in
      (rank-ordered f r k _ _ (result-whole f c l wanted e a ha) (result-whole f c l wanted e b hb)).0
      (unfold rank_with in with-rises f c l wanted e a b ha hb
      ((rank-ordered f r k a b (whole-number (decode f a) ha.1) (whole-number (decode f b) hb.1)).1 h)),
)

-- what is found, by whether it lies past the last rank
abbrev pub found_at : Format → ℕ → Bool → Contribution
found_at f r t = cond t (refused_contribution 14 0) (record { number = number_at f r; refusal = 0; place = 0 })

-- a record without a refusal is that of the search
pub record Searched (f : Format) (c : Settings) (l : List ℕ) (wanted : ℕ) : Type 0 where
  pub accepted : contribution_refusal f c l wanted ≡ 0
  pub inside : least_rank f c l wanted ≤ last_rank f
  pub number : (contribution f c l wanted).number ≡ number_at f (least_rank f c l wanted)

pub searched : (f : Format) (c : Settings) (l : List ℕ) (wanted : ℕ) → (contribution f c l wanted).refusal ≡ 0 → Searched f c l wanted
unfolding contribution found
searched f c l wanted h =
    let x = go (contribution_refusal f c l wanted) _ (least_rank f c l wanted) (ltb (last_rank f) (least_rank f c l wanted)) refl h in
    record { accepted = x.0; inside = x.1; number = x.2 }
  where
    go : (n at r : ℕ) (t : Bool) → ltb (last_rank f) r ≡ t → (contributed n at (found_at f r t)).refusal ≡ 0
        → (n ≡ 0) × (r ≤ last_rank f) × ((contributed n at (found_at f r t)).number ≡ number_at f r)
    go zero at r true e h = absurd (let z : ⊥ = omega (arith, h) in z)
    go zero at r false e h = (refl, ltb-false (last_rank f) r e, refl)
    go (suc n) at r t e h = let k : suc n ≡ 0 = rw (ne_eqb (suc n) 0 (suc-ne-zero n)) at h in absurd (suc-ne-zero n k)

pub contribution-least : Contribution-least
contribution-least f c l wanted h =
    let s = searched f c l wanted h in
    let x = least f c l wanted s.accepted s.inside in
    rw s.number (x.finite-in, x.does, x.plus-zero, x.smallest)
