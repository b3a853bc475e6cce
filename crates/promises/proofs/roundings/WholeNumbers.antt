-- Doubles that are whole numbers have their sum as their total.
use mathlib.Core.Path.{◌≡◌, refl, sym, ap, ap₂, ◌∙◌, subst}
use mathlib.Core.Bool.{Bool, true, false, ◌&&◌, ◌||◌, cond, true≢false}
use mathlib.Core.List.{List, [], ◌∷◌, map}
use Prim.Native.Nat.{ℕ, zero, suc, ◌+◌, ◌*◌, ◌^◌, ◌≤◌, ◌<◌}
use native.Mathlib.Nat.{one-mul, zero-mul, mul_assoc, add-mul, add-zero, mul-pos, mod-lt, eq_of_mul-eq-mul_right, le_trans, not-le_of_lt, mul-le-mul_right}
use native.Mathlib.Omega.{arith}
use lib.Dec.{T, eqb}
use lib.ListN.{length}
use lib.Pow.{pow-add, pow_pos, pow_mono}
use borrow.Author.Tests.{eqb-true, eqb-false, eq-eqb, le-ltb}
use Rattle.totals_spec.specs.Basics.{Signed, raised, difference, total, plus_of, minus_of, any}
use Rattle.totals_spec.specs.Basics.{flag}
use Rattle.totals_spec.specs.formats.Format.{Kind, ieee, binary64, grid, rise, room, exponent_range}
use Rattle.totals_spec.specs.formats.Settings.{Settings, with_rounding, value, precision_of}
use Rattle.totals_spec.specs.formats.Decode.{Unpacked, zero_of, finite, infinity, nan}
use Rattle.totals_spec.specs.formats.Decode.{decode_fields, decode, is_number, is_finite}
use Rattle.totals_spec.specs.formats.Decode.{is_subnormal, field_of, sign_bit, fraction_of}
use Rattle.totals_spec.specs.formats.Encode.{encode}
use Rattle.totals_spec.specs.terms.Terms.{exact_sum}
use Rattle.totals_spec.specs.rounding.Round.{is_no_inf, Rounded, round}
use Rattle.totals_spec.specs.formats.Ordered.{worth}
use Rattle.figures_spec.specs.ranges.Allowed.{sum_of_amounts}
use Rattle.totals_spec.specs.sums.Promises.{AllFinite}
use Rattle.totals_spec.specs.rounding.Promises.{kept_as}
use Rattle.totals_spec.specs.sums.Totals.{Answer, reported, on_grid, sum_rounded, towards_negative}
use Rattle.totals_spec.specs.sums.Totals.{sum_terms, sum_refusal, sum_answer}
use Rattle.totals_spec.proofs.formats.DecodedBack.{back-zero}
use Rattle.figures_spec.proofs.ranges.SumsOfFigures.{format, plus-values, minus-values}
use Rattle.totals_spec.proofs.formats.NumbersInOrder.{is-ieee}
use Rattle.totals_spec.proofs.sums.FiniteLists.{sum-exact}
use Rattle.totals_spec.proofs.numbers.SignedNumbers.{difference-raised, raised-none}
use Rattle.totals_spec.proofs.sums.ZeroTotals.{sum-zeros}
use Rattle.promises.specs.Rounding.{Finite, Tiny, before_rounding, after_rounding, Flushed, Worth}
use Rattle.promises.specs.Statements.{RoundedOnce}
use Rattle.promises.specs.Whole.{IsWhole, AllWhole, Whole-sum}
use Rattle.promises.proofs.roundings.OfEveryRounding.{held-exactly}
use Rattle.promises.proofs.roundings.SumsRoundedOnce.{sum-rounded-once}

-- the weight of 1 in least numbers
abbrev one : ℕ
one = 2 ^ 1074

-- ---- no whole number is subnormal

small : (s : Bool) (x m : ℕ) → m < 2 ^ 52 → eqb x 0 ≡ true → let v = decode_fields ieee binary64 s x m in
    is_finite v ≡ true → (0 < (worth v).mag) × ((worth v).mag < 2 ^ 52)
unfolding binary64
small s zero zero h e n = absurd (true≢false (sym n))
small s zero (suc m) h e n = (omega arith, omega (arith, h))
small s (suc x) m h e n = absurd (let z : ⊥ = omega (arith, eqb-true (suc x) 0 e) in z)

both : (x y : Bool) → (x && y) ≡ true → (x ≡ true) × (y ≡ true)
both true true e = (refl, refl)
both true false e = absurd (true≢false (sym e))
both false y e = absurd (true≢false (sym e))

large : (n : ℕ) → 0 < n → 2 ^ 52 ≤ n * one
large n h = le_trans (pow_mono {i = 52} {j = 1074} (omega arith)) (subst (λ (x : ℕ). x ≤ n * one) (one-mul one) (mul-le-mul_right one h))

normal : (b : ℕ) (z : Signed) → IsWhole b z → is_subnormal binary64 b ≡ false
unfolding is_subnormal raised
normal b z w = go (is_finite (decode binary64 b) && eqb (field_of binary64 b) 0) refl
  where
    found : is_finite (decode binary64 b) ≡ true → eqb (field_of binary64 b) 0 ≡ true → (0 < (worth (decode binary64 b)).mag) × ((worth (decode binary64 b)).mag < 2 ^ 52)
    found e i = unfold decode binary64 in small (sign_bit binary64 b) (field_of binary64 b) (fraction_of binary64 b) (mod-lt b (pow_pos 52)) i e

    never : (0 < (worth (decode binary64 b)).mag) × ((worth (decode binary64 b)).mag < 2 ^ 52) → ⊥
    never h = by z.mag (ap (λ (x : Signed). x.mag) w.1)
      where
        by : (n : ℕ) → (worth (decode binary64 b)).mag ≡ n * one → ⊥
        by zero e = omega (arith, h.0, e)
        by (suc n) e = not-le_of_lt h.1 (subst (λ (x : ℕ). 2 ^ 52 ≤ x) (sym e) (large (suc n) (omega arith)))

    go : (t : Bool) → (is_finite (decode binary64 b) && eqb (field_of binary64 b) 0) ≡ t → t ≡ false
    go true e = let h = both _ _ e in absurd (never (found h.0 h.1))
    go false e = refl

all-normal : (l : List ℕ) (zs : List Signed) → AllWhole l zs → any (is_subnormal binary64) l ≡ false
all-normal [] [] w = refl
all-normal [] (z ∷ zs) w = absurd w
all-normal (b ∷ l) [] w = absurd w
all-normal (b ∷ l) (z ∷ zs) w = ap₂ ◌||◌ (normal b z w.0) (all-normal l zs w.1)

all-finite : (l : List ℕ) (zs : List Signed) → AllWhole l zs → AllFinite binary64 l
all-finite [] [] w = tt
all-finite [] (z ∷ zs) w = absurd w
all-finite (b ∷ l) [] w = absurd w
all-finite (b ∷ l) (z ∷ zs) w = (w.0.0, all-finite l zs w.1)

-- ---- the exact sum

abbrev values : List ℕ → List Signed
values l = map (λ b. worth (decode binary64 b)) l

plus-one : (z : Signed) → plus_of (raised 1074 z) ≡ plus_of z * one
unfolding raised
plus-one z = go z.neg z.mag
  where
    go : (s : Bool) (n : ℕ) → cond s 0 (n * one) ≡ cond s 0 n * one
    go true n = sym (zero-mul one)
    go false n = refl

minus-one : (z : Signed) → minus_of (raised 1074 z) ≡ minus_of z * one
unfolding raised
minus-one z = go z.neg z.mag
  where
    go : (s : Bool) (n : ℕ) → cond s (n * one) 0 ≡ cond s n 0 * one
    go true n = refl
    go false n = sym (zero-mul one)

totals : (part : Signed → ℕ) → ((z : Signed) → part (raised 1074 z) ≡ part z * one) → (l : List ℕ) (zs : List Signed) → AllWhole l zs
    → total part (values l) ≡ total part zs * one
totals part p [] [] w = sym (zero-mul one)
totals part p [] (z ∷ zs) w = absurd w
totals part p (b ∷ l) [] w = absurd w
totals part p (b ∷ l) (z ∷ zs) w = ap₂ ◌+◌ (ap part w.0.1 ∙ p z) (totals part p l zs w.1) ∙ sym (add-mul (part z) (total part zs) one)

module _ (m : ℕ) (l : List ℕ) (zs : List Signed) (r : sum_refusal binary64 (with_rounding m) 0 l ≡ 0) (w : AllWhole l zs) where
  abbrev c : Settings
  c = with_rounding m

  abbrev D : Signed
  D = sum_of_amounts zs

  abbrev a : Answer
  a = sum_answer binary64 c 0 l

  abbrev X : Signed
  X = raised room (raised 1074 D)

  exact : on_grid binary64 false (exact_sum (sum_terms binary64 c value l)) ≡ X
  unfolding rise
  exact =
      raised-none (exact_sum (sum_terms binary64 c value l))
      ∙ ap₂ difference (plus-values binary64 c (unfold with_rounding in refl) l ∙ ap (λ (n : ℕ). n * 2 ^ room) (totals plus_of plus-one l zs w))
      (minus-values binary64 c (unfold with_rounding in refl) l ∙ ap (λ (n : ℕ). n * 2 ^ room) (totals minus_of minus-one l zs w))
      ∙ difference-raised room _ _
      ∙ ap (raised room) (difference-raised 1074 (total plus_of zs) (total minus_of zs))

  sub : any (is_subnormal binary64) l ≡ false
  sub = all-normal l zs w

  -- ---- a sum of zero

  abbrev Right : Unpacked → Type 0
  Right v = T (is_number v) × (worth v ≡ raised 1074 D)

  right-zero : D.mag ≡ 0 → (t : Bool) → Right (zero_of t)
  unfolding difference raised
  right-zero e t = (tt, λ i. record { neg = sym level i; mag = sym none i })
    where
      level : D.neg ≡ false
      level = le-ltb (total plus_of zs) (total minus_of zs) (omega (arith, e))

      none : D.mag * one ≡ 0
      none = ap (λ (n : ℕ). n * one) e ∙ zero-mul one

  back : (v : Answer) → ((t : Bool) → Right (zero_of t)) → (s : Bool) → v.result ≡ encode binary64 (zero_of s) → v.flags ≡ flag 128 (any (is_subnormal binary64) l) + 0
      → Right (decode binary64 v.result) × (v.flags ≡ 0)
  back v h s e n = (
    subst (λ (n : ℕ). Right (decode binary64 n)) (sym e) (back-zero binary64 format Right h s),
    n ∙ ap (λ (t : Bool). flag 128 t + 0) sub,
  )

  no-units : D.mag ≡ 0 → X.mag ≡ 0
  unfolding raised
  no-units e = ap (λ (n : ℕ). n * one * 2 ^ room) e ∙ ap (λ (n : ℕ). n * 2 ^ room) (zero-mul one) ∙ zero-mul (2 ^ room)

  none-rounded : D.mag ≡ 0 → (g : ℕ) (t : Bool) → sum_rounded binary64 c g t (on_grid binary64 false (exact_sum (sum_terms binary64 c value l))) ≡ record { value = zero_of t; flags = 0 }
  unfolding sum_rounded
  none-rounded e g t =
      ap (sum_rounded binary64 c g t) exact
      ∙ ap (λ (z : Bool). cond z (record { value = zero_of t; flags = 0 }) (round binary64 c g X.neg X.mag)) (eq-eqb X.mag 0 (no-units e))

  zero-case : D.mag ≡ 0 → Right (decode binary64 a.result) × (a.flags ≡ 0)
  unfolding reported
  zero-case e = go (eqb (length (sum_terms binary64 c value l)) 0) refl
    where
      go : (t : Bool) → eqb (length (sum_terms binary64 c value l)) 0 ≡ t → Right (decode binary64 a.result) × (a.flags ≡ 0)
      go true t =
          let h = sum-zeros binary64 c 0 l r (all-finite l zs w) (eqb-true _ 0 t) in
          back a (right-zero e) _ (ap (λ (x : Answer). x.result) h) (ap (λ (x : Answer). x.flags) h ∙ sym (add-zero (flag 128 (any (is_subnormal binary64) l))))
      go false t =
          let h = sum-exact binary64 c 0 l r (all-finite l zs w) (let n : 0 < length (sum_terms binary64 c value l) = omega (arith, eqb-false _ 0 t) in n) in
          let z = none-rounded e (grid binary64 false) (towards_negative c) in
          back a (right-zero e) (towards_negative c) (ap (λ (x : Answer). x.result) h ∙ ap (λ (x : Rounded). encode binary64 x.value) z)
          (ap (λ (x : Answer). x.flags) h ∙ ap (λ (x : Rounded). flag 128 (any (is_subnormal binary64) l) + x.flags) z)

  -- ---- any other

  module _ (some : 0 < D.mag) (few : D.mag < 2 ^ 53) where
    X-is : X.mag ≡ D.mag * 2 ^ (1074 + room)
    unfolding raised
    X-is = mul_assoc D.mag one (2 ^ room) ∙ ap (λ (n : ℕ). D.mag * n) (sym (pow-add 2 1074 room))

    X-some : 0 < X.mag
    X-some = rw X-is (mul-pos some (pow_pos (1074 + room)))

    once : RoundedOnce binary64 c (grid binary64 false) (any (is_subnormal binary64) l) X a
    once = subst (λ (x : Signed). 0 < x.mag → RoundedOnce binary64 c (grid binary64 false) (any (is_subnormal binary64) l) x a) exact
        (sum-rounded-once binary64 c 0 l r (all-finite l zs w)) X-some

    held : Finite binary64 (precision_of binary64 c) (grid binary64 false) X.mag
    unfolding binary64 with_rounding precision_of exponent_range grid
    held = record {
      significand = D.mag;
      exponent = 1074;
      short = few;
      range = omega arith;
      is = X-is;
      other = λ e. absurd (true≢false (sym (ap is_no_inf e)));
    }

    open-top : ¬ Flushed binary64 c (grid binary64 false) X.neg X.mag
    unfolding with_rounding
    open-top h = true≢false (sym h.1)

    not-tiny : Tiny binary64 c (grid binary64 false) X.neg X.mag → ⊥
    unfolding with_rounding binary64 grid
    not-tiny (before_rounding e h) = not-le_of_lt h (rw X-is (le_trans (pow_mono {i = room + 52} {j = 1074 + room} (omega arith)) (subst (λ (n : ℕ). n ≤ D.mag * 2 ^ (1074 + room)) (one-mul (2 ^ (1074 + room))) (mul-le-mul_right (2 ^ (1074 + room)) some))))
    not-tiny (after_rounding e y h k) = true≢false (sym e)

    worth-right : (v : Unpacked) → Worth binary64 (grid binary64 false) v X.neg X.mag → Right v
    unfolding raised grid
    worth-right (zero_of t) h = absurd (let z : ⊥ = omega (arith, h.1, X-some) in z)
    worth-right (finite t k n) h = (tt, λ i. record { neg = h.0 i; mag = same i })
      where
        same : n * 2 ^ k ≡ D.mag * one
        same =
            eq_of_mul-eq-mul_right (2 ^ room) (pow_pos room) (n * 2 ^ k) (D.mag * one)
            (mul_assoc n (2 ^ k) (2 ^ room) ∙ ap (λ (x : ℕ). n * x) (sym (pow-add 2 k room)) ∙ h.1)
    worth-right (infinity t) h = absurd h
    worth-right (nan t g n) h = absurd h

    other-case : Right (decode binary64 a.result) × (a.flags ≡ 0)
    other-case =
        let h = held-exactly binary64 c (grid binary64 false) X.neg X.mag once.value once.set_flags held open-top once.once in (
          subst Right (sym (once.back ∙ ap (λ (k : Kind). kept_as k once.value) is-ieee)) (worth-right once.value h.0),
          once.flags ∙ ap₂ (λ (t : Bool) (n : ℕ). flag 128 t + n) sub (h.1.2 ∙ ap (flag 32) (never h.1.0 h.1.1.0)),
        )
      where
        never : (t : Bool) → (t ≡ true → Tiny binary64 c (grid binary64 false) X.neg X.mag) → t ≡ false
        never true h = absurd (not-tiny (h refl))
        never false h = refl

pub whole-sum : Whole-sum
whole-sum m l zs r w few = go (sum_of_amounts zs).mag refl
  where
    go : (n : ℕ) → (sum_of_amounts zs).mag ≡ n → Right m l zs r w (decode binary64 (sum_answer binary64 (with_rounding m) 0 l).result)
        × ((sum_answer binary64 (with_rounding m) 0 l).flags ≡ 0)
    go zero e = zero-case m l zs r w e
    go (suc n) e = other-case m l zs r w (let p : 0 < (sum_of_amounts zs).mag = omega (arith, e) in p) few

-- ---- an example: 100 and -10 make 90

pence : AllWhole (0x4059000000000000 ∷ 0xc024000000000000 ∷ []) (record { neg = false; mag = 100 } ∷ record { neg = true; mag = 10 } ∷ [])
unfolding raised decode binary64
pence = ((tt, refl), ((tt, refl), tt))

pence-total : (m : ℕ) → sum_refusal binary64 (with_rounding m) 0 (0x4059000000000000 ∷ 0xc024000000000000 ∷ []) ≡ 0
    → let a = sum_answer binary64 (with_rounding m) 0 (0x4059000000000000 ∷ 0xc024000000000000 ∷ []) in
    IsWhole a.result (record { neg = false; mag = 90 }) × (a.flags ≡ 0)
unfolding difference
pence-total m r =
    whole-sum m (0x4059000000000000 ∷ 0xc024000000000000 ∷ []) (record { neg = false; mag = 100 } ∷ record { neg = true; mag = 10 } ∷ []) r pence small-sum
  where
    small-sum : 90 < 2 ^ 53
    small-sum = omega arith
