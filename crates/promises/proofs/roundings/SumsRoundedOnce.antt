-- PROMISE 2: the total of finite values is the exact sum, rounded once by the properties of IEEE
-- 754-2019.
use mathlib.Core.Path.{◌≡◌, refl, sym, ap, ◌∙◌, subst}
use mathlib.Core.Logic.{◌⊎◌, inl, inr}
use mathlib.Core.Bool.{Bool, true, false, true≢false}
use mathlib.Core.List.{List, [], ◌∷◌}
use Prim.Native.Nat.{ℕ, ◌+◌, ◌^◌, ◌≤◌, ◌<◌}
use native.Mathlib.Nat.{zero-lt-suc, zero-mul, add-zero}
use native.Mathlib.Omega.{arith}
use lib.ListN.{length}
use borrow.Author.Tests.{ne_eqb, eq-eqb}
use Rattle.totals_spec.specs.Basics.{Signed, raised, difference, any, flag}
use Rattle.totals_spec.specs.formats.Bounds.{RangeBounds, SettingsBounds}
use Rattle.totals_spec.specs.formats.Format.{Format, Kind, ieee, no_inf, fnuz, finite_only, rise}
use Rattle.totals_spec.specs.formats.Format.{kind_of}
use Rattle.totals_spec.specs.formats.Settings.{Settings, rounding_of, precision_of, summand_of}
use Rattle.totals_spec.specs.formats.Decode.{Unpacked, zero_of, finite, infinity, nan, decode}
use Rattle.totals_spec.specs.formats.Decode.{is_subnormal}
use Rattle.totals_spec.specs.formats.Encode.{encode}
use Rattle.totals_spec.specs.terms.Terms.{Term, exact_sum, plus_sum, minus_sum}
use Rattle.totals_spec.specs.rounding.Round.{Rounded, round}
use Rattle.totals_spec.specs.sums.Totals.{Answer, sum_rounded, reported, on_grid, towards_negative}
use Rattle.totals_spec.specs.sums.Totals.{is_square, sum_terms, sum_answer, dot_terms, dot_answer}
use Rattle.totals_spec.specs.rounding.Promises.{kept_as}
use Rattle.totals_spec.proofs.refusals.AcceptedCalls.{sum-accepts, dot-accepts}
use Rattle.totals_spec.proofs.sums.FiniteLists.{sum-exact, dot-exact}
use Rattle.totals_spec.proofs.rounding.RoundedNumbers.{round-held}
use Rattle.totals_spec.proofs.rounding.RoundedBack.{held_back}
use Rattle.totals_spec.proofs.formats.Valid.{precision-most, precision-least}
use Rattle.totals_spec.specs.ten_bytes.Extended.{extended, spread, decode_extended, extended_terms}
use Rattle.totals_spec.specs.ten_bytes.Extended.{extended_sum_answer, extended_dot_terms}
use Rattle.totals_spec.specs.ten_bytes.Extended.{extended_dot_answer}
use Rattle.totals_spec.proofs.ten_bytes.WrittenOut.{extended-bounds}
use Rattle.totals_spec.proofs.ten_bytes.Totals.{extended-sum-accepts, extended-dot-accepts}
use Rattle.totals_spec.proofs.ten_bytes.Totals.{extended-exact, extended-back}
use Rattle.promises.specs.Rounding.{grid_of, Finite, Largest, Worth, Flushed, Overflow, to_infinity, to_nan, to_largest, Once, flushed, overflowed, number}
use Rattle.promises.specs.Numbers.{RoundsTo}
use Rattle.promises.specs.Statements.{RoundedOnce, Near, Sum-rounded-once, Dot-rounded-once, Sum-held, Dot-held, Sum-near, Dot-near, Sum-cancels, Rounded-one, Zero-only, ExtendedOnce, Extended-rounded-once}
use Rattle.promises.proofs.roundings.OneAnswer.{once-pins, largest-one}
use Rattle.promises.proofs.roundings.RoundedByProperties.{round-once}
use Rattle.promises.proofs.roundings.OfEveryRounding.{held-exactly, once-near}
use Rattle.promises.proofs.roundings.LargestNumbers.{top_number, top-largest, top-pos}

-- a sum of no terms is zero
pub some-terms : (ts : List Term) (f : Format) (products : Bool) → 0 < (on_grid f products (exact_sum ts)).mag → 0 < length ts
unfolding raised difference plus_sum minus_sum
some-terms [] f products h = let z : ⊥ = omega (arith, h, zero-mul (2 ^ rise f products)) in absurd z
some-terms (t ∷ ts) f products h = zero-lt-suc (length ts)

module _ (f : Format) (c : Settings) (b : RangeBounds f) (v : SettingsBounds f c) (g : ℕ) (sub towards : Bool) (x : Signed) (some : 0 < x.mag) where
  rounded : sum_rounded f c g towards x ≡ round f c g x.neg x.mag
  unfolding sum_rounded
  rounded = rw (ne_eqb x.mag 0 (λ z. omega (arith, z, some)))

  pub once-of : (a : Answer) → a.result ≡ encode f (sum_rounded f c g towards x).value → a.flags ≡ flag 128 sub + (sum_rounded f c g towards x).flags
      → RoundedOnce f c g sub x a
  once-of a r n = record {
    value = (round f c g x.neg x.mag).value;
    set_flags = (round f c g x.neg x.mag).flags;
    once = round-once f c g x.neg x.mag b v;
    result = r ∙ ap (λ (y : Rounded). encode f y.value) rounded;
    back =
        ap (decode f) (r ∙ ap (λ (y : Rounded). encode f y.value) rounded)
        ∙ held_back f b _ (round-held f b c (precision-least f c b) (precision-most f c v) g x.neg x.mag);
    flags = n ∙ ap (λ (y : Rounded). flag 128 sub + y.flags) rounded;
  }

pub sum-rounded-once : Sum-rounded-once
unfolding reported
sum-rounded-once f c u l r h some =
    let a = sum-accepts f c u l r in
    let e = sum-exact f c u l r h (some-terms (sum_terms f c (summand_of u) l) f (is_square (summand_of u)) some) in
    once-of f c a.format.range a.settings _ _ (towards_negative c) _ some (sum_answer f c u l) (ap (λ (z : Answer). z.result) e) (ap (λ (z : Answer). z.flags) e)

pub dot-rounded-once : Dot-rounded-once
unfolding reported
dot-rounded-once f c xs ys r h k some =
    let a = dot-accepts f c xs ys r in
    let e = dot-exact f c xs ys r h k (some-terms (dot_terms f c xs ys) f true some) in
    once-of f c a.format.range a.settings _ _ (towards_negative c) _ some (dot_answer f c xs ys) (ap (λ (z : Answer). z.result) e) (ap (λ (z : Answer). z.flags) e)

pub rounded-one : Rounded-one
rounded-one f c g sub x a b p q =
    let e = once-pins f c g x.neg x.mag p.value q.value p.set_flags q.set_flags p.once q.once in
    (p.result ∙ ap (encode f) e.0 ∙ sym q.result, p.flags ∙ ap (λ (n : ℕ). flag 128 sub + n) e.1 ∙ sym q.flags)

-- ---- zeros

abbrev is-zero : Unpacked → Bool
is-zero (zero_of s) = true
is-zero (finite s k m) = false
is-zero (infinity s) = false
is-zero (nan s g m) = false

pub zero-only : Zero-only
zero-only f c g s x t n b v w = go w refl
  where
    go : {y : Unpacked} {k : ℕ} → Once f c g s x y k → y ≡ zero_of t
        → Flushed f c g s x ⊎ RoundsTo (rounding_of c.rounding) (precision_of f c) (grid_of f (precision_of f c) g) s x 0
    go (flushed h) e = inl h
    go (overflowed y m z k nf r l o p) e = absurd (never p e)
      where
        worth : (z : Unpacked) → z ≡ zero_of t → Worth f g z s m → m ≡ 0
        worth z e w = (subst (λ (z : Unpacked). Worth f g z s m) e w).1

        none : m ≡ 0 → ⊥
        none i =
            let q0 = precision-least f c b in
            let qp = precision-most f c v in
            let j : m ≡ top_number f b (precision_of f c) q0 qp g = largest-one f (precision_of f c) g _ _ l (top-largest f b (precision_of f c) q0 qp g) in
            omega (arith, i, j, top-pos f b (precision_of f c) q0 qp g)

        never : {y : Unpacked} {k : ℕ} → Overflow f c g s m y k → y ≡ zero_of t → ⊥
        never (to_infinity i j) e = true≢false (sym (ap is-zero e))
        never (to_nan i j) e = true≢false (sym (ap is-zero e))
        never (to_largest z a w) e = none (worth z e w)
    go (number y m z i j k nf r l o p a q d) e =
        inr (subst (RoundsTo (rounding_of c.rounding) (precision_of f c) (grid_of f (precision_of f c) g) s x) (subst (λ (z : Unpacked). Worth f g z s y) e p).1 r)

-- ---- kind 4

module _ (c : Settings) (v : SettingsBounds extended c) (g : ℕ) (sub towards : Bool) (x : Signed) (some : 0 < x.mag) where
  extended-of : (a : Answer) → a.result ≡ spread (encode extended (sum_rounded extended c g towards x).value)
      → a.flags ≡ flag 128 sub + (sum_rounded extended c g towards x).flags → ExtendedOnce c g sub x a
  extended-of a r n = record {
    value = (round extended c g x.neg x.mag).value;
    set_flags = (round extended c g x.neg x.mag).flags;
    once = round-once extended c g x.neg x.mag extended-bounds v;
    result = r ∙ ap (λ (y : Rounded). spread (encode extended y.value)) same;
    back =
        ap decode_extended (r ∙ ap (λ (y : Rounded). spread (encode extended y.value)) same) ∙ extended-back.0 _
        ∙ held_back extended extended-bounds _
        (round-held extended extended-bounds c (precision-least extended c extended-bounds) (precision-most extended c v) g x.neg x.mag)
        ∙ unfold extended in refl;
    flags = n ∙ ap (λ (y : Rounded). flag 128 sub + y.flags) same;
  }
    where
      same : sum_rounded extended c g towards x ≡ round extended c g x.neg x.mag
      same = rounded extended c extended-bounds v g sub towards x some

pub extended-rounded-once : Extended-rounded-once
unfolding reported
extended-rounded-once = (
  λ f c u l r h some.
      let a = (extended-sum-accepts f c u l r).0 in
      let e = extended-exact.0 f c u l r h (some-terms (extended_terms c (summand_of u) l) extended (is_square (summand_of u)) some) in
      extended-of c a.settings _ _ (towards_negative c) _ some (extended_sum_answer f c u l) (ap (λ (z : Answer). z.result) e) (ap (λ (z : Answer). z.flags) e),
  λ f c xs ys r h k some.
      let a = (extended-dot-accepts f c xs ys r).0 in
      let e = extended-exact.1 f c xs ys r h k (some-terms (extended_dot_terms c xs ys) extended true some) in
      extended-of c a.settings _ _ (towards_negative c) _ some (extended_dot_answer f c xs ys) (ap (λ (z : Answer). z.result) e) (ap (λ (z : Answer). z.flags) e),
)

-- ---- a sum that the format holds

number-kept : (f : Format) (g : ℕ) (s : Bool) (y : ℕ) → 0 < y → (v : Unpacked) → Worth f g v s y → kept_as (kind_of f.kind) v ≡ v
number-kept f g s y some (zero_of t) w = absurd (let z : ⊥ = omega (arith, some, w.1) in z)
number-kept f g s y some (finite t k m) w = go (kind_of f.kind)
  where
    go : (a : Kind) → kept_as a (finite t k m) ≡ finite t k m
    go ieee = refl
    go no_inf = refl
    go fnuz = refl
    go finite_only = refl
number-kept f g s y some (infinity t) w = absurd w
number-kept f g s y some (nan t h m) w = absurd w

module _ (f : Format) (c : Settings) (g : ℕ) (sub : Bool) (x : Signed) (a : Answer) (o : RoundedOnce f c g sub x a) (some : 0 < x.mag)
    (nf : ¬ Flushed f c g x.neg x.mag) where
  held-of : Finite f (precision_of f c) g x.mag → Worth f g (decode f a.result) x.neg x.mag × ((t : Bool) × (a.flags ≡ flag 128 sub + flag 32 t))
  held-of held =
      let e = held-exactly f c g x.neg x.mag o.value o.set_flags held nf o.once in (
        subst (λ (v : Unpacked). Worth f g v x.neg x.mag) (sym (o.back ∙ number-kept f g x.neg x.mag some o.value e.0)) e.0,
        (e.1.0, o.flags ∙ ap (λ (n : ℕ). flag 128 sub + n) e.1.2),
      )

  near-of : RangeBounds f → SettingsBounds f c → (most : ℕ) → Largest f (precision_of f c) g most → x.mag ≤ most → Near f c g x a
  near-of b w most l h =
      let e = once-near f c g x.neg x.mag most o.value o.set_flags b w l h nf o.once in
      record { value = o.value; y = e.0; result = o.result; worth = e.1; within = e.2; half = e.3 }

pub sum-held : Sum-held
sum-held f c u l r h some held nf = held-of f c _ _ _ _ (sum-rounded-once f c u l r h some) some nf held

pub dot-held : Dot-held
dot-held f c xs ys r h k some held nf = held-of f c _ _ _ _ (dot-rounded-once f c xs ys r h k some) some nf held

pub sum-near : Sum-near
sum-near f c u l most r h some l' le nf =
    let a = sum-accepts f c u l r in
    near-of f c _ _ _ _ (sum-rounded-once f c u l r h some) some nf a.format.range a.settings most l' le

pub dot-near : Dot-near
dot-near f c xs ys most r h k some l' le nf =
    let a = dot-accepts f c xs ys r in
    near-of f c _ _ _ _ (dot-rounded-once f c xs ys r h k some) some nf a.format.range a.settings most l' le

-- ---- a sum that cancels

pub sum-cancels : Sum-cancels
unfolding reported sum_rounded
sum-cancels f c u l r h some none =
    let e = sum-exact f c u l r h some in
    let square = is_square (summand_of u) in
    let x = on_grid f square (exact_sum (sum_terms f c (summand_of u) l)) in
    let z = eq-eqb x.mag 0 none in
    (ap (λ (a : Answer). a.result) e ∙ rw z, ap (λ (a : Answer). a.flags) e ∙ rw z (add-zero (flag 128 (any (is_subnormal f) l))))
