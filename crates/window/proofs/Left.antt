-- The value that a chain's end leaves to round, outcome by outcome; and that `round` of the crate
-- exact takes it.
use mathlib.Core.Path.{◌≡◌, refl, sym, ap, ◌∙◌, subst}
use mathlib.Core.Bool.{Bool, true, false, true≢false}
use Prim.Native.Nat.{ℕ, ◌+◌, ◌-◌, ◌*◌, ◌%◌, ◌^◌, ◌≤◌, ◌<◌, suc-le-suc}
use native.Mathlib.Nat.{le_trans, lt_of_lt_of_le, lt_of_not-le, mul-pos}
use native.Mathlib.Decide.{dec_le}
use native.Mathlib.Omega.{arith}
use lib.Pow.{pow_pos, pow_mono}
use lib.Ieee.{size}
use lib.Ieee.Digits.{size_reaches}
use borrow.Author.Tests.{ne_eqb}
use Rattle.limbs.specs.Value.{value}
use Rattle.totals_spec.specs.Basics.{Signed, raised}
use Rattle.totals_spec.specs.formats.Format.{Format, digits}
use Rattle.totals_spec.specs.formats.Settings.{Settings}
use Rattle.totals_spec.specs.formats.Bounds.{RangeBounds, SettingsBounds}
use Rattle.totals_spec.specs.chain.Settled.{settled}
use Rattle.totals_spec.specs.rounding.Round.{round}
use Rattle.totals_spec.specs.sums.Totals.{sum_rounded}
use Rattle.totals_spec.proofs.numbers.Powers.{size_above}
use Rattle.exact.specs.declared.Unrounded.{Unrounded}
use Rattle.exact.specs.declared.Rounded.{Rounded}
use Rattle.exact.specs.Unrounded.{significand_of, StandsAt, Stands, Narrows, raised_by, Rounds, rounded_of, RoundedOnce}
use Rattle.exact.proofs.Raised.{stands-raised}
use Rattle.window.specs.Chain.{outcome_by, Deep, Bordered, EndsWith, Roundable, Quarters, LeavesAt, Leaves, Remains, LeftOf}
use Rattle.window.specs.declared.Units.{Units}
use Rattle.window.specs.declared.Outcome.{Outcome}
use Rattle.window.specs.declared.Outcome.TheVariants as out
use Rattle.window.proofs.Numbers.{fourfold, one_less, above-is, below-is, midway}

-- the window's number, narrowed
module _ (s : Units) (v : Unrounded) where
  -- a sticky bit that comes from what is dropped stands below 128 digits
  clean-long : Narrows s.negative false s.place s.whole v → (p : ℕ) → p ≤ 64 → v.sticky ≡ true → 2 ^ p ≤ significand_of v
  clean-long n p l t = go (dec_le (size (value s.whole)) 128)
    where
      go : Dec (size (value s.whole) ≤ 128) → 2 ^ p ≤ significand_of v
      go (yes h) = absurd (true≢false (sym t ∙ n.few h))
      go (no h) = size_reaches (significand_of v) p (omega (arith, n.long t, lt_of_not-le h))

  as_is : (o : Outcome) → settled (outcome_by o) ≡ record { neg = s.negative; mag = value s.whole * 2 ^ s.place } → 0 < value s.whole
      → Narrows s.negative false s.place s.whole v → LeavesAt o s.place v
  as_is o e h n = record {
    stands = rw e (n.stands _ refl);
    negative = rw e n.sign;
    some = n.some h;
    high = omega (arith, n.low);
    low = n.high;
    long = λ p l _ t. clean-long n p l t;
  }

  pub exact-left : 0 < value s.whole → Narrows s.negative false s.place s.whole v → LeavesAt (out.Exact s) s.place v
  unfolding settled
  exact-left h n = as_is (out.Exact s) refl h n

  pub on-left : 0 < value s.whole → Narrows s.negative false s.place s.whole v → LeavesAt (out.On s) s.place v
  unfolding settled
  on-left h n = as_is (out.On s) refl h n

  pub inexact-left : 0 < value s.whole → 0 < s.place → Narrows s.negative true s.place s.whole v → LeavesAt (out.Inexact s) s.place v
  unfolding settled
  inexact-left h d n = record {
    stands = n.stands _ (midway (value s.whole) s.place d);
    negative = n.sign;
    some = n.some h;
    high = omega (arith, n.low);
    low = n.high;
    long = λ p l k t. size_reaches (significand_of v) p (omega (arith, n.long t, l, size_above (value s.whole) (p + 69) k.0));
  }

-- a quarter of a unit off the boundary: x is four times its whole number, or one less
module _ (b : Units) (v : Unrounded) (x : ℕ) (deep : 3 ≤ b.place) (some : 0 < value b.whole)
    (few : value b.whole ≤ 2 ^ 65) (a : Quarters b.negative b.place x v) where
  quarters : Stands v (x * 2 ^ (b.place - 2) + 2 ^ (b.place - 2 - 1))
  quarters = rw (a.sticky, a.position, a.is) (midway x (b.place - 2) (omega arith))

  beside : (o : Outcome) (y : ℕ) → settled (outcome_by o) ≡ record { neg = b.negative; mag = y } → x * 2 ^ (b.place - 2) + 2 ^ (b.place - 2 - 1) ≡ y
      → ((p : ℕ) → EndsWith p o → 2 ^ p ≤ value b.whole) → 4 * value b.whole ≤ x + 1 → LeavesAt o b.place v
  beside o y e f m k = record {
    stands = rw e (subst (Stands v) f quarters);
    negative = rw e a.sign;
    some = rw a.is (omega (arith, k, some));
    high = omega (arith, a.position);
    low = omega (arith, a.position);
    long = λ p l h t. rw a.is (more (value b.whole) (2 ^ p) (pow_pos p) (m p h) k);
  }
    where
      more : (m q : ℕ) → 0 < q → q ≤ m → 4 * m ≤ x + 1 → q ≤ x
      more m q g h k = omega arith

  pub above-left : x ≡ value b.whole * 2 ^ 2 % 2 ^ 768 → LeavesAt (out.Above b) b.place v
  unfolding settled
  above-left e =
      let f : x ≡ 4 * value b.whole = fourfold (value b.whole) some few x e in
      beside (out.Above b) _ refl (above-is (value b.whole) b.place deep x f) (λ p h. h.0.many) (omega (arith, f))

  pub below_left : (y z : ℕ) → y ≡ value b.whole * 2 ^ 2 % 2 ^ 768 → z ≡ 2 ^ 0 % 2 ^ 768 → x ≡ (y + (2 ^ 768 - z % 2 ^ 768)) % 2 ^ 768
      → LeavesAt (out.Below b) b.place v
  unfolding settled
  below_left y z ey ez e =
      let f : x + 1 ≡ 4 * value b.whole = one_less (value b.whole) some few y z x ey ez e in
      beside (out.Below b) _ refl (below-is (value b.whole) b.place deep x f) (λ p h. h.0.many) (omega (arith, f))

-- ---- from the end of a chain to its rounding

-- what `left` requires
pub ends-roundable : (p : ℕ) (o : Outcome) → p ≤ 64 → EndsWith p o → Roundable o
ends-roundable p o l = go o
  where
    bounded : (m e : ℕ) → Bordered p m × Deep e → (0 < m) × (m ≤ 2 ^ 65) × Deep e
    bounded m e h = (lt_of_lt_of_le (pow_pos p) h.0.many, le_trans h.0.few (pow_mono (suc-le-suc l)), h.1)

    go : (o : Outcome) → EndsWith p o → Roundable o
    go out.Zero h = h
    go (out.Exact s) h = h
    go (out.Inexact s) h = (lt_of_lt_of_le (pow_pos (p + 69)) h.0, h.1)
    go (out.Below b) h = bounded (value b.whole) b.place h
    go (out.On b) h = bounded (value b.whole) b.place h
    go (out.Above b) h = bounded (value b.whole) b.place h

-- what is left of the sum
pub left-of : (p : ℕ) (o : Outcome) (v : Unrounded) → p ≤ 64 → EndsWith p o → Leaves o v → LeftOf p (settled (outcome_by o)) v
unfolding settled
left-of p o v few = go o
  where
    some : (o : Outcome) (e : ℕ) → Deep e → EndsWith p o → LeavesAt o e v → LeftOf p (settled (outcome_by o)) v
    some o e d h l = record {
      none = λ z. absurd (omega (arith, l.some, z));
      some = λ _. record {
        stands = l.stands;
        negative = l.negative;
        high = omega (arith, d.high, l.high);
        low = omega (arith, d.small, l.low);
        long = l.long p few h;
      };
    }

    go : (o : Outcome) → EndsWith p o → Leaves o v → LeftOf p (settled (outcome_by o)) v
    go out.Zero h l = record { none = λ _. refl; some = λ g. absurd (omega (arith, l, g)) }
    go (out.Exact s) h l = some (out.Exact s) s.place h.1 h l
    go (out.Inexact s) h l = some (out.Inexact s) s.place h.1 h l
    go (out.Below b) h l = some (out.Below b) b.place h.1 h l
    go (out.On b) h l = some (out.On b) b.place h.1 h l
    go (out.Above b) h l = some (out.Above b) b.place h.1 h l

-- ---- from what is left to its rounding

-- a value that is left is not 0
stands-some : (b : Bool) (m unit x : ℕ) → 0 < m → 0 < unit → StandsAt b m unit x → 0 < x
stands-some true m unit x h k s = omega (arith, s.0)
stands-some false m unit x h k s = subst (λ (n : ℕ). 0 < n) (sym s) (mul-pos h k)

module _ (p : ℕ) (x : Signed) (v : Unrounded) (some : 0 < significand_of v) (l : Remains p x v) where
  pub left-mag : 0 < x.mag
  left-mag = stands-some v.sticky (significand_of v) (2 ^ v.position) _ some (pow_pos v.position) l.stands

  module _ (f : Format) (c : Settings) (g n : ℕ) where
    -- counted from a unit n positions lower, and rounded, it is the sum, counted from there and
    -- rounded
    pub left-sum : (towards : Bool) (r : Rounded) → RoundedOnce f c g (raised_by n v) r → rounded_of r ≡ sum_rounded f c g towards (raised n x)
    unfolding sum_rounded raised
    left-sum towards r o =
        o.equal (x.mag * 2 ^ n) (stands-raised v n _ l.stands) ∙ ap (λ (s : Bool). round f c g s (x.mag * 2 ^ n)) l.negative
        ∙ sym (rw (ne_eqb (x.mag * 2 ^ n) 0 not_none))
      where
        not_none : x.mag * 2 ^ n ≡ 0 → ⊥
        not_none z = let k : 0 < x.mag * 2 ^ n = mul-pos left-mag (pow_pos n) in omega arith

    -- what `round` requires of its value, into a format of at most the digits that are decided
    pub left-rounds : RangeBounds f → SettingsBounds f c → digits f ≤ p → g < 2 ^ 62 → n + 640 ≤ 2 ^ 30 → Rounds f c g (raised_by n v)
    left-rounds b t d k few = record {
      format = b;
      settings = t;
      some = some;
      high = omega (arith, l.high);
      low = omega (arith, few, l.low);
      grid = k;
      long = λ s. le_trans (pow_mono d) (l.long s);
    }
