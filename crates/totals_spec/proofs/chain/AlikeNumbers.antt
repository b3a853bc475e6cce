-- A chain's outcome as a number to round. `nearly` stands for a number strictly between S and S + 1
-- units of 2^w (Rust's sticky bit), taken here half way; a side of the boundary stands for a number
-- an eighth of the boundary's unit away from it on that side. Two signed numbers are `Alike` if
-- they are equal, or lie strictly between the same two neighbours j × 2^t and (j + 1) × 2^t with j
-- of more than p bits; then they round alike in every format of at most p digits, under every
-- setting.
use mathlib.Core.Path.{◌≡◌, sym, ap, ◌∙◌}
use Prim.Native.Nat.{ℕ, ◌+◌, ◌-◌, ◌*◌, ◌^◌, ◌≤◌, ◌<◌}
use mathlib.Core.Logic.{◌⊎◌, inl, inr}
use native.Mathlib.Nat.{mul-pos, mul-lt-mul_of_pos_right, mul_assoc, add-mul}
use lib.Pow.{pow-add, pow_pos}
use mathlib.Core.Bool.{Bool, false, true, cond}
use native.Mathlib.Omega.{arith}
use borrow.Author.Tests.{ne_eqb, le-ltb, lt-ltb}
use Rattle.totals_spec.specs.Basics.{Signed, raised, difference}
use Rattle.totals_spec.specs.formats.Format.{Format}
use Rattle.totals_spec.specs.formats.Settings.{Settings, precision_of}
use Rattle.totals_spec.specs.sums.Totals.{sum_rounded}
use Rattle.totals_spec.proofs.rounding.BetweenNeighbours.{round_same}

-- ---- alike

pub record Between (p : ℕ) (x y : Signed) : Type 0 where
  pub sign : x.neg ≡ y.neg
  pub j : ℕ
  pub t : ℕ
  pub a : ℕ
  pub b : ℕ
  pub big : 2 ^ p ≤ j
  pub a-pos : 0 < a
  pub a_lt : a < 2 ^ t
  pub b-pos : 0 < b
  pub b_lt : b < 2 ^ t
  pub x-is : x.mag ≡ j * 2 ^ t + a
  pub y-is : y.mag ≡ j * 2 ^ t + b

abbrev pub Alike : ℕ → Signed → Signed → Type 0
Alike p x y = (x ≡ y) ⊎ Between p x y

-- counted in a unit n positions lower
pub alike-raised : (p n : ℕ) (x y : Signed) → Alike p x y → Alike p (raised n x) (raised n y)
unfolding raised
alike-raised p n x y (inl e) = inl (ap (λ (z : Signed). record { neg = z.neg; mag = z.mag * 2 ^ n }) e)
alike-raised p n x y (inr h) = inr (record {
  sign = h.sign;
  j = h.j;
  t = h.t + n;
  a = h.a * 2 ^ n;
  b = h.b * 2 ^ n;
  big = h.big;
  a-pos = mul-pos h.a-pos (pow_pos n);
  a_lt = under h.a h.a_lt;
  b-pos = mul-pos h.b-pos (pow_pos n);
  b_lt = under h.b h.b_lt;
  x-is = ap (λ (z : ℕ). z * 2 ^ n) h.x-is ∙ over h.a;
  y-is = ap (λ (z : ℕ). z * 2 ^ n) h.y-is ∙ over h.b;
})
  where
    under : (e : ℕ) → e < 2 ^ h.t → e * 2 ^ n < 2 ^ (h.t + n)
    under e k = rw (pow-add 2 h.t n) (mul-lt-mul_of_pos_right k (pow_pos n))

    over : (e : ℕ) → (h.j * 2 ^ h.t + e) * 2 ^ n ≡ h.j * 2 ^ (h.t + n) + e * 2 ^ n
    over e =
        add-mul (h.j * 2 ^ h.t) e (2 ^ n)
        ∙ ap (λ (z : ℕ). z + e * 2 ^ n) (mul_assoc h.j (2 ^ h.t) (2 ^ n) ∙ ap (λ (z : ℕ). h.j * z) (sym (pow-add 2 h.t n)))

pub alike-rounds : (f : Format) (c : Settings) (g : ℕ) (towards : Bool) (p : ℕ) (x y : Signed) → precision_of f c ≤ p → Alike p x y
    → sum_rounded f c g towards x ≡ sum_rounded f c g towards y
alike-rounds f c g towards p x y q (inl e) = ap (sum_rounded f c g towards) e
alike-rounds f c g towards p x y q (inr h) = unfold sum_rounded in
    rw (ne_eqb x.mag 0 x-some, ne_eqb y.mag 0 y-some, h.sign, h.x-is, h.y-is)
    (round_same h.j h.t h.a h.b h.a-pos h.a_lt h.b-pos h.b_lt f c g y.neg p h.big q)
  where
    x-some : x.mag ≡ 0 → ⊥
    x-some e = omega (arith, h.x-is, h.a-pos)

    y-some : y.mag ≡ 0 → ⊥
    y-some e = omega (arith, h.y-is, h.b-pos)

-- ---- the sign and magnitude of a difference

pub diff-plus : (hi lo k : ℕ) → hi ≡ lo + k → difference hi lo ≡ record { neg = false; mag = k }
unfolding difference
diff-plus hi lo k e = λ i. record { neg = le-ltb hi lo (omega arith) i; mag = m i }
  where
    m : hi - lo + (lo - hi) ≡ k
    m = omega arith

pub diff-minus : (hi lo k : ℕ) → hi ≡ lo + k → 0 < k → difference lo hi ≡ record { neg = true; mag = k }
unfolding difference
diff-minus hi lo k e h = λ i. record { neg = lt-ltb lo hi (omega arith) i; mag = m i }
  where
    m : lo - hi + (hi - lo) ≡ k
    m = omega arith

-- of a sign s the magnitude k, where the larger side stands for s
abbrev pub oriented : Bool → ℕ → ℕ → Signed
oriented s hi lo = cond s (difference lo hi) (difference hi lo)

pub oriented-is : (s : Bool) (hi lo k : ℕ) → hi ≡ lo + k → 0 < k → oriented s hi lo ≡ record { neg = s; mag = k }
oriented-is true hi lo k e h = diff-minus hi lo k e h
oriented-is false hi lo k e h = diff-plus hi lo k e
