-- What the numbers of a shape and of a layout keep to, and the bias by cases.
use Rattle.std.proofs.Common.{◌≡◌, refl, sym, subst, ℕ, ◌+◌, ◌-◌, ◌^◌, ◌<◌, ◌≤◌, Bool, true, false, arith, Some, None, Option}
use mathlib.Core.Bool.{◌&&◌}
use lib.Dec.{T, leb, leb→le}
use lib.IntN.{ℤ, nat_abs, pos}
use lib.Signed.{lt_z, mag}
use lib.Pow.{pow_mono}
use mir.Syntax.{w64}
use mir.Val.{to_z, of_z}
use borrow.Author.Tests.{le-leb}
use Rattle.totals_spec.specs.formats.Bounds.{Offered, RangeBounds, FormatBounds}
use Rattle.totals_spec.specs.formats.Format as spec
use Rattle.totals_spec.specs.formats.Format.{valid_format, offered, bias_of, range_of, kind_of, bias, lift}
use Rattle.totals_spec.proofs.formats.Valid.{and_left, and_right, offered-le, format-bounds}
use Rattle.format.specs.declared.kind.Kind.{Kind}
use Rattle.format.specs.declared.kind.Kind.TheVariants.{Ieee, NoInf, Fnuz, Finite}
use Rattle.format.specs.declared.shape.Shape.{Shape}
use Rattle.format.specs.Kinds.{number_of, bias_in, test_range}
use Rattle.format.specs.Shapes.{shape_of}
use Rattle.format.proofs.Biases.{lift-named, no-lift, bias-named, no-bias}

pub range_bounds : (l : Shape) → RangeBounds (shape_of l)
range_bounds l =
    let e = l.exponent_bits in
    let w = l.width in
    let a = leb 2 e in
    let b = leb e 28 in
    let c = leb (e + 2) w in
    let d = leb w (e + 64) in
    let n = offered (bias_in l.bias) in
    let t4 = subst T (sym l.in_range) tt in
    let t3 = and_left (a && b && c && d) n t4 in
    let t2 = and_left (a && b && c) d t3 in
    let t1 = and_left (a && b) c t2 in
    record {
      kind-le = kind_le l.kind;
      e-ge = leb→le 2 e (and_left a b t1);
      e-le = leb→le e 28 (and_right a b t1);
      w-ge = leb→le (e + 2) w (and_right (a && b) c t2);
      p-le = leb→le w (e + 64) (and_right (a && b && c) d t3);
      named-le = offered-le (bias_in l.bias) (and_right (a && b && c && d) n t4);
    }
  where
    kind_le : (k : Kind) → number_of k ≤ 3
    kind_le Ieee = omega arith
    kind_le NoInf = omega arith
    kind_le Fnuz = omega arith
    kind_le Finite = omega arith

pub exponent_ge : (l : Shape) → 2 ≤ l.exponent_bits
exponent_ge l = (range_bounds l).e-ge

pub exponent_le : (l : Shape) → l.exponent_bits ≤ 28
exponent_le l = (range_bounds l).e-le

pub width_ge : (l : Shape) → l.exponent_bits + 2 ≤ l.width
width_ge l = (range_bounds l).w-ge

pub width_le : (l : Shape) → l.width ≤ l.exponent_bits + 64
width_le l = (range_bounds l).p-le

-- ---- an offered format

-- what holds is true
held : (b : Bool) → T b → b ≡ true
held true t = refl
held false t = elim t [ ]

module _ (format : spec.Format) (h : valid_format format ≡ true) where
  valid : FormatBounds format
  valid = format-bounds format (subst T (sym h) tt)

  named_offered : offered format.named ≡ true
  unfolding valid_format
  named_offered = held _ (and_right (leb format.kind 3 && leb 2 format.E && leb format.E 28 && leb (format.E + 2) format.W && leb format.W 64) (offered format.named) (subst T (sym h) tt))

  pub valid_range : test_range format.E format.W format.named ≡ true
  valid_range = rw (le-leb _ _ valid.e-ge, le-leb _ _ valid.e-le, le-leb _ _ valid.w-ge, le-leb _ _ valid.range.p-le, named_offered) refl

  pub valid_narrow : format.W ≤ 64
  valid_narrow = valid.w_le

-- ---- by the kind

pub half_le : (r : ℕ) (l : Shape) → r ≡ 2 ^ (l.exponent_bits - 1) → r ≤ 134217728
half_le r l h =
    let b = exponent_le l in
    let m : 2 ^ (l.exponent_bits - 1) ≤ 2 ^ 27 = pow_mono {i = l.exponent_bits - 1} {j = 27} (omega arith) in
    omega arith

pub whole_le : (r : ℕ) (l : Shape) → r ≡ 2 ^ l.exponent_bits → (4 ≤ r) × (r ≤ 268435456)
whole_le r l h =
    let m : 2 ^ l.exponent_bits ≤ 2 ^ 28 = pow_mono (exponent_le l) in
    let n : 2 ^ 2 ≤ 2 ^ l.exponent_bits = pow_mono (exponent_ge l) in
    (omega arith, omega arith)

pub bias_of_others : (k : Kind) (e : ℕ) → (k ≡ Fnuz → ⊥) → bias_of (kind_of (number_of k)) e ≡ 2 ^ (e - 1) - 1
bias_of_others Ieee e h = refl
bias_of_others NoInf e h = refl
bias_of_others Fnuz e h = absurd (h refl)
bias_of_others Finite e h = refl

pub range_of_others : (k : Kind) (e : ℕ) → (k ≡ Ieee → ⊥) → range_of (kind_of (number_of k)) e ≡ 2 ^ e - 2
range_of_others Ieee e h = absurd (h refl)
range_of_others NoInf e h = refl
range_of_others Fnuz e h = refl
range_of_others Finite e h = refl

-- ---- by the bias

module _ (l : Shape) where
  pub no_lift_unnamed : l.bias ≡ None → 0 ≡ lift (shape_of l)
  unfolding lift
  no_lift_unnamed h = rw h refl

  pub own_unnamed : (r : ℕ) → r ≡ bias_of (kind_of (number_of l.kind)) l.exponent_bits → l.bias ≡ None → r ≡ bias (shape_of l)
  unfolding bias
  own_unnamed r is h = rw h is

  module _ (b : ℤ) (small : mag b < 2 ^ 63) (h : l.bias ≡ Some b) where
    near : Offered (bias_in (Some b))
    near = subst (λ (x : Option ℤ). Offered (bias_in x)) h (range_bounds l).named-le

    pub lift_above_none : lt_z (to_z w64 (of_z w64 b)) (pos 0) ≡ false → 0 ≡ lift (shape_of l)
    unfolding lift
    lift_above_none t = rw h (no-lift b small t)

    pub bias_below_none : lt_z (to_z w64 (of_z w64 b)) (pos 0) ≡ true → 0 ≡ bias (shape_of l)
    unfolding bias
    bias_below_none t = rw h (no-bias b small _ t)

    module _ (r : ℕ) (is : r ≡ nat_abs (to_z w64 (of_z w64 b))) where
      pub lift_below : lt_z (to_z w64 (of_z w64 b)) (pos 0) ≡ true → (r ≡ lift (shape_of l)) × (r ≤ 268435456)
      unfolding lift
      lift_below t = rw h (lift-named b small r is t near)

      pub bias_above : lt_z (to_z w64 (of_z w64 b)) (pos 0) ≡ false → (r ≡ bias (shape_of l)) × (r ≤ 268435456)
      unfolding bias
      bias_above t = rw h (bias-named b small r is _ t near)
