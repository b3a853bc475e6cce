-- What the tests of refusals 3 and 4 say where they pass, as facts that `omega` reads.
use mathlib.Core.Bool.{Bool, true, ◌&&◌}
use lib.Dec.{T, leb→le, leb}
use mathlib.Core.Option.{Option, none, some}
use lib.IntN.{ℤ, nat_abs}
use Prim.Native.Nat.{◌+◌, ◌≤◌, ℕ, zero, suc}
use native.Mathlib.Omega.{arith}
use native.Mathlib.Nat.{le_refl}
use Rattle.totals_spec.specs.formats.Format.{offered, Format, valid_format, digits}
use Rattle.totals_spec.specs.formats.Bounds.{Offered, FormatBounds, SettingsBounds, RangeBounds}
use Rattle.totals_spec.specs.formats.Settings.{Settings, valid_settings, chosen, precision_of}

pub and_left : (a b : Bool) → T (a && b) → T a
and_left true true t = tt
and_left mathlib.Core.Bool.false b t = elim t [ ]
and_left true mathlib.Core.Bool.false t = elim t [ ]

pub and_right : (a b : Bool) → T (a && b) → T b
and_right true true t = tt
and_right mathlib.Core.Bool.false b t = elim t [ ]
and_right true mathlib.Core.Bool.false t = elim t [ ]

pub offered-le : (n : Option ℤ) → T (offered n) → Offered n
offered-le none t = tt
offered-le (some b) t = leb→le (nat_abs b) 268435456 t

pub format-bounds : (f : Format) → T (valid_format f) → FormatBounds f
unfolding valid_format
format-bounds f t =
    let k = leb f.kind 3 in
    let a = leb 2 f.E in
    let b = leb f.E 28 in
    let c = leb (f.E + 2) f.W in
    let d = leb f.W 64 in
    let e = offered f.named in
    let t4 = and_left (k && a && b && c && d) e t in
    let t3 = and_left (k && a && b && c) d t4 in
    let t2 = and_left (k && a && b) c t3 in
    let t1 = and_left (k && a) b t2 in
    let kind = leb→le f.kind 3 (and_left k a t1) in
    let least = leb→le 2 f.E (and_right k a t1) in
    let most = leb→le f.E 28 (and_right (k && a) b t2) in
    let wide = leb→le (f.E + 2) f.W (and_right (k && a && b) c t3) in
    let narrow = leb→le f.W 64 (and_right (k && a && b && c) d t4) in
    let named = offered-le f.named (and_right (k && a && b && c && d) e t) in
    record {
      kind-le = kind;
      e-ge = least;
      e-le = most;
      w-ge = wide;
      w_le = narrow;
      named-le = named;
      range = record { kind-le = kind; e-ge = least; e-le = most; w-ge = wide; p-le = omega (arith, narrow); named-le = named };
    }

pub digits_le : (f : Format) → T (valid_format f) → digits f ≤ 62
digits_le f t = let b = format-bounds f t in omega (arith, b.e-ge, b.w_le)

pub digits-ge : (f : Format) → T (valid_format f) → 2 ≤ digits f
digits-ge f t = let b = format-bounds f t in omega (arith, b.w-ge)

pub settings-bounds : (f : Format) (c : Settings) → T (valid_settings f c) → SettingsBounds f c
unfolding valid_settings
settings-bounds f c t =
    let r = leb c.rounding 7 in
    let i = leb c.tininess 1 in
    let n = leb c.nan_propagation 3 in
    let d = leb c.default_nan_sign 1 in
    let z = leb c.flush_to_zero 1 in
    let s = leb c.denormals_are_zero 1 in
    let o = leb c.saturate 1 in
    let q = leb c.precision (digits f) in
    let t6 = and_left (r && i && n && d && z && s && o) q t in
    let t5 = and_left (r && i && n && d && z && s) o t6 in
    let t4 = and_left (r && i && n && d && z) s t5 in
    let t3 = and_left (r && i && n && d) z t4 in
    let t2 = and_left (r && i && n) d t3 in
    let t1 = and_left (r && i) n t2 in
    record {
      rounding-le = leb→le c.rounding 7 (and_left r i t1);
      tininess-le = leb→le c.tininess 1 (and_right r i t1);
      propagation-le = leb→le c.nan_propagation 3 (and_right (r && i) n t2);
      sign_le = leb→le c.default_nan_sign 1 (and_right (r && i && n) d t3);
      flush-le = leb→le c.flush_to_zero 1 (and_right (r && i && n && d) z t4);
      denormals-le = leb→le c.denormals_are_zero 1 (and_right (r && i && n && d && z) s t5);
      saturate-le = leb→le c.saturate 1 (and_right (r && i && n && d && z && s) o t6);
      precision-le = leb→le c.precision (digits f) (and_right (r && i && n && d && z && s && o) q t);
    }

-- q is at most p, and at least 1
pub precision-most : (f : Format) (c : Settings) → SettingsBounds f c → precision_of f c ≤ digits f
unfolding precision_of
precision-most f c b = go c.precision b.precision-le
  where
    go : (q : ℕ) → q ≤ digits f → chosen q (digits f) ≤ digits f
    go zero h = le_refl (digits f)
    go (suc q) h = h

pub precision-le : (f : Format) (c : Settings) → T (valid_settings f c) → precision_of f c ≤ digits f
precision-le f c t = precision-most f c (settings-bounds f c t)

pub precision-least : (f : Format) (c : Settings) → RangeBounds f → 1 ≤ precision_of f c
unfolding precision_of
precision-least f c b = go c.precision
  where
    go : (q : ℕ) → 1 ≤ chosen q (digits f)
    go zero = let h : 1 ≤ digits f = omega (arith, b.w-ge) in h
    go (suc q) = omega arith
