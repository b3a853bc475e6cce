-- PROMISE 2: what a rounding gives, encoded and decoded again, is itself as its format keeps it.
use mathlib.Core.Path.{◌≡◌, refl, sym, ap, ◌∙◌}
use mathlib.Core.Bool.{Bool, true, false}
use Prim.Native.Nat.{ℕ, ◌-◌, ◌+◌, ◌^◌, ◌<◌}
use native.Mathlib.Nat.{add-zero, le_refl, mod_self}
use native.Mathlib.Omega.{arith}
use lib.Dec.{T, eqb}
use lib.Pow.{pow_pos}
use borrow.Author.Tests.{eq-eqb, ne_eqb, le-ltb}
use Rattle.totals_spec.specs.formats.Format.{Kind, ieee, no_inf, fnuz, finite_only, Format, kind_of}
use Rattle.totals_spec.specs.formats.Format.{fraction_bits}
use Rattle.totals_spec.specs.formats.Decode.{finite, Unpacked, zero_of, infinity, nan, decode}
use Rattle.totals_spec.specs.rounding.Promises.{kept_as, Rounded-back}
use Rattle.totals_spec.specs.formats.Bounds.{RangeBounds}
use Rattle.totals_spec.specs.formats.Encode.{nan_bits, encode}
use Rattle.totals_spec.specs.formats.KindValues.{has_nan}
use Rattle.totals_spec.proofs.formats.DecodedBack.{fields_back, quiet-fits, zero-back, back-finite}
use Rattle.totals_spec.proofs.formats.DecodedBack.{back-infinity}
use Rattle.totals_spec.proofs.rounding.RoundedNumbers.{Held, round-held}
use Rattle.totals_spec.proofs.formats.Valid.{format-bounds, settings-bounds, precision-most}
use Rattle.totals_spec.proofs.formats.Valid.{precision-least}

-- every kind keeps a number
number-kept : (k : Kind) (s : Bool) (e m : ℕ) → kept_as k (finite s e m) ≡ finite s e m
number-kept ieee s e m = refl
number-kept no_inf s e m = refl
number-kept fnuz s e m = refl
number-kept finite_only s e m = refl

module _ (f : Format) (b : RangeBounds f) where
  -- the NaN of no payload
  nan-back : (s : Bool) → T (has_nan (kind_of f.kind)) → decode f (encode f (nan s false 0)) ≡ kept_as (kind_of f.kind) (nan s false 0)
  unfolding encode
  nan-back s h = go (kind_of f.kind) refl h
    where
      q : ℕ
      q = 2 ^ (fraction_bits f - 1)

      some : q ≡ 0 → ⊥
      some z = omega (arith, z, pow_pos (fraction_bits f - 1))

      top : 2 ^ f.E - 1 < 2 ^ f.E
      top = omega (arith, pow_pos f.E)

      is-top : eqb (2 ^ f.E - 1) (2 ^ f.E - 1) ≡ true
      is-top = eq-eqb (2 ^ f.E - 1) (2 ^ f.E - 1) refl

      go : (k : Kind) → kind_of f.kind ≡ k → T (has_nan k) → decode f (nan_bits k f s false 0) ≡ kept_as k (nan s false 0)
      go ieee e t =
          fields_back f b s (2 ^ f.E - 1) (q + 0) top (quiet-fits f b false 0 (pow_pos (fraction_bits f - 1)))
          ∙ rw (e, is-top, add-zero q, ne_eqb q 0 some, le-ltb q q (le_refl q), mod_self q)
      go no_inf e t =
          fields_back f b s (2 ^ f.E - 1) (2 ^ fraction_bits f - 1) top (omega (arith, pow_pos (fraction_bits f)))
          ∙ rw (e, is-top, eq-eqb (2 ^ fraction_bits f - 1) (2 ^ fraction_bits f - 1) refl)
      go fnuz e t = fields_back f b true 0 0 (pow_pos f.E) (pow_pos (fraction_bits f)) ∙ rw e
      go finite_only e t = absurd t

  pub held_back : (v : Unpacked) → Held f v → decode f (encode f v) ≡ kept_as (kind_of f.kind) v
  held_back (zero_of s) h = zero-back f b s
  held_back (finite s k m) h = back-finite f b s k m h ∙ sym (number-kept (kind_of f.kind) s k m)
  held_back (infinity s) h = back-infinity f b s h ∙ sym (ap (λ (k : Kind). kept_as k (infinity s)) h)
  held_back (nan s g m) h = rw (h.1, h.2) (nan-back s h.0)

pub rounded-back : Rounded-back
rounded-back f c g s m v w =
    let b = (format-bounds f v).range in
    held_back f b _ (round-held f b c (precision-least f c b) (precision-most f c (settings-bounds f c w)) g s m)
