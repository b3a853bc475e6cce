-- Laws of the record: its side, its last edge, and a sum rounded once.
use mathlib.Core.Path.{◌≡◌, sym, ap, ◌∙◌}
use mathlib.Core.Bool.{false}
use Prim.Native.Nat.{ℕ}
use Rattle.totals_spec.specs.Basics.{Signed, raised}
use Rattle.totals_spec.specs.formats.Bounds.{RangeBounds, SettingsBounds}
use Rattle.totals_spec.specs.formats.Format.{Format, kind_of}
use Rattle.totals_spec.specs.formats.Settings.{Settings}
use Rattle.totals_spec.specs.formats.Decode.{decode}
use Rattle.totals_spec.specs.formats.Encode.{encode}
use Rattle.totals_spec.specs.formats.KindValues.{Alone}
use Rattle.totals_spec.specs.rounding.Round as round
use Rattle.totals_spec.specs.rounding.Side.{side_of, rounded_side}
use Rattle.totals_spec.specs.sums.Totals.{sum_rounded, towards_negative}
use Rattle.totals_spec.proofs.formats.KindValues.{zero-told, infinity-told, nan-told}
use Rattle.totals_spec.proofs.rounding.SideByFlags.{sum-leans}
use Rattle.totals_spec.proofs.formats.Valid.{precision-least, precision-most}
use Rattle.format.specs.declared.unpacked.Unpacked.{Unpacked}
use Rattle.format.specs.declared.unpacked.Unpacked.TheVariants.{Zero, Finite, Infinity, Nan}
use Rattle.format.specs.Unpacked.{unpacked_of}
use Rattle.format.specs.Fits.{Encodes}
use Rattle.exact.specs.declared.Rounded.{Rounded}
use Rattle.reduction.specs.Answered.{RoundedSum}

-- ---- without a pass the value tells the side

pub told : (f : Format) → RangeBounds f → (v : Unpacked) → Encodes f (unpacked_of v) → Alone (kind_of f.kind) (unpacked_of v)
    → side_of 0 (decode f (encode f (unpacked_of v))) (record { neg = false; mag = 0 }) ≡ rounded_side (unpacked_of v) 0
told f b (Zero s) e a = zero-told f b s
told f b (Finite s k m) e a = absurd a
told f b (Infinity s) e a = infinity-told f b s a
told f b (Nan s g m) e a = nan-told f b s g m a e

-- ---- a rounding tells it by its flags

pub leans : (f : Format) (c : Settings) (g : ℕ) (x : Signed) (r : Rounded) → RangeBounds f → SettingsBounds f c → RoundedSum f c g x r
    → rounded_side (unpacked_of r.value) r.flags ≡ side_of g (decode f (encode f (sum_rounded f c g (towards_negative c) x).value)) x
leans f c g x r b k h =
    ap (λ (s : round.Rounded). rounded_side s.value s.flags) h.equal
    ∙ sym (sum-leans f c g (towards_negative c) x b (precision-least f c b) (precision-most f c k))

-- a rounding by what the functions of the formats say of its grid and unit
pub moved : {f : Format} {c : Settings} (x : Signed) {r : Rounded} {g h m n : ℕ} → g ≡ h → m ≡ n → RoundedSum f c g (raised m x) r
    → RoundedSum f c h (raised n x) r
moved x e k o = rw (e, k) at o
