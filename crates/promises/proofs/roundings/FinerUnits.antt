-- A sum rounded once does not depend on the unit in which it is counted.
use mathlib.Core.Path.{◌≡◌, sym, ap, ◌∙◌, subst}
use mathlib.Core.Bool.{Bool, false, cond}
use Prim.Native.Nat.{ℕ, ◌+◌, ◌*◌, ◌^◌, ◌<◌}
use native.Mathlib.Nat.{mul-pos}
use native.Mathlib.Omega.{arith}
use lib.Pow.{pow_pos}
use borrow.Author.Tests.{ne_eqb}
use Rattle.totals_spec.specs.Basics.{raised}
use Rattle.totals_spec.specs.formats.Bounds.{RangeBounds, SettingsBounds}
use Rattle.totals_spec.specs.formats.Format.{Format}
use Rattle.totals_spec.specs.formats.Settings.{Settings}
use Rattle.totals_spec.specs.formats.Decode.{Unpacked, zero_of}
use Rattle.totals_spec.specs.rounding.Round.{Rounded, round}
use Rattle.totals_spec.specs.sums.Totals.{sum_rounded}
use Rattle.totals_spec.proofs.formats.Valid.{precision-most}
use Rattle.totals_spec.proofs.rounding.FinerUnits.{sum-finer}
use Rattle.promises.specs.Rounding.{Once}
use Rattle.promises.specs.Statements.{Once-finer}
use Rattle.promises.proofs.roundings.OneAnswer.{once-pins}
use Rattle.promises.proofs.roundings.RoundedByProperties.{round-once}

module _ (f : Format) (c : Settings) (g j : ℕ) (s : Bool) (x : ℕ) (b : RangeBounds f) (w : SettingsBounds f c) (some : 0 < x) where
  abbrev fine : Rounded
  fine = round f c (g + j) s (x * 2 ^ j)

  abbrev coarse : Rounded
  coarse = round f c g s x

  one-rounding : fine ≡ coarse
  unfolding sum_rounded raised
  one-rounding =
      sym (ap (λ (t : Bool). cond t (record { value = zero_of false; flags = 0 }) fine) (ne_eqb (x * 2 ^ j) 0 (λ z. omega (arith, z, mul-pos some (pow_pos j)))))
      ∙ sum-finer f c b (precision-most f c w) g j false (record { neg = s; mag = x })
      ∙ ap (λ (t : Bool). cond t (record { value = zero_of false; flags = 0 }) coarse) (ne_eqb x 0 (λ z. omega (arith, z, some)))

  down : (v : Unpacked) (n : ℕ) → Once f c (g + j) s (x * 2 ^ j) v n → Once f c g s x v n
  down v n o =
      let e = once-pins f c (g + j) s (x * 2 ^ j) fine.value v fine.flags n (round-once f c (g + j) s (x * 2 ^ j) b w) o in
      subst (λ (z : Unpacked). Once f c g s x z n) (ap (λ (r : Rounded). r.value) (sym one-rounding) ∙ e.0)
      (subst (λ (k : ℕ). Once f c g s x coarse.value k) (ap (λ (r : Rounded). r.flags) (sym one-rounding) ∙ e.1) (round-once f c g s x b w))

  up : (v : Unpacked) (n : ℕ) → Once f c g s x v n → Once f c (g + j) s (x * 2 ^ j) v n
  up v n o =
      let e = once-pins f c g s x coarse.value v coarse.flags n (round-once f c g s x b w) o in
      subst (λ (z : Unpacked). Once f c (g + j) s (x * 2 ^ j) z n) (ap (λ (r : Rounded). r.value) one-rounding ∙ e.0)
      (subst (λ (k : ℕ). Once f c (g + j) s (x * 2 ^ j) fine.value k) (ap (λ (r : Rounded). r.flags) one-rounding ∙ e.1)
      (round-once f c (g + j) s (x * 2 ^ j) b w))

pub once-finer : Once-finer
once-finer f c g j s x v n b w some = (down f c g j s x b w some v n, up f c g j s x b w some v n)
