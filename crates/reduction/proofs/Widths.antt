-- Formats by their width: an offered one is no wider than a word.
use mathlib.Core.Path.{◌≡◌, refl, sym, subst}
use mathlib.Core.Bool.{Bool, true, false}
use borrow.Author.Tests.{le-ltb}
use Rattle.totals_spec.specs.formats.Format.{Format}
use Rattle.totals_spec.specs.ten_bytes.Extended.{extended}
use Rattle.totals_spec.specs.formats.Bounds.{FormatBounds, RangeBounds}
use Rattle.totals_spec.proofs.ten_bytes.WrittenOut.{extended-bounds}
use Rattle.reduction.specs.Answered.{wide, Known}

module _ (f : Format) where
  pub narrow : FormatBounds f → wide f ≡ false
  narrow b = le-ltb 64 f.W b.w_le

  pub narrow-known : FormatBounds f → Known (wide f) f
  narrow-known b = rw (narrow b) b

  pub known-range : (w : Bool) → Known w f → RangeBounds f
  known-range true e = subst RangeBounds (sym e) extended-bounds
  known-range false b = b.range

pub wide-extended : wide extended ≡ true
unfolding extended
wide-extended = refl

pub extended-known : Known (wide extended) extended
extended-known = rw wide-extended refl
