-- Kind 4: a rounding that holds its sum, and one that is near to it.
use mathlib.Core.Path.{◌≡◌, sym, ap, ◌∙◌, subst}
use mathlib.Core.Bool.{Bool, true, false}
use Prim.Native.Nat.{ℕ, ◌+◌, ◌≤◌}
use Rattle.totals_spec.specs.Basics.{Signed, flag}
use Rattle.totals_spec.specs.formats.Bounds.{SettingsBounds}
use Rattle.totals_spec.specs.formats.Format.{rise, lift}
use Rattle.totals_spec.specs.formats.Settings.{Settings, precision_of, summand_of}
use Rattle.totals_spec.specs.formats.Decode.{Unpacked}
use Rattle.totals_spec.specs.sums.Totals.{Answer, on_grid, is_square, pairs}
use Rattle.totals_spec.specs.ten_bytes.Extended.{extended, extended_operand, extended_item}
use Rattle.totals_spec.specs.ten_bytes.Extended.{extended_pair}
use Rattle.totals_spec.proofs.ten_bytes.Totals.{extended-sum-accepts, extended-dot-accepts}
use Rattle.totals_spec.proofs.ten_bytes.WrittenOut.{extended-bounds}
use Rattle.totals_spec.proofs.numbers.SignedNumbers.{raised-none}
use Rattle.promises.specs.Rounding.{Finite, Largest, Worth, Flushed}
use Rattle.promises.specs.Statements.{ExtendedOnce}
use Rattle.promises.specs.Kind4.{extended_amount, extended_product, Extended-sum-means}
use Rattle.promises.specs.Kind4.{ExtendedHeld, Extended-sum-held, Extended-dot-held}
use Rattle.promises.specs.Kind4.{ExtendedNear, Extended-sum-near, Extended-dot-near}
use Rattle.promises.proofs.roundings.SumsOfAmounts.{adds, adds-pair, means}
use Rattle.promises.proofs.roundings.OfEveryRounding.{held-exactly, once-near}
use Rattle.promises.proofs.roundings.SumsRoundedOnce.{extended-rounded-once}

-- ---- what the exact sum is

-- with its own bias the format's products have no lower unit
on-unit : (products : Bool) (x : Signed) → on_grid extended products x ≡ x
unfolding rise lift extended
on-unit true x = raised-none x
on-unit false x = raised-none x

pub extended-sum-means : Extended-sum-means
unfolding extended_item extended_pair
extended-sum-means = (
  λ c u l.
      on-unit (is_square (summand_of u)) _
      ∙ means (extended_item c (summand_of u)) (extended_amount c (summand_of u)) (λ b e. adds (summand_of u) b (extended_operand c e)) l,
  λ c xs ys.
      on-unit true _
      ∙ means (extended_pair c) (extended_product c) (λ b e. adds-pair b (extended_operand c e.0) (extended_operand c e.1)) (pairs xs ys),
)

-- ---- a sum that is held, and one that is near

module _ (c : Settings) (g : ℕ) (sub : Bool) (x : Signed) (a : Answer) (o : ExtendedOnce c g sub x a)
    (nf : ¬ Flushed extended c g x.neg x.mag) where
  held-of : Finite extended (precision_of extended c) g x.mag → ExtendedHeld c g sub x a
  held-of held =
      let e = held-exactly extended c g x.neg x.mag o.value o.set_flags held nf o.once in
      record {
        worth = subst (λ (v : Unpacked). Worth extended g v x.neg x.mag) (sym o.back) e.0;
        tiny = e.1.0;
        is-tiny = e.1.1;
        flags = o.flags ∙ ap (λ (n : ℕ). flag 128 sub + n) e.1.2;
      }

  near-of : SettingsBounds extended c → (most : ℕ) → Largest extended (precision_of extended c) g most
      → x.mag ≤ most → ExtendedNear c g x a
  near-of w most l h =
      let e = once-near extended c g x.neg x.mag most o.value o.set_flags extended-bounds w l h nf o.once in
      record {
        value = o.value;
        y = e.0;
        result = o.result;
        back = o.back;
        worth = e.1;
        within = e.2;
        half = e.3;
      }

pub extended-sum-held : Extended-sum-held
extended-sum-held f c u l r h some held nf =
    held-of c _ _ _ _ (extended-rounded-once.0 f c u l r h some) nf held

pub extended-dot-held : Extended-dot-held
extended-dot-held f c xs ys r h k some held nf =
    held-of c _ _ _ _ (extended-rounded-once.1 f c xs ys r h k some) nf held

pub extended-sum-near : Extended-sum-near
extended-sum-near f c u l most r h some l' le nf =
    near-of c _ _ _ _ (extended-rounded-once.0 f c u l r h some) nf
    (extended-sum-accepts f c u l r).0.settings most l' le

pub extended-dot-near : Extended-dot-near
extended-dot-near f c xs ys most r h k some l' le nf =
    near-of c _ _ _ _ (extended-rounded-once.1 f c xs ys r h k some) nf
    (extended-dot-accepts f c xs ys r).0.settings most l' le
