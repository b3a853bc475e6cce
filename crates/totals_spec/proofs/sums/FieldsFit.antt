-- PROMISE 1: the fields of a record fit their places.
use mathlib.Core.Path.{◌≡◌}
use mathlib.Core.Bool.{Bool, true, false, not, cond}
use Prim.Native.Nat.{ℕ, suc, ◌+◌, ◌-◌, ◌*◌, ◌^◌, ◌≤◌, ◌<◌, ◌/◌}
use native.Mathlib.Omega.{arith}
use lib.Dec.{T, ltb, ltb→lt, nltb→le, eqb, eqb→eq}
use lib.Pow.{pow_pos, pow_mono}
use mathlib.Core.List.{List}
use native.Mathlib.Nat.{div-le_self}
use Rattle.totals_spec.specs.Basics.{flag}
use Rattle.totals_spec.specs.formats.Bounds.{RangeBounds, SettingsBounds}
use Rattle.totals_spec.specs.formats.Format.{Format, Kind, ieee, no_inf, fnuz, finite_only, kind_of}
use Rattle.totals_spec.specs.formats.Format.{digits, fraction_bits, grid}
use Rattle.totals_spec.specs.formats.Decode.{Unpacked, zero_of, finite, infinity, nan}
use Rattle.totals_spec.specs.formats.Encode.{assembled, zero_bits, nan_bits, encode}
use Rattle.totals_spec.specs.formats.Encodes.{Encodes}
use Rattle.totals_spec.specs.terms.Terms.{Term, top_of, Item, terms, exact_sum}
use Rattle.totals_spec.specs.chain.Limit.{bottom_of, ceil_div, most_passes}
use Rattle.totals_spec.specs.formats.Settings.{Settings, precision_of, summand_of}
use Rattle.totals_spec.specs.rounding.Round.{Rounded}
use Rattle.totals_spec.specs.sums.Totals.{on_grid, special, reported, sum_rounded, towards_negative}
use Rattle.totals_spec.specs.sums.Totals.{accepted, Answer, refused, answered, stray, first_index}
use Rattle.totals_spec.specs.sums.Totals.{sum_refusal, sum_accepted, sum_answer, pairs, dot_refusal}
use Rattle.totals_spec.specs.sums.Totals.{dot_accepted, dot_place, dot_answer}
use Rattle.totals_spec.specs.sums.Promises.{FieldsFit, Sum-fits, Dot-fits}
use Rattle.totals_spec.proofs.formats.DecodedBack.{fields_fit, quiet-fits}
use Rattle.totals_spec.proofs.numbers.Powers.{pow-next}
use Rattle.totals_spec.proofs.terms.HighestAndLowest.{top_product, sum_top, dot-top}
use Rattle.totals_spec.proofs.sums.RecordRule.{accepted-where}
use Rattle.totals_spec.proofs.formats.Encodable.{default-encodes, select-encodes, elements-encode}
use Rattle.totals_spec.proofs.formats.Encodable.{operands-encode}
use Rattle.totals_spec.proofs.entries.AnswerFields.{accepted-fields}
use Rattle.totals_spec.proofs.terms.GoodTerms.{AllGood, good-terms, good-pairs}
use Rattle.totals_spec.proofs.rounding.RoundedNumbers.{sum-held, held-encodes}
use Rattle.totals_spec.proofs.chain.PassesOfRecords.{accepted-passes}
use Rattle.totals_spec.proofs.formats.Valid.{precision-most, precision-least}
use Rattle.totals_spec.proofs.refusals.AcceptedCalls.{sum-accepts, dot-accepts}

-- ---- an encoding has W bits

module _ (f : Format) (b : RangeBounds f) where
  top_field : 2 ^ f.E - 1 < 2 ^ f.E
  top_field = omega (arith, pow_pos f.E)

  zero-fits : (s : Bool) (k : Kind) → zero_bits k f s < 2 ^ f.W
  zero-fits s ieee = fields_fit f b s 0 0 (pow_pos f.E) (pow_pos (fraction_bits f))
  zero-fits s no_inf = fields_fit f b s 0 0 (pow_pos f.E) (pow_pos (fraction_bits f))
  zero-fits s fnuz = fields_fit f b false 0 0 (pow_pos f.E) (pow_pos (fraction_bits f))
  zero-fits s finite_only = fields_fit f b s 0 0 (pow_pos f.E) (pow_pos (fraction_bits f))

  nan-fits : (s g : Bool) (m : ℕ) → m < 2 ^ (fraction_bits f - 1) → (k : Kind) → nan_bits k f s g m < 2 ^ f.W
  nan-fits s g m h ieee = fields_fit f b s (2 ^ f.E - 1) (flag (2 ^ (fraction_bits f - 1)) (not g) + m) top_field (quiet-fits f b g m h)
  nan-fits s g m h no_inf = fields_fit f b s (2 ^ f.E - 1) (2 ^ fraction_bits f - 1) top_field (omega (arith, pow_pos (fraction_bits f)))
  nan-fits s g m h fnuz = fields_fit f b true 0 0 (pow_pos f.E) (pow_pos (fraction_bits f))
  nan-fits s g m h finite_only = fields_fit f b false 0 0 (pow_pos f.E) (pow_pos (fraction_bits f))

  pub encode-fits : (v : Unpacked) → Encodes f v → encode f v < 2 ^ f.W
  unfolding encode
  encode-fits (zero_of s) h = zero-fits s (kind_of f.kind)
  encode-fits (finite s k m) h = go (ltb m (2 ^ fraction_bits f)) (ltb→lt m (2 ^ fraction_bits f)) (nltb→le m (2 ^ fraction_bits f))
    where
      whole : 2 ^ digits f ≡ 2 * 2 ^ fraction_bits f
      whole = pow-next (digits f) (omega (arith, b.w-ge))

      go : (t : Bool) → (T t → m < 2 ^ fraction_bits f) → (T (not t) → 2 ^ fraction_bits f ≤ m)
          → cond t (assembled f s 0 m) (assembled f s (suc k) (m - 2 ^ fraction_bits f)) < 2 ^ f.W
      go true l g = fields_fit f b s 0 m (pow_pos f.E) (l tt)
      go false l g =
          let n : 2 ^ fraction_bits f ≤ m = g tt in
          fields_fit f b s (suc k) (m - 2 ^ fraction_bits f) (omega (arith, h.0)) (omega (arith, whole, h.1, n))
  encode-fits (infinity s) h = fields_fit f b s (2 ^ f.E - 1) 0 top_field (pow_pos (fraction_bits f))
  encode-fits (nan s g m) h = nan-fits s g m h (kind_of f.kind)

-- ---- an accepted record, and a call by its refusal number

pub few-passes : (f : Format) (ts : List Term) → RangeBounds f → top_of ts ≤ top_product f → most_passes f ts < 2 ^ 64
unfolding most_passes ceil_div
few-passes f ts b h = fewer (top_of ts) (bottom_of ts) (697 - digits f) (omega (arith, top, h))
  where
    top : top_product f ≤ 2 ^ 30
    top = omega (arith, pow_mono {i = f.E} {j = 28} b.e-le, b.p-le)

    fewer : (t low n : ℕ) → t + n < 2 ^ 63 → 1 + (t - 702 - low + (n - 1)) / n < 2 ^ 64
    fewer t low n l = omega (arith, div-le_self (t - 702 - low + (n - 1)) n)

module _ (f : Format) (c : Settings) (b : RangeBounds f) (q : SettingsBounds f c) where
  accepted-result : (sub products first signaling : Bool) (v : Unpacked) (l : List Item) → Encodes f v
      → (accepted f c sub products first signaling v l).result < 2 ^ f.W
  unfolding special reported
  accepted-result sub products first signaling v l =
      accepted-where (λ a. a.result < 2 ^ f.W) f c sub products l (Encodes f) (λ s. tt) (λ s. tt) (default-encodes f c)
      (λ w i h. encode-fits f b w h)
      by-passes first signaling v
    where
      least : 1 ≤ precision_of f c
      least = precision-least f c b

      most : precision_of f c ≤ digits f
      most = precision-most f c q

      r : Rounded
      r = sum_rounded f c (grid f products) (towards_negative c) (on_grid f products (exact_sum (terms l)))

      by-passes : encode f r.value < 2 ^ f.W
      by-passes =
          encode-fits f b r.value
          (held-encodes f b r.value
          (sum-held f b c least most (grid f products) (towards_negative c) (on_grid f products (exact_sum (terms l)))))

  pub accepted-fit : (sub products first signaling : Bool) (v : Unpacked) (l : List Item) → Encodes f v → AllGood (terms l) → top_of (terms l) ≤ top_product f
      → FieldsFit f (accepted f c sub products first signaling v l)
  accepted-fit sub products first signaling v l h g t =
      let fields = accepted-fields f c sub products l first signaling v in
      let some = accepted-passes f c sub products l (omega (arith, b.p-le)) g first signaling v in
      record {
        result = omega (arith, accepted-result sub products first signaling v l h);
        flags = omega (arith, fields.flags);
        side = omega (arith, fields.side);
        passes = omega (arith, some, few-passes f (terms l) b t);
      }

pub answered-fit : (f : Format) (n at : ℕ) (a : Answer) → (n ≡ 0 → FieldsFit f a) → FieldsFit f (answered n at a)
answered-fit f n at a h = go (eqb n 0) (eqb→eq n 0)
  where
    go : (z : Bool) → (T z → n ≡ 0) → FieldsFit f (cond z a (refused n (cond (eqb n 7) at 0)))
    go true e = h (e tt)
    go false e = record { result = omega (arith, pow_pos f.W); flags = omega arith; side = omega arith; passes = omega arith }

pub sum-fits : Sum-fits
unfolding sum_answer
sum-fits f c u l = answered-fit f (sum_refusal f c u l) (first_index (stray f) l) (sum_accepted f c (summand_of u) l) inside
  where
    inside : sum_refusal f c u l ≡ 0 → FieldsFit f (sum_accepted f c (summand_of u) l)
    inside r = unfold sum_accepted in
        let a = sum-accepts f c u l r in
        accepted-fit f c a.format.range a.settings _ _ _ _ _ _ (select-encodes f c _ (elements-encode f a.format l))
        (good-terms f c (summand_of u) l) (sum_top f c (summand_of u) l)

pub dot-fits : Dot-fits
unfolding dot_answer
dot-fits f c xs ys = answered-fit f (dot_refusal f c xs ys) (dot_place f xs ys) (dot_accepted f c (pairs xs ys)) inside
  where
    inside : dot_refusal f c xs ys ≡ 0 → FieldsFit f (dot_accepted f c (pairs xs ys))
    inside r = unfold dot_accepted in
        let a = dot-accepts f c xs ys r in
        accepted-fit f c a.format.range a.settings _ _ _ _ _ _ (select-encodes f c _ (operands-encode f a.format (pairs xs ys)))
        (good-pairs f c (pairs xs ys)) (dot-top f c xs ys)
