-- What a scan decides by itself, from the tests on its fields: each outcome of `decided`.
use mathlib.Core.Path.{◌≡◌, refl, sym, ap, ◌∙◌, subst}
use mathlib.Core.Bool.{Bool, true, false, not, ◌&&◌, ◌||◌, cond}
use mathlib.Core.List.{List, [], ◌∷◌}
use native.Mathlib.Nat.{pos_of_ne-zero}
use lib.Dec.{T}
use Rattle.std.specs.Prelude.{Option, Some, None, is_some}
use Rattle.totals_spec.specs.Basics.{any}
use Rattle.totals_spec.specs.formats.Format as spec
use Rattle.totals_spec.specs.formats.Settings as env
use Rattle.totals_spec.specs.formats.Decode as dec
use Rattle.totals_spec.specs.sums.Nan as nans
use Rattle.totals_spec.specs.terms.Terms as terms
use Rattle.totals_spec.specs.sums.Totals as totals
use Rattle.totals_spec.specs.formats.KindValues.{has_nan, Alone}
use Rattle.totals_spec.proofs.formats.Encodable.{quiet-encodes, default-encodes}
use Rattle.totals_spec.proofs.formats.KindValues.{nan-found, invalid-found, infinity-found, infinity-nan}
use Rattle.format.specs.Unpacked.{unpacked_of}
use Rattle.format.specs.declared.unpacked.Unpacked.{Unpacked}
use Rattle.format.specs.declared.unpacked.Unpacked.TheVariants as unpacked
use Rattle.binary.specs.declared.nan.Nan.{Nan}
use Rattle.binary.specs.Nans.{nan_of, selected_by, selected_of}
use Rattle.format.specs.Fits.{Encodes}
use Rattle.reduction.specs.declared.scan.Scan.{Scan}
use Rattle.reduction.specs.Scan.{Gathered, nan_decides, Decides}
use Rattle.reduction.proofs.Choice.{if-nan, if_some, held-some}

-- ---- a NaN of the rule

by-rule : (r : env.Propagation) (c : env.Settings) (l : List dec.Unpacked) → nans.by_rule r c l ≡ selected_by r c (nans.chosen_of r (dec.zero_of false) l)
by-rule env.signaling_first c l = refl
by-rule env.first_operand c l = refl
by-rule env.larger_significand c l = refl
by-rule env.default_nan c l = refl

and_left : (a b : Bool) → (a && b) ≡ true → a ≡ true
and_left true b e = refl
and_left false b e = e

module _ (f : spec.Format) where
  selected-encodes : (r : env.Propagation) (c : env.Settings) (v : dec.Unpacked) → Encodes f v → Encodes f (selected_by r c v)
  selected-encodes env.signaling_first c v h = quiet-encodes f v h
  selected-encodes env.first_operand c v h = quiet-encodes f v h
  selected-encodes env.larger_significand c v h = quiet-encodes f v h
  selected-encodes env.default_nan c v h = default-encodes f c

some-term : (ts : List terms.Term) → (terms.top_of ts ≡ 0 → ⊥) → any (λ t. true) ts ≡ true
unfolding terms.top_of
some-term [] h = absurd (h refl)
some-term (t ∷ ts) h = refl

-- ---- the record, by the fields of the scan

module _ {f : spec.Format} {c : env.Settings} {sub sig : Bool} {ops : List dec.Unpacked} {l : List terms.Item} {s : Scan}
    (g : Gathered f c sub sig ops l s) (products first : Bool) where
  accepted-is : (v : dec.Unpacked) → totals.accepted f c sub products first sig v l
      ≡ cond (nan_decides first s) (totals.special f sub v (s.signaling || s.invalid)) (totals.without_nan f c sub products l)
  unfolding totals.accepted
  accepted-is v = cc (g.some, g.signaling, g.positive-infinity, g.invalid)

  without_is : totals.without_nan f c sub products l
      ≡ cond s.invalid (totals.special f sub (nans.default_nan_of c) true)
      (totals.infinities s.positive_infinity s.negative_infinity
      (totals.special f sub (nans.default_nan_of c) true)
      (totals.special f sub (dec.infinity false) false)
      (totals.special f sub (dec.infinity true) false)
      (totals.finite_total f c sub products (totals.zero_sign s.positive_zero s.negative_zero (totals.towards_negative c)) (terms.terms l)))
  unfolding totals.without_nan
  without_is = cc (g.invalid, g.positive-infinity, g.negative-infinity, g.positive-zero, g.negative-zero)

  selected-is : nan_decides first s ≡ true → selected_of c (nan_of s.nan) ≡ nans.select_all c ops
  unfolding selected_of nans.select_all
  selected-is t =
      let some : is_some s.nan ≡ true = and_left (is_some s.nan) (not (first && not s.signaling && s.positive_infinity)) t in
      let x = nans.chosen_of (env.propagation_of c.nan_propagation) (dec.zero_of false) ops in
      let is : dec.is_nan x ≡ true = sym (if-nan x) ∙ ap dec.is_nan (sym g.nan) ∙ held-some s.nan ∙ some in
      ap (selected_by (env.propagation_of c.nan_propagation) c) (g.nan ∙ if_some x is) ∙ sym (by-rule (env.propagation_of c.nan_propagation) c ops)

-- ---- a value that comes from the items is one that their format has

module _ (k : spec.Kind) (h : T (has_nan k)) where
  default-alone : (c : env.Settings) → Alone k (nans.default_nan_of c)
  unfolding nans.default_nan_of
  default-alone c = h

  quiet-alone : (n : Option Nan) → Alone k (nans.quiet (nan_of n))
  quiet-alone (Some n) = h
  quiet-alone None = tt

  selected-alone : (c : env.Settings) (n : Option Nan) → Alone k (selected_of c (nan_of n))
  unfolding selected_of
  selected-alone c n = go (env.propagation_of c.nan_propagation)
    where
      go : (r : env.Propagation) → Alone k (selected_by r c (nan_of n))
      go env.signaling_first = quiet-alone n
      go env.first_operand = quiet-alone n
      go env.larger_significand = quiet-alone n
      go env.default_nan = default-alone c

-- ---- the outcomes

module _ (c : env.Settings) (first : Bool) (s : Scan) where
  pub by-nan : (v : Unpacked) (i : Bool) → nan_decides first s ≡ true → unpacked_of v ≡ selected_of c (nan_of s.nan)
      → i ≡ (s.signaling || s.invalid) → Decides (Some (record { value = v; invalid = i })) c first s
  by-nan v i t e h f sub products sig ops l g =
      let k = spec.kind_of f.kind in
      let some : any terms.is_nan_item l ≡ true = sym g.some ∙ and_left (is_some s.nan) _ t in
      record {
        is = accepted-is g products first (nans.select_all c ops) ∙ rw (t, e, h, selected-is g products first t);
        encodes =
            subst (Encodes f) (sym e)
            (unfold selected_of in selected-encodes f (env.propagation_of c.nan_propagation) c (nan_of s.nan) g.encodes);
        alone = λ a. subst (Alone k) (sym e) (selected-alone k (nan-found k l a some) c s.nan);
      }

  module _ (t : nan_decides first s ≡ false) where
    pub by-invalid : (v : Unpacked) → s.invalid ≡ true → unpacked_of v ≡ nans.default_nan_of c
        → Decides (Some (record { value = v; invalid = true })) c first s
    by-invalid v i e f sub products sig ops l g =
        let k = spec.kind_of f.kind in
        record {
          is = accepted-is g products first (nans.select_all c ops) ∙ rw t (without_is g products first ∙ rw (i, e));
          encodes = subst (Encodes f) (sym e) (default-encodes f c);
          alone = λ a. subst (Alone k) (sym e) (default-alone k (infinity-nan k (invalid-found k l a (sym g.invalid ∙ i))) c);
        }

    module _ (i : s.invalid ≡ false) where
      pub by_both : (v : Unpacked) → s.positive_infinity ≡ true → s.negative_infinity ≡ true → unpacked_of v ≡ nans.default_nan_of c
          → Decides (Some (record { value = v; invalid = true })) c first s
      by_both v p n e f sub products sig ops l g =
          let k = spec.kind_of f.kind in
          record {
            is = accepted-is g products first (nans.select_all c ops) ∙ rw t (without_is g products first ∙ rw (i, p, n, e));
            encodes = subst (Encodes f) (sym e) (default-encodes f c);
            alone = λ a. subst (Alone k) (sym e) (default-alone k (infinity-nan k (infinity-found k false l a (sym g.positive-infinity ∙ p))) c);
          }

      pub by-positive : s.positive_infinity ≡ true → s.negative_infinity ≡ false
          → Decides (Some (record { value = (unpacked.Infinity false); invalid = false })) c first s
      by-positive p n f sub products sig ops l g = record {
        is = accepted-is g products first (nans.select_all c ops) ∙ rw t (without_is g products first ∙ rw (i, p, n));
        encodes = tt;
        alone = λ a. infinity-found (spec.kind_of f.kind) false l a (sym g.positive-infinity ∙ p);
      }

      module _ (p : s.positive_infinity ≡ false) where
        pub by-negative : s.negative_infinity ≡ true → Decides (Some (record { value = (unpacked.Infinity true); invalid = false })) c first s
        by-negative n f sub products sig ops l g = record {
          is = accepted-is g products first (nans.select_all c ops) ∙ rw t (without_is g products first ∙ rw (i, p, n));
          encodes = tt;
          alone = λ a. infinity-found (spec.kind_of f.kind) true l a (sym g.negative-infinity ∙ n);
        }

        module _ (n : s.negative_infinity ≡ false) where
          pub by-zeros : (b : Bool) → s.top ≡ 0 → b ≡ totals.zero_sign s.positive_zero s.negative_zero (totals.towards_negative c)
              → Decides (Some (record { value = (unpacked.Zero b); invalid = false })) c first s
          unfolding totals.finite_total
          by-zeros b z e f sub products sig ops l g = record {
            is = accepted-is g products first (nans.select_all c ops) ∙ rw t (without_is g products first ∙ rw (i, p, n, ← e, g.no-term z));
            encodes = tt;
            alone = λ a. tt;
          }

          pub by-terms : (s.top ≡ 0 → ⊥) → Decides None c first s
          unfolding totals.finite_total
          by-terms z f sub products sig ops l g =
              let some : any (λ t. true) (terms.terms l) ≡ true = some-term (terms.terms l) (λ y. z (g.top ∙ y)) in (
                accepted-is g products first (nans.select_all c ops) ∙ rw t (without_is g products first ∙ rw (i, p, n, some)),
                some,
                pos_of_ne-zero z,
              )
