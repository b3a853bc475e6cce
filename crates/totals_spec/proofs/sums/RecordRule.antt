-- What holds of each record that an accepted call can have: one rule, by the two ways in which such
-- a record is made.
use mathlib.Core.Bool.{Bool, true, false, not, ◌&&◌, ◌||◌, cond}
use mathlib.Core.List.{List}
use Rattle.totals_spec.specs.Basics.{any}
use Rattle.totals_spec.specs.formats.Format.{Format, digits, grid}
use Rattle.totals_spec.specs.formats.Settings.{Settings}
use Rattle.totals_spec.specs.formats.Decode.{Unpacked, zero_of, infinity}
use Rattle.totals_spec.specs.terms.Terms.{Item, is_nan_item, is_invalid, is_infinite, is_zero}
use Rattle.totals_spec.specs.terms.Terms.{terms, exact_sum}
use Rattle.totals_spec.specs.chain.Chain.{chain}
use Rattle.totals_spec.specs.sums.Nan.{default_nan_of}
use Rattle.totals_spec.specs.sums.Totals.{Answer, special, sum_rounded, reported, on_grid}
use Rattle.totals_spec.specs.sums.Totals.{towards_negative, zero_sign, finite_total, infinities}
use Rattle.totals_spec.specs.sums.Totals.{without_nan, accepted}

module _ (Q : Answer → Type 0) where
  pub cond_has : (b : Bool) (x y : Answer) → Q x → Q y → Q (cond b x y)
  cond_has true x y h k = h
  cond_has false x y h k = k

  infinities-has : (a b : Bool) (x y z u : Answer) → Q x → Q y → Q z → Q u → Q (infinities a b x y z u)
  infinities-has true true x y z u hx hy hz hu = hx
  infinities-has true false x y z u hx hy hz hu = hy
  infinities-has false true x y z u hx hy hz hu = hz
  infinities-has false false x y z u hx hy hz hu = hu

  module _ (f : Format) (c : Settings) (sub products : Bool) (l : List Item) where
    -- a record that passes were run for
    abbrev ByPasses : Type 0
    ByPasses =
        Q (reported f sub products (on_grid f products (exact_sum (terms l)))
        (sum_rounded f c (grid f products) (towards_negative c) (on_grid f products (exact_sum (terms l)))) (chain (digits f) (terms l)))

    -- without a pass, by what is known of the value: G
    module _ (G : Unpacked → Type 0) (zero : (s : Bool) → G (zero_of s)) (infinite : (s : Bool) → G (infinity s)) (default : G (default_nan_of c))
        (without : (v : Unpacked) (invalid : Bool) → G v → Q (special f sub v invalid)) (by-passes : ByPasses) where
      finite-has : (minus : Bool) → Q (finite_total f c sub products minus (terms l))
      unfolding finite_total
      finite-has minus = cond_has (any (λ t. true) (terms l)) _ _ by-passes (without (zero_of minus) false (zero minus))

      without-has : Q (without_nan f c sub products l)
      unfolding without_nan
      without-has =
          cond_has (any is_invalid l) _ _ (without (default_nan_of c) true default)
          (infinities-has (any (is_infinite false) l) (any (is_infinite true) l) _ _ _ _
          (without (default_nan_of c) true default) (without (infinity false) false (infinite false)) (without (infinity true) false (infinite true))
          (finite-has (zero_sign (any (is_zero false) l) (any (is_zero true) l) (towards_negative c))))

      pub accepted-where : (infinity_first signaling : Bool) (v : Unpacked) → G v → Q (accepted f c sub products infinity_first signaling v l)
      unfolding accepted
      accepted-where infinity_first signaling v h =
          cond_has (any is_nan_item l && not (infinity_first && not signaling && any (is_infinite false) l)) _ _
          (without v (signaling || any is_invalid l) h) without-has

    pub accepted-has : ((v : Unpacked) (invalid : Bool) → Q (special f sub v invalid)) → ByPasses → (infinity_first signaling : Bool) (v : Unpacked)
        → Q (accepted f c sub products infinity_first signaling v l)
    accepted-has without by-passes infinity_first signaling v =
        accepted-where (λ w. Unit {0}) (λ s. tt) (λ s. tt) tt (λ w i h. without w i) by-passes infinity_first signaling v tt
