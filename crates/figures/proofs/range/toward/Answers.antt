-- A sum of finite doubles passes the tests, and its zero loses its sign.
use Rattle.std.proofs.Common.{◌≡◌, ◌≢◌, ℕ, Bool, cond, ◌^◌, ◌≤◌, refl, sym, ap, ◌∙◌, le-ltb, eq-eqb, ne_eqb}
use Rattle.totals_spec.specs.formats.Format.{binary64, valid_format}
use Rattle.totals_spec.specs.formats.Settings.{Settings, no_settings, with_rounding, valid_settings}
use Rattle.totals_spec.specs.sums.Totals.{Answer, limit}
use Rattle.figures_spec.specs.ranges.Ranges.{plus_zero}
use Rattle.format.specs.declared.env.Env.{Env}
use Rattle.format.specs.declared.modes.Rounding.{Rounding}
use Rattle.format.specs.Modes.{rounding_number}
use Rattle.format.specs.Environments.{env_of}
use Rattle.format.proofs.Environments.{rounding_in}
use Rattle.totals.specs.Refusal.{sum_numbers}
use Rattle.figures.proofs.range.toward.Goals as goal

passes : (m : Rounding) (n : ℕ) → n ≤ limit → sum_numbers binary64 (with_rounding (rounding_number m)) 0 n ≡ 0
unfolding sum_numbers valid_format valid_settings binary64 with_rounding
passes m n k = rw (rounding_in m, le-ltb limit n k) refl

-- the settings that are all 0, with a rounding
abbrev rounding_by : Settings → ℕ → Settings
rounding_by s m = record {
  rounding = m;
  tininess = s.tininess;
  nan_propagation = s.nan_propagation;
  default_nan_sign = s.default_nan_sign;
  flush_to_zero = s.flush_to_zero;
  denormals_are_zero = s.denormals_are_zero;
  saturate = s.saturate;
  precision = s.precision;
}

rounded : (m : Rounding) (e : Env) → env_of e ≡ no_settings → rounding_by (env_of e) (rounding_number m) ≡ with_rounding (rounding_number m)
unfolding with_rounding
rounded m e is = ap (λ (s : Settings). rounding_by s (rounding_number m)) is

-- a zero loses its sign, and any other number stays
sign-lost : (b : ℕ) → b ≡ 2 ^ 63 → 0 ≡ plus_zero b
sign-lost b e = ap (λ (z : Bool). cond z 0 b) (sym (eq-eqb b (2 ^ 63) e))

number-kept : (b : ℕ) → b ≢ 2 ^ 63 → b ≡ plus_zero b
number-kept b e = ap (λ (z : Bool). cond z 0 b) (sym (ne_eqb b (2 ^ 63) e))

pub sum-requires : goal.sum-requires
unfolding with_rounding
sum-requires c =
    rw (c.layout.ensures, rounded c.args.rounding c.default-env.result c.default-env.ensures) (passes c.args.rounding _ c.requires)

pub returns-then-bits : goal.returns-then-bits
unfolding with_rounding
returns-then-bits c =
    let told = c.result_of-bits.ensures ∙ ap (λ (a : Answer). a.result) c.sum.ensures.told in
    let is = rw (c.layout.ensures, rounded c.args.rounding c.default-env.result c.default-env.ensures) at told in
    sign-lost _ (sym is ∙ c.if-bits.true)

pub returns-else-bits : goal.returns-else-bits
unfolding with_rounding
returns-else-bits c =
    let told = c.result_of-bits.ensures ∙ ap (λ (a : Answer). a.result) c.sum.ensures.told in
    let is = rw (c.layout.ensures, rounded c.args.rounding c.default-env.result c.default-env.ensures) at told in
    is ∙ number-kept _ (λ z. c.if-bits.false (is ∙ z))
