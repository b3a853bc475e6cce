-- The digits to round to are some, and no more than the format has.
use Rattle.std.proofs.Common.{◌≡◌, ℕ, ◌≤◌, arith}
use Rattle.totals_spec.specs.formats.Format.{Format, digits}
use Rattle.totals_spec.specs.formats.Settings.{Settings, precision_of}
use Rattle.totals_spec.proofs.formats.Valid.{precision-most, precision-least}
use Rattle.format.specs.Shapes.{shape_of}
use Rattle.format.specs.Environments.{env_of}
use Rattle.exact.specs.declared.Unrounded.{Unrounded}
use Rattle.exact.specs.Unrounded.{Rounds}
use Rattle.exact.proofs.Plan.{measured, begins}
use Rattle.exact.proofs.round.Goals as goal

some : (f : Format) (c : Settings) (g : ℕ) (v : Unrounded) (q : ℕ) → Rounds f c g v → q ≡ precision_of f c
    → (q ≡ precision_of f c) × (1 ≤ q) × (q ≤ digits f)
some f c g v q r e = (e, omega (arith, e, precision-least f c r.format), omega (arith, e, precision-most f c r.settings))

pub first_digits-first-requires : goal.first_digits-first-requires
first_digits-first-requires c =
    measured (record { rounds = c.requires; is = omega arith; top = omega arith })
    (some (shape_of c.args.shape) (env_of c.args.env) c.args.grid c.args.value _ c.requires c.digits-precision.ensures)

pub round_normal-requires : goal.round_normal-requires
round_normal-requires c = (
  begins (record { rounds = c.requires; is = omega arith; top = omega arith })
      (some (shape_of c.args.shape) (env_of c.args.env) c.args.grid c.args.value _ c.requires c.digits-precision.ensures) c.first_digits-first.ensures,
  omega arith,
)

pub round_small-requires : goal.round_small-requires
round_small-requires c = (
  begins (record { rounds = c.requires; is = omega arith; top = omega arith })
      (some (shape_of c.args.shape) (env_of c.args.env) c.args.grid c.args.value _ c.requires c.digits-precision.ensures) c.first_digits-first.ensures,
  omega arith,
)
