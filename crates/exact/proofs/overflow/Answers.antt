-- What an overflow gives, by the settings and the kind.
use Rattle.std.proofs.Common.{sym, ap, ◌∙◌, rules}
use lib.Pow.{pow_pos}
use Rattle.format.specs.Shapes.{shape_of}
use Rattle.format.specs.Environments.{env_of}
use Rattle.format.specs.Unpacked.{unpacked_of}
use Rattle.format.specs.Kinds.{number_of}
use Rattle.format.proofs.Environments.{switched_on, switched_off}
use Rattle.exact.proofs.Beyond.{overflow-saturated, overflow-most, overflow-ieee, overflow-only, overflow-nan, nan-kind}
use Rattle.exact.proofs.overflow.Goals as goal
use Rattle.exact.proofs.overflow.Goals.{then-env-via-then-env, then-env-via-else-env+then-not-overflows_to_infinity}

pub returns-then-env : goal.returns-then-env
returns-then-env c =
    let a = c.args in
    let l = c.largest in (
      elim c.then-env.branch [
        | then-env-via-then-env w ↦
            overflow-saturated (shape_of a.shape) (env_of a.env) a.precision a.negative (unpacked_of l.result) l.ensures.0 (switched_on _ w.if-env.true)
        | then-env-via-else-env+then-not-overflows_to_infinity w ↦
            overflow-most (shape_of a.shape) (env_of a.env) a.precision a.negative (unpacked_of l.result) l.ensures.0
            (sym w.overflows_to_infinity.ensures ∙ w.if-not-overflows_to_infinity.true)
      ],
      l.ensures.1,
      search rules,
    )

pub returns-in-Ieee : goal.returns-in-Ieee
returns-in-Ieee c =
    let a = c.args in
    let goes = sym c.overflows_to_infinity.ensures ∙ c.if-not-overflows_to_infinity.false in
    (overflow-ieee (shape_of a.shape) (env_of a.env) a.precision a.negative goes (switched_off _ c.if-env.false) (ap number_of c.in-Ieee.is), tt, search rules)

pub returns-in-Finite : goal.returns-in-Finite
returns-in-Finite c =
    let a = c.args in
    let l = c.largest in
    let goes = sym c.overflows_to_infinity.ensures ∙ c.if-not-overflows_to_infinity.false in (
      overflow-only (shape_of a.shape) (env_of a.env) a.precision a.negative goes (switched_off _ c.if-env.false) (unpacked_of l.result)
          l.ensures.0 (ap number_of c.in-Finite.is),
      l.ensures.1,
      search rules,
    )

pub returns-in-NoInf : goal.returns-in-NoInf
returns-in-NoInf c =
    let a = c.args in
    let goes = sym c.overflows_to_infinity.ensures ∙ c.if-not-overflows_to_infinity.false in
    let off = switched_off _ c.if-env.false in
    let nan = nan-kind _ _ _ c.in-NoInf.is in
    (overflow-nan (shape_of a.shape) (env_of a.env) a.precision a.negative goes off nan, pow_pos _, search rules)
