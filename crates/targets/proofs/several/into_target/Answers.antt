-- By the tests, and by what the walk of the list keeps.
use Rattle.std.proofs.Common.{◌≡◌, ℕ, sym, subst}
use Rattle.std.proofs.lemmas.Result.{err_from_is_err_and}
use Rattle.format.specs.Formats.{format_of}
use Rattle.format.specs.Settings.{settings_of}
use Rattle.totals_spec.specs.rounding.IntoFormat.{reading_with}
use Rattle.targets.specs.Kept.{KeptIn}
use Rattle.targets.specs.Targets.{target_numbers}
use Rattle.targets.proofs.Targets.{target-valid, target-stopped, target-strayed, answers-target}
use Rattle.targets.proofs.several.into_target.Goals as goal

pub returns-in_err-aim : goal.returns-in_err-aim
returns-in_err-aim c =
    let p = err_from_is_err_and c.from_residual-in_err-aim.result c.from_residual-in_err-aim.ensures.1 in
    answers-target _ c.args.denormals_are_zero _ _ _ _ c.in_ok-target.was (λ l many asked. rw (p.1, p.2) (target-stopped _ _ l _ _ (sym many) _ c.in_err-aim.ensures))

pub returns-in_err-list : goal.returns-in_err-list
returns-in_err-list c =
    let p = err_from_is_err_and c.from_residual-in_err-list.result c.from_residual-in_err-list.ensures.1 in
    let a = c.args in
    let passed = c.in_ok-aim.ensures.3 in
    let v = target-valid _ _ _ _ _ passed in
    answers-target _ c.args.denormals_are_zero _ _ _ _ c.in_ok-target.was (λ l many asked.
    let (some, is) = subst (KeptIn (format_of a.format) (reading_with a.denormals_are_zero) l) c.in_err-list.was (asked v.numbers) in
    rw (p.1, p.2, is) (target-strayed _ a.denormals_are_zero l _ _ (sym many) passed some))

pub print_one-requires : goal.print_one-requires
print_one-requires c =
    let a = c.args in
    let (list, target, env, passed) = c.in_ok-aim.ensures in
    let v = target-valid _ _ _ _ _ passed in
    let k = c.requires v.numbers in
    let kept = subst (KeptIn (format_of a.format) (reading_with a.denormals_are_zero) k.values) c.in_ok-list.was k.kept in
    rw (list, target, env) (record { settings = v.settings; reading = a.denormals_are_zero; values = k.values; keeps = kept.1 })

pub returns : goal.returns
returns c =
    let a = c.args in
    let d = a.denormals_are_zero in
    let f = format_of a.format in
    let t = format_of c.in_ok-target.field-0.format in
    let s = settings_of c.in_ok-target.field-0.settings in
    let (list, target, env, passed) = c.in_ok-aim.ensures in
    let v = target-valid _ _ _ _ _ passed in
    let printed = rw (list, target, env) at c.print_one.ensures in
    answers-target _ c.args.denormals_are_zero _ _ _ _ c.in_ok-target.was (λ l many asked.
    let kept = subst (KeptIn f (reading_with d) l) c.in_ok-list.was (asked v.numbers) in
    printed d l (subst (λ (n : ℕ). target_numbers f d n t s ≡ 0) many passed) kept.0 kept.1)
