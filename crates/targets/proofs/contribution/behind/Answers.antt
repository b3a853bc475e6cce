-- By the refusals, and then by the search.
use Rattle.std.proofs.Common.{sym, ◌∙◌, arith}
use Rattle.std.proofs.lemmas.Result.{err_from_is_err_and}
use Rattle.targets.proofs.Contributed.{contribution-stopped, looked-refused, looked-passed, searched-for, contribution-of, room-for}
use Rattle.targets.proofs.contribution.behind.Goals as goal

pub returns-in_err-asked : goal.returns-in_err-asked
returns-in_err-asked g c =
    let p = err_from_is_err_and c.from_residual.result c.from_residual.ensures.1 in
    rw (p.1, p.2) (contribution-stopped _ _ _ _ _ (sym c.count.ensures.value) _ c.in_err-asked.ensures)

pub invariant_of-all_finite : goal.invariant_of-all_finite
invariant_of-all_finite g c =
    record { room = omega (arith, c.count.ensures.value, room-for _ _ _ c.in_ok-asked.ensures.2) }

pub returns-in_err-all_finite : goal.returns-in_err-all_finite
returns-in_err-all_finite g c =
    let p = err_from_is_err_and c.from_residual-in_err-all_finite.result c.from_residual-in_err-all_finite.ensures.1 in
    let a = c.in_ok-asked.ensures in
    let none = rw (c.count.ensures.value, ← a.0, ← a.1) at a.2 in
    rw (p.1, p.2) (looked-refused _ _ _ _ none _ (c.in_err-all_finite.ensures) ∙ contribution-of _ _ a.0 a.1)

pub found-requires : goal.found-requires
found-requires g c =
    let a = c.in_ok-asked.ensures in
    let none = rw (c.count.ensures.value, ← a.0, ← a.1) at a.2 in
    let (good, finite) = c.in_ok-all_finite.ensures {u = tt} in
    looked-passed _ _ _ _ none good finite

pub returns : goal.returns
returns g c =
    let a = c.in_ok-asked.ensures in
    let none = rw (c.count.ensures.value, ← a.0, ← a.1) at a.2 in
    let (good, finite) = c.in_ok-all_finite.ensures {u = tt} in
    c.found.ensures ∙ searched-for _ _ _ _ none good finite ∙ contribution-of _ _ a.0 a.1
