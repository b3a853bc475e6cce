-- By where halving ends.
use Rattle.std.proofs.Common.{arith}
use Rattle.std.proofs.lemmas.Result.{err_from_is_err_and}
use borrow.Author.Tests.{ltb-true, ltb-false, eqb-true, eqb-false, not-true, not-false}
use Rattle.format.specs.Layouts.{layout_of}
use Rattle.targets.proofs.Halving.{first-some, rank-accepted, none-past, none-there, there}
use Rattle.targets.proofs.contribution.found.Goals as goal

pub returns-in_err-refuse_if : goal.returns-in_err-refuse_if
returns-in_err-refuse_if g c =
    let p = err_from_is_err_and c.from_residual.result c.from_residual.ensures.1 in
    let (past, is) = c.in_err-refuse_if.ensures {u = tt} in
    rw (p.1, p.2, is) (none-past _ _ _ _ c.requires _ c.halved-rank.ensures (rw c.last_rank.ensures at (ltb-true _ _ past)))

pub number_at-number-requires : goal.number_at-number-requires
number_at-number-requires g c = omega (arith, first-some (layout_of c.args.layout), c.halved-rank.ensures.first)

pub rank_with-requires : goal.rank_with-requires
rank_with-requires g c =
    rw c.number_at-number.ensures
    (rank-accepted _ _ _ _ c.requires _ c.halved-rank.ensures.first (rw c.last_rank.ensures at (ltb-false _ _ (c.in_ok-refuse_if.ensures {u = tt}))))

pub returns-in_err-refuse_if-2 : goal.returns-in_err-refuse_if-2
returns-in_err-refuse_if-2 g c =
    let p = err_from_is_err_and c.from_residual-in_err-refuse_if-2.result c.from_residual-in_err-refuse_if-2.ensures.1 in
    let (other, is) = c.in_err-refuse_if-2.ensures {u = tt} in
    let inside = rw c.last_rank.ensures at (ltb-false _ _ (c.in_ok-refuse_if.ensures {u = tt})) in
    let not_there = rw (c.rank_with.ensures, c.number_at-number.ensures, c.rank_of.ensures) at (eqb-false _ _ (not-true _ other)) in
    rw (p.1, p.2, is) (none-there _ _ _ _ c.requires _ c.halved-rank.ensures inside not_there)

pub returns : goal.returns
returns g c =
    let inside = rw c.last_rank.ensures at (ltb-false _ _ (c.in_ok-refuse_if.ensures {u = tt})) in
    let met = eqb-true _ _ (not-false _ (c.in_ok-refuse_if-2.ensures {u = tt})) in
    rw c.number_at-number.ensures
    (there _ _ _ _ c.requires _ c.halved-rank.ensures inside (rw (c.rank_with.ensures, c.number_at-number.ensures, c.rank_of.ensures) at met))
