-- By the search for a stray bit.
use Rattle.std.proofs.lemmas.Result.{err_from_is_err_and}
use Rattle.totals.proofs.Answers.{sum-strayed, sum-unstrayed}
use Rattle.totals.proofs.lists.sum.Goals as goal

pub returns-in_err-no_stray-clause-told : goal.returns-in_err-no_stray-clause-told
returns-in_err-no_stray-clause-told g c =
    let p = err_from_is_err_and c.from_residual.result c.from_residual.ensures.1 in
    let (some, is) = c.in_err-no_stray.ensures {u = tt} in
    rw (p.1, p.2, is) (sum-strayed _ _ _ _ c.requires some)

pub unstrayed_sum-requires : goal.unstrayed_sum-requires
unstrayed_sum-requires g c = sum-unstrayed _ _ _ _ c.requires (c.in_ok-no_stray.ensures {u = tt})

pub returns-clause-accepted : goal.returns-clause-accepted
returns-clause-accepted g c = λ a e. sum-unstrayed _ _ _ _ c.requires (c.in_ok-no_stray.ensures {u = tt})
