-- The refusals in their order, by what opening tells.
use Rattle.std.proofs.Common.{arith, subst, ℕ, ◌<◌}
use Rattle.pages.proofs.PageWritten.{no-page, span-reversed, span-beyond, span-few, span-long, span_in}
use Rattle.pages.proofs.span.span.Goals as goal
use Rattle.pages.proofs.span.span.Goals.{then-end-start-via-then-end-start, then-end-start-via-else-end-start+then-count-end}

pub returns-in_default-clause-refused : goal.returns-in_default-clause-refused
returns-in_default-clause-refused c = no-page _ _ _ c.in_default.ensures

pub returns-then-end-start-clause-refused : goal.returns-then-end-start-clause-refused
returns-then-end-start-clause-refused c =
    let told = c.in-Some.ensures in
    elim c.then-end-start.branch [
      | then-end-start-via-then-end-start w ↦ span-reversed _ _ _ told.0 w.if-end-start.true
      | then-end-start-via-else-end-start+then-count-end w ↦
          span-beyond _ _ _ told.0 w.if-end-start.false (subst (λ (n : ℕ). n < c.args.end) told.1 w.if-count-end.true)
    ]

pub overflow_mul-result : goal.overflow_mul-result
overflow_mul-result c =
    let (opens, count) = c.in-Some.ensures in
    record { fits = omega (arith, c.if-end-start.false, span-few _ _ _ opens c.if-end-start.false (rw count at c.if-count-end.false)) }

pub overflow_mul-result-2 : goal.overflow_mul-result-2
overflow_mul-result-2 c =
    let (opens, count) = c.in-Some.ensures in
    record { fits = omega (arith, span-few _ _ _ opens c.if-end-start.false (rw count at c.if-count-end.false)) }

pub slice_bounds-result-end : goal.slice_bounds-result-end
slice_bounds-result-end c = let (opens, count) = c.in-Some.ensures in span-long _ _ _ opens c.if-end-start.false (rw count at c.if-count-end.false)

pub returns-clause-spanned : goal.returns-clause-spanned
returns-clause-spanned c = let (opens, count) = c.in-Some.ensures in span_in _ _ _ opens c.if-end-start.false (rw count at c.if-count-end.false)
