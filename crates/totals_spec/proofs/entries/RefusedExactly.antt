-- The refusal number of a byte entry is that of the first condition that holds.
use mathlib.Core.Path.{◌≡◌, refl, sym}
use mathlib.Core.Bool.{Bool, true, false, cond, ◌||◌}
use mathlib.Core.List.{List, []}
use Prim.Native.Nat.{ℕ, ◌+◌, ◌*◌, ◌%◌, ◌<◌}
use native.Mathlib.Omega.{arith}
use lib.Dec.{T, eqb, eqb→eq}
use mathlib.Core.Logic.{◌↔◌}
use Rattle.totals_spec.specs.sums.Totals.{Answer, refuse_if, sum_answer, dot_answer}
use Rattle.totals_spec.specs.entries.Bytes.{Entry, entered, written, short, values_in, uneven}
use Rattle.totals_spec.specs.entries.Bytes.{sum_entry, dot_entry}
use Rattle.totals_spec.specs.refusals.Conditions.{Condition, entry_conditions}
use Rattle.totals_spec.specs.entries.Promises.{Entry-refused-exactly}
use Rattle.totals_spec.proofs.refusals.Exactly.{tested, Tests, test, short-found, exactly, either}
use Rattle.totals_spec.proofs.refusals.Exactly.{uneven-found, sum-tests, dot-tests}
use Rattle.totals_spec.proofs.refusals.RefusedRecords.{sum-refusal, dot-refusal, sum-small}
use Rattle.totals_spec.proofs.refusals.RefusedRecords.{dot-small}

-- the lowest byte of the number returned
pub entry-number : (a b : Bool) (r : Answer) (old : List ℕ) → r.refusal < 256 → (tested a b r old).code % 256 ≡ refuse_if a 1 (refuse_if b 2 r.refusal)
unfolding entered
entry-number true b r old h = refl
entry-number false true r old h = refl
entry-number false false r old h = go (eqb r.refusal 0) (eqb→eq r.refusal 0)
  where
    go : (t : Bool) → (T t → r.refusal ≡ 0)
        → (cond {A = Entry} t (record { code = 0; buffer = written r old }) (record { code = r.refusal + 256 * r.place; buffer = old })).code % 256
        ≡ r.refusal
    go true e = sym (e tt)
    go false e = omega (arith, h)

entry-tests : {A : Type 0} {l : List Condition} {m : ℕ} (a : Bool) (old : List ℕ) → T a ↔ A → Tests l m
    → Tests (entry_conditions A old l) (refuse_if a 1 (refuse_if (short old) 2 m))
entry-tests a old t h = test a t (test (short old) (short-found old) h)

pub entry-refused-exactly : Entry-refused-exactly
unfolding sum_entry dot_entry
entry-refused-exactly = (
  λ f c u bytes old n.
      let l = values_in bytes in
      rw (entry-number (uneven bytes) (short old) (sum_answer f c u l) old (sum-small f c u l).number, sum-refusal f c u l)
      (exactly (entry-tests (uneven bytes) old (uneven-found bytes) (sum-tests f c u l)) n),
  λ f c left right old n.
      let xs = values_in left in
      let ys = values_in right in
      rw (entry-number (uneven left || uneven right) (short old) (dot_answer f c xs ys) old (dot-small f c xs ys).number, dot-refusal f c xs ys)
      (exactly (entry-tests (uneven left || uneven right) old
      (either (uneven left) (uneven right) (uneven-found left) (uneven-found right)) (dot-tests f c xs ys)) n),
)
