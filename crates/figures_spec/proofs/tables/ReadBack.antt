-- What a caller reads from the answer buffer of an accepted table is the record of all its cells.
use mathlib.Core.Path.{◌≡◌, refl, sym, ap, ◌∙◌}
use mathlib.Core.Bool.{Bool, true, false}
use mathlib.Core.List.{List}
use Prim.Native.Nat.{ℕ, ◌-◌}
use native.Mathlib.Nat.{suc-ne-zero}
use Rattle.totals_spec.specs.sums.Totals.{Answer, sum_answer}
use Rattle.totals_spec.specs.entries.Bytes.{written, short}
use Rattle.totals_spec.specs.entries.Promises.{ReadsBack}
use Rattle.totals_spec.specs.entries.Words.{misnamed, format_by}
use Rattle.totals_spec.proofs.entries.ReadBack.{entry-back, sum_back}
use Rattle.figures_spec.specs.tables.Table.{Tabled, table_answer}
use Rattle.figures_spec.specs.tables.Entry.{table_entry}
use Rattle.figures_spec.specs.tables.Promises.{Table-entry-read-back}
use Rattle.figures_spec.proofs.tables.Tables.{table_tested, table-number, table-grand}

-- of a table the record is that of the plain sum, where it is accepted
table-back : (a b : Bool) (t : Tabled) (r : Answer) (old other buffer : List ℕ) → (t.grand.refusal ≡ 0 → t.grand ≡ r)
    → (a ≡ false → r.refusal ≡ 0 → ReadsBack r buffer (written r buffer)) → (table_tested a b t old other buffer).code ≡ 0
    → ReadsBack r buffer (table_tested a b t old other buffer).buffer
table-back true b t r old other buffer same back e = absurd (suc-ne-zero 1 e)
table-back false true t r old other buffer same back e = absurd (suc-ne-zero 2 e)
table-back false false t r old other buffer same back e =
    entry-back t.grand buffer (ReadsBack r buffer) false false
    (λ _ z. rw (same z) (back refl (sym (ap (λ (x : Answer). x.refusal) (same z)) ∙ z))) e

pub table-entry-read-back : Table-entry-read-back
unfolding table_entry
table-entry-read-back k e w named b c rows columns cells old other buffer =
    let f = format_by k e w named b in
    table-back (short buffer) (misnamed named b) (table_answer f c rows columns cells old other) (sum_answer f c 0 cells) old other buffer
    (λ z. (table-grand f c rows columns cells old other (sym (table-number f c rows columns cells old other) ∙ z)).1)
    (sum_back f c 0 cells buffer)
