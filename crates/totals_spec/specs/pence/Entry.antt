-- The entry of the pence of a list, and what it leaves: a number, and what then stands where the
-- figure goes.
use Rattle.std.specs.Prelude.{[], ℕ, ℤ, cond, ◌+◌, ◌*◌, eqb, List}
use Rattle.totals_spec.specs.pence.Pence.{Pence, sum_pence}
use Rattle.totals_spec.specs.entries.Words.{misnamed, format_by}

-- ---- what an entry of one figure leaves behind: a number, and what then stands where the figure
-- goes

pub record FigureEntry : Type 0 where
  pub code : ℕ
  pub figure : ℤ

-- an accepted call writes; any other gives its refusal, plus 256 times its place, and leaves what
-- was there
abbrev pub figure_entered : Pence → ℤ → FigureEntry
figure_entered p old = cond (eqb p.refusal 0) (record { code = 0; figure = p.figure })
    (record { code = p.refusal + 256 * p.place; figure = old })

-- THE ENTRY of the pence of a list
unfoldable pub pence_entry : (kind exponent_bits width named : ℕ) (bias : ℤ) → List ℕ → ℤ
    → FigureEntry
pence_entry k e w named b l old =
    cond (misnamed named b) (record { code = 3; figure = old })
    (figure_entered (sum_pence (format_by k e w named b) l) old)
