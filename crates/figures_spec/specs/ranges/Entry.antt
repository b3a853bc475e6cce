-- The entry of a range total, and what it leaves: a number, the two lists of figures, and the lent
-- pair.
use Rattle.std.specs.Prelude.{List, [], ℕ, cond, ◌∷◌, eqb, map, ltb, length}
use Rattle.totals_spec.specs.entries.Words.{filled}
use Rattle.figures_spec.specs.ranges.Ranges.{Range, entries, low_of, high_of, range_answer}

-- ---- what the entry of a range total leaves behind: a number, the two lists of figures, and the
-- lent pair

pub record RangeEntry : Type 0 where
  pub code : ℕ
  pub firsts : List ℕ
  pub seconds : List ℕ
  pub pair : List ℕ

-- an accepted call leaves each entry's low in the first list and its high in the second, and in the
-- pair the lower and the upper total; any other gives its refusal, which has no place, and leaves
-- what was there
abbrev pub range_entered : Range → (lows highs firsts seconds old : List ℕ) → RangeEntry
range_entered r lows highs xs ys old =
    cond (eqb r.refusal 0)
    (record {
      code = 0;
      firsts = lows;
      seconds = highs;
      pair = filled (r.lower ∷ r.upper ∷ []) old;
    })
    (record { code = r.refusal; firsts = xs; seconds = ys; pair = old })

-- THE ENTRY of a range total: refusal 2 first, for a pair of fewer than two words
unfoldable pub range_entry : (tags firsts seconds : List ℕ) (ceiling : ℕ) → List ℕ → RangeEntry
range_entry ts xs ys z old =
    cond (ltb (length old) 2) (record { code = 2; firsts = xs; seconds = ys; pair = old })
    (range_entered (range_answer ts xs ys z) (map low_of (entries ts xs ys))
    (map (high_of z) (entries ts xs ys)) xs ys old)
