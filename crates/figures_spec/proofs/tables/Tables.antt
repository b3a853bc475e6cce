-- Tables: their cells, rows and columns; how a lent list is filled; what a call and its entry leave
-- behind.
use mathlib.Core.Path.{◌≡◌, sym, ap, ◌∙◌, refl, subst}
use mathlib.Core.List.{List, [], ◌∷◌, ◌++◌, map, map-append}
use Prim.Native.Nat.{ℕ, ◌*◌, suc, ◌+◌, zero, ◌<◌, ◌^◌, ◌≤◌}
use native.Mathlib.Nat.{zero-mul, suc-mul, not-suc-le-zero, le_of_suc-le-suc, le_trans}
use native.Mathlib.Nat.{le-mul_of_pos_right}
use lib.ListN.{take, drop, length, get_or, length-map, set, length-take, length-drop}
use native.Mathlib.Omega.{arith}
use lib.Seq.{drop-drop, get_or-drop}
use mathlib.Core.Bool.{Bool, false, not, ◌&&◌, true, ◌||◌, cond}
use lib.Pow.{pow_pos}
use borrow.Author.Tests.{lt-leb, ltb-false, le-ltb, not-false, lt-ltb, eq-eqb, ne_eqb, eqb-true}
use borrow.Author.Tests.{eqb-false}
use lib.Dec.{leb, ltb, T, eqb, eqb→eq}
use mathlib.Core.Logic.{◌≢◌, inl, inr}
use Rattle.totals_spec.specs.entries.Columns.{column_of}
use Rattle.totals_spec.proofs.lists.Columns.{column-length, column-cell}
use Rattle.totals_spec.specs.entries.Words.{filled, misnamed, format_by}
use Rattle.totals_spec.specs.Basics.{any}
use Rattle.totals_spec.specs.formats.Format.{Format, valid_format}
use Rattle.totals_spec.specs.sums.Totals.{stray, limit, sum_refusal, Answer, refused, refuse_if}
use Rattle.totals_spec.specs.sums.Totals.{first_index, answered, sum_answer}
use Rattle.totals_spec.specs.formats.Settings.{Settings, valid_settings}
use Rattle.totals_spec.specs.entries.Bytes.{short, Entry, written, entered}
use Rattle.totals_spec.specs.refusals.Places.{StrayAt}
use Rattle.totals_spec.proofs.lists.FilledLists.{filled_next, neither, none-of-parts, filled_at}
use Rattle.totals_spec.proofs.lists.FilledLists.{kept}
use Rattle.totals_spec.proofs.order.Order.{first-zero}
use Rattle.totals_spec.proofs.refusals.RefusedRecords.{Unrefused, answered-number, passed, seven}
use Rattle.totals_spec.proofs.refusals.RefusedRecords.{sum-refusal, sum-place, small-number}
use Rattle.totals_spec.proofs.refusals.RefusedRecords.{answered-whole, no_place, place_at, Small}
use Rattle.totals_spec.proofs.refusals.RefusedRecords.{small-place}
use Rattle.totals_spec.proofs.refusals.FirstIndex.{first-stray}
use Rattle.totals_spec.proofs.entries.AnswerFields.{Fields, answered-fields, sum_fields}
use Rattle.figures_spec.specs.tables.Table.{rows_of, columns_from, Tabled, plain_total}
use Rattle.figures_spec.specs.tables.Table.{table_refusal, table_answer}
use Rattle.figures_spec.specs.tables.Promises.{Column-cells, Table-refused, Table-place}
use Rattle.figures_spec.specs.tables.Promises.{Table-grand, Table-row, Table-column}
use Rattle.figures_spec.specs.tables.Promises.{Table-untouched, Table-entry-refused}
use Rattle.figures_spec.specs.tables.Conditions.{NoRoom}
use Rattle.figures_spec.specs.tables.Entry.{TableEntry, table_entered, table_entry}

-- ---- cells

-- the row at 0, and the row at i behind a first row
row_zero : (columns : ℕ) (cells : List ℕ) → take columns cells ≡ take columns (drop (0 * columns) cells)
row_zero columns cells = ap (λ (k : ℕ). take columns (drop k cells)) (sym (zero-mul columns))

row-suc : (i columns : ℕ) (cells : List ℕ) → take columns (drop (i * columns) (drop columns cells)) ≡ take columns (drop (suc i * columns) cells)
row-suc i columns cells = ap (take columns) (drop-drop (i * columns) columns cells ∙ ap (λ (k : ℕ). drop k cells) place)
  where
    place : columns + i * columns ≡ suc i * columns
    place = omega (arith, suc-mul i columns)

pub rows-length : (n columns : ℕ) (cells : List ℕ) → length (rows_of n columns cells) ≡ n
rows-length zero columns cells = refl
rows-length (suc n) columns cells = ap suc (rows-length n columns (drop columns cells))

-- one row more
pub rows_next : (n columns : ℕ) (cells : List ℕ) → rows_of (suc n) columns cells ≡ rows_of n columns cells ++ (take columns (drop (n * columns) cells) ∷ [])
rows_next zero columns cells = ap (λ (r : List ℕ). r ∷ []) (row_zero columns cells)
rows_next (suc n) columns cells =
    ap (λ (s : List (List ℕ)). take columns cells ∷ s)
    (rows_next n columns (drop columns cells)
    ∙ ap (λ (r : List ℕ). rows_of n columns (drop columns cells) ++ (r ∷ [])) (row-suc n columns cells))

row_at : (g : List ℕ → ℕ) (n columns : ℕ) (cells : List ℕ) (i : ℕ) → i < n
    → get_or (map g (rows_of n columns cells)) i 0 ≡ g (take columns (drop (i * columns) cells))
row_at g zero columns cells i h = absurd (not-suc-le-zero h)
row_at g (suc n) columns cells zero h = ap g (row_zero columns cells)
row_at g (suc n) columns cells (suc i) h = row_at g n columns (drop columns cells) i (le_of_suc-le-suc h) ∙ ap g (row-suc i columns cells)

pub column-cells : Column-cells
column-cells rows columns cells j = (column-length rows columns cells j, column-cell rows columns cells j)

pub columns-length : (n columns : ℕ) (cells : List ℕ) (j k : ℕ) → length (columns_from n columns cells j k) ≡ k
columns-length n columns cells j zero = refl
columns-length n columns cells j (suc k) = ap suc (columns-length n columns cells (suc j) k)

-- one column more
pub columns-next : (n columns : ℕ) (cells : List ℕ) (j k : ℕ)
    → columns_from n columns cells j (suc k) ≡ columns_from n columns cells j k ++ (column_of n columns cells (j + k) ∷ [])
columns-next n columns cells j zero = ap (λ (i : ℕ). column_of n columns cells i ∷ []) (omega arith)
columns-next n columns cells j (suc k) =
    ap (λ (s : List (List ℕ)). column_of n columns cells j ∷ s)
    (columns-next n columns cells (suc j) k
    ∙ ap (λ (i : ℕ). columns_from n columns cells (suc j) k ++ (column_of n columns cells i ∷ [])) place)
  where
    place : suc j + k ≡ j + suc k
    place = omega arith

column-at : (g : List ℕ → ℕ) (n columns : ℕ) (cells : List ℕ) (j k i : ℕ) → i < k
    → get_or (map g (columns_from n columns cells j k)) i 0 ≡ g (column_of n columns cells (j + i))
column-at g n columns cells j zero i h = absurd (not-suc-le-zero h)
column-at g n columns cells j (suc k) zero h = ap (λ (i : ℕ). g (column_of n columns cells i)) (omega arith)
column-at g n columns cells j (suc k) (suc i) h =
    column-at g n columns cells (suc j) k i (le_of_suc-le-suc h) ∙ ap (λ (m : ℕ). g (column_of n columns cells m)) place
  where
    place : suc j + i ≡ j + suc i
    place = omega arith

module _ (g : List ℕ → ℕ) (n columns : ℕ) (cells : List ℕ) where
  pub row-totals-length : length (map g (rows_of n columns cells)) ≡ n
  row-totals-length = length-map (rows_of n columns cells) g ∙ rows-length n columns cells

  pub column-totals-length : (j k : ℕ) → length (map g (columns_from n columns cells j k)) ≡ k
  column-totals-length j k = length-map (columns_from n columns cells j k) g ∙ columns-length n columns cells j k

-- the totals g of the first n rows, and one more; of the first n columns
module _ (g : List ℕ → ℕ) (columns : ℕ) (cells now old : List ℕ) (n : ℕ) (room : n < length old) where
  pub rows-filled : now ≡ filled (map g (rows_of n columns cells)) old
      → set now n (g (take columns (drop (n * columns) cells))) ≡ filled (map g (rows_of (suc n) columns cells)) old
  rows-filled e =
      let row = take columns (drop (n * columns) cells) in
      filled_next now (map g (rows_of n columns cells)) old (g row) n e (row-totals-length g n columns cells) room
      ∙ ap (λ (s : List ℕ). filled s old) (sym (ap (map g) (rows_next n columns cells) ∙ map-append g (rows_of n columns cells) (row ∷ [])))

  pub columns-filled : (rows : ℕ) → now ≡ filled (map g (columns_from rows columns cells 0 n)) old
      → set now n (g (column_of rows columns cells n)) ≡ filled (map g (columns_from rows columns cells 0 (suc n))) old
  columns-filled rows e =
      let first = columns_from rows columns cells 0 n in
      filled_next now (map g first) old (g (column_of rows columns cells n)) n e (column-totals-length g rows columns cells 0 n) room
      ∙ ap (λ (s : List ℕ). filled s old) (sym (ap (map g) next ∙ map-append g first (column_of rows columns cells n ∷ [])))
    where
      next : columns_from rows columns cells 0 (suc n) ≡ columns_from rows columns cells 0 n ++ (column_of rows columns cells n ∷ [])
      next = columns-next rows columns cells 0 n
          ∙ ap (λ (i : ℕ). columns_from rows columns cells 0 n ++ (column_of rows columns cells i ∷ [])) (omega arith)

module _ (t : ℕ → Bool) where
  none-at : (l : List ℕ) (i : ℕ) → t 0 ≡ false → any t l ≡ false → t (get_or l i 0) ≡ false
  none-at [] i z e = z
  none-at (x ∷ l) zero z e = (neither (t x) (any t l) e).0
  none-at (x ∷ l) (suc i) z e = none-at l i z (neither (t x) (any t l) e).1

  none-of-column : (n columns : ℕ) (cells : List ℕ) (j : ℕ) → t 0 ≡ false → any t cells ≡ false → any t (column_of n columns cells j) ≡ false
  none-of-column zero columns cells j z e = refl
  none-of-column (suc n) columns cells j z e =
      rw (none-at cells j z e, none-of-column n columns (drop columns cells) j z (none-of-parts t columns cells e).1)

no-stray-zero : (f : Format) → stray f 0 ≡ false
no-stray-zero f = lt-leb (2 ^ f.W) 0 (pow_pos f.W)

part-accepted : (f : Format) (c : Settings) (u : ℕ) (l part : List ℕ) → sum_refusal f c u l ≡ 0 → length part ≤ length l
    → (any (stray f) l ≡ false → any (stray f) part ≡ false) → sum_refusal f c u part ≡ 0
unfolding sum_refusal
part-accepted f c u l part e short none =
    let a = first-zero (not (valid_format f)) 2 _ e in
    let b = first-zero (not (valid_settings f c && leb u 2)) 3 _ a.1 in
    let g = first-zero (ltb limit (length l)) 5 _ b.1 in
    let d = first-zero (any (stray f) l) 6 _ g.1 in
    rw (a.0, b.0, le-ltb limit (length part) (le_trans short (ltb-false limit (length l) g.0)), none d.0)

module _ (f : Format) (c : Settings) (u : ℕ) (cells : List ℕ) (e : sum_refusal f c u cells ≡ 0) where
  -- any cells that follow one another
  pub row-accepted : (n from : ℕ) → sum_refusal f c u (take n (drop from cells)) ≡ 0
  row-accepted n from =
      part-accepted f c u cells (take n (drop from cells)) e (omega (arith, length-take n (drop from cells), length-drop from cells))
      (λ none. (none-of-parts (stray f) n (drop from cells) (none-of-parts (stray f) from cells none).1).0)

  pub column-accepted : (rows columns j : ℕ) → rows * columns ≡ length cells → j < columns → sum_refusal f c u (column_of rows columns cells j) ≡ 0
  column-accepted rows columns j shape h =
      part-accepted f c u cells (column_of rows columns cells j) e few (none-of-column (stray f) rows columns cells j (no-stray-zero f))
    where
      few : length (column_of rows columns cells j) ≤ length cells
      few = omega (arith, column-length rows columns cells j, shape, le-mul_of_pos_right {m = columns} rows (omega (arith, h)))

-- ---- the number of a table, as a program tests it: the sum's tests 3, 4 and 6, then 9, 10, and
-- the sum itself

-- the tests that do not look at the cells are passed
pub record Sound (f : Format) (c : Settings) (cells : List ℕ) : Type 0 where
  pub format : valid_format f ≡ true
  pub settings : valid_settings f c ≡ true
  pub few : length cells ≤ limit

-- the shape is right, and both lists are long enough
pub record Roomy (rows columns : ℕ) (cells old other : List ℕ) : Type 0 where
  pub shape : rows * columns ≡ length cells
  pub for-rows : rows ≤ length old
  pub for-columns : columns ≤ length other

-- the record of all cells and the two lists that a call leaves
abbrev pub leaves : Answer → List ℕ → List ℕ → Tabled
leaves a old other = record { grand = a; row_totals = old; column_totals = other }

whole : (t : Tabled) {a : Answer} {old other : List ℕ} → t.grand ≡ a → t.row_totals ≡ old → t.column_totals ≡ other → t ≡ leaves a old other
whole t a b c = λ i. record { grand = a i; row_totals = b i; column_totals = c i }

module _ (f : Format) (c : Settings) (cells : List ℕ) where
  abbrev pub first_tests : ℕ
  first_tests =
      refuse_if (not (valid_format f)) 3
      (refuse_if (not (valid_settings f c && leb 0 2)) 4
      (refuse_if (ltb limit (length cells)) 6 0))

  pub sound : first_tests ≡ 0 → Sound f c cells
  sound e =
      let a = first-zero (not (valid_format f)) 2 _ e in
      let b = first-zero (not (valid_settings f c && leb 0 2)) 3 _ a.1 in
      let g = first-zero (ltb limit (length cells)) 5 _ b.1 in
      record {
        format = not-false (valid_format f) a.0;
        settings = both (valid_settings f c) (not-false (valid_settings f c && leb 0 2) b.0);
        few = ltb-false limit (length cells) g.0;
      }
    where
      both : (x : Bool) → (x && true) ≡ true → x ≡ true
      both true e = refl
      both false e = e

  module _ (rows columns : ℕ) (old other : List ℕ) where
    abbrev table : Tabled
    table = table_answer f c rows columns cells old other

    abbrev number : ℕ
    number = table_refusal f c rows columns cells old other

    pub lists-left : number ≢ 0 → (table.row_totals ≡ old) × (table.column_totals ≡ other)
    unfolding table_answer
    lists-left h = rw (ne_eqb number 0 h) (refl, refl)

    abbrev row_totals : List ℕ
    row_totals = map (plain_total f c) (rows_of rows columns cells)

    abbrev column_totals : List ℕ
    column_totals = map (plain_total f c) (columns_from rows columns cells 0 columns)

    pub lists_filled : number ≡ 0 → (table.row_totals ≡ filled row_totals old) × (table.column_totals ≡ filled column_totals other)
    unfolding table_answer
    lists_filled e = rw e (refl, refl)

    left_by : (n : ℕ) → number ≡ n → n ≢ 0 → n ≢ 7 → table ≡ leaves (refused n 0) old other
    unfolding table_answer
    left_by n e h k = rw (e, ne_eqb n 0 h, ne_eqb n 7 k)

    -- 3, 4, 6
    pub table-stopped : (n : ℕ) → n ≡ first_tests → n ≢ 0 → table ≡ leaves (refused n 0) old other
    unfolding table_refusal
    table-stopped n e h =
        let s = go _ (valid_format f) (valid_settings f c) (ltb limit (length cells)) (sym e) in
        left_by n s.0 h s.1
      where
        go : (rest : ℕ) (a b d : Bool) → refuse_if (not a) 3 (refuse_if (not (b && true)) 4 (refuse_if d 6 0)) ≡ n
            → (refuse_if (not a) 3 (refuse_if (not b) 4 (refuse_if d 6 rest)) ≡ n) × (n ≢ 7)
        go rest true true true e = (e, λ q. omega (arith, q, e))
        go rest true true false e = absurd (h (sym e))
        go rest true false d e = (e, λ q. omega (arith, q, e))
        go rest false b d e = (e, λ q. omega (arith, q, e))

    module _ (s : Sound f c cells) where
      few : ltb limit (length cells) ≡ false
      few = le-ltb limit (length cells) s.few

      -- 9
      pub shape-refused : rows * columns ≢ length cells → table ≡ leaves (refused 9 0) old other
      unfolding table_refusal
      shape-refused h =
          left_by 9 (rw (s.format, s.settings, few, ne_eqb (rows * columns) (length cells) h)) (λ q. omega (arith, q)) (λ q. omega (arith, q))

      -- 10
      pub room-refused : rows * columns ≡ length cells → NoRoom rows columns old other → table ≡ leaves (refused 10 0) old other
      unfolding table_refusal
      room-refused h k =
          left_by 10 (rw (s.format, s.settings, few, eq-eqb (rows * columns) (length cells) h, found k)) (λ q. omega (arith, q)) (λ q. omega (arith, q))
        where
          or-true : (b : Bool) → (b || true) ≡ true
          or-true true = refl
          or-true false = refl

          found : NoRoom rows columns old other → (ltb (length old) rows || ltb (length other) columns) ≡ true
          found (inl k) = rw (lt-ltb (length old) rows k)
          found (inr k) = rw (lt-ltb (length other) columns k) (or-true (ltb (length old) rows))

      -- 7 or none: those of the plain sum of all cells
      module _ (room : Roomy rows columns cells old other) where
        pub table-by-sum : (table.grand ≡ sum_answer f c 0 cells) × (number ≡ sum_refusal f c 0 cells)
        unfolding table_answer table_refusal sum_answer sum_refusal
        table-by-sum =
            rw (
              s.format,
              s.settings,
              few,
              eq-eqb (rows * columns) (length cells) room.shape,
              le-ltb (length old) rows room.for-rows,
              le-ltb (length other) columns room.for-columns,
            ) (go (any (stray f) cells) _, refl)
          where
            go : (b : Bool) (a : Answer)
                → answered (refuse_if b 7 0) (first_index (stray f) cells) (answered (refuse_if b 7 0) (first_index (stray f) cells) a)
                ≡ answered (refuse_if b 7 0) (first_index (stray f) cells) a
            go true a = refl
            go false a = refl

        pub table-strayed : sum_refusal f c 0 cells ≢ 0 → table ≡ leaves (sum_answer f c 0 cells) old other
        table-strayed h =
            let l = lists-left (λ e. h (sym table-by-sum.1 ∙ e)) in
            whole table table-by-sum.0 l.0 l.1

        pub table-summed : sum_refusal f c 0 cells ≡ 0 → table ≡ leaves (sum_answer f c 0 cells) (filled row_totals old) (filled column_totals other)
        table-summed h =
            let l = lists_filled (table-by-sum.1 ∙ h) in
            whole table table-by-sum.0 l.0 l.1

-- ---- THE PROMISES

module _ (f : Format) (c : Settings) (rows columns : ℕ) (cells old other : List ℕ) where
  pub table-accepts : table_refusal f c rows columns cells old other ≡ 0 → Sound f c cells × Roomy rows columns cells old other
  unfolding table_refusal
  table-accepts e =
      let a = first-zero (not (valid_format f)) 2 _ e in
      let b = first-zero (not (valid_settings f c)) 3 _ a.1 in
      let g = first-zero (ltb limit (length cells)) 5 _ b.1 in
      let d = first-zero (not (eqb (rows * columns) (length cells))) 8 _ g.1 in
      let h = neither (ltb (length old) rows) (ltb (length other) columns) (first-zero _ 9 _ d.1).0 in (
        record {
          format = not-false (valid_format f) a.0;
          settings = not-false (valid_settings f c) b.0;
          few = ltb-false limit (length cells) g.0;
        },
        record {
          shape = eqb-true (rows * columns) (length cells) (not-false _ d.0);
          for-rows = ltb-false (length old) rows h.0;
          for-columns = ltb-false (length other) columns h.1;
        },
      )

  by-sum : table_refusal f c rows columns cells old other ≡ 0
      → ((table_answer f c rows columns cells old other).grand ≡ sum_answer f c 0 cells)
      × (table_refusal f c rows columns cells old other ≡ sum_refusal f c 0 cells)
  by-sum e = let (s, room) = table-accepts e in table-by-sum f c cells rows columns old other s room

  accepted-sum : table_refusal f c rows columns cells old other ≡ 0 → sum_refusal f c 0 cells ≡ 0
  accepted-sum e = sym (by-sum e).1 ∙ e

  unrefused : table_refusal f c rows columns cells old other ≡ 0 → Unrefused (sum_answer f c 0 cells)
  unrefused e = record {
    number = sum-refusal f c 0 cells ∙ accepted-sum e;
    place = (sum-place f c 0 cells).0 (λ q. omega (arith, q, accepted-sum e));
  }

  pub table-number : (table_answer f c rows columns cells old other).grand.refusal ≡ table_refusal f c rows columns cells old other
  unfolding table_answer
  table-number = answered-number (table_refusal f c rows columns cells old other) (first_index (stray f) cells) (sum_answer f c 0 cells) unrefused

  number_small : table_refusal f c rows columns cells old other < 256
  unfolding table_refusal
  number_small =
      small-number (not (valid_format f)) 3 _ (omega arith)
      (small-number (not (valid_settings f c)) 4 _ (omega arith)
      (small-number (ltb limit (length cells)) 6 _ (omega arith)
      (small-number (not (eqb (rows * columns) (length cells))) 9 _ (omega arith)
      (small-number (ltb (length old) rows || ltb (length other) columns) 10 _ (omega arith)
      (small-number (any (stray f) cells) 7 _ (omega arith) (omega arith))))))

  by-stray : table_refusal f c rows columns cells old other ≡ 7 → (length cells ≤ limit) × T (any (stray f) cells)
  unfolding table_refusal
  by-stray e =
      let a = passed (not (valid_format f)) 3 _ (λ q. omega (arith, q)) e in
      let b = passed (not (valid_settings f c)) 4 _ (λ q. omega (arith, q)) a.1 in
      let g = passed (ltb limit (length cells)) 6 _ (λ q. omega (arith, q)) b.1 in
      let d = passed (not (eqb (rows * columns) (length cells))) 9 _ (λ q. omega (arith, q)) g.1 in
      let h = passed (ltb (length old) rows || ltb (length other) columns) 10 _ (λ q. omega (arith, q)) d.1 in
      (ltb-false limit (length cells) g.0, seven (any (stray f) cells) h.1)

pub table-refused : Table-refused
unfolding table_answer
table-refused f c rows columns cells old other h = (
  answered-whole (table_refusal f c rows columns cells old other) (first_index (stray f) cells) (sum_answer f c 0 cells) h,
  (lists-left f c cells rows columns old other h).0,
  (lists-left f c cells rows columns old other h).1,
)

pub table-place : Table-place
unfolding table_answer
table-place f c rows columns cells old other =
    let n = table_refusal f c rows columns cells old other in
    let at = first_index (stray f) cells in
    let sum = sum_answer f c 0 cells in
    let is = table-number f c rows columns cells old other in (
      (λ h. no_place n at sum (unrefused f c rows columns cells old other) (λ e. h (is ∙ e))),
      λ h.
          let e = sym is ∙ h in
          subst (StrayAt f cells) (sym (place_at n at sum e)) (first-stray f cells (by-stray f c rows columns cells old other e).1),
    )

-- the entry's number holds both
pub table-small : (f : Format) (c : Settings) (rows columns : ℕ) (cells old other : List ℕ) → Small (table_answer f c rows columns cells old other).grand
table-small f c rows columns cells old other =
    let r = (table_answer f c rows columns cells old other).grand in
    let is = table-number f c rows columns cells old other in
    let p = table-place f c rows columns cells old other in
    record {
      number = subst (λ (n : ℕ). n < 256) (sym is) (number_small f c rows columns cells old other);
      place = small-place r.refusal r.place p.0 (λ e. le_trans (p.1 e).inside (by-stray f c rows columns cells old other (sym is ∙ e)).0);
    }

-- and each of its fields has the byte that it is written to
pub table-fields : (f : Format) (c : Settings) (rows columns : ℕ) (cells old other : List ℕ) → Fields (table_answer f c rows columns cells old other).grand
unfolding table_answer
table-fields f c rows columns cells old other =
    answered-fields (table_refusal f c rows columns cells old other) (first_index (stray f) cells) (sum_answer f c 0 cells) (sum_fields f c 0 cells)

pub table-grand : Table-grand
table-grand f c rows columns cells old other e = (accepted-sum f c rows columns cells old other e, (by-sum f c rows columns cells old other e).0)

pub table-row : Table-row
table-row f c rows columns cells old other e i h = (
  row-accepted f c 0 cells (accepted-sum f c rows columns cells old other e) columns (i * columns),
  ap (λ (l : List ℕ). get_or l i 0) (lists_filled f c cells rows columns old other e).0
      ∙ filled_at (map (plain_total f c) (rows_of rows columns cells)) old rows i (row-totals-length (plain_total f c) rows columns cells) h
      ∙ row_at (plain_total f c) rows columns cells i h,
)

pub table-column : Table-column
table-column f c rows columns cells old other e j h = (
  column-accepted f c 0 cells (accepted-sum f c rows columns cells old other e) rows columns j (table-accepts f c rows columns cells old other e).1.shape h,
  ap (λ (l : List ℕ). get_or l j 0) (lists_filled f c cells rows columns old other e).1
      ∙ filled_at (map (plain_total f c) (columns_from rows columns cells 0 columns)) other columns j
      (column-totals-length (plain_total f c) rows columns cells 0 columns) h
      ∙ column-at (plain_total f c) rows columns cells 0 columns j h
      ∙ ap (λ (k : ℕ). plain_total f c (column_of rows columns cells k)) (omega arith),
)

pub table-untouched : Table-untouched
unfolding table_answer
table-untouched f c rows columns cells old other =
    let n = table_refusal f c rows columns cells old other in
    let room : T (eqb n 0) → Roomy rows columns cells old other = λ t. (table-accepts f c rows columns cells old other (eqb→eq n 0 t)).1 in
    let a = kept (eqb n 0) (map (plain_total f c) (rows_of rows columns cells)) old rows
    (row-totals-length (plain_total f c) rows columns cells) (λ t. (room t).for-rows) in
    let b = kept (eqb n 0) (map (plain_total f c) (columns_from rows columns cells 0 columns)) other columns
    (column-totals-length (plain_total f c) rows columns cells 0 columns) (λ t. (room t).for-columns) in
    (a.0, a.1, b.0, b.1)

-- ---- the entry, by its two tests and the table

abbrev pub table_tested : (a b : Bool) → Tabled → (old other buffer : List ℕ) → TableEntry
table_tested a b t old other buffer =
    cond a (record { code = 2; row_totals = old; column_totals = other; buffer = buffer })
    (cond b (record { code = 3; row_totals = old; column_totals = other; buffer = buffer })
    (table_entered t buffer))

entry-left : (a b : Bool) (t : Tabled) (old other buffer : List ℕ)
    → (t.grand.refusal ≢ 0 → (t.row_totals ≡ old) × (t.column_totals ≡ other))
    → let e = table_tested a b t old other buffer in
    e.code ≢ 0 → (e.row_totals ≡ old) × (e.column_totals ≡ other) × (e.buffer ≡ buffer)
unfolding entered
entry-left true b t old other buffer l h = (refl, refl, refl)
entry-left false true t old other buffer l h = (refl, refl, refl)
entry-left false false t old other buffer l h = go (eqb r 0) refl h
  where
    r : ℕ
    r = t.grand.refusal

    go : (b : Bool) → eqb r 0 ≡ b
        → let e = cond {A = Entry} b (record { code = 0; buffer = written t.grand buffer }) (record { code = r + 256 * t.grand.place; buffer = buffer }) in
        e.code ≢ 0 → (t.row_totals ≡ old) × (t.column_totals ≡ other) × (e.buffer ≡ buffer)
    go true z h = absurd (h refl)
    go false z h = let k = l (eqb-false r 0 z) in (k.0, k.1, refl)

pub table-entry-refused : Table-entry-refused
unfolding table_entry
table-entry-refused k e w named b c rows columns cells old other buffer h =
    let f = format_by k e w named b in
    entry-left (short buffer) (misnamed named b) (table_answer f c rows columns cells old other) old other buffer
    (λ q. lists-left f c cells rows columns old other (λ z. q (table-number f c rows columns cells old other ∙ z))) h
