-- Three words laid one behind the other, and what a byte entry leaves behind: refusal 1, refusal 2, else what its record says.
use mathlib.Core.Path.{◌≡◌, refl, sym, ap, ◌∙◌}
use mathlib.Core.Logic.{◌≢◌}
use mathlib.Core.Bool.{Bool, true, false, ◌||◌, cond}
use mathlib.Core.List.{List, ◌++◌, append_assoc}
use Prim.Native.Nat.{ℕ, ◌+◌, ◌*◌, ◌<◌, ◌≤◌}
use native.Mathlib.Omega.{arith}
use lib.Dec.{ltb}
use lib.ListN.{length, drop}
use lib.Seq.{drop-drop}
use borrow.Author.Tests.{eq-eqb, ne_eqb, le-ltb, ltb-false}
use Rattle.totals_spec.specs.formats.Format.{Format}
use Rattle.totals_spec.specs.formats.Settings.{Settings}
use Rattle.totals_spec.specs.sums.Totals.{Answer, refuse_if, sum_answer, dot_answer}
use Rattle.totals_spec.specs.entries.Bytes.{to_bytes, values_in, Entry, uneven, written, entered, sum_entry, dot_entry}
use Rattle.totals_spec.proofs.entries.AnswerFields.{Fields, two-numbers, sum_fields, dot-fields}
use Rattle.totals_spec.proofs.order.Order.{first-zero}
use Rattle.totals_spec.proofs.refusals.RefusedRecords.{Small, sum-small, dot-small}
use Rattle.values.specs.Laid.{laid}
use Rattle.totals.specs.declared.refusal.Refusal.{Refusal}
use Rattle.totals.specs.Entered.{Enters, Fits}
use Rattle.totals.specs.Refusal.{number_of, length_numbers}
use Rattle.totals.proofs.Refusals.{number-some}

three-words : (old : List ℕ) (r f p : ℕ) → laid (laid (laid old 0 r) 8 f) 16 p ≡ to_bytes 8 r ++ (to_bytes 8 f ++ (to_bytes 8 p ++ drop 24 old))
three-words old r f p =
    ap (λ (t : List ℕ). to_bytes 8 r ++ (to_bytes 8 f ++ (to_bytes 8 p ++ t))) (drop-drop 8 8 (drop 8 old) ∙ drop-drop 16 8 old)

-- the word of the flags and the side
pub flags-side : (a : Answer) (rest : List ℕ) → a.flags < 256
    → to_bytes 8 (a.flags + 65536 * a.side) ++ rest ≡ to_bytes 2 a.flags ++ (to_bytes 6 a.side ++ rest)
flags-side a rest h =
    ap (λ (l : List ℕ). l ++ rest) (two-numbers 2 6 a.flags a.side (omega (arith, h))) ∙ append_assoc (to_bytes 2 a.flags) (to_bytes 6 a.side) rest

pub enters-written : (a : Answer) (old b₁ b₂ b₃ : List ℕ) → a.refusal ≡ 0 → a.flags < 256 → b₁ ≡ laid old 0 a.result
    → b₂ ≡ laid b₁ 8 (a.flags + 65536 * a.side) → b₃ ≡ laid b₂ 16 a.passes → Enters (entered a old) 0 b₃
unfolding entered written
enters-written a old b₁ b₂ b₃ z h e₁ e₂ e₃ =
    rw (eq-eqb a.refusal 0 z)
    (record {
      code_is = refl;
      buffer-is =
          e₃ ∙ ap (λ (l : List ℕ). laid l 16 a.passes) (e₂ ∙ ap (λ (l : List ℕ). laid l 8 (a.flags + 65536 * a.side)) e₁)
          ∙ three-words old a.result (a.flags + 65536 * a.side) a.passes
          ∙ ap (λ (l : List ℕ). to_bytes 8 a.result ++ l) (flags-side a (to_bytes 8 a.passes ++ drop 24 old) h);
    })

pub enters-refused : (a : Answer) (old : List ℕ) → a.refusal ≢ 0 → Enters (entered a old) (a.refusal + 256 * a.place) old
unfolding entered
enters-refused a old h = rw (ne_eqb a.refusal 0 h) (record { code_is = refl; buffer-is = refl })

-- a record fits the buffer
pub fits : {a : Answer} → Small a → Fields a → (old : List ℕ) → 24 ≤ length old → Fits a old
fits small fields old room = record { room = room; number = small.number; place = small.place; flags = fields.flags; side = fields.side }

-- ---- refusals 1 and 2, by the tests of the lengths

module _ (cut : Bool) (n m : ℕ) where
  pub let_in : 0 ≡ length_numbers cut n m → (cut ≡ false) × (m ≤ n)
  let_in h = let f = first-zero cut 0 _ (sym h) in (f.0, ltb-false n m (first-zero (ltb n m) 1 0 f.1).0)

  module _ (rest : Entry) (old : List ℕ) where
    abbrev pub tested : Entry
    tested = cond cut (record { code = 1; buffer = old }) (cond (ltb n m) (record { code = 2; buffer = old }) rest)

    pub turned-away : (e : Refusal) → number_of e ≡ length_numbers cut n m → Enters tested (number_of e) old
    turned-away e = go cut (ltb n m)
      where
        go : (a b : Bool) → number_of e ≡ refuse_if a 1 (refuse_if b 2 0)
            → Enters (cond a (record { code = 1; buffer = old }) (cond b (record { code = 2; buffer = old }) rest)) (number_of e) old
        go true b h = record { code_is = h; buffer-is = refl }
        go false true h = record { code_is = h; buffer-is = refl }
        go false false h = absurd (number-some e h)

    pub let-through : 0 ≡ length_numbers cut n m → (k : ℕ) (b : List ℕ) → Enters rest k b → Enters tested k b
    let-through h k b r = let t = let_in h in rw (t.0, le-ltb n m t.1) r

module _ (f : Format) (c : Settings) (u : ℕ) (bytes old : List ℕ) where
  pub sum-turned : (e : Refusal) → number_of e ≡ length_numbers (uneven bytes) (length old) 24 → Enters (sum_entry f c u bytes old) (number_of e) old
  unfolding sum_entry
  sum-turned = turned-away (uneven bytes) (length old) 24 _ old

  module _ (passed : 0 ≡ length_numbers (uneven bytes) (length old) 24) {a : Answer} (is : a ≡ sum_answer f c u (values_in bytes)) where
    pub sum_fits : Fits a old
    sum_fits = rw is (fits (sum-small f c u (values_in bytes)) (sum_fields f c u (values_in bytes)) old (let_in (uneven bytes) (length old) 24 passed).1)

    pub sum-enters : (n : ℕ) (b : List ℕ) → Enters (entered a old) n b → Enters (sum_entry f c u bytes old) n b
    unfolding sum_entry
    sum-enters n b r = let-through (uneven bytes) (length old) 24 _ old passed n b (rw is at r)

module _ (f : Format) (c : Settings) (left right old : List ℕ) where
  pub dot-turned : (e : Refusal) → number_of e ≡ length_numbers (uneven left || uneven right) (length old) 24
      → Enters (dot_entry f c left right old) (number_of e) old
  unfolding dot_entry
  dot-turned = turned-away (uneven left || uneven right) (length old) 24 _ old

  module _ (passed : 0 ≡ length_numbers (uneven left || uneven right) (length old) 24)
      {a : Answer} (is : a ≡ dot_answer f c (values_in left) (values_in right)) where
    pub dot_fits : Fits a old
    dot_fits =
        let room = (let_in (uneven left || uneven right) (length old) 24 passed).1 in
        rw is (fits (dot-small f c (values_in left) (values_in right)) (dot-fields f c (values_in left) (values_in right)) old room)

    pub dot-enters : (n : ℕ) (b : List ℕ) → Enters (entered a old) n b → Enters (dot_entry f c left right old) n b
    unfolding dot_entry
    dot-enters n b r = let-through (uneven left || uneven right) (length old) 24 _ old passed n b (rw is at r)
