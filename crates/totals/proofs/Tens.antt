-- Kind 4: its refusals by what sums and dots refuse alike, an unsupported element, and what its entries leave behind.
use mathlib.Core.Path.{◌≡◌, refl, sym, ap, ◌∙◌, subst₂}
use mathlib.Core.Logic.{◌≢◌}
use mathlib.Core.Bool.{Bool, true, false, not, ◌||◌}
use mathlib.Core.List.{List, ◌++◌}
use Prim.Native.Nat.{ℕ, ◌+◌, ◌*◌, ◌^◌, ◌<◌, ◌≤◌}
use lib.Dec.{eqb, leb, ltb}
use lib.ListN.{length, drop}
use lib.Seq.{drop-drop}
use borrow.Author.Tests.{eq-eqb, ne_eqb, le-leb, lt-leb}
use Rattle.totals_spec.specs.Basics.{any}
use Rattle.totals_spec.specs.formats.KindValues.{Alone}
use Rattle.totals_spec.specs.formats.Decode.{Unpacked}
use Rattle.totals_spec.specs.formats.Format.{Format, kind_of}
use Rattle.totals_spec.specs.formats.Settings.{Settings, Summand, summand_of, valid_settings}
use Rattle.totals_spec.specs.sums.Nan.{default_nan_of}
use Rattle.totals_spec.specs.sums.Totals.{Answer, limit, refuse_if, special, pairs}
use Rattle.totals_spec.specs.entries.Bytes.{to_bytes, sum_entry, dot_entry}
use Rattle.totals_spec.specs.ten_bytes.TwoWords.{joined}
use Rattle.totals_spec.specs.ten_bytes.Extended.{extended, kind4, valid_extended, unsupported, subnormal_extended, with_spread, tens_in, both_of}
use Rattle.totals_spec.specs.ten_bytes.Extended.{extended_item, extended_pair}
use Rattle.totals_spec.specs.ten_bytes.Extended.{extended_sum, extended_sum_refusal, extended_sum_answer, extended_dot, extended_dot_refusal, extended_dot_answer}
use Rattle.totals_spec.specs.ten_bytes.Extended.{uneven_tens, extended_written, extended_entered, extended_sum_entry, extended_dot_entry, sum_call, dot_call}
use Rattle.totals_spec.proofs.order.Order.{first-zero}
use Rattle.totals_spec.proofs.ten_bytes.Totals.{extended-sum-refusal, extended-dot-refusal, extended-fits}
use Rattle.totals_spec.proofs.ten_bytes.Calls.{sum-extended, dot-extended, other-kinds}
use Rattle.totals_spec.proofs.ten_bytes.Terms.{any-both}
use Rattle.totals_spec.proofs.ten_bytes.TwoWords.{four-words, unsupported-record, supported-record}
use Rattle.totals_spec.proofs.formats.Encodable.{default-encodes}
use Rattle.format.specs.Fits.{Encodes}
use Rattle.values.specs.Laid.{laid}
use Rattle.reduction.specs.Encodings.{of_tens, signaling_in}
use Rattle.reduction.specs.declared.total.Wide.{Wide}
use Rattle.reduction.specs.Answered.{wide, Known, answer_as, given_as}
use Rattle.totals.specs.declared.refusal.Refusal.{Refusal}
use Rattle.totals.specs.Refusal.{number_of, first_numbers, few_number, length_numbers}
use Rattle.totals.specs.Walked.{sum_in, dot_in}
use Rattle.totals.specs.Entered.{Enters, FitsTens}
use Rattle.totals.proofs.Refusals.{number-some, first-told, and-true, row-summand, row-few, row-unlike, row-alike}
use Rattle.totals.proofs.Written.{let_in, turned-away, let-through}

-- ---- refusals

module _ (f : Format) (c : Settings) where
  pub sum_first : (e : Refusal) → number_of e ≡ first_numbers (valid_extended f) extended c → (u : ℕ) (l : List ℕ) → number_of e ≡ extended_sum_refusal f c u l
  unfolding extended_sum_refusal
  sum_first e h u l = first-told (valid_extended f) (valid_settings extended c) (number_of e) (number-some e) h (leb u 2) _

  pub dot-first : (e : Refusal) → number_of e ≡ first_numbers (valid_extended f) extended c → (x y : List ℕ) → number_of e ≡ extended_dot_refusal f c x y
  unfolding extended_dot_refusal
  dot-first e h x y =
      rw (and-true (valid_settings extended c)) at
      (first-told (valid_extended f) (valid_settings extended c) (number_of e) (number-some e) h true
      (refuse_if (not (eqb (length x) (length y))) 5 (refuse_if (ltb limit (length x)) 6 0)))

  module _ (passed : 0 ≡ first_numbers (valid_extended f) extended c) where
    pub sum-summand : (u : ℕ) (l : List ℕ) → 2 < u → 4 ≡ extended_sum_refusal f c u l
    unfolding extended_sum_refusal
    sum-summand u l h = row-summand (valid_extended f) (valid_settings extended c) passed (leb u 2) (ltb limit (length l)) (lt-leb u 2 h)

    pub sum-few : (u n : ℕ) (l : List ℕ) → length l ≡ n → u ≤ 2 → few_number n ≡ extended_sum_refusal f c u l
    unfolding extended_sum_refusal
    sum-few u n l long h = rw (sym long) (row-few (valid_extended f) (valid_settings extended c) passed (leb u 2) (ltb limit (length l)) (le-leb u 2 h))

    module _ (n m : ℕ) (x y : List ℕ) (left : length x ≡ n) (right : length y ≡ m) where
      pub dot-unlike : eqb n m ≡ false → 5 ≡ extended_dot_refusal f c x y
      unfolding extended_dot_refusal
      dot-unlike h =
          rw (left, right) (row-unlike (valid_extended f) (valid_settings extended c) passed (eqb n m) (ltb limit n) h)

      pub dot-few : eqb n m ≡ true → few_number n ≡ extended_dot_refusal f c x y
      unfolding extended_dot_refusal
      dot-few h = rw (left, right) (row-alike (valid_extended f) (valid_settings extended c) passed (eqb n m) (ltb limit n) h)

  -- what is accepted is so in the one format of kind 4
  pub sum-asked : (u : ℕ) (l : List ℕ) → extended_sum_refusal f c u l ≡ 0 → extended_sum_refusal kind4 c u l ≡ 0
  unfolding extended_sum_refusal valid_extended
  sum-asked u l e = (first-zero (not (valid_extended f)) 2 _ e).1

  sum_told : (u : ℕ) (l : List ℕ) → extended_sum_refusal f c u l ≡ 0 → extended_sum c (summand_of u) l ≡ extended_sum_answer f c u l
  unfolding extended_sum_answer
  sum_told u l e = rw e

  pub dot-asked : (x y : List ℕ) → extended_dot_refusal f c x y ≡ 0 → extended_dot_refusal kind4 c x y ≡ 0
  unfolding extended_dot_refusal valid_extended
  dot-asked x y e = (first-zero (not (valid_extended f)) 2 _ e).1

  dot-told : (x y : List ℕ) → extended_dot_refusal f c x y ≡ 0 → extended_dot c (pairs x y) ≡ extended_dot_answer f c x y
  unfolding extended_dot_answer
  dot-told x y e = rw e

-- ---- the record of an accepted call, by whether an element is unsupported

module _ (c : Settings) where
  pub sum-unsupported : (u : Summand) (l : List ℕ) (sub : Bool) → any unsupported l ≡ true → sub ≡ any subnormal_extended l
      → with_spread (special extended sub (default_nan_of c) true) ≡ extended_sum c u l
  unfolding extended_sum
  sum-unsupported u l sub e s = rw s (sym (unsupported-record c _ _ _ _ e))

  pub sum-supported : (u : Summand) (l : List ℕ) → any unsupported l ≡ false → with_spread (sum_in of_tens c u l) ≡ extended_sum c u l
  unfolding extended_sum extended_item
  sum-supported u l e = sym (supported-record c _ _ _ _ e)

  pub dot-unsupported : (l : List (ℕ × ℕ)) (sub : Bool) → any unsupported (both_of l) ≡ true
      → sub ≡ any (λ x. subnormal_extended x.0 || subnormal_extended x.1) l
      → with_spread (special extended sub (default_nan_of c) true) ≡ extended_dot c l
  unfolding extended_dot
  dot-unsupported l sub e s = rw (s, ← any-both subnormal_extended l) (sym (unsupported-record c _ _ _ _ e))

  pub dot-supported : (l : List (ℕ × ℕ)) → any unsupported (both_of l) ≡ false → with_spread (dot_in of_tens c l) ≡ extended_dot c l
  unfolding extended_dot extended_pair
  dot-supported l e =
      rw (← any-both subnormal_extended l, ← any-both (signaling_in of_tens) l) (sym (supported-record c _ _ _ _ e))

  -- the record of the default NaN, which asks for nothing
  module _ (f : Format) (e : f ≡ extended) (v : Unpacked) (d : v ≡ default_nan_of c) where
    pub special-asks : Known (wide f) f × Encodes f v × Alone (kind_of f.kind) v
    unfolding extended default_nan_of
    special-asks =
        subst₂ (λ (g : Format) (w : Unpacked). Known (wide g) g × Encodes g w × Alone (kind_of g.kind) w) (sym e) (sym d)
        (refl, default-encodes extended c, tt)

    pub special-told : (a : Wide) (sub : Bool) → answer_as (wide f) a ≡ given_as (wide f) (special f sub v true)
        → answer_as true a ≡ with_spread (special extended sub (default_nan_of c) true)
    unfolding extended
    special-told a sub p =
        let p' : answer_as (wide extended) a ≡ given_as (wide extended) (special extended sub (default_nan_of c) true) =
        subst₂ (λ (g : Format) (w : Unpacked). answer_as (wide g) a ≡ given_as (wide g) (special g sub w true)) e d p in
        p'

-- ---- what an entry leaves behind

four-laid : (old : List ℕ) (m h z p : ℕ)
    → laid (laid (laid (laid old 0 m) 8 h) 16 z) 24 p ≡ to_bytes 8 m ++ (to_bytes 8 h ++ (to_bytes 8 z ++ (to_bytes 8 p ++ drop 32 old)))
four-laid old m h z p =
    ap (λ (t : List ℕ). to_bytes 8 m ++ (to_bytes 8 h ++ (to_bytes 8 z ++ (to_bytes 8 p ++ t))))
    (drop-drop 8 8 (drop 8 (drop 8 old)) ∙ drop-drop 16 8 (drop 8 old) ∙ drop-drop 24 8 old)

abbrev second : Answer → ℕ → ℕ
second a h = h + 65536 * a.flags + 16777216 * a.side

pub tens-written : (a : Answer) (old b₁ b₂ b₃ b₄ : List ℕ) (h m : ℕ) → FitsTens a old → a.result ≡ joined h m → h < 65536 → m < 2 ^ 64
    → b₁ ≡ laid old 0 m → b₂ ≡ laid b₁ 8 (second a h) → b₃ ≡ laid b₂ 16 0 → b₄ ≡ laid b₃ 24 a.passes → b₄ ≡ extended_written a old
tens-written a old b₁ b₂ b₃ b₄ h m k e hh hm e₁ e₂ e₃ e₄ =
    e₄
    ∙ ap (λ (l : List ℕ). laid l 24 a.passes)
    (e₃ ∙ ap (λ (l : List ℕ). laid l 16 0) (e₂ ∙ ap (λ (l : List ℕ). laid l 8 (second a h)) e₁))
    ∙ four-laid old m (second a h) 0 a.passes
    ∙ sym (four-words a old h m e hh hm k.flags k.side)

module _ (a : Answer) (old : List ℕ) where
  tens-refused : (k : ℕ) → k ≡ a.refusal → k ≢ 0 → Enters (extended_entered a old) k old
  unfolding extended_entered
  tens-refused k e h = rw (ne_eqb a.refusal 0 (λ z. h (e ∙ z))) (record { code_is = e; buffer-is = refl })

  tens-entered : (b : List ℕ) → a.refusal ≡ 0 → b ≡ extended_written a old → Enters (extended_entered a old) 0 b
  unfolding extended_entered
  tens-entered b z e = rw (eq-eqb a.refusal 0 z) (record { code_is = refl; buffer-is = e })

module _ (f : Format) (c : Settings) (u : ℕ) (bytes old : List ℕ) where
  pub sum-turned : (e : Refusal) → number_of e ≡ length_numbers (uneven_tens bytes) (length old) 32
      → Enters (extended_sum_entry f c u bytes old) (number_of e) old
  unfolding extended_sum_entry
  sum-turned = turned-away (uneven_tens bytes) (length old) 32 _ old

  module _ (passed : 0 ≡ length_numbers (uneven_tens bytes) (length old) 32) where
    abbrev sum_tens : Answer
    sum_tens = extended_sum_answer f c u (tens_in bytes)

    sum-enters : (k : ℕ) (b : List ℕ) → Enters (extended_entered sum_tens old) k b → Enters (extended_sum_entry f c u bytes old) k b
    unfolding extended_sum_entry
    sum-enters = let-through (uneven_tens bytes) (length old) 32 _ old passed

    pub sum-refused : (e : Refusal) → number_of e ≡ extended_sum_refusal f c u (tens_in bytes)
        → Enters (extended_sum_entry f c u bytes old) (number_of e) old
    sum-refused e h =
        sum-enters (number_of e) old
        (tens-refused sum_tens old (number_of e) (h ∙ sym (extended-sum-refusal f c u (tens_in bytes))) (number-some e))

    module _ (z : extended_sum_refusal f c u (tens_in bytes) ≡ 0) {a : Answer} (is : a ≡ extended_sum c (summand_of u) (tens_in bytes)) where
      sum-is : a ≡ sum_tens
      sum-is = is ∙ sum_told f c u (tens_in bytes) z

      pub sum_fits : FitsTens a old
      sum_fits =
          let t = extended-fits.0 f c u (tens_in bytes) in
          rw sum-is (record { room = (let_in (uneven_tens bytes) (length old) 32 passed).1; flags = t.flags; side = t.side })

      pub sum-written : (b : List ℕ) → b ≡ extended_written a old → Enters (extended_sum_entry f c u bytes old) 0 b
      sum-written b e =
          sum-enters 0 b
          (tens-entered sum_tens old b (extended-sum-refusal f c u (tens_in bytes) ∙ z) (e ∙ ap (λ (r : Answer). extended_written r old) sum-is))

module _ (f : Format) (c : Settings) (left right old : List ℕ) where
  pub dot-turned : (e : Refusal) → number_of e ≡ length_numbers (uneven_tens left || uneven_tens right) (length old) 32
      → Enters (extended_dot_entry f c left right old) (number_of e) old
  unfolding extended_dot_entry
  dot-turned = turned-away (uneven_tens left || uneven_tens right) (length old) 32 _ old

  module _ (passed : 0 ≡ length_numbers (uneven_tens left || uneven_tens right) (length old) 32) where
    abbrev dot_tens : Answer
    dot_tens = extended_dot_answer f c (tens_in left) (tens_in right)

    dot-enters : (k : ℕ) (b : List ℕ) → Enters (extended_entered dot_tens old) k b → Enters (extended_dot_entry f c left right old) k b
    unfolding extended_dot_entry
    dot-enters = let-through (uneven_tens left || uneven_tens right) (length old) 32 _ old passed

    pub dot-refused : (e : Refusal) → number_of e ≡ extended_dot_refusal f c (tens_in left) (tens_in right)
        → Enters (extended_dot_entry f c left right old) (number_of e) old
    dot-refused e h =
        dot-enters (number_of e) old
        (tens-refused dot_tens old (number_of e) (h ∙ sym (extended-dot-refusal f c (tens_in left) (tens_in right))) (number-some e))

    module _ (z : extended_dot_refusal f c (tens_in left) (tens_in right) ≡ 0)
        {a : Answer} (is : a ≡ extended_dot c (pairs (tens_in left) (tens_in right))) where
      dot-is : a ≡ dot_tens
      dot-is = is ∙ dot-told f c (tens_in left) (tens_in right) z

      pub dot_fits : FitsTens a old
      dot_fits =
          let t = extended-fits.1 f c (tens_in left) (tens_in right) in
          let room = (let_in (uneven_tens left || uneven_tens right) (length old) 32 passed).1 in
          rw dot-is (record { room = room; flags = t.flags; side = t.side })

      pub dot-written : (b : List ℕ) → b ≡ extended_written a old → Enters (extended_dot_entry f c left right old) 0 b
      dot-written b e =
          dot-enters 0 b
          (tens-entered dot_tens old b (extended-dot-refusal f c (tens_in left) (tens_in right) ∙ z) (e ∙ ap (λ (r : Answer). extended_written r old) dot-is))

-- ---- the exported entries: kind 4, and any other

module _ (f : Format) (c : Settings) (r : ℕ) (new : List ℕ) where
  module _ (u : ℕ) (bytes old : List ℕ) where
    pub sum-ten : f.kind ≡ 4 → Enters (extended_sum_entry f c u bytes old) r new → Enters (sum_call f c u bytes old) r new
    sum-ten e p = rw (sum-extended f e c u bytes old) p

    pub sum-other : f.kind ≢ 4 → Enters (sum_entry f c u bytes old) r new → Enters (sum_call f c u bytes old) r new
    sum-other h p = rw ((other-kinds f c h).0 u bytes old) p

    pub sum-apart : f.kind ≢ 4 → Enters (sum_call f c u bytes old) r new → Enters (sum_entry f c u bytes old) r new
    sum-apart h p = rw ((other-kinds f c h).0 u bytes old) at p

  module _ (left right old : List ℕ) where
    pub dot-ten : f.kind ≡ 4 → Enters (extended_dot_entry f c left right old) r new → Enters (dot_call f c left right old) r new
    dot-ten e p = rw (dot-extended f e c left right old) p

    pub dot-other : f.kind ≢ 4 → Enters (dot_entry f c left right old) r new → Enters (dot_call f c left right old) r new
    dot-other h p = rw ((other-kinds f c h).1 left right old) p
