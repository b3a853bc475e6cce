-- The entry of a contribution: by its room and the name of its format, and then by the record.
use Rattle.std.proofs.Common.{◌≡◌, ◌≢◌, sym, ◌∙◌, refl, subst, ℕ, Bool, true, false, cond, List, [], ◌∷◌, ◌++◌, length, ◌≤◌, ◌<◌, ◌^◌, ◌+◌}
use Rattle.std.proofs.Common.{◌*◌, arith, ne_eqb, eq-eqb}
use lib.Dec.{T, leb, ltb}
use lib.ListN.{length-append, drop}
use borrow.Author.Tests.{le-ltb, lt-ltb, leb-false}
use Rattle.totals_spec.specs.Basics.{any}
use Rattle.totals_spec.specs.formats.Format.{Format}
use Rattle.totals_spec.specs.formats.Settings.{Settings}
use Rattle.totals_spec.specs.sums.Totals.{limit, stray, refuse_if}
use Rattle.totals_spec.specs.entries.Bytes.{to_bytes}
use Rattle.totals_spec.specs.entries.Words.{misnamed, format_by}
use Rattle.totals_spec.proofs.refusals.FirstIndex.{first-stray}
use Rattle.targets_spec.specs.contribution.Contribution.{Contribution, refused_contribution, contributed, contribution, contribution_refusal, found, last_rank, number_at}
use Rattle.targets_spec.specs.contribution.Contribution.{contribution_entered, contribution_entry}
use Rattle.totals.specs.declared.entry.NamedFormat.{NamedFormat}
use Rattle.totals.specs.Entered.{Enters}

abbrev pub Small : Contribution → Type 0
Small x = (x.refusal < 256) × (x.place < 2 ^ 32)

found-small : (f : Format) (r : ℕ) → Small (found f r)
unfolding found
found-small f r = go (ltb (last_rank f) r)
  where
    go : (t : Bool) → Small (cond t (refused_contribution 14 0) (record { number = number_at f r; refusal = 0; place = 0 }))
    go true = (omega arith, omega arith)
    go false = (omega arith, omega arith)

by-tests : (a b d g h : Bool) (at : ℕ) (x : Contribution) → (d ≡ false → g ≡ true → at < 2 ^ 32) → Small x
    → Small (contributed (refuse_if a 3 (refuse_if b 4 (refuse_if d 6 (refuse_if g 7 (refuse_if h 15 0))))) at x)
by-tests true b d g h at x i s = (omega arith, omega arith)
by-tests false true d g h at x i s = (omega arith, omega arith)
by-tests false false true g h at x i s = (omega arith, omega arith)
by-tests false false false true h at x i s = (omega arith, i refl refl)
by-tests false false false false true at x i s = (omega arith, omega arith)
by-tests false false false false false at x i s = s

-- number and place fit the one that is returned
contribution-small : (f : Format) (c : Settings) (l : List ℕ) (wanted : ℕ) → Small (contribution f c l wanted)
unfolding contribution contribution_refusal
contribution-small f c l wanted =
    by-tests _ _ (leb limit (length l)) (any (stray f) (l ++ (wanted ∷ []))) _ _ _
    (λ few some.
    let at = (first-stray f (l ++ (wanted ∷ [])) (subst T (sym some) tt)).inside in
    omega (arith, at, length-append l (wanted ∷ []), leb-false limit (length l) few))
    (found-small f _)

pub small-of : (f : Format) (c : Settings) (l : List ℕ) (wanted : ℕ) {x : Contribution} → x ≡ contribution f c l wanted → Small x
small-of f c l wanted is = subst Small (sym is) (contribution-small f c l wanted)

-- ---- what is entered

module _ (x : Contribution) (old : List ℕ) where
  pub contribution-refused : x.refusal ≢ 0 → {n : ℕ} → n ≡ x.refusal + 256 * x.place → Enters (contribution_entered x old) n old
  contribution-refused h e = record { code_is = e ∙ rw (ne_eqb x.refusal 0 h); buffer-is = rw (ne_eqb x.refusal 0 h) }

  pub contribution-written : x.refusal ≡ 0 → {new : List ℕ} → new ≡ to_bytes 8 x.number ++ drop 8 old → Enters (contribution_entered x old) 0 new
  contribution-written h e = record { code_is = rw (eq-eqb x.refusal 0 h); buffer-is = e ∙ rw (eq-eqb x.refusal 0 h) }

module _ (named : NamedFormat) (c : Settings) (wanted : ℕ) (l old : List ℕ) where
  pub contribution-short : length old < 8 → Enters (contribution_entry named.kind named.exponent_bits named.width named.bias_named named.bias c wanted l old) 2 old
  unfolding contribution_entry
  contribution-short h = record { code_is = rw (lt-ltb (length old) 8 h); buffer-is = rw (lt-ltb (length old) 8 h) }

  module _ (room : 8 ≤ length old) where
    pub contribution-misnamed : misnamed named.bias_named named.bias ≡ true → Enters (contribution_entry named.kind named.exponent_bits named.width named.bias_named named.bias c wanted l old) 3 old
    unfolding contribution_entry
    contribution-misnamed h = record { code_is = rw (le-ltb (length old) 8 room, h); buffer-is = rw (le-ltb (length old) 8 room, h) }

    pub contribution-told : misnamed named.bias_named named.bias ≡ false → {x : Contribution} → x ≡ contribution (format_by named.kind named.exponent_bits named.width named.bias_named named.bias) c l wanted
        → (v : ℕ) (new : List ℕ) → Enters (contribution_entered x old) v new → Enters (contribution_entry named.kind named.exponent_bits named.width named.bias_named named.bias c wanted l old) v new
    unfolding contribution_entry
    contribution-told h is v new g = record {
      code_is = g.code_is ∙ rw (is, le-ltb (length old) 8 room, h);
      buffer-is = g.buffer-is ∙ rw (is, le-ltb (length old) 8 room, h);
    }
