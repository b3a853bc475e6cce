-- What is promised of a named bias: naming the kind's own is the same as naming none.
use Rattle.std.specs.Prelude.{[], pos, ◌≡◌, List, ℕ, ◌-◌}
use Rattle.std.proofs.Math.Option.{some, none}
use Rattle.totals_spec.specs.formats.Format.{Format, kind_of, bias_of}
use Rattle.totals_spec.specs.formats.Settings.{Settings}
use Rattle.totals_spec.specs.sums.Totals.{sum_answer, dot_answer}
use Rattle.totals_spec.specs.entries.Bytes.{sum_entry, dot_entry}
use Rattle.totals_spec.specs.pence.Pence.{pence_answer, sum_pence}

-- a format with its kind's own bias named, and with none named
abbrev pub naming_own : Format → Format
naming_own f = record {
  kind = f.kind;
  E = f.E;
  W = f.W;
  named = some (pos (bias_of (kind_of f.kind) f.E));
}

abbrev pub naming_none : Format → Format
naming_none f = record { kind = f.kind; E = f.E; W = f.W; named = none }

-- every call that this crate defines, refused ones too, has the same answer in one format as in the
-- other
pub record AnswerAlike (format g : Format) : Type 0 where
  pub sum : (settings : Settings) (summand : ℕ) (values : List ℕ)
      → sum_answer format settings summand values ≡ sum_answer g settings summand values
  pub dot : (settings : Settings) (xs ys : List ℕ)
      → dot_answer format settings xs ys ≡ dot_answer g settings xs ys
  pub sum-entry : (settings : Settings) (summand : ℕ) (bytes old : List ℕ)
      → sum_entry format settings summand bytes old ≡ sum_entry g settings summand bytes old
  pub dot-entry : (settings : Settings) (left right old : List ℕ)
      → dot_entry format settings left right old ≡ dot_entry g settings left right old
  pub pence : (b : ℕ) → pence_answer format b ≡ pence_answer g b
  pub sum-pence : (values : List ℕ) → sum_pence format values ≡ sum_pence g values

-- naming the kind's own bias is the same as naming none
abbrev pub Named-own : Type 0
Named-own = (format : Format) → AnswerAlike (naming_own format) (naming_none format)
