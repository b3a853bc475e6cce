-- What is promised of a named bias and of kind 4, of targets, contributions and answers within an
-- allowance.
use Rattle.std.specs.Prelude.{◌≡◌, List, [], ℕ, ◌-◌, ◌++◌, ◌+◌, ◌%◌, ◌≤◌, ◌<◌, length, ℤ}
use Rattle.totals_spec.specs.formats.Format.{Format}
use Rattle.totals_spec.specs.formats.Settings.{Settings}
use Rattle.totals_spec.specs.formats.Promises.{naming_own, naming_none}
use Rattle.totals_spec.specs.sums.Totals.{refused}
use Rattle.totals_spec.specs.entries.Words.{filled}
use Rattle.targets_spec.specs.contribution.Contribution.{contribution}
use Rattle.targets_spec.specs.several.Several.{target_answer, slot_of, target_entry}
use Rattle.targets_spec.specs.within.Estimate.{sum_within, dot_within, full, sum_within_entry}
use Rattle.targets_spec.specs.within.Estimate.{dot_within_entry}

-- every call that this crate defines, refused ones too, has the same answer in one format as in the
-- other; a target in either place
pub record AnswerAlike (format g : Format) : Type 0 where
  pub target : (d : ℕ) (values : List ℕ) (t : Format) (settings : Settings)
      → target_answer format d values t settings ≡ target_answer g d values t settings
  pub into-target : (h : Format) (d : ℕ) (values : List ℕ) (settings : Settings)
      → target_answer h d values format settings ≡ target_answer h d values g settings
  pub contributes : (settings : Settings) (values : List ℕ) (wanted : ℕ)
      → contribution format settings values wanted ≡ contribution g settings values wanted
  pub sum-within : (settings : Settings) (summand : ℕ) (values : List ℕ) (k : ℕ)
      → sum_within format settings summand values k ≡ sum_within g settings summand values k
  pub dot-within : (settings : Settings) (left right : List ℕ) (k : ℕ)
      → dot_within format settings left right k ≡ dot_within g settings left right k

-- naming the kind's own bias is the same as naming none
abbrev pub Named-own : Type 0
Named-own = (format : Format) → AnswerAlike (naming_own format) (naming_none format)

-- an answer within an allowance gets 3 in kind 4; so do whole values of ten bytes through its
-- entries, and each target of a list of them
abbrev pub Extended-elsewhere : Type 0
Extended-elsewhere =
    ((format : Format) → format.kind ≡ 4
    → ((settings : Settings) (summand : ℕ) (values : List ℕ) (k : ℕ) → 0 < k
    → sum_within format settings summand values k ≡ full (refused 3 0))
    × ((settings : Settings) (xs ys : List ℕ) (k : ℕ) → 0 < k
    → dot_within format settings xs ys k ≡ full (refused 3 0)))
    × ((exponent_bits width named : ℕ) (b : ℤ) (settings : Settings) (summand a : ℕ)
    (bytes old : List ℕ) → length bytes % 10 ≡ 0
    → 144 ≤ length old → 0 < a
    → sum_within_entry 4 exponent_bits width named b settings summand a bytes old
    ≡ record { code = 3; buffer = old })
    × ((exponent_bits width named : ℕ) (b : ℤ) (settings : Settings) (a : ℕ)
    (left right old : List ℕ)
    → length left % 10 ≡ 0 → length right % 10 ≡ 0
    → 144 ≤ length old → 0 < a
    → dot_within_entry 4 exponent_bits width named b settings a left right old
    ≡ record { code = 3; buffer = old })
    × ((exponent_bits width named : ℕ) (b : ℤ) (d : ℕ) (targets bytes old : List ℕ)
    → length targets ≡ 312
    → length bytes % 10 ≡ 0 → 96 ≤ length old
    → let three = slot_of (refused 3 0) in
    target_entry 4 exponent_bits width named b d targets bytes old
    ≡ record { code = 0; buffer = filled (three ++ (three ++ three)) old })
