-- The entries that are told a bias by two numbers, called with a format; and the buffers that they
-- are lent.
use Rattle.std.specs.Prelude.{◌≡◌, List, ℕ, length, take, drop, ℤ, pos}
use Rattle.std.proofs.Math.Option.{Option, none, some}
use Rattle.totals_spec.specs.entries.Bytes.{Entry}
use Rattle.totals_spec.specs.formats.Format.{Format}
use Rattle.totals_spec.specs.formats.Settings.{Settings}
use Rattle.totals_spec.specs.pence.Entry.{FigureEntry, pence_entry}
use Rattle.targets_spec.specs.contribution.Contribution.{contribution_entry}
use Rattle.targets_spec.specs.within.Estimate.{sum_within_entry, dot_within_entry}
use Rattle.targets_spec.specs.several.Several.{target_entry}

-- whether a format names its bias, and which: 0 and 0 where it names none
abbrev pub names_bias : Option ℤ → ℕ
names_bias none = 0
names_bias (some bias) = 1

abbrev pub bias_told : Option ℤ → ℤ
bias_told none = pos 0
bias_told (some bias) = bias

abbrev pub pence_call : Format → List ℕ → ℤ → FigureEntry
pence_call f l old = pence_entry f.kind f.E f.W (names_bias f.named) (bias_told f.named) l old

abbrev pub sum_within_call :
    Format → Settings → (summand allowance : ℕ) → (bytes old : List ℕ) → Entry
sum_within_call f c u k bytes old =
    let named = names_bias f.named in
    sum_within_entry f.kind f.E f.W named (bias_told f.named) c u k bytes old

abbrev pub dot_within_call : Format → Settings → (allowance : ℕ) → (left right old : List ℕ) → Entry
dot_within_call f c k left right old =
    let named = names_bias f.named in
    dot_within_entry f.kind f.E f.W named (bias_told f.named) c k left right old

abbrev pub contribution_call : Format → Settings → (wanted : ℕ) → (values old : List ℕ) → Entry
contribution_call f c wanted l old =
    let named = names_bias f.named in
    contribution_entry f.kind f.E f.W named (bias_told f.named) c wanted l old

abbrev pub target_call :
    Format → (denormals_are_zero : ℕ) → (targets bytes old : List ℕ) → Entry
target_call f d targets bytes old =
    let named = names_bias f.named in
    target_entry f.kind f.E f.W named (bias_told f.named) d targets bytes old

-- the bytes of a total within an allowance, of a contribution, and of a total in three targets
abbrev pub estimate_size : ℕ
estimate_size = 144

abbrev pub contribution_size : ℕ
contribution_size = 8

abbrev pub targets_size : ℕ
targets_size = 96

-- two buffers begin with the same n bytes
abbrev pub SameFirst : (n : ℕ) → (one other : List ℕ) → Type 0
SameFirst n one other = take n one ≡ take n other

-- behind its first n bytes a buffer is as it was
abbrev pub KeepsBehind : (n : ℕ) → (old new : List ℕ) → Type 0
KeepsBehind n old new = (drop n new ≡ drop n old) × (length new ≡ length old)
