-- The last calls of a running total: when a finish, a finish into another format and the pence are
-- refused, and what they write.
use Rattle.std.specs.Prelude.{◌≡◌, ◌≢◌, ◌⊎◌, ◌↔◌, cond, List, [], ◌∷◌, ℕ, ◌<◌, ◌≤◌, length, ℤ}
use Rattle.std.specs.Prelude.{T as Holds}
use Rattle.totals_spec.specs.formats.Settings.{Settings}
use Rattle.totals_spec.specs.formats.Decode.{is_nan}
use Rattle.totals_spec.specs.entries.Bytes.{Entry, written}
use Rattle.totals_spec.specs.entries.Words.{format_by}
use Rattle.totals_spec.specs.ten_bytes.Extended.{extended_written}
use Rattle.totals_spec.specs.refusals.Conditions.{Misnamed, BadFormat, BadSettings, Condition}
use Rattle.totals_spec.specs.refusals.Conditions.{First}
use Rattle.totals_spec.specs.pence.Conditions.{BeyondPence}
use Rattle.running_spec.specs.State.{State}
use Rattle.running_spec.specs.Saved.{Key, format_in, counted_in, products_in, is_kind4, key_in}
use Rattle.running_spec.specs.Saved.{state_in}
use Rattle.running_spec.specs.Finish.{finish_into, state_pence}
use Rattle.running_spec.specs.Entries.{finished_state, finish_entry, into_entry, running_pence}
use Rattle.running_spec.specs.Entries.{running_pence_entry}
use Rattle.running_spec.specs.Conditions.{NoState}

-- 24 bytes are written, of kind 4 32
abbrev pub ShortBy : Key → List ℕ → Type 0
ShortBy k old = ((k.kind ≢ 4) × (length old < 24)) ⊎ ((k.kind ≡ 4) × (length old < 32))

abbrev pub finish_conditions : (state : List ℕ) → Settings → (old : List ℕ) → List Condition
finish_conditions state c old =
    (18, NoState state)
    ∷ (2, ShortBy (key_in state) old)
    ∷ (4, BadSettings (counted_in (key_in state)) c)
    ∷ []

-- a NaN was seen, or an infinity
abbrev pub SawNoNumber : State → Type 0
SawNoNumber s = (Holds (is_nan s.first) ⊎ (0 < s.plus_infinity)) ⊎ (0 < s.minus_infinity)

-- or an infinity times a zero, or an unsupported encoding
abbrev pub SawInvalid : State → Type 0
SawInvalid s = (SawNoNumber s ⊎ (0 < s.invalid)) ⊎ (0 < s.unsupported)

-- of a finish into another format, which is a total's kind
abbrev pub into_conditions : (state : List ℕ) → (kind exponent_bits width named : ℕ) (bias : ℤ)
    → Settings
    → (old : List ℕ) → List Condition
into_conditions state k e w named b c old =
    (18, NoState state)
    ∷ (2, length old < 24)
    ∷ (3, Misnamed named b ⊎ BadFormat (format_by k e w named b))
    ∷ (4, BadSettings (format_by k e w named b) c)
    ∷ (17, SawInvalid (state_in state))
    ∷ []

-- of the pence: products have none, nor has kind 4
abbrev pub pence_conditions : (state : List ℕ) → List Condition
pence_conditions state =
    (18, NoState state)
    ∷ (4, (2 ≤ (key_in state).what) ⊎ ((key_in state).kind ≡ 4))
    ∷ (
      8,
      SawNoNumber (state_in state) ⊎ BeyondPence (format_in (key_in state))
          (state_in state).sum,
    )
    ∷ []

-- each number exactly where its condition is the first that holds
abbrev pub Finish-refused-exactly : Type 0
Finish-refused-exactly =
    ((state : List ℕ) (c : Settings) (old : List ℕ) (n : ℕ)
    → (finish_entry state c old).code ≡ n ↔ First (finish_conditions state c old) n)
    × ((state : List ℕ) (k e w named : ℕ) (b : ℤ) (c : Settings) (old : List ℕ) (n : ℕ)
    → (into_entry state k e w named b c old).code ≡ n
    ↔ First (into_conditions state k e w named b c old) n)
    × ((state : List ℕ) (n : ℕ) → (running_pence state).refusal ≡ n
    ↔ First (pence_conditions state) n)

-- a refused call leaves its buffer, an accepted one writes the record as a byte entry does
abbrev pub Leaves : Entry → (old new : List ℕ) → Type 0
Leaves e old new = (e.code ≢ 0 → e.buffer ≡ old) × (e.code ≡ 0 → e.buffer ≡ new)

abbrev pub Finish-writes : Type 0
Finish-writes =
    ((state : List ℕ) (c : Settings) (old : List ℕ) → Leaves (finish_entry state c old) old
    (cond (is_kind4 (key_in state)) (extended_written (finished_state state c) old)
    (written (finished_state state c) old)))
    × ((state : List ℕ) (k e w named : ℕ) (b : ℤ) (c : Settings) (old : List ℕ)
    → Leaves (into_entry state k e w named b c old) old
    (written
    (finish_into (counted_in (key_in state)) (products_in (key_in state))
    (format_by k e w named b) c (state_in state)) old))

-- the figure is that of the state's sum, where it has one
abbrev pub Pence-writes : Type 0
Pence-writes = (state : List ℕ) (old : ℤ) → let e = running_pence_entry state old in
    (e.code ≢ 0 → e.figure ≡ old)
    × (e.code ≡ 0 → e.figure ≡ (state_pence (format_in (key_in state)) (state_in state)).figure)
