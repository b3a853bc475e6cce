-- What is promised of the byte entries: their refusals, that a refused call writes nothing, and
-- what a caller reads from the buffer of an accepted one.
use Rattle.std.specs.Prelude.{◌≡◌, ◌↔◌, ◌⊎◌, List, [], ℕ, ◌-◌, ◌%◌, ◌≢◌, ◌≤◌, length, take, drop}
use Rattle.std.specs.Prelude.{get_or}
use Rattle.totals_spec.specs.formats.Format.{Format}
use Rattle.totals_spec.specs.formats.Settings.{Settings}
use Rattle.totals_spec.specs.entries.Bytes.{values_in, sum_entry, dot_entry, from_bytes}
use Rattle.totals_spec.specs.refusals.Conditions.{Uneven, First, sum_conditions, dot_conditions}
use Rattle.totals_spec.specs.refusals.Conditions.{entry_conditions}
use Rattle.totals_spec.specs.sums.Totals.{Answer, sum_answer, dot_answer}

abbrev pub Entry-refused-exactly : Type 0
Entry-refused-exactly =
    ((format : Format) (settings : Settings) (summand : ℕ) (bytes old : List ℕ) (number : ℕ)
    → (sum_entry format settings summand bytes old).code % 256 ≡ number
    ↔ First (entry_conditions (Uneven bytes) old
    (sum_conditions format settings summand (values_in bytes))) number)
    × ((format : Format) (settings : Settings) (left right old : List ℕ) (number : ℕ)
    → (dot_entry format settings left right old).code % 256 ≡ number
    ↔ First (entry_conditions (Uneven left ⊎ Uneven right) old
    (dot_conditions format settings (values_in left) (values_in right))) number)

-- a refused entry writes nothing
abbrev pub Sum-entry-refused : Type 0
Sum-entry-refused = (format : Format) (settings : Settings) (summand : ℕ) (bytes old : List ℕ)
    → (sum_entry format settings summand bytes old).code ≢ 0
    → (sum_entry format settings summand bytes old).buffer ≡ old

abbrev pub Dot-entry-refused : Type 0
Dot-entry-refused = (format : Format) (settings : Settings) (left right old : List ℕ)
    → (dot_entry format settings left right old).code ≢ 0
    → (dot_entry format settings left right old).buffer ≡ old

-- what a caller reads from the answer buffer: bytes 0 to 7 are the result and 16 to 23 the passes,
-- little end first; byte 8 is the flags, byte 10 the side; 9 and 11 to 15 are 0; from 24 on it is
-- as it was
pub record ReadsBack (a : Answer) (old new : List ℕ) : Type 0 where
  pub result : from_bytes (take 8 new) ≡ a.result
  pub flags : get_or new 8 0 ≡ a.flags
  pub nine : get_or new 9 0 ≡ 0
  pub side : get_or new 10 0 ≡ a.side
  pub zeros : (i : ℕ) → 11 ≤ i → i ≤ 15 → get_or new i 0 ≡ 0
  pub passes : from_bytes (take 8 (drop 16 new)) ≡ a.passes
  pub rest : drop 24 new ≡ drop 24 old
  pub long : length new ≡ length old

-- where a byte entry returns 0, the buffer afterwards holds the record of the values in its bytes
abbrev pub Entry-read-back : Type 0
Entry-read-back =
    ((format : Format) (settings : Settings) (summand : ℕ) (bytes old : List ℕ)
    → (sum_entry format settings summand bytes old).code ≡ 0
    → ReadsBack (sum_answer format settings summand (values_in bytes)) old
    (sum_entry format settings summand bytes old).buffer)
    × ((format : Format) (settings : Settings) (left right old : List ℕ)
    → (dot_entry format settings left right old).code ≡ 0
    → ReadsBack (dot_answer format settings (values_in left) (values_in right)) old
    (dot_entry format settings left right old).buffer)
