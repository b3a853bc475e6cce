-- What the byte entries of a total read and write, of every kind: of kind 4 a value has ten bytes
-- and an answer 32, of the others eight and 24.
use Rattle.std.specs.Prelude.{◌≡◌, Bool, true, false, ◌||◌, List, ℕ, ◌%◌, ◌≤◌, length, take, drop}
use Rattle.totals_spec.specs.entries.Bytes.{from_bytes, values_in}
use Rattle.totals_spec.specs.formats.Format.{Format}
use Rattle.totals_spec.specs.sums.Totals.{pairs}
use Rattle.totals_spec.specs.order.Rearranged.{holds_nan, nan_looked_at}
use Rattle.totals_spec.specs.ten_bytes.Extended.{is_extended, tens_in, both_of}

-- by whether the kind is 4
abbrev pub value_size : Bool → ℕ
value_size true = 10
value_size false = 8

abbrev pub answer_size : Bool → ℕ
answer_size true = 32
answer_size false = 24

abbrev pub values_by : Bool → List ℕ → List ℕ
values_by true bytes = tens_in bytes
values_by false bytes = values_in bytes

abbrev pub nan_by : Bool → Format → List ℕ → Bool
nan_by true f l = nan_looked_at l
nan_by false f l = holds_nan f l

abbrev pub pair_nan_by : Bool → Format → (left right : List ℕ) → Bool
pair_nan_by true f left right = nan_looked_at (both_of (pairs left right))
pair_nan_by false f left right = holds_nan f left || holds_nan f right

-- the values in some bytes, which end with a whole one
abbrev pub values_of : Format → List ℕ → List ℕ
values_of f bytes = values_by (is_extended f) bytes

abbrev pub Whole : Format → List ℕ → Type 0
Whole f bytes = length bytes % value_size (is_extended f) ≡ 0

-- a buffer has room for the answer
abbrev pub HasRoom : Format → List ℕ → Type 0
HasRoom f old = answer_size (is_extended f) ≤ length old

-- no NaN decides: there is none, or, of kind 4, an unsupported encoding comes before it
abbrev pub NoNanDecides : Format → List ℕ → Type 0
NoNanDecides f l = nan_by (is_extended f) f l ≡ false

abbrev pub NoNanDecidesPairs : Format → (left right : List ℕ) → Type 0
NoNanDecidesPairs f left right = pair_nan_by (is_extended f) f left right ≡ false

-- two buffers begin with the same answer
abbrev pub SameAnswer : Format → (one other : List ℕ) → Type 0
SameAnswer f one other = take (answer_size (is_extended f)) one ≡ take (answer_size (is_extended f)) other

-- behind the answer's bytes a buffer is as it was
abbrev pub Keeps : Format → (old new : List ℕ) → Type 0
Keeps f old new = (drop (answer_size (is_extended f)) new ≡ drop (answer_size (is_extended f)) old) × (length new ≡ length old)

-- the passes in an answer of 24 bytes, and in one of 32
abbrev pub passes_in : List ℕ → ℕ
passes_in answer = from_bytes (take 8 (drop 16 answer))

abbrev pub passes_in_tens : List ℕ → ℕ
passes_in_tens answer = from_bytes (take 8 (drop 24 answer))
