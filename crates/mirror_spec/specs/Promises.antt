-- What is promised of negated lists: the record of the list, negated, with the directed modes
-- exchanged.
use Rattle.std.specs.Prelude.{[], ◌-◌, T as Holds, ◌≡◌, ℕ, ◌^◌, ◌<◌, List, map}
use Rattle.totals_spec.specs.formats.Format.{Format, kind_of, valid_format}
use Rattle.totals_spec.specs.formats.Decode.{decode, is_number}
use Rattle.totals_spec.specs.rounding.Promises.{kept_as}
use Rattle.totals_spec.specs.formats.Settings.{Settings}
use Rattle.totals_spec.specs.sums.Totals.{sum_refusal, sum_answer, dot_refusal, dot_answer}
use Rattle.totals_spec.specs.sums.Promises.{AllFinite}
use Rattle.totals_spec.specs.ten_bytes.Extended.{decode_extended, extended_sum_refusal}
use Rattle.totals_spec.specs.ten_bytes.Extended.{extended_sum_answer, extended_dot_refusal}
use Rattle.totals_spec.specs.ten_bytes.Extended.{extended_dot_answer}
use Rattle.totals_spec.specs.ten_bytes.Promises.{AllNumbers}
use Rattle.mirror_spec.specs.Examples.{mirror_examples}
use Rattle.mirror_spec.specs.Mirror.{opposite, negated, mirrored, negated_answer}
use Rattle.mirror_spec.specs.Mirror.{neither_zero_nor_nan, negated_extended}

-- mirrors and squares: of each kind, in directed and other modes, with named biases, and of which
-- nothing is claimed
abbrev pub Mirrors-agree : Type 0
Mirrors-agree = Holds mirror_examples

-- the negative of a finite value's encoding fits the width, and stands for the value with the other
-- sign, as its format keeps it
abbrev pub Negated-value : Type 0
Negated-value = (format : Format) (b : ℕ) → Holds (valid_format format) → b < 2 ^ format.W
    → Holds (is_number (decode format b))
    → (negated format b < 2 ^ format.W)
    × (decode format (negated format b)
    ≡ kept_as (kind_of format.kind) (opposite (decode format b)))

-- all values negated and the two directed modes exchanged: the call is accepted, with the negated
-- result, the same flags, passes and last edge, and the other side, where the result is neither
-- zero nor NaN
abbrev pub Sum-mirror : Type 0
Sum-mirror = (format : Format) (settings : Settings) (values : List ℕ)
    → sum_refusal format settings 0 values ≡ 0 → AllFinite format values
    → Holds (neither_zero_nor_nan (decode format (sum_answer format settings 0 values).result))
    → sum_answer format (mirrored settings) 0 (map (negated format) values)
    ≡ negated_answer (negated format) (sum_answer format settings 0 values)

-- of a dot the values of the left list alone
abbrev pub Dot-mirror : Type 0
Dot-mirror = (format : Format) (settings : Settings) (left right : List ℕ)
    → dot_refusal format settings left right ≡ 0
    → AllFinite format left → AllFinite format right
    → Holds (neither_zero_nor_nan (decode format (dot_answer format settings left right).result))
    → dot_answer format (mirrored settings) (map (negated format) left) right
    ≡ negated_answer (negated format) (dot_answer format settings left right)

-- kind 4: the negative of an encoding fits 80 bits, and stands for the value with the other sign
abbrev pub Negated-extended : Type 0
Negated-extended = (b : ℕ) → b < 2 ^ 80
    → (negated_extended b < 2 ^ 80)
    × (decode_extended (negated_extended b) ≡ opposite (decode_extended b))

-- and its sums and dots have the negated record as the others have
abbrev pub Extended-mirror : Type 0
Extended-mirror =
    ((format : Format) (settings : Settings) (values : List ℕ)
    → extended_sum_refusal format settings 0 values ≡ 0 → AllNumbers values
    → Holds (neither_zero_nor_nan
    (decode_extended (extended_sum_answer format settings 0 values).result))
    → extended_sum_answer format (mirrored settings) 0 (map negated_extended values)
    ≡ negated_answer negated_extended (extended_sum_answer format settings 0 values))
    × ((format : Format) (settings : Settings) (left right : List ℕ)
    → extended_dot_refusal format settings left right ≡ 0
    → AllNumbers left → AllNumbers right
    → Holds (neither_zero_nor_nan
    (decode_extended (extended_dot_answer format settings left right).result))
    → extended_dot_answer format (mirrored settings) (map negated_extended left) right
    ≡ negated_answer negated_extended (extended_dot_answer format settings left right))
