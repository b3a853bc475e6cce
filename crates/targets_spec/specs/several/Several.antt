-- One total, several formats: the plain sum of a list, rounded once into a target, which is a
-- format of at most the list's digits with settings of its own. Each target's record is that of a
-- call with this target alone.
use Rattle.std.specs.Prelude.{ℕ, not, ◌&&◌, ◌||◌, List, [], length, leb, ltb, map, ◌+◌, get_or, ℤ}
use Rattle.std.specs.Prelude.{Bool, cond, ◌*◌, ◌++◌, eqb}
use Rattle.totals_spec.specs.Basics.{any}
use Rattle.totals_spec.specs.formats.Format.{Format, valid_format, digits}
use Rattle.totals_spec.specs.formats.Settings.{Settings, valid_settings, value}
use Rattle.totals_spec.specs.sums.Totals.{stray, limit, refuse_if, Answer, first_index, answered}
use Rattle.totals_spec.specs.sums.Totals.{refused}
use Rattle.totals_spec.specs.pence.Pence.{not_number}
use Rattle.totals_spec.specs.formats.Decode.{is_subnormal}
use Rattle.totals_spec.specs.terms.Terms.{item}
use Rattle.totals_spec.specs.rounding.IntoFormat.{reading_with, printed_items}
use Rattle.totals_spec.specs.entries.Words.{misnamed, format_by, filled}
use Rattle.totals_spec.specs.entries.Bytes.{to_bytes, written, values_in, Entry}
use Rattle.targets_spec.specs.entries.SignedWords.{signed_word}
use Rattle.targets_spec.specs.entries.Lengths.{cut_short}

-- refusals 3, 4, 6, 7 and 17, in this order. 17: the target has more digits than the list's format,
-- or the list holds a NaN or an infinity
unfoldable pub target_refusal : Format → ℕ → List ℕ → Format → Settings → ℕ
target_refusal f d l t c =
    refuse_if (not (valid_format f && valid_format t)) 3
    (refuse_if (not (leb d 1 && valid_settings t c)) 4
    (refuse_if (ltb limit (length l)) 6
    (refuse_if (any (stray f) l) 7
    (refuse_if (ltb (digits f) (digits t) || any (not_number f) l) 17 0))))

-- THE ANSWER of one target: d is the list's denormals-are-zero, t and c are the target's format and
-- settings
unfoldable pub target_answer : Format → ℕ → List ℕ → Format → Settings → Answer
target_answer f d l t c =
    answered (target_refusal f d l t c) (first_index (stray f) l)
    (printed_items f t c (any (is_subnormal f) l) (map (item f (reading_with d) value) l))

-- the target whose first number is the j-th of ns
abbrev pub bias_at : List ℕ → ℕ → ℤ
bias_at ns j = signed_word (get_or ns (j + 4) 0)

abbrev pub misnamed_at : List ℕ → ℕ → Bool
misnamed_at ns j = misnamed (get_or ns (j + 3) 0) (bias_at ns j)

abbrev pub format_at : List ℕ → ℕ → Format
format_at ns j = format_by (get_or ns j 0) (get_or ns (j + 1) 0) (get_or ns (j + 2) 0)
    (get_or ns (j + 3) 0) (bias_at ns j)

abbrev pub settings_at : List ℕ → ℕ → Settings
settings_at ns j = record {
  rounding = get_or ns (j + 5) 0;
  tininess = get_or ns (j + 6) 0;
  nan_propagation = get_or ns (j + 7) 0;
  default_nan_sign = get_or ns (j + 8) 0;
  flush_to_zero = get_or ns (j + 9) 0;
  denormals_are_zero = get_or ns (j + 10) 0;
  saturate = get_or ns (j + 11) 0;
  precision = get_or ns (j + 12) 0;
}

-- a format that is not named as a whole, the list's or the target's, gets 3. `bad` says whether the
-- list's is not
unfoldable pub answer_at : (bad : Bool) → Format → ℕ → List ℕ → List ℕ → ℕ → Answer
answer_at bad f d l ns j = cond (bad || misnamed_at ns j) (refused 3 0)
    (target_answer f d l (format_at ns j) (settings_at ns j))

-- what is written of a record: its refusal, plus 256 times its place, and the 24 bytes of a byte
-- entry, which are 0 of a refused record
abbrev pub slot_of : Answer → List ℕ
slot_of r = to_bytes 8 (r.refusal + 256 * r.place) ++ written r []

unfoldable pub slots : (bad : Bool) → Format → ℕ → List ℕ → List ℕ → List ℕ
slots bad f d l ns = slot_of (answer_at bad f d l ns 0)
    ++ (slot_of (answer_at bad f d l ns 13) ++ slot_of (answer_at bad f d l ns 26))

-- refusal 1 of the targets, three times 104 bytes; refusal 2, no room for three times 32
abbrev pub not_three : List ℕ → Bool
not_three targets = not (eqb (length targets) 312)

abbrev pub short96 : List ℕ → Bool
short96 old = ltb (length old) 96

-- THE ENTRY of three targets: 1 and 2 refuse the call, which then writes nothing; any other refusal
-- is its target's own, and stands in its 32 bytes
unfoldable pub target_entry : (kind exponent_bits width named : ℕ) (bias : ℤ)
    (denormals_are_zero : ℕ) (targets bytes old : List ℕ) → Entry
target_entry k e w named b d targets bytes old =
    cond (not_three targets || cut_short k bytes) (record { code = 1; buffer = old })
    (cond (short96 old) (record { code = 2; buffer = old })
    (record {
      code = 0;
      buffer = filled
          (slots (misnamed named b) (format_by k e w named b) d (values_in bytes)
          (values_in targets)) old;
    }))
