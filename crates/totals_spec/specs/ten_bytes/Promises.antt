-- What is promised of kind 4, ten bytes a value: all that is promised of the other kinds, and that
-- a result is canonical.
use Rattle.std.specs.Prelude.{[], ◌-◌, T as Holds, ◌≡◌, ◌≢◌, List, ℕ, ◌↔◌, ◌⊎◌, ◌≤◌, length, take}
use Rattle.std.specs.Prelude.{drop, get_or, ◌*◌, ◌/◌, ◌<◌, Bool, ◌+◌, ◌^◌, pos, true, ◌||◌, map}
use Rattle.std.specs.Prelude.{false, ltb, eqb}
use Rattle.totals_spec.specs.ten_bytes.Examples.{extended_examples, chains}
use Rattle.totals_spec.specs.formats.Format.{Format, digits, grid}
use Rattle.totals_spec.specs.formats.Settings.{Settings, summand_of, valid_settings, value}
use Rattle.totals_spec.specs.entries.Bytes.{sum_entry, dot_entry, from_bytes}
use Rattle.totals_spec.specs.ten_bytes.Extended.{sum_call, dot_call, extended_sum_answer}
use Rattle.totals_spec.specs.ten_bytes.Extended.{extended_dot_answer, tens_in, kind4, unsupported}
use Rattle.totals_spec.specs.ten_bytes.Extended.{subnormal_extended, extended_sum_refusal}
use Rattle.totals_spec.specs.ten_bytes.Extended.{extended_dot_refusal, decode_extended, extended}
use Rattle.totals_spec.specs.ten_bytes.Extended.{with_spread, extended_terms, extended_dot_terms}
use Rattle.totals_spec.specs.ten_bytes.Extended.{extended_item, extended_pair, spread, field_in}
use Rattle.totals_spec.specs.ten_bytes.Extended.{significand_in, both_of, uneven_tens}
use Rattle.totals_spec.specs.sums.Totals.{refused, sum_answer, dot_answer, Answer, sum_rounded}
use Rattle.totals_spec.specs.sums.Totals.{reported, on_grid, towards_negative, is_square, pairs}
use Rattle.totals_spec.specs.sums.Totals.{finite_total}
use Rattle.totals_spec.specs.pence.Pence.{pence_answer, sum_pence}
use Rattle.totals_spec.specs.refusals.Conditions.{First}
use Rattle.totals_spec.specs.ten_bytes.Conditions.{extended_sum_conditions, extended_dot_conditions}
use Rattle.totals_spec.specs.ten_bytes.Conditions.{UnevenTens, extended_entry_conditions}
use Rattle.totals_spec.specs.sums.Promises.{FieldsFit, AllFiniteBy, zero_for, zero_answer}
use Rattle.totals_spec.specs.Basics.{flag, is_set, any}
use Rattle.totals_spec.specs.terms.Terms.{Term, exact_sum, top_of}
use Rattle.totals_spec.specs.chain.Chain.{chain}
use Rattle.totals_spec.specs.formats.Decode.{decode, is_number}
use Rattle.totals_spec.specs.formats.Encode.{encode}
use Rattle.totals_spec.specs.rounding.Round.{round}
use Rattle.totals_spec.specs.rounding.Side.{side_of}
use Rattle.totals_spec.specs.chain.Settled.{chain_total}
use Rattle.totals_spec.specs.order.Rearranged.{AsOften, same_pair, nan_looked_at}
use Rattle.totals_spec.specs.chain.Limit.{bottom_of, ceil_div}
use Rattle.totals_spec.specs.chain.Promises.{Finished, EdgesTrue}

-- kind 4: unsupported encodings beside NaNs and infinities, pseudo-denormals, NaNs, roundings, many
-- passes, and its calls with each refusal but 6
abbrev pub Extended-agree : Type 0
Extended-agree = Holds extended_examples × Holds chains

-- kind 4 alone decides: a call of any other kind is that of the byte entries, and all that is
-- promised of them holds of it
abbrev pub Other-kinds : Type 0
Other-kinds = (format : Format) (settings : Settings) → format.kind ≢ 4
    → ((summand : ℕ) (bytes old : List ℕ)
    → sum_call format settings summand bytes old ≡ sum_entry format settings summand bytes old)
    × ((left right old : List ℕ) → dot_call format settings left right old
    ≡ dot_entry format settings left right old)

-- any other use of kind 4 gets 3: lists of words and pence
abbrev pub Extended-elsewhere : Type 0
Extended-elsewhere = (format : Format) → format.kind ≡ 4
    → ((settings : Settings) (summand : ℕ) (values : List ℕ)
    → sum_answer format settings summand values ≡ refused 3 0)
    × ((settings : Settings) (left right : List ℕ)
    → dot_answer format settings left right ≡ refused 3 0)
    × ((b : ℕ) → (pence_answer format b).refusal ≡ 3)
    × ((values : List ℕ) → (sum_pence format values).refusal ≡ 3)

-- the number in the record is that of the first condition that holds, in the order 3, 4, 6 of a sum
-- and 3, 4, 5, 6 of a dot; and 0 exactly where none holds
abbrev pub Extended-refused-exactly : Type 0
Extended-refused-exactly =
    ((format : Format) (settings : Settings) (summand : ℕ) (values : List ℕ) (number : ℕ)
    → (extended_sum_answer format settings summand values).refusal ≡ number
    ↔ First (extended_sum_conditions format settings summand values) number)
    × ((format : Format) (settings : Settings) (left right : List ℕ) (number : ℕ)
    → (extended_dot_answer format settings left right).refusal ≡ number
    ↔ First (extended_dot_conditions format settings left right) number)

-- of a call 1 and 2 before these; its number has no place
abbrev pub Extended-call-refused-exactly : Type 0
Extended-call-refused-exactly =
    ((format : Format) (settings : Settings) (summand : ℕ) (bytes old : List ℕ) (number : ℕ)
    → format.kind ≡ 4
    → (sum_call format settings summand bytes old).code ≡ number
    ↔ First (extended_entry_conditions (UnevenTens bytes) old
    (extended_sum_conditions format settings summand (tens_in bytes))) number)
    × ((format : Format) (settings : Settings) (left right old : List ℕ) (number : ℕ)
    → format.kind ≡ 4
    → (dot_call format settings left right old).code ≡ number
    ↔ First (extended_entry_conditions (UnevenTens left ⊎ UnevenTens right) old
    (extended_dot_conditions format settings (tens_in left) (tens_in right))) number)

-- a refused record is 0 but for the number
abbrev pub Extended-refused : Type 0
Extended-refused =
    ((format : Format) (settings : Settings) (summand : ℕ) (values : List ℕ)
    → let r = extended_sum_answer format settings summand values in r.refusal ≢ 0
    → r ≡ refused r.refusal 0)
    × ((format : Format) (settings : Settings) (left right : List ℕ)
    → let r = extended_dot_answer format settings left right in r.refusal ≢ 0
    → r ≡ refused r.refusal 0)

-- a refused call writes nothing, of whatever kind
abbrev pub Call-refused : Type 0
Call-refused =
    ((format : Format) (settings : Settings) (summand : ℕ) (bytes old : List ℕ)
    → (sum_call format settings summand bytes old).code ≢ 0
    → (sum_call format settings summand bytes old).buffer ≡ old)
    × ((format : Format) (settings : Settings) (left right old : List ℕ)
    → (dot_call format settings left right old).code ≢ 0
    → (dot_call format settings left right old).buffer ≡ old)

-- the result has 80 bits, the flags 8, the side 2 and the passes 64; of refused calls too
abbrev pub Extended-fits : Type 0
Extended-fits =
    ((format : Format) (settings : Settings) (summand : ℕ) (values : List ℕ)
    → FieldsFit kind4 (extended_sum_answer format settings summand values))
    × ((format : Format) (settings : Settings) (left right : List ℕ)
    → FieldsFit kind4 (extended_dot_answer format settings left right))

-- what a caller reads from the answer buffer: bytes 0 to 9 are the result and 24 to 31 the passes,
-- little end first; byte 10 is the flags, byte 11 the side; 12 to 23 are 0; from 32 on it is as it
-- was
pub record ReadsBack32 (a : Answer) (old new : List ℕ) : Type 0 where
  pub result : from_bytes (take 10 new) ≡ a.result
  pub flags : get_or new 10 0 ≡ a.flags
  pub side : get_or new 11 0 ≡ a.side
  pub zeros : (i : ℕ) → 12 ≤ i → i ≤ 23 → get_or new i 0 ≡ 0
  pub passes : from_bytes (take 8 (drop 24 new)) ≡ a.passes
  pub rest : drop 32 new ≡ drop 32 old
  pub long : length new ≡ length old

-- where a call returns 0, the buffer afterwards holds the record of the values in its bytes
abbrev pub Extended-read-back : Type 0
Extended-read-back =
    ((format : Format) (settings : Settings) (summand : ℕ) (bytes old : List ℕ) → format.kind ≡ 4
    → (sum_call format settings summand bytes old).code ≡ 0
    → ReadsBack32 (extended_sum_answer format settings summand (tens_in bytes)) old
    (sum_call format settings summand bytes old).buffer)
    × ((format : Format) (settings : Settings) (left right old : List ℕ) → format.kind ≡ 4
    → (dot_call format settings left right old).code ≡ 0
    → ReadsBack32 (extended_dot_answer format settings (tens_in left) (tens_in right)) old
    (dot_call format settings left right old).buffer)

-- a value stands in each ten bytes
abbrev pub Tens-values : Type 0
Tens-values = (bytes : List ℕ)
    → (length (tens_in bytes) ≡ length bytes / 10)
    × ((i : ℕ) → i < length bytes / 10 → get_or (tens_in bytes) i 0
    ≡ from_bytes (take 10 (drop (10 * i) bytes)))

-- the default NaN and flag 1, whatever else is in the list; flag 128 is still set
abbrev pub invalid_extended : Settings → Bool → Answer
invalid_extended c sub = record {
  result = flag (2 ^ 79) (is_set c.default_nan_sign) + 0x7fffc000000000000000;
  flags = flag 128 sub + 1;
  passes = 0;
  last_edge = pos 0;
  refusal = 0;
  place = 0;
  side = 3;
}

abbrev pub Extended-unsupported : Type 0
Extended-unsupported =
    ((format : Format) (settings : Settings) (summand : ℕ) (values : List ℕ)
    → extended_sum_refusal format settings summand values ≡ 0
    → any unsupported values ≡ true
    → extended_sum_answer format settings summand values
    ≡ invalid_extended settings (any subnormal_extended values))
    × ((format : Format) (settings : Settings) (left right : List ℕ)
    → extended_dot_refusal format settings left right ≡ 0
    → (any unsupported left || any unsupported right) ≡ true
    → extended_dot_answer format settings left right ≡ invalid_extended settings
    (any subnormal_extended left || any subnormal_extended right))

-- every value is finite, which an unsupported encoding is not
abbrev pub AllNumbers : List ℕ → Type 0
AllNumbers l = AllFiniteBy decode_extended l

-- the record of the terms' exact sum rounded once, and of their chain
abbrev pub exact_record : Format → Settings → (sub products : Bool) → List Term → Answer
exact_record f c sub products ts =
    reported f sub products (on_grid f products (exact_sum ts))
    (sum_rounded f c (grid f products) (towards_negative c) (on_grid f products (exact_sum ts)))
    (chain (digits f) ts)

-- of finite values with a non-zero term it is that, with its leading bit written out
abbrev pub Extended-exact : Type 0
Extended-exact =
    ((format : Format) (settings : Settings) (summand : ℕ) (values : List ℕ)
    → extended_sum_refusal format settings summand values ≡ 0
    → AllNumbers values → 0 < length (extended_terms settings (summand_of summand) values)
    → extended_sum_answer format settings summand values
    ≡ with_spread
    (exact_record extended settings (any subnormal_extended values) (is_square (summand_of summand))
    (extended_terms settings (summand_of summand) values)))
    × ((format : Format) (settings : Settings) (left right : List ℕ)
    → extended_dot_refusal format settings left right ≡ 0
    → AllNumbers left → AllNumbers right
    → 0 < length (extended_dot_terms settings left right)
    → extended_dot_answer format settings left right
    ≡ with_spread
    (exact_record extended settings
    (any subnormal_extended left || any subnormal_extended right) true
    (extended_dot_terms settings left right)))

-- and without a term that of a zero
abbrev pub Extended-zeros : Type 0
Extended-zeros =
    ((format : Format) (settings : Settings) (summand : ℕ) (values : List ℕ)
    → extended_sum_refusal format settings summand values ≡ 0
    → AllNumbers values → length (extended_terms settings (summand_of summand) values) ≡ 0
    → extended_sum_answer format settings summand values
    ≡ with_spread
    (zero_answer extended (any subnormal_extended values)
    (zero_for settings (map (extended_item settings (summand_of summand)) values))))
    × ((format : Format) (settings : Settings) (left right : List ℕ)
    → extended_dot_refusal format settings left right ≡ 0
    → AllNumbers left → AllNumbers right
    → length (extended_dot_terms settings left right) ≡ 0
    → extended_dot_answer format settings left right
    ≡ with_spread
    (zero_answer extended (any subnormal_extended left || any subnormal_extended right)
    (zero_for settings (map (extended_pair settings) (pairs left right)))))

-- what is written out is read as it was meant: every encoding of `extended`, and so each result of
-- a rounding
abbrev pub Extended-back : Type 0
Extended-back =
    ((b : ℕ) → decode_extended (spread b) ≡ decode extended b)
    × ((settings : Settings) (g : ℕ) (s : Bool) (m : ℕ) → Holds (valid_settings extended settings)
    → decode_extended (spread (encode extended (round extended settings g s m).value))
    ≡ (round extended settings g s m).value)

-- a pseudo-denormal, with its leading bit below a field of 0, is the number that stands below a
-- field of 1; it counts as subnormal, and that does not
abbrev pub Pseudo-denormal : Type 0
Pseudo-denormal = (b : ℕ) → field_in b ≡ 0 → 2 ^ 63 ≤ significand_in b
    → (field_in (b + 2 ^ 64) ≡ 1) × (decode_extended (b + 2 ^ 64) ≡ decode_extended b)
    × (subnormal_extended b ≡ true) × (subnormal_extended (b + 2 ^ 64) ≡ false)

-- a result is canonical, of refused calls too: its leading bit is 0 exactly below a field of 0. So
-- none is unsupported, and none a pseudo-denormal
abbrev pub Canonical : ℕ → Type 0
Canonical b = ltb (significand_in b) (2 ^ 63) ≡ eqb (field_in b) 0

abbrev pub Extended-canonical : Type 0
Extended-canonical =
    ((format : Format) (settings : Settings) (summand : ℕ) (values : List ℕ)
    → Canonical (extended_sum_answer format settings summand values).result)
    × ((format : Format) (settings : Settings) (left right : List ℕ)
    → Canonical (extended_dot_answer format settings left right).result)

-- the side: how the result, read again, lies beside the exact sum of the terms; and none where it
-- is no number
abbrev pub Extended-side : Type 0
Extended-side =
    ((format : Format) (settings : Settings) (summand : ℕ) (values : List ℕ)
    → extended_sum_refusal format settings summand values ≡ 0
    → AllNumbers values
    → let products = is_square
    (summand_of summand) in let r = extended_sum_answer format settings summand values in
    r.side ≡ side_of (grid extended products) (decode_extended r.result)
    (on_grid extended products (exact_sum (extended_terms settings (summand_of summand) values))))
    × ((format : Format) (settings : Settings) (left right : List ℕ)
    → extended_dot_refusal format settings left right ≡ 0
    → AllNumbers left → AllNumbers right
    → let r = extended_dot_answer format settings left right in
    r.side ≡ side_of (grid extended true) (decode_extended r.result)
    (on_grid extended true (exact_sum (extended_dot_terms settings left right))))

abbrev pub Extended-no-side : Type 0
Extended-no-side =
    ((format : Format) (settings : Settings) (summand : ℕ) (values : List ℕ)
    → let r = extended_sum_answer format settings summand values in
    r.refusal ≡ 0 → is_number (decode_extended r.result) ≡ false → r.side ≡ 3)
    × ((format : Format) (settings : Settings) (left right : List ℕ)
    → let r = extended_dot_answer format settings left right in
    r.refusal ≡ 0 → is_number (decode_extended r.result) ≡ false → r.side ≡ 3)

-- what a chain ends with, rounded once, is the exact sum rounded once
abbrev pub Extended-by-chain : Type 0
Extended-by-chain =
    ((format : Format) (settings : Settings) (summand : ℕ) (values : List ℕ)
    (sub products minus : Bool)
    → extended_sum_refusal format settings summand values ≡ 0
    → chain_total extended settings sub products minus
    (extended_terms settings (summand_of summand) values)
    ≡ finite_total extended settings sub products minus
    (extended_terms settings (summand_of summand) values))
    × ((format : Format) (settings : Settings) (left right : List ℕ) (sub products minus : Bool)
    → extended_dot_refusal format settings left right ≡ 0
    → chain_total extended settings sub products minus (extended_dot_terms settings left right)
    ≡ finite_total extended settings sub products minus (extended_dot_terms settings left right))

-- a rearrangement of an accepted list of which no NaN decides is accepted, and has the same record;
-- the pairs of a dot move together
abbrev pub Extended-order : Type 0
Extended-order =
    ((format : Format) (settings : Settings) (summand : ℕ) (l₁ l₂ : List ℕ) → AsOften eqb l₁ l₂
    → extended_sum_refusal format settings summand l₁ ≡ 0 → nan_looked_at l₁ ≡ false
    → (extended_sum_refusal format settings summand l₂ ≡ 0)
    × (extended_sum_answer format settings summand l₁
    ≡ extended_sum_answer format settings summand l₂))
    × ((format : Format) (settings : Settings) (xs ys xs' ys' : List ℕ) → length xs' ≡ length ys'
    → AsOften same_pair (pairs xs ys) (pairs xs' ys')
    → extended_dot_refusal format settings xs ys ≡ 0 → nan_looked_at (both_of (pairs xs ys)) ≡ false
    → (extended_dot_refusal format settings xs' ys' ≡ 0)
    × (extended_dot_answer format settings xs ys ≡ extended_dot_answer format settings xs' ys'))

-- and so have the values in the bytes of a call: the number returned and the buffer are alike
abbrev pub Extended-call-order : Type 0
Extended-call-order =
    ((format : Format) (settings : Settings) (summand : ℕ) (b₁ b₂ old : List ℕ) → format.kind ≡ 4
    → uneven_tens b₁ ≡ false
    → uneven_tens b₂ ≡ false
    → AsOften eqb (tens_in b₁) (tens_in b₂)
    → extended_sum_refusal format settings summand (tens_in b₁) ≡ 0
    → nan_looked_at (tens_in b₁) ≡ false
    → sum_call format settings summand b₁ old ≡ sum_call format settings summand b₂ old)
    × ((format : Format) (settings : Settings) (x y x' y' old : List ℕ) → format.kind ≡ 4
    → (uneven_tens x || uneven_tens y) ≡ false → (uneven_tens x' || uneven_tens y') ≡ false
    → length (tens_in x') ≡ length (tens_in y')
    → AsOften same_pair (pairs (tens_in x) (tens_in y)) (pairs (tens_in x') (tens_in y'))
    → extended_dot_refusal format settings (tens_in x) (tens_in y) ≡ 0
    → nan_looked_at (both_of (pairs (tens_in x) (tens_in y))) ≡ false
    → dot_call format settings x y old ≡ dot_call format settings x' y' old)

-- 633 is 697 − 64
abbrev pub most_extended : List Term → ℕ
most_extended ts = 1 + ceil_div (top_of ts - 702 - bottom_of ts) 633

-- the limit on the passes, of every call, refused ones too: 1 + ⌈(T − 702 − B) / 633⌉, which is at
-- most 52 in a sum or magnitude sum, and at most 104 in a square sum or dot
abbrev pub Extended-limit : Type 0
Extended-limit =
    ((format : Format) (settings : Settings) (summand : ℕ) (values : List ℕ)
    → (extended_sum_answer format settings summand values).passes
    ≤ most_extended (extended_terms settings (summand_of summand) values))
    × ((format : Format) (settings : Settings) (left right : List ℕ)
    → (extended_dot_answer format settings left right).passes
    ≤ most_extended (extended_dot_terms settings left right))

abbrev pub Extended-most : Type 0
Extended-most =
    ((format : Format) (settings : Settings) (summand : ℕ) (values : List ℕ) → summand ≤ 1
    → (extended_sum_answer format settings summand values).passes ≤ 52)
    × ((format : Format) (settings : Settings) (summand : ℕ) (values : List ℕ)
    → (extended_sum_answer format settings summand values).passes ≤ 104)
    × ((format : Format) (settings : Settings) (left right : List ℕ)
    → (extended_dot_answer format settings left right).passes ≤ 104)

-- a chain of kind 4 ends by its own rule, and each difference in its edges is a true one
abbrev pub Extended-ends : Type 0
Extended-ends =
    ((settings : Settings) (summand : ℕ) (values : List ℕ)
    → Finished
    (chain (digits extended) (extended_terms settings (summand_of summand) values)).outcome)
    × ((settings : Settings) (left right : List ℕ) → Finished
    (chain (digits extended) (extended_dot_terms settings left right)).outcome)

abbrev pub Extended-edges : Type 0
Extended-edges =
    ((settings : Settings) (summand : ℕ) (values : List ℕ)
    → EdgesTrue (extended_terms settings (summand_of summand) values))
    × ((settings : Settings) (left right : List ℕ)
    → EdgesTrue (extended_dot_terms settings left right))
