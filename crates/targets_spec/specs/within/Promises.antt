-- What is promised of answers within an allowance of passes: full ones are the totals', and
-- unfinished ones are near the exact sum.
use Rattle.std.specs.Prelude.{[], ◌-◌, T as Holds, ◌≡◌, List, ℕ, ◌≤◌, ◌<◌, ◌≢◌, Bool, true, ◌↔◌}
use Rattle.std.specs.Prelude.{false, length, eqb, ◌^◌, nat_abs, ◌⊎◌, ◌%◌, ℤ, ◌||◌, replicate, take}
use Rattle.std.specs.Prelude.{drop, get_or}
use Rattle.totals_spec.specs.formats.Format.{Format, valid_format, digits}
use Rattle.totals_spec.specs.formats.Settings.{Settings, summand_of}
use Rattle.totals_spec.specs.sums.Totals.{sum_answer, dot_answer, sum_terms, dot_terms, is_square}
use Rattle.totals_spec.specs.sums.Totals.{refused, pairs, sum_refusal, dot_refusal}
use Rattle.totals_spec.specs.chain.Limit.{most_passes}
use Rattle.totals_spec.specs.terms.Terms.{Term, exact_sum}
use Rattle.totals_spec.specs.chain.Chain.{chain, half, signed_from}
use Rattle.totals_spec.specs.chain.Standing.{pass_of}
use Rattle.totals_spec.specs.refusals.Conditions.{First, sum_conditions, dot_conditions}
use Rattle.totals_spec.specs.refusals.Places.{StrayAt, DotStrayAt}
use Rattle.totals_spec.specs.order.Rearranged.{AsOften, same_pair, holds_nan}
use Rattle.totals_spec.specs.Basics.{plus_of, minus_of}
use Rattle.totals_spec.specs.sums.Promises.{FieldsFit}
use Rattle.totals_spec.specs.entries.Bytes.{values_in, from_bytes, sum_entry, dot_entry}
use Rattle.totals_spec.specs.entries.Words.{format_by}
use Rattle.targets_spec.specs.within.Examples.{estimate_examples, estimate_entry_examples}
use Rattle.targets_spec.specs.within.Estimate.{full, sum_within, dot_within, Estimate, position_of}
use Rattle.targets_spec.specs.within.Estimate.{apart, shown, widest, sum_within_entry}
use Rattle.targets_spec.specs.within.Estimate.{dot_within_entry}
use Rattle.targets_spec.specs.within.Conditions.{within_conditions, within_entry_conditions}
use Rattle.targets_spec.specs.entries.Lengths.{CutShort, cut_short}
use Rattle.targets_spec.specs.entries.SignedWords.{signed_word}

-- within an allowance: each pass of chains with and without a boundary, inside a run of empty
-- passes, of each kind and summand, with named biases, and the entries; full answers, answers
-- without a pass, each refusal but 6, and two at once
abbrev pub Estimates-agree : Type 0
Estimates-agree = Holds estimate_examples × Holds estimate_entry_examples

-- if the chain ends in time the full answer comes
abbrev pub Within-in-time : Type 0
Within-in-time =
    ((format : Format) (settings : Settings) (u : ℕ) (values : List ℕ) (k : ℕ) → 0 < k
    → (sum_answer format settings u values).passes ≤ k
    → sum_within format settings u values k ≡ full (sum_answer format settings u values))
    × ((format : Format) (settings : Settings) (left right : List ℕ) (k : ℕ) → 0 < k
    → (dot_answer format settings left right).passes ≤ k
    → dot_within format settings left right k ≡ full (dot_answer format settings left right))

-- an allowance of as many passes as the limit is always enough
abbrev pub Within-limit : Type 0
Within-limit =
    ((format : Format) (settings : Settings) (summand : ℕ) (values : List ℕ) (k : ℕ)
    → most_passes format (sum_terms format settings (summand_of summand) values) ≤ k
    → sum_within format settings summand values k
    ≡ full (sum_answer format settings summand values))
    × ((format : Format) (settings : Settings) (left right : List ℕ) (k : ℕ)
    → most_passes format (dot_terms format settings left right) ≤ k
    → dot_within format settings left right k ≡ full (dot_answer format settings left right))

-- a full answer is the same for every larger number
abbrev pub Within-same : Type 0
Within-same =
    ((format : Format) (settings : Settings) (u : ℕ) (values : List ℕ) (k n : ℕ) → 0 < k → k ≤ n
    → (sum_within format settings u values k).mark ≡ 0
    → sum_within format settings u values n ≡ sum_within format settings u values k)
    × ((format : Format) (settings : Settings) (left right : List ℕ) (k n : ℕ) → 0 < k → k ≤ n
    → (dot_within format settings left right k).mark ≡ 0
    → dot_within format settings left right n ≡ dot_within format settings left right k)

-- an unfinished answer: the mark is 1 and the passes are the allowance; result, flags and side are
-- 0, and so are number and place
pub record Unfinished (k : ℕ) (e : Estimate) : Type 0 where
  pub mark : e.mark ≡ 1
  pub result : e.answer.result ≡ 0
  pub flags : e.answer.flags ≡ 0
  pub passes : e.answer.passes ≡ k
  pub refusal : e.answer.refusal ≡ 0
  pub place : e.answer.place ≡ 0
  pub side : e.answer.side ≡ 0

-- it comes exactly where the chain is longer than the allowance
abbrev pub Within-unfinished : Type 0
Within-unfinished =
    ((format : Format) (settings : Settings) (u : ℕ) (values : List ℕ) (k : ℕ) → 0 < k
    → k < (sum_answer format settings u values).passes
    → Unfinished k (sum_within format settings u values k))
    × ((format : Format) (settings : Settings) (left right : List ℕ) (k : ℕ) → 0 < k
    → k < (dot_answer format settings left right).passes
    → Unfinished k (dot_within format settings left right k))

-- S in units of the edge, plus the boundary, is off from the exact sum by fewer units of the edge
-- than there are terms. `edge` and `place` are the positions in the record, counted as the terms
-- count them
pub record NearSum (format : Format) (products : Bool) (ts : List Term)
    (e : Estimate) : Type 0 where
  pub edge : ℕ
  pub place : ℕ
  pub edge_at : e.answer.last_edge ≡ position_of format products edge
  pub place_at : e.whole ≢ 0 → e.unit ≡ position_of format products place
  pub near : apart (exact_sum ts) (shown e edge place) < widest ts edge

abbrev pub Within-near : Type 0
Within-near =
    ((format : Format) (settings : Settings) (summand : ℕ) (values : List ℕ) (k : ℕ)
    → (sum_within format settings summand values k).mark ≡ 1
    → NearSum format (is_square (summand_of summand))
    (sum_terms format settings (summand_of summand) values)
    (sum_within format settings summand values k))
    × ((format : Format) (settings : Settings) (left right : List ℕ) (k : ℕ)
    → (dot_within format settings left right k).mark ≡ 1
    → NearSum format true (dot_terms format settings left right)
    (dot_within format settings left right k))

-- of two unfinished answers that of the larger allowance has no wider bound; v and w are their
-- edges, counted as the terms count them
abbrev pub Within-narrower : Type 0
Within-narrower =
    ((format : Format) (settings : Settings) (summand : ℕ) (values : List ℕ) (k n : ℕ) → k ≤ n
    → (sum_within format settings summand values k).mark ≡ 1
    → (sum_within format settings summand values n).mark ≡ 1
    → (w v : ℕ) → (sum_within format settings summand values k).answer.last_edge
    ≡ position_of format (is_square (summand_of summand)) w
    → (sum_within format settings summand values n).answer.last_edge
    ≡ position_of format (is_square (summand_of summand)) v
    → widest (sum_terms format settings (summand_of summand) values) v
    ≤ widest (sum_terms format settings (summand_of summand) values) w)
    × ((format : Format) (settings : Settings) (left right : List ℕ) (k n : ℕ) → k ≤ n
    → (dot_within format settings left right k).mark ≡ 1
    → (dot_within format settings left right n).mark ≡ 1
    → (w v : ℕ) → (dot_within format settings left right k).answer.last_edge
    ≡ position_of format true w
    → (dot_within format settings left right n).answer.last_edge ≡ position_of format true v
    → widest (dot_terms format settings left right) v
    ≤ widest (dot_terms format settings left right) w)

-- passes are numbered as the chain runs them: the last one has the chain's edge
abbrev pub Within-last : Type 0
Within-last =
    ((format : Format) (settings : Settings) (summand : ℕ) (values : List ℕ)
    → Holds (valid_format format)
    → let h = chain (digits format) (sum_terms format settings (summand_of summand) values) in
    (pass_of (digits format) (sum_terms format settings (summand_of summand) values) h.passes).edge
    ≡ h.edge)
    × ((format : Format) (settings : Settings) (left right : List ℕ) → Holds (valid_format format)
    → let h = chain (digits format) (dot_terms format settings left right) in
    (pass_of (digits format) (dot_terms format settings left right) h.passes).edge ≡ h.edge)

-- the number in the record is that of the first condition that holds, 16 and then those of the
-- total; and 0 exactly where none holds
abbrev pub Within-refusal : Type 0
Within-refusal =
    ((format : Format) (settings : Settings) (u : ℕ) (values : List ℕ) (k number : ℕ)
    → (sum_within format settings u values k).answer.refusal ≡ number
    ↔ First (within_conditions k (sum_conditions format settings u values)) number)
    × ((format : Format) (settings : Settings) (left right : List ℕ) (k number : ℕ)
    → (dot_within format settings left right k).answer.refusal ≡ number
    ↔ First (within_conditions k (dot_conditions format settings left right)) number)

-- a refused record is 0 but for number and place
abbrev pub Within-refused : Type 0
Within-refused =
    ((format : Format) (settings : Settings) (u : ℕ) (values : List ℕ) (k : ℕ)
    → let e = sum_within format settings u values k in
    e.answer.refusal ≢ 0 → e ≡ full (refused e.answer.refusal e.answer.place))
    × ((format : Format) (settings : Settings) (left right : List ℕ) (k : ℕ)
    → let e = dot_within format settings left right k in
    e.answer.refusal ≢ 0 → e ≡ full (refused e.answer.refusal e.answer.place))

-- its place is 0 but for number 7, and there that of the first element with a stray bit
abbrev pub Within-place : Type 0
Within-place =
    ((format : Format) (settings : Settings) (u : ℕ) (values : List ℕ) (k : ℕ)
    → let a = (sum_within format settings u values k).answer in
    (a.refusal ≢ 7 → a.place ≡ 0) × (a.refusal ≡ 7 → StrayAt format values a.place))
    × ((format : Format) (settings : Settings) (left right : List ℕ) (k : ℕ)
    → let a = (dot_within format settings left right k).answer in
    (a.refusal ≢ 7 → a.place ≡ 0) × (a.refusal ≡ 7 → DotStrayAt format left right a.place))

-- a rearrangement of an accepted list without a NaN has the same record; the pairs of a dot move
-- together
abbrev pub Within-order : Type 0
Within-order =
    ((format : Format) (settings : Settings) (u : ℕ) (l₁ l₂ : List ℕ) (k : ℕ) → AsOften eqb l₁ l₂
    → sum_refusal format settings u l₁ ≡ 0 → holds_nan format l₁ ≡ false
    → sum_within format settings u l₁ k ≡ sum_within format settings u l₂ k)
    × ((format : Format) (settings : Settings) (xs ys xs' ys' : List ℕ) (k : ℕ)
    → length xs' ≡ length ys'
    → AsOften same_pair (pairs xs ys) (pairs xs' ys')
    → dot_refusal format settings xs ys ≡ 0 → holds_nan format xs ≡ false
    → holds_nan format ys ≡ false
    → dot_within format settings xs ys k ≡ dot_within format settings xs' ys' k)

-- the fields fit their places, of refused calls too: the boundary's whole number and the two
-- positions eight bytes, S ninety-six
pub record EstimateFits (format : Format) (e : Estimate) : Type 0 where
  pub fields : FieldsFit format e.answer
  pub mark : e.mark ≤ 1
  pub high : plus_of e.sum < 2 ^ 767
  pub low : minus_of e.sum ≤ 2 ^ 767
  pub whole : e.whole < 2 ^ 64
  pub minus : e.minus ≤ 1
  pub last_edge : nat_abs e.answer.last_edge < 2 ^ 63
  pub unit : nat_abs e.unit < 2 ^ 63

abbrev pub Within-fits : Type 0
Within-fits =
    ((format : Format) (settings : Settings) (u : ℕ) (values : List ℕ) (k : ℕ)
    → EstimateFits format (sum_within format settings u values k))
    × ((format : Format) (settings : Settings) (left right : List ℕ) (k : ℕ)
    → EstimateFits format (dot_within format settings left right k))

-- of the entries 1 and 2 before these, and the naming of the bias right behind 16; in the lowest
-- byte of the number that they return
abbrev pub Within-entry-refusal : Type 0
Within-entry-refusal =
    ((kind exponent_bits width named : ℕ) (bias : ℤ) (settings : Settings) (u a : ℕ)
    (bytes old : List ℕ) (number : ℕ)
    → (sum_within_entry kind exponent_bits width named bias settings u a bytes old).code % 256
    ≡ number
    ↔ First (within_entry_conditions (CutShort kind bytes) old a named bias
    (sum_conditions (format_by kind exponent_bits width named bias) settings u
    (values_in bytes))) number)
    × ((kind exponent_bits width named : ℕ) (bias : ℤ) (settings : Settings) (a : ℕ)
    (left right old : List ℕ) (number : ℕ)
    → (dot_within_entry kind exponent_bits width named bias settings a left right old).code % 256
    ≡ number
    ↔ First (within_entry_conditions (CutShort kind left ⊎ CutShort kind right) old a named bias
    (dot_conditions (format_by kind exponent_bits width named bias) settings (values_in left)
    (values_in right))) number)

-- a refused entry writes nothing
abbrev pub Within-entry-refused : Type 0
Within-entry-refused =
    ((kind exponent_bits width named : ℕ) (bias : ℤ) (settings : Settings) (u a : ℕ)
    (bytes old : List ℕ)
    → let x = sum_within_entry kind exponent_bits width named bias settings u a bytes old in
    x.code ≢ 0 → x.buffer ≡ old)
    × ((kind exponent_bits width named : ℕ) (bias : ℤ) (settings : Settings) (a : ℕ)
    (left right old : List ℕ)
    → let x = dot_within_entry kind exponent_bits width named bias settings a left right old in
    x.code ≢ 0 → x.buffer ≡ old)

-- a rearrangement of the values in its bytes, accepted and without a NaN: the number returned and
-- the buffer are alike
abbrev pub Within-entry-order : Type 0
Within-entry-order =
    ((kind exponent_bits width named : ℕ) (bias : ℤ) (settings : Settings) (u a : ℕ)
    (b₁ b₂ old : List ℕ)
    → let f = format_by kind exponent_bits width named bias in
    cut_short kind b₁ ≡ false → cut_short kind b₂ ≡ false
    → AsOften eqb (values_in b₁) (values_in b₂) → sum_refusal f settings u (values_in b₁) ≡ 0
    → holds_nan f (values_in b₁) ≡ false
    → sum_within_entry kind exponent_bits width named bias settings u a b₁ old
    ≡ sum_within_entry kind exponent_bits width named bias settings u a b₂ old)
    × ((kind exponent_bits width named : ℕ) (bias : ℤ) (settings : Settings) (a : ℕ)
    (x y x' y' old : List ℕ)
    → let f = format_by kind exponent_bits width named bias in
    (cut_short kind x || cut_short kind y) ≡ false
    → (cut_short kind x' || cut_short kind y') ≡ false
    → length (values_in x') ≡ length (values_in y')
    → AsOften same_pair (pairs (values_in x) (values_in y)) (pairs (values_in x') (values_in y'))
    → dot_refusal f settings (values_in x) (values_in y) ≡ 0 → holds_nan f (values_in x) ≡ false
    → holds_nan f (values_in y) ≡ false
    → dot_within_entry kind exponent_bits width named bias settings a x y old
    ≡ dot_within_entry kind exponent_bits width named bias settings a x' y' old)

-- what a caller reads where an entry returns 0: bytes 0 to 7 are the result, 8 to 11 flags, mark,
-- side and the boundary's sign, 12 to 15 are 0, 16 to 23 the passes; 24 to 31 the last edge and 40
-- to 47 the boundary's unit, with a sign; 32 to 39 the boundary's whole number; 48 to 143 S, from
-- −2^767 to 2^767 − 1; from 144 on the buffer is as it was
pub record ReadsEstimate (e : Estimate) (old new : List ℕ) : Type 0 where
  pub result : from_bytes (take 8 new) ≡ e.answer.result
  pub flags : get_or new 8 0 ≡ e.answer.flags
  pub mark : get_or new 9 0 ≡ e.mark
  pub side : get_or new 10 0 ≡ e.answer.side
  pub minus : get_or new 11 0 ≡ e.minus
  pub zeros : take 4 (drop 12 new) ≡ replicate 4 0
  pub passes : from_bytes (take 8 (drop 16 new)) ≡ e.answer.passes
  pub last_edge : signed_word (from_bytes (take 8 (drop 24 new))) ≡ e.answer.last_edge
  pub whole : from_bytes (take 8 (drop 32 new)) ≡ e.whole
  pub unit : signed_word (from_bytes (take 8 (drop 40 new))) ≡ e.unit
  pub sum : signed_from half (from_bytes (take 96 (drop 48 new))) ≡ e.sum
  pub rest : drop 144 new ≡ drop 144 old
  pub long : length new ≡ length old

abbrev pub Within-entry-read-back : Type 0
Within-entry-read-back =
    ((kind exponent_bits width named : ℕ) (bias : ℤ) (settings : Settings) (u a : ℕ)
    (bytes old : List ℕ)
    → let x = sum_within_entry kind exponent_bits width named bias settings u a bytes old in
    x.code ≡ 0
    → ReadsEstimate
    (sum_within (format_by kind exponent_bits width named bias) settings u
    (values_in bytes) a) old x.buffer)
    × ((kind exponent_bits width named : ℕ) (bias : ℤ) (settings : Settings) (a : ℕ)
    (left right old : List ℕ)
    → let x = dot_within_entry kind exponent_bits width named bias settings a left right old in
    x.code ≡ 0
    → ReadsEstimate
    (dot_within (format_by kind exponent_bits width named bias) settings (values_in left)
    (values_in right) a) old x.buffer)

-- bytes 0 to 23 of a full answer are those that the byte entry of the total writes
abbrev pub Within-entry-plain : Type 0
Within-entry-plain =
    ((kind exponent_bits width named : ℕ) (bias : ℤ) (settings : Settings) (u a : ℕ)
    (bytes old : List ℕ)
    → let f = format_by kind exponent_bits width named bias in
    let x = sum_within_entry kind exponent_bits width named bias settings u a bytes old in
    x.code ≡ 0 → (sum_within f settings u (values_in bytes) a).mark ≡ 0
    → ((sum_entry f settings u bytes old).code ≡ 0)
    × (take 24 x.buffer ≡ take 24 (sum_entry f settings u bytes old).buffer))
    × ((kind exponent_bits width named : ℕ) (bias : ℤ) (settings : Settings) (a : ℕ)
    (left right old : List ℕ)
    → let f = format_by kind exponent_bits width named bias in
    let x = dot_within_entry kind exponent_bits width named bias settings a left right old in
    x.code ≡ 0 → (dot_within f settings (values_in left) (values_in right) a).mark ≡ 0
    → ((dot_entry f settings left right old).code ≡ 0)
    × (take 24 x.buffer ≡ take 24 (dot_entry f settings left right old).buffer))
