-- What is promised of the chain of passes: what it ends with, rounded once, is the exact sum
-- rounded once; it ends by its own rule, within the limit on the passes; and each edge is a true
-- difference.
use Rattle.std.specs.Prelude.{◌≡◌, Bool, List, [], ℕ, ◌-◌, ◌≤◌, T as Holds, ◌+◌, ◌<◌, max, length}
use Rattle.std.specs.Prelude.{◌/◌, ◌%◌, ◌^◌}
use Rattle.totals_spec.specs.formats.Format.{Format, binary64, valid_format, digits}
use Rattle.totals_spec.specs.formats.Settings.{Settings, summand_of}
use Rattle.totals_spec.specs.sums.Totals.{finite_total, sum_refusal, sum_terms, dot_refusal}
use Rattle.totals_spec.specs.sums.Totals.{dot_terms, sum_answer, dot_answer}
use Rattle.totals_spec.specs.chain.Settled.{chain_total}
use Rattle.totals_spec.specs.chain.Limit.{most_passes, low_bit}
use Rattle.totals_spec.specs.chain.Chain.{Outcome, zero_sum, exactly, nearly, beside, unfinished}
use Rattle.totals_spec.specs.chain.Chain.{chain, look_at}
use Rattle.totals_spec.specs.terms.Terms.{Term, top_of}

-- what a chain ends with, rounded once, is the exact sum rounded once: near a tie too, for every
-- format, setting and precision. (For every place of the grid: `products` and the sign of a zero do
-- not matter)
abbrev pub Sum-by-chain : Type 0
Sum-by-chain = (format : Format) (settings : Settings) (summand : ℕ) (values : List ℕ)
    (sub products minus : Bool)
    → sum_refusal format settings summand values ≡ 0
    → chain_total format settings sub products minus
    (sum_terms format settings (summand_of summand) values)
    ≡ finite_total format settings sub products minus
    (sum_terms format settings (summand_of summand) values)

abbrev pub Dot-by-chain : Type 0
Dot-by-chain = (format : Format) (settings : Settings) (left right : List ℕ)
    (sub products minus : Bool)
    → dot_refusal format settings left right ≡ 0
    → chain_total format settings sub products minus (dot_terms format settings left right)
    ≡ finite_total format settings sub products minus (dot_terms format settings left right)

-- of every call, refused ones too; where there is no term no pass is run
abbrev pub Sum-limit : Type 0
Sum-limit = (format : Format) (settings : Settings) (summand : ℕ) (values : List ℕ)
    → (sum_answer format settings summand values).passes
    ≤ most_passes format (sum_terms format settings (summand_of summand) values)

abbrev pub Dot-limit : Type 0
Dot-limit = (format : Format) (settings : Settings) (left right : List ℕ)
    → (dot_answer format settings left right).passes
    ≤ most_passes format (dot_terms format settings left right)

-- binary64: at most 4 passes in a sum or magnitude sum, at most 7 in a square sum or dot
abbrev pub Binary64-sum-limit : Type 0
Binary64-sum-limit = (settings : Settings) (u : ℕ) (values : List ℕ) → u ≤ 1
    → (sum_answer binary64 settings u values).passes ≤ 4

abbrev pub Binary64-square-limit : Type 0
Binary64-square-limit = (settings : Settings) (u : ℕ) (values : List ℕ)
    → (sum_answer binary64 settings u values).passes ≤ 7

abbrev pub Binary64-dot-limit : Type 0
Binary64-dot-limit = (settings : Settings) (left right : List ℕ)
    → (dot_answer binary64 settings left right).passes ≤ 7

-- a chain ends by its own rule: the number of passes that `chain` allows is never used up
abbrev pub Finished : Outcome → Type 0
Finished zero_sum = Unit {0}
Finished (exactly s m w) = Unit {0}
Finished (nearly s m w) = Unit {0}
Finished (beside x s m w) = Unit {0}
Finished unfinished = ⊥

abbrev pub Sum-ends : Type 0
Sum-ends = (format : Format) (settings : Settings) (summand : ℕ) (values : List ℕ)
    → Holds (valid_format format)
    → Finished
    (chain (digits format) (sum_terms format settings (summand_of summand) values)).outcome

abbrev pub Dot-ends : Type 0
Dot-ends = (format : Format) (settings : Settings) (left right : List ℕ)
    → Holds (valid_format format)
    → Finished (chain (digits format) (dot_terms format settings left right)).outcome

-- no edge lies below the unit from which positions are counted, so each `-` in an edge's definition
-- is a true difference: in T − 702, and after a pass that has lost something in w − 701, and in
-- max(w + n, lost + 64) − 766
abbrev pub EdgesTrue : List Term → Type 0
EdgesTrue ts = (0 < length ts → 702 ≤ top_of ts)
    × ((w n : ℕ) → 0 < (look_at ts w).lost
    → (701 ≤ w) × (766 ≤ max (w + n) ((look_at ts w).lost + 64)))

abbrev pub Sum-edges : Type 0
Sum-edges = (format : Format) (settings : Settings) (summand : ℕ) (values : List ℕ)
    → EdgesTrue (sum_terms format settings (summand_of summand) values)

abbrev pub Dot-edges : Type 0
Dot-edges = (format : Format) (settings : Settings) (left right : List ℕ)
    → EdgesTrue (dot_terms format settings left right)

-- `low_bit` is the lowest set bit: the bits below it are 0, and it is 1
abbrev pub Low-bit : Type 0
Low-bit = (m : ℕ) → 0 < m → (m % 2 ^ low_bit m ≡ 0) × (m / 2 ^ low_bit m % 2 ≡ 1)
