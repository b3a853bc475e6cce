-- What a pass holds after some terms: the window's number, but for what the window started with,
-- and the lost bit plus one are those of a pass over these terms.
use Rattle.std.specs.Prelude.{◌≡◌, List, ℕ, ◌+◌, ◌^◌, ◌<◌, ◌≤◌, length, replicate, Result, Ok, Err}
use Rattle.limbs.specs.Value.{value}
use Rattle.totals_spec.specs.terms.Terms as terms
use Rattle.totals_spec.specs.chain.Chain.{residue, half, look_at, chain}
use Rattle.totals_spec.specs.formats.Format.{Format, kind_of}
use Rattle.totals_spec.specs.sums.Totals.{limit}
use Rattle.totals_spec.specs.formats.KindValues.{AllGive}
use Rattle.totals_spec.proofs.terms.GoodTerms.{AllGood}
use Rattle.totals_spec.proofs.terms.HighestAndLowest.{top_product}
use Rattle.totals_spec.proofs.chain.Margin.{terms-max}
use Rattle.totals_spec.proofs.chain.Sizes.{KeptBoundary}
use Rattle.window.specs.declared.ExactSum.{ExactSum}
use Rattle.window.specs.declared.Stopped.{Stopped}
use Rattle.window.specs.Chain.{boundary_of, signed_of, run_of, Ended, StoppedAt}

-- what a window starts with: the middle of each word
abbrev pub middle : List ℕ
middle = replicate 12 9223372036854775808

-- a window's number and the lost bit plus one, after the terms ts at an edge
pub record Held (ts : List terms.Term) (edge number lost : ℕ) : Type 0 where
  pub window : number ≡ residue half (value middle + (look_at ts edge).plus) (look_at ts edge).minus
  pub lost-is : lost ≡ (look_at ts edge).lost

-- every term lies below this position
abbrev pub top_end : ℕ
top_end = 2147483648

-- what the chain of passes may count on: there are terms, not too many, each well above the unit,
-- and at most 64 digits are to be decided
pub record Base (p : ℕ) (ts : List terms.Term) : Type 0 where
  pub digits_le : p ≤ 64
  pub good : AllGood ts
  pub few : length ts ≤ terms-max
  pub small : terms.top_of ts < top_end
  pub some : 0 < length ts

-- items in a format that a chain of passes can add up, to a number that the format can tell
pub record Summable (format : Format) (items : List terms.Item) : Type 0 where
  pub good : AllGood (terms.terms items)
  pub few : length items ≤ limit
  pub top : terms.top_of (terms.terms items) ≤ top_product format
  pub gives : AllGive (kind_of format.kind) items

-- the end of a chain is that of the definitions' chain over the terms, and it can be rounded
pub record Sums (p : ℕ) (ts : List terms.Term) (sum : ExactSum) : Type 0 where
  pub run : run_of sum ≡ chain p ts
  pub ended : Ended p sum

-- a chain that an allowance of passes stops: at the last pass allowed of the definitions' chain,
-- which is longer, with numbers of the code
pub record StoppedSum (p : ℕ) (ts : List terms.Term) (allowed : ℕ) (stopped : Stopped) : Type 0 where
  pub stands : StoppedAt p ts allowed (boundary_of stopped.boundary) stopped.sum.place (signed_of stopped.sum)
  pub bound : KeptBoundary p (terms.top_of ts) (boundary_of stopped.boundary)
  pub edge : stopped.sum.place < 2 ^ 62
  pub small : terms.top_of ts < top_end
  pub few : allowed < 2 ^ 63

-- within an allowance of passes
abbrev pub SumsWithin : ℕ → List terms.Term → (allowed : ℕ) → Result ExactSum Stopped → Type 0
SumsWithin p ts allowed (Ok sum) = Sums p ts sum × (sum.passes ≤ allowed)
SumsWithin p ts allowed (Err stopped) = StoppedSum p ts allowed stopped
