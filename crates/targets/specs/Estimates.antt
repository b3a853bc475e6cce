-- A sum or a dot within an allowance of passes, as the code has it.
use Rattle.std.specs.Prelude.{◌≡◌, ◌+◌, ◌*◌, ◌^◌, ◌<◌, [], ◌∷◌, ltb, eqb, ℕ, Bool, List, ℤ, pos}
use Rattle.std.specs.Prelude.{Option, Some, None, IfSome, Result, Ok, Err}
use Rattle.totals_spec.specs.Basics.{Signed, flag}
use Rattle.totals_spec.specs.formats.Format.{Format}
use Rattle.totals_spec.specs.chain.Chain as chain
use Rattle.totals_spec.specs.sums.Totals.{Answer, refused, refuse_if}
use Rattle.targets_spec.specs.within.Estimate as spec
use Rattle.targets_spec.specs.entries.SignedWords.{word_of}
use Rattle.targets_spec.proofs.within.Answers.{Windowed}
use Rattle.limbs.specs.Value.{Words, value}
use Rattle.totals_spec.specs.terms.Terms.{Term}
use Rattle.window.specs.declared.Stopped.{Stopped}
use Rattle.reduction.specs.declared.total.Wide.{Wide}
use Rattle.reduction.specs.Answered.{answer_of}
use Rattle.targets.specs.declared.estimate.Boundary.{Boundary}
use Rattle.targets.specs.declared.estimate.Estimate.{Estimate}
use Rattle.targets.specs.declared.estimate.Estimate.TheVariants.{Full, Unfinished}
use Rattle.targets.specs.declared.entry_within.Written.{Written}
use Rattle.totals.specs.declared.refusal.Refusal.{Refusal}
use Rattle.totals.specs.Refusal.{number_of, place_of}
use Rattle.totals.specs.Walked.{Within}

-- the record of an answer without a result
abbrev pub passed : ℕ → ℤ → Answer
passed n edge = record {
  result = 0;
  flags = 0;
  passes = n;
  last_edge = edge;
  refusal = 0;
  place = 0;
  side = 0;
}

-- the numbers of a boundary, 0 where there is none
abbrev pub whole_in : Option Boundary → ℕ
whole_in None = 0
whole_in (Some b) = value b.whole

abbrev pub minus_in : Option Boundary → ℕ
minus_in None = 0
minus_in (Some b) = flag 1 b.negative

abbrev pub unit_in : Option Boundary → ℤ
unit_in None = pos 0
unit_in (Some b) = b.unit

abbrev pub estimate_of : Estimate → spec.Estimate
estimate_of (Full a) = spec.full (answer_of a)
estimate_of (Unfinished s) = record {
  answer = passed s.passes s.last_edge;
  mark = 1;
  sum = record { neg = s.negative; mag = value s.sum };
  whole = whole_in s.boundary;
  minus = minus_in s.boundary;
  unit = unit_in s.boundary;
}

-- a boundary that is shown has some of its units: so it is there exactly where the definitions have
-- one, whose three numbers else are 0
abbrev pub Bounded : Estimate → Type 0
Bounded (Full a) = Unit {0}
Bounded (Unfinished s) = IfSome s.boundary (λ b. 0 < value b.whole)

abbrev pub BoundedIn : Result Estimate Refusal → Type 0
BoundedIn (Ok e) = Bounded e
BoundedIn (Err r) = Unit {0}

-- of a call that may be refused
abbrev pub estimate_in : Result Estimate Refusal → spec.Estimate
estimate_in (Ok e) = estimate_of e
estimate_in (Err r) = spec.full (refused (number_of r) (place_of r))

-- what pass number a sees at the edge w, beside the boundary b, where its S is s
abbrev pub seen_at : Format → (products : Bool) → ℕ → chain.Boundary → ℕ → Signed → spec.Estimate
seen_at f products a b w s = record {
  answer = passed a (spec.position_of f products w);
  mark = 1;
  sum = s;
  whole = spec.whole_of b;
  minus = spec.sign_of b;
  unit = spec.unit_of f products b;
}

-- r is of some total over some terms, within an allowance of a passes
pub record Made (f : Format) (a : ℕ) (r : Result Wide Stopped) : Type 0 where
  pub total : Answer
  pub terms : List Term
  pub within : Within f total terms a r

-- ---- the entries

-- a record whose fields have their bytes
pub record FitsAnswer (a : Answer) : Type 0 where
  pub number : a.refusal < 256
  pub place : a.place < 2 ^ 32
  pub flags : a.flags < 256
  pub side : a.side < 4

pub record FitsEstimate (e : spec.Estimate) : Type 0 where
  pub answer : FitsAnswer e.answer
  pub sum : Windowed e.sum
  pub whole : e.whole < 2 ^ 64

-- the words of an estimate
pub record Writes (e : spec.Estimate) (w : Written) : Type 0 where
  pub head : w.head
      ≡ e.answer.result
      ∷ (e.answer.flags + 256 * e.mark + 65536 * e.answer.side + 16777216 * e.minus)
      ∷ e.answer.passes
      ∷ word_of e.answer.last_edge ∷ e.whole ∷ word_of e.unit ∷ []
  pub sum : value w.sum ≡ spec.window_of e.sum
  pub long : Words 12 w.sum

-- the refusals 1, 2 and 16, which stand before those of the format and of the total
abbrev pub within_numbers : Bool → (room allowance : ℕ) → ℕ
within_numbers cut room k = refuse_if cut 1 (refuse_if (ltb room 144) 2 (refuse_if (eqb k 0) 16 0))
