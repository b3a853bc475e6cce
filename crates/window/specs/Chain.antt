-- The code's passes and chains as those of totals_spec, and what the contracts of this crate cite.
use Rattle.std.specs.Prelude.{◌≡◌, Bool, true, false, cond, List, Option, Some, None, IfSome}
use Rattle.std.specs.Prelude.{ℕ, suc, ◌+◌, ◌-◌, ◌*◌, ◌/◌, ◌^◌, ◌≤◌, ◌<◌, ltb, eqb}
use Rattle.std.specs.declared.ops.ControlFlow.{ControlFlow}
use Rattle.std.specs.declared.ops.ControlFlow.TheVariants.{Continue, Break}
use Rattle.std.specs.Bool.{beq}
use Rattle.std.specs.Float.Ieee.{size}
use Rattle.limbs.specs.Value.{value, term}
use Rattle.totals_spec.specs.Basics as words
use Rattle.totals_spec.specs.terms.Terms as terms
use Rattle.totals_spec.specs.chain.Chain as chain
use Rattle.totals_spec.specs.chain.Settled as settled
use Rattle.totals_spec.specs.chain.Standing.{pass_of}
use Rattle.exact.specs.declared.Unrounded.{Unrounded}
use Rattle.exact.specs.Unrounded.{significand_of, Stands, narrowed_most}
use Rattle.binary.specs.declared.term.Term.{Term}
use Rattle.binary.specs.Terms.{magnitude}
use Rattle.window.specs.declared.UpperPart.{UpperPart}
use Rattle.window.specs.declared.Part.{Part}
use Rattle.window.specs.declared.Pass.{Pass}
use Rattle.window.specs.declared.Units.{Units}
use Rattle.window.specs.declared.Chain.{Chain}
use Rattle.window.specs.declared.Stopped.{Stopped}
use Rattle.window.specs.declared.ExactSum.{ExactSum}
use Rattle.window.specs.declared.Outcome.{Outcome}
use Rattle.window.specs.declared.Outcome.TheVariants as out
use Rattle.window.specs.declared.Nearness.{Nearness}
use Rattle.window.specs.declared.Nearness.TheVariants.{Low, High, Between}

-- ---- the window's measures

-- the bits of a window
abbrev pub window_bits : ℕ
window_bits = 768

-- How far the first edge lies below the highest bit of a term, the edge beside a boundary below the
-- one before it, and any other edge below the greatest bit that the sum can have.
abbrev pub first_depth : ℕ
first_depth = 702

abbrev pub boundary_depth : ℕ
boundary_depth = 701

abbrev pub next_depth : ℕ
next_depth = 766

-- so many bits of S tell on which side of a boundary the sum lies
abbrev pub side_bits : ℕ
side_bits = 66

-- a boundary lies near within so many units
abbrev pub margin : ℕ
margin = 2 ^ 65

-- ---- a pass, and a chain

-- the number that is added of a term
abbrev pub part_of : Option UpperPart → ℕ
part_of None = 0
part_of (Some part) = term part.significand part.up

-- the part of a term at or above an edge, and the lost bit plus one
pub record PartAt (edge : ℕ) (term : Term) (part : Part) : Type 0 where
  pub exact : part_of part.kept ≡ magnitude term / 2 ^ edge
  pub lost-is : part.lost ≡ chain.lost_end edge (magnitude term)
  pub one_word : term.significand < 2 ^ 64 → IfSome part.kept (λ k. k.significand < 2 ^ 64)

-- a pass at an edge over the terms ts
pub record Passed (ts : List terms.Term) (edge : ℕ) (pass : Pass) : Type 0 where
  pub total :
      let seen = chain.look_at ts edge in value pass.total ≡ chain.residue chain.half seen.plus seen.minus
  pub lost : pass.lost ≡ (chain.look_at ts edge).lost

-- the chain before its first pass
abbrev pub started : ℕ → Chain
started top = record { boundary = None; passes = 0; edge = top - first_depth }

-- S as a signed number, and the boundary
abbrev pub signed_of : Units → words.Signed
signed_of s = record { neg = s.negative; mag = value s.whole }

abbrev pub boundary_of : Option Units → chain.Boundary
boundary_of None = chain.no_boundary
boundary_of (Some b) = chain.boundary b.negative (value b.whole) b.place

abbrev pub bound_of : Chain → chain.Boundary
bound_of at = boundary_of at.boundary

-- how a chain ends, and its run, as those of the definitions
abbrev pub outcome_by : Outcome → chain.Outcome
outcome_by out.Zero = chain.zero_sum
outcome_by (out.Exact s) = chain.exactly s.negative (value s.whole) s.place
outcome_by (out.Inexact s) = chain.nearly s.negative (value s.whole) s.place
outcome_by (out.Below b) = chain.beside chain.below b.negative (value b.whole) b.place
outcome_by (out.On b) = chain.beside chain.on b.negative (value b.whole) b.place
outcome_by (out.Above b) = chain.beside chain.above b.negative (value b.whole) b.place

abbrev pub outcome_of : ExactSum → chain.Outcome
outcome_of sum = outcome_by sum.outcome

abbrev pub run_of : ExactSum → chain.Run
run_of sum = record { outcome = outcome_of sum; passes = sum.passes; edge = sum.edge }

-- how a sum comes out beside the boundary b, for S of the sign x and of n bits
abbrev pub beside_of : Units → Bool → ℕ → Outcome
beside_of b x n = cond (eqb n 0) (out.On b) (cond (beq x b.negative) (out.Above b) (out.Below b))

-- where a remainder d by 2^r stands
abbrev pub near_by : ℕ → ℕ → Nearness
near_by d r = cond (ltb d margin) Low (cond (ltb (2 ^ r - margin) d) High Between)

-- ---- one step of a chain

-- How many passes one step counts for, at the edge w, with S of n bits and the lost bit plus one.
-- Where S is 0 and the lost bit lies more than 64 below w, the passes that follow find the same
-- until an edge is at most 64 above the lost bit (`skip` of totals_spec): they are counted with
-- this one.
abbrev pub counted : ℕ → ℕ → ℕ → ℕ
counted w n lost = cond (eqb n 0) (cond (ltb (lost + 63) w) ((w - lost + 702) / next_depth) 1) 1

-- what a step may count on: the lost bit lies above the lowest bit that a term can have, and at
-- most at the edge
pub record Ready (at : Chain) (lost : ℕ) : Type 0 where
  pub passes : at.passes < 2 ^ 62
  pub edge : at.edge < 2 ^ 62
  pub high : 0 < lost → 1024 < lost
  pub low : lost ≤ at.edge

-- on, at a lower edge, with the boundary as it was; each pass that is only counted lowers the edge
-- by 766
pub record Goes (n lost : ℕ) (at next : Chain) : Type 0 where
  pub boundary : next.boundary ≡ at.boundary
  pub passes : next.passes ≡ at.passes + counted at.edge n lost
  pub edge :
      next.edge + next_depth * (counted at.edge n lost - 1) ≡ chain.next_edge at.edge n lost

-- on, with a boundary: a multiple of 2^rest units next to the sum
pub record Bounds (sum : Units) (rest : ℕ) (up : Bool) (at next : Chain) : Type 0 where
  pub boundary :
      let kept = value sum.whole / 2 ^ rest in
      bound_of next ≡ chain.boundary sum.negative (kept + words.flag 1 up) (sum.place + rest)
  pub passes : next.passes ≡ at.passes + 1
  pub edge : next.edge ≡ at.edge - boundary_depth

-- What the code's chain came to is the step s of the definitions' chain; but where it counts k
-- passes, k − 1 of them follow that step, each 766 lower.
abbrev pub Follows : ControlFlow Outcome Chain → chain.Step → (k : ℕ) → Chain → Type 0
Follows (Break o) s k at = s ≡ chain.done (outcome_by o)
Follows (Continue next) s k at =
    (s ≡ chain.next (bound_of next) (next.edge + next_depth * (k - 1))) × (next.passes ≡ at.passes + k)

-- S as the code has it, without the boundary: `vanishes` of totals_spec says that this is no other
abbrev pub total_of : Pass → words.Signed
total_of pass = chain.signed_from chain.half (value pass.total)

abbrev pub width_of : Pass → ℕ
width_of pass = size (total_of pass).mag

-- a step is that of the definitions' chain, after a pass at its edge
abbrev pub Steps : (p : ℕ) → Chain → Pass → ControlFlow Outcome Chain → Type 0
Steps p at q flow =
    let decided = chain.decide p (bound_of at) at.edge q.lost (total_of q) (width_of q) in
    Follows flow decided (counted at.edge (width_of q) q.lost) at

-- ---- an allowance of passes

-- a chain that stops at the last pass allowed: its pass at hand, or one that is counted with it
pub record Stops (allowed : ℕ) (at : Chain) (pass : Pass) (stopped : Stopped) : Type 0 where
  pub sum : signed_of stopped.sum ≡ total_of pass
  pub edge : stopped.sum.place ≡ at.edge - next_depth * (allowed - at.passes - 1)
  pub boundary : stopped.boundary ≡ at.boundary

-- the last pass allowed of the definitions' chain, which is longer, with its boundary b, its edge
-- and S
pub record StoppedAt (p : ℕ) (ts : List terms.Term) (allowed : ℕ) (b : chain.Boundary) (edge : ℕ) (s : words.Signed)
    : Type 0 where
  pub stands : pass_of p ts allowed ≡ record { bound = b; edge = edge }
  pub longer : allowed < (chain.chain p ts).passes
  pub sum : chain.sum_of b edge (chain.look_at ts edge) ≡ s

-- ---- the end of a chain

-- a number's place in a value to round: deep enough for two places below it, and a number of the
-- code
pub record Deep (e : ℕ) : Type 0 where
  pub high : 66 ≤ e
  pub small : e < 2 ^ 62

-- a boundary has p + 1 bits, or is the next power of two
pub record Bordered (p m : ℕ) : Type 0 where
  pub many : 2 ^ p ≤ m
  pub few : m ≤ 2 ^ suc p

-- what a chain ends with
abbrev pub EndsWith : ℕ → Outcome → Type 0
EndsWith p out.Zero = Unit
EndsWith p (out.Exact s) = (0 < value s.whole) × Deep s.place
EndsWith p (out.Inexact s) = (2 ^ (p + 69) ≤ value s.whole) × Deep s.place
EndsWith p (out.Below b) = Bordered p (value b.whole) × Deep b.place
EndsWith p (out.On b) = Bordered p (value b.whole) × Deep b.place
EndsWith p (out.Above b) = Bordered p (value b.whole) × Deep b.place

-- what a rounding may count on (`walked-done` of proofs/Walked says that every chain gives it)
pub record Ended (p : ℕ) (e : ExactSum) : Type 0 where
  pub ends : EndsWith p e.outcome
  pub edge : e.edge < 2 ^ 62

-- an outcome that is rounded: a sum that is not zero, and a boundary that leaves room for two bits
-- more
abbrev pub Roundable : Outcome → Type 0
Roundable out.Zero = Unit
Roundable (out.Exact s) = (0 < value s.whole) × Deep s.place
Roundable (out.Inexact s) = (0 < value s.whole) × Deep s.place
Roundable (out.Below b) = (0 < value b.whole) × (value b.whole ≤ 2 ^ 65) × Deep b.place
Roundable (out.On b) = (0 < value b.whole) × (value b.whole ≤ 2 ^ 65) × Deep b.place
Roundable (out.Above b) = (0 < value b.whole) × (value b.whole ≤ 2 ^ 65) × Deep b.place

-- a little more than so many quarters of a unit of 2^place
pub record Quarters (negative : Bool) (place quarters : ℕ) (value : Unrounded) : Type 0 where
  pub sign : value.negative ≡ negative
  pub sticky : value.sticky ≡ true
  pub position : value.position ≡ place - 2
  pub is : significand_of value ≡ quarters

-- the value that a sum of units of 2^place leaves to round, with what `round` of the crate exact
-- asks of it
pub record LeavesAt (outcome : Outcome) (place : ℕ) (value : Unrounded) : Type 0 where
  pub stands : Stands value (settled.settled (outcome_by outcome)).mag
  pub negative : value.negative ≡ (settled.settled (outcome_by outcome)).neg
  pub some : 0 < significand_of value
  pub high : place ≤ value.position + 2
  pub low : value.position ≤ place + narrowed_most
  pub long : (p : ℕ) → p ≤ 64 → EndsWith p outcome → value.sticky ≡ true → 2 ^ p ≤ significand_of value

-- and an outcome; terms that cancel leave nothing
abbrev pub Leaves : Outcome → Unrounded → Type 0
Leaves out.Zero v = significand_of v ≡ 0
Leaves (out.Exact s) v = LeavesAt (out.Exact s) s.place v
Leaves (out.Inexact s) v = LeavesAt (out.Inexact s) s.place v
Leaves (out.Below b) v = LeavesAt (out.Below b) b.place v
Leaves (out.On b) v = LeavesAt (out.On b) b.place v
Leaves (out.Above b) v = LeavesAt (out.Above b) b.place v

-- what is left to round of a signed sum x, by which its first p digits are decided
pub record Remains (p : ℕ) (x : words.Signed) (value : Unrounded) : Type 0 where
  pub stands : Stands value x.mag
  pub negative : value.negative ≡ x.neg
  pub high : 64 ≤ value.position
  pub low : value.position < 2 ^ 62 + narrowed_most
  pub long : value.sticky ≡ true → 2 ^ p ≤ significand_of value

-- nothing is left of terms that cancel
pub record LeftOf (p : ℕ) (x : words.Signed) (value : Unrounded) : Type 0 where
  pub none : significand_of value ≡ 0 → x ≡ record { neg = false; mag = 0 }
  pub some : 0 < significand_of value → Remains p x value
