-- The code's record as that of totals_spec, and a sum rounded once.
use Rattle.std.specs.Prelude.{◌≡◌, Bool, true, false, ℕ, ◌+◌, ◌^◌, ◌≤◌, ◌<◌, ltb, ℤ}
use Rattle.std.proofs.Math.IntN.{sub_ℕ}
use Rattle.totals_spec.specs.Basics.{Signed, flag}
use Rattle.totals_spec.specs.formats.Bounds.{FormatBounds, SettingsBounds}
use Rattle.totals_spec.specs.formats.Format as spec
use Rattle.totals_spec.specs.formats.Settings as env
use Rattle.totals_spec.specs.sums.Totals as totals
use Rattle.totals_spec.specs.ten_bytes.Extended.{spread, extended}
use Rattle.totals_spec.specs.ten_bytes.TwoWords.{joined}
use Rattle.totals_spec.specs.rounding.Side.{rounded_side}
use Rattle.totals_spec.specs.chain.Chain.{Run}
use Rattle.totals_spec.specs.rounding.IntoFormat as several
use Rattle.format.specs.Unpacked.{unpacked_of}
use Rattle.format.specs.Fits.{Encodes}
use Rattle.exact.specs.declared.Rounded.{Rounded}
use Rattle.exact.specs.declared.Unrounded.{Unrounded}
use Rattle.exact.specs.Unrounded.{rounded_of, narrowed_most}
use Rattle.window.specs.declared.ExactSum.{ExactSum}
use Rattle.window.specs.Chain.{Ended, LeftOf}
use Rattle.reduction.specs.declared.total.Answer.{Answer}
use Rattle.reduction.specs.declared.total.Wide.{Wide}

-- a format wider than a word, that of kind 4, or one that is offered
abbrev pub wide : spec.Format → Bool
wide f = ltb 64 f.W

abbrev pub Known : (wide : Bool) → spec.Format → Type 0
Known true f = f ≡ extended
Known false f = FormatBounds f

-- a result in its words; that of kind 4 has two, and its leading bit is written out
abbrev pub words_as : (wide : Bool) → (head low : ℕ) → ℕ
words_as true h m = joined h m
words_as false h m = m

abbrev pub written_as : (wide : Bool) → ℕ → ℕ
written_as true n = spread n
written_as false n = n

abbrev pub answer_of : Answer → totals.Answer
answer_of r = record {
  result = r.result;
  flags = r.flags;
  passes = r.passes;
  last_edge = r.last_edge;
  refusal = 0;
  place = 0;
  side = r.side;
}

abbrev pub answer_as : (wide : Bool) → Wide → totals.Answer
answer_as w r = record {
  result = words_as w r.head r.answer.result;
  flags = r.answer.flags;
  passes = r.answer.passes;
  last_edge = r.answer.last_edge;
  refusal = 0;
  place = 0;
  side = r.answer.side;
}

-- the record of a total as it is written
abbrev pub given_as : (wide : Bool) → totals.Answer → totals.Answer
given_as w a = record {
  result = written_as w a.result;
  flags = a.flags;
  passes = a.passes;
  last_edge = a.last_edge;
  refusal = a.refusal;
  place = a.place;
  side = a.side;
}

-- the code's record in a format is that of the definitions
abbrev pub Reports : spec.Format → Wide → totals.Answer → Type 0
Reports format given answer = answer_as (wide format) given ≡ given_as (wide format) answer

-- the record of a signed sum x that a run came to, rounded once into the format of its list
abbrev pub sum_record : spec.Format → env.Settings → (subnormal products : Bool) → Signed → Run → totals.Answer
sum_record f c subnormal products x run =
    totals.reported f subnormal products (totals.on_grid f products x)
    (totals.sum_rounded f c (spec.grid f products) (totals.towards_negative c) (totals.on_grid f products x)) run

-- and rounded once into a target t, from a list in the format f
abbrev pub target_record : (f t : spec.Format) → env.Settings → (subnormal : Bool) → Signed → Run → totals.Answer
target_record f t c subnormal x run = several.printed f t subnormal x (several.rounded_into f t c x) run

-- what is left of a sum can be rounded into f on a grid g, counted from a unit `up` positions
-- lower: f has at most the digits that are decided
pub record CanRound (f : spec.Format) (c : env.Settings) (g up : ℕ) (value : Unrounded) : Type 0 where
  pub decided : ℕ
  pub sum : Signed
  pub left : LeftOf decided sum value
  pub settings : SettingsBounds f c
  pub enough : spec.digits f ≤ decided
  pub grid : g < 2 ^ 62
  pub few : up + narrowed_most ≤ 2 ^ 30

-- a value is what is left to round of some sum, of which p digits are decided
pub record LeavesSum (p : ℕ) (value : Unrounded) : Type 0 where
  pub sum : Signed
  pub left : LeftOf p sum value

-- the rounding of a signed sum x on a grid g, which can be encoded, and leaves flag 128 free
pub record RoundedSum (f : spec.Format) (c : env.Settings) (g : ℕ) (x : Signed) (rounded : Rounded) : Type 0 where
  pub equal : rounded_of rounded ≡ totals.sum_rounded f c g (totals.towards_negative c) x
  pub encodes : Encodes f (unpacked_of rounded.value)
  pub flags : rounded.flags < 128

-- the end of the chain of a list in the format f, and a target t that its sum can be rounded into,
-- under the target's settings
pub record Into (f t : spec.Format) (c : env.Settings) (end : ExactSum) : Type 0 where
  pub ended : Ended (spec.digits f) end
  pub settings : SettingsBounds t c
  pub digits_le : spec.digits t ≤ spec.digits f

-- a value left of some sum of a list in the format f, and a target t that it can be rounded into,
-- under the target's settings
pub record LeftInto (f t : spec.Format) (c : env.Settings) (value : Unrounded) : Type 0 where
  pub sum : Signed
  pub left : LeftOf (spec.digits f) sum value
  pub settings : SettingsBounds t c
  pub digits_le : spec.digits t ≤ spec.digits f

-- the record of a rounding, and of the chain behind it
abbrev pub record_of : (subnormal : Bool) → (encoding : ℕ) → Rounded → (passes : ℕ) → (last_edge : ℤ) → totals.Answer
record_of subnormal encoding rounded passes edge = record {
  result = encoding;
  flags = flag 128 subnormal + rounded.flags;
  passes = passes;
  last_edge = edge;
  refusal = 0;
  place = 0;
  side = rounded_side (unpacked_of rounded.value) rounded.flags;
}

-- the edge of a chain over a list in a format, as a record has it
abbrev pub last_edge_of : spec.Format → (products : Bool) → ℕ → ℤ
last_edge_of format products edge = sub_ℕ (edge + spec.fall format products) (spec.origin format products)
