-- The code's types as those of totals_spec, the exact numbers that a value to round stands for, and
-- what its rounding is.
use Rattle.std.specs.Prelude.{◌≡◌, Bool, true, false, ◌&&◌, cond, List}
use Rattle.std.specs.Prelude.{ℕ, suc, ◌+◌, ◌-◌, ◌*◌, ◌/◌, ◌^◌, ◌≤◌, ◌<◌, min, eqb}
use Rattle.limbs.specs.Value.{value, bit_length}
use Rattle.totals_spec.specs.Basics.{flag}
use Rattle.totals_spec.specs.formats.Format as spec
use Rattle.totals_spec.specs.formats.Bounds.{RangeBounds, SettingsBounds}
use Rattle.totals_spec.specs.formats.Settings as env
use Rattle.totals_spec.specs.rounding.Round as round
use Rattle.totals_spec.specs.formats.Decode as dec
use Rattle.format.specs.Unpacked.{unpacked_of}
use Rattle.format.specs.Fits.{Encodes}
use Rattle.exact.specs.declared.Unrounded.{Unrounded}
use Rattle.exact.specs.declared.Digits.{Digits}
use Rattle.exact.specs.declared.Rounded.{Rounded}
use Rattle.exact.specs.declared.rounding.Dropped.{Dropped}
use Rattle.exact.specs.declared.rounding.Dropped.TheVariants.{Nothing, BelowHalf, Half, AboveHalf}
use Rattle.exact.specs.declared.rounding.Underflow.{Underflow}
use Rattle.exact.specs.declared.rounding.Underflow.TheVariants.{Flushed, Kept}

-- ---- the rounding rules

-- the code's parts as those of the definitions
abbrev pub dropped_of : Dropped → round.Dropped
dropped_of Nothing = round.nothing
dropped_of BelowHalf = round.below_half
dropped_of Half = round.at_half
dropped_of AboveHalf = round.above_half

-- from the first dropped bit, and whether anything lies below it
abbrev pub dropped_by : Bool → Bool → round.Dropped
dropped_by true true = round.above_half
dropped_by true false = round.at_half
dropped_by false true = round.below_half
dropped_by false false = round.nothing

-- whether a rounding to nearest goes up, where a tie does as told
abbrev pub nearest_up : round.Dropped → Bool → Bool
nearest_up round.nothing tie = false
nearest_up round.below_half tie = false
nearest_up round.at_half tie = tie
nearest_up round.above_half tie = true

-- the flags of a result by whether it is tiny and inexact: 8 underflow, 16 inexact, 32 tiny
abbrev pub underflow_of : Bool → Bool → Bool → Underflow
underflow_of tiny inexact flush =
    cond (tiny && flush) (Flushed (8 + 16 + 32)) (Kept (flag 32 tiny + flag 16 inexact + flag 8 (tiny && inexact)))

-- ---- values to round

abbrev pub significand_of : Unrounded → ℕ
significand_of unrounded = unrounded.significand

-- the exact numbers that m units stand for: m units, or with a sticky bit every number strictly
-- between m and m + 1 units
abbrev pub StandsAt : Bool → ℕ → ℕ → ℕ → Type 0
StandsAt false m unit x = x ≡ m * unit
StandsAt true m unit x = (m * unit < x) × (x < suc m * unit)

abbrev pub Stands : Unrounded → ℕ → Type 0
Stands unrounded x = StandsAt unrounded.sticky (significand_of unrounded) (2 ^ unrounded.position) x

-- two of the twelve words of a window leave so many bits below them at most
abbrev pub narrowed_most : ℕ
narrowed_most = 640

-- a window to round at a position, in two words: a value that stands for all that the window
-- stands for
pub record Narrows (negative sticky : Bool) (position : ℕ) (window : List ℕ) (unrounded : Unrounded) : Type 0 where
  pub sign : unrounded.negative ≡ negative
  pub stands : (x : ℕ) → StandsAt sticky (value window) (2 ^ position) x → Stands unrounded x
  pub some : 0 < value window → 0 < significand_of unrounded
  pub low : position ≤ unrounded.position
  pub high : unrounded.position ≤ position + narrowed_most
  pub few : bit_length (value window) ≤ 128 → unrounded.sticky ≡ sticky
  pub long : unrounded.sticky ≡ true → min 65 (bit_length (value window)) ≤ bit_length (significand_of unrounded)

-- the same value, counted from a unit n positions lower
abbrev pub raised_by : ℕ → Unrounded → Unrounded
raised_by n unrounded = record {
  negative = unrounded.negative;
  sticky = unrounded.sticky;
  position = unrounded.position + n;
  significand = unrounded.significand;
}

-- the position just above a value's highest bit
abbrev pub end_of : Unrounded → ℕ
end_of unrounded = unrounded.position + bit_length (significand_of unrounded)

-- a value of which q digits can be taken: its highest bit lies just below `end`, and a sticky bit
-- below its first q digits
pub record Measured (unrounded : Unrounded) (end q : ℕ) : Type 0 where
  pub some : 0 < significand_of unrounded
  pub is : end ≡ unrounded.position + bit_length (significand_of unrounded)
  pub top : end < 9223372036854775808
  pub least : 1 ≤ q
  pub most : q ≤ 64
  pub high : 64 ≤ unrounded.position
  pub long : unrounded.sticky ≡ true → q < bit_length (significand_of unrounded)

-- its first q digits, rounded: kept has q digits, and kept × 2^lowest is what each number rounds to
-- that the value stands for
pub record RoundedTo (m : env.Rounding) (unrounded : Unrounded) (end q : ℕ) (taken : Digits) : Type 0 where
  pub digits : bit_length taken.kept ≡ q
  pub low : end ≤ taken.lowest + q
  pub high : taken.lowest + q ≤ end + 1
  pub each : (x : ℕ) → Stands unrounded x
      → (taken.kept * 2 ^ taken.lowest ≡ round.rounded_at m unrounded.negative x (end - q))
      × (taken.inexact ≡ round.inexact (round.dropped x (end - q)))
      × (taken.up ≡ round.rounds_up m unrounded.negative (x / 2 ^ (end - q)) (round.dropped x (end - q)))

-- a value that can be rounded: not zero, with two digits more than are kept where it has a sticky
-- bit, and far enough above the unit
pub record Rounds (f : spec.Format) (c : env.Settings) (g : ℕ) (unrounded : Unrounded) : Type 0 where
  pub format : RangeBounds f
  pub settings : SettingsBounds f c
  pub some : 0 < significand_of unrounded
  pub high : 64 ≤ unrounded.position
  pub low : unrounded.position ≤ 2 ^ 62 + 2 ^ 30
  pub grid : g < 2 ^ 62
  pub long : unrounded.sticky ≡ true → 2 ^ spec.digits f ≤ significand_of unrounded

-- such a value, and the position `end` just above its highest bit
pub record EndsAt (f : spec.Format) (c : env.Settings) (g : ℕ) (unrounded : Unrounded) (end : ℕ) : Type 0 where
  pub rounds : Rounds f c g unrounded
  pub is : end ≡ unrounded.position + bit_length (significand_of unrounded)
  pub top : end < 9223372036854775808

-- such a value with its first q digits, rounded: q digits are kept
pub record Begins (f : spec.Format) (c : env.Settings) (g : ℕ) (unrounded : Unrounded) (q : ℕ)
    (taken : Digits) : Type 0 where
  pub ends : EndsAt f c g unrounded (end_of unrounded)
  pub keeps : (q ≡ env.precision_of f c) × (1 ≤ q) × (q ≤ spec.digits f)
  pub first : RoundedTo (env.rounding_of c.rounding) unrounded (end_of unrounded) q taken

-- ---- rounded values

-- kept × 2^n of the least non-zero number
abbrev pub small_of : Bool → ℕ → ℕ → dec.Unpacked
small_of s kept n = cond (eqb kept 0) (dec.zero_of s) (dec.finite s 0 (kept * 2 ^ n))

-- a rounded value and its flags
abbrev pub rounded_of : Rounded → round.Rounded
rounded_of r = record { value = unpacked_of r.value; flags = r.flags }

-- THE ROUNDING of a value: that of every exact number that it stands for. It can be encoded, and
-- flag 128 is free
pub record RoundedOnce (f : spec.Format) (c : env.Settings) (g : ℕ) (unrounded : Unrounded)
    (rounded : Rounded) : Type 0 where
  pub equal : (x : ℕ) → Stands unrounded x → rounded_of rounded ≡ round.round f c g unrounded.negative x
  pub encodes : Encodes f (unpacked_of rounded.value)
  pub flags : rounded.flags < 128
