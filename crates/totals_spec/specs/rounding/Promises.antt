-- What is promised of a rounding: what it gives, encoded and decoded again, is itself as its format
-- keeps it; and `size`, by which digits are counted, is the bit length.
use Rattle.std.specs.Prelude.{true, false, [], ◌≡◌, Bool, ℕ, ◌-◌, T as Holds, ◌^◌, ◌≤◌, ◌<◌, ◌+◌}
use Rattle.std.specs.Prelude.{List, length}
use Rattle.std.specs.Float.Ieee.{size}
use Rattle.totals_spec.specs.formats.Format.{Kind, ieee, no_inf, fnuz, finite_only, Format, kind_of}
use Rattle.totals_spec.specs.formats.Format.{valid_format, origin, fall, grid, digits}
use Rattle.totals_spec.specs.formats.Decode.{Unpacked, zero_of, finite, infinity, nan, decode}
use Rattle.totals_spec.specs.formats.Settings.{Settings, valid_settings, value}
use Rattle.totals_spec.specs.formats.Encode.{encode}
use Rattle.totals_spec.specs.rounding.Round.{round}
use Rattle.totals_spec.specs.Basics.{Signed, raised}
use Rattle.totals_spec.specs.sums.Totals.{sum_rounded, on_grid, towards_negative, limit}
use Rattle.totals_spec.specs.rounding.IntoFormat.{rounded_into, unrounded_total, exact_total}

-- a value as a format of its kind keeps it: Fnuz has one zero, which is positive, and one NaN,
-- which is negative
abbrev pub kept_as : Kind → Unpacked → Unpacked
kept_as ieee v = v
kept_as no_inf v = v
kept_as fnuz (zero_of s) = zero_of false
kept_as fnuz (finite s k m) = finite s k m
kept_as fnuz (infinity s) = infinity s
kept_as fnuz (nan s g m) = nan true g m
kept_as finite_only v = v

-- what a rounding gives, encoded and decoded again, is itself, but for those two signs: wherever
-- the grid is, of every sign and magnitude
abbrev pub Rounded-back : Type 0
Rounded-back = (format : Format) (settings : Settings) (g : ℕ) (s : Bool) (m : ℕ)
    → Holds (valid_format format)
    → Holds (valid_settings format settings)
    → decode format (encode format (round format settings g s m).value)
    ≡ kept_as (kind_of format.kind) (round format settings g s m).value

-- `size` is the bit length: a number m above 0 lies from 2^(size m − 1) up to below 2^(size m), and
-- 0 has none
abbrev pub Size-is-length : Type 0
Size-is-length = ((m : ℕ) → 0 < m → (2 ^ (size m - 1) ≤ m) × (m < 2 ^ size m)) × (size 0 ≡ 0)

-- rounding into a target is the target's own rounding: where x, in units of the list's format, and
-- y, in units of the target's, are one number (they are the same, counted from a unit below both),
-- x gives what a plain sum in the target's format gives for an exact sum y
abbrev pub Target-means : Type 0
Target-means = (format target : Format) (settings : Settings) (x y : Signed)
    → Holds (valid_format target)
    → Holds (valid_settings target settings)
    → raised (origin target false + fall format false) x
    ≡ raised (origin format false + fall target false) y
    → rounded_into format target settings x
    ≡ sum_rounded target settings (grid target false) (towards_negative settings)
    (on_grid target false y)

-- what a chain ends with, rounded into any offered format of at most the list's digits, under any
-- settings, is the exact sum rounded once there
abbrev pub Target-rounds : Type 0
Target-rounds = (format : Format) (d : ℕ) (values : List ℕ) (target : Format) (settings : Settings)
    → Holds (valid_format format) → length values ≤ limit
    → Holds (valid_format target) → Holds (valid_settings target settings)
    → digits target ≤ digits format
    → rounded_into format target settings (unrounded_total format d values)
    ≡ rounded_into format target settings (exact_total format d values)

-- it is zero only for an exact sum of zero
abbrev pub Target-zero : Type 0
Target-zero = (format : Format) (d : ℕ) (values : List ℕ) → Holds (valid_format format)
    → length values ≤ limit
    → (unrounded_total format d values).mag ≡ 0 → (exact_total format d values).mag ≡ 0
