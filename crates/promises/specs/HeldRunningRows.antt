-- A running total of squares, finished into other formats: of 3 and of the least number of
-- binary16, whose squares add up to 9 + 2^−48.
use Rattle.std.specs.Prelude.{Bool, true, ◌&&◌, [], ◌∷◌, map, ℕ, eqb, T as Holds}
use Rattle.std.proofs.Math.Option.{none}
use Rattle.totals_spec.specs.formats.Format.{Format, binary64}
use Rattle.totals_spec.specs.formats.Settings.{with_rounding, square}
use Rattle.running_spec.specs.State.{State, seen, state_of}
use Rattle.running_spec.specs.Finish.{finish_into}

abbrev pub binary16 : Format
binary16 = record { kind = 0; E = 5; W = 16; named = none }

abbrev pub binary32 : Format
binary32 = record { kind = 0; E = 8; W = 32; named = none }

abbrev pub squares : State
squares = state_of (map (seen binary16 0 square) (0x4200 ∷ 0x0001 ∷ []))

-- into a format, in a rounding: the result, the flags and the side
abbrev pub into_row : (into : Format) (rounding result flags side : ℕ) → Bool
into_row t m r g s =
    let a = finish_into binary16 true t (with_rounding m) squares in eqb a.result r
    && (eqb a.flags g && eqb a.side s)

-- binary32 has 9 beside it, and the number above in steps of 2^−20; binary64 holds it
unfoldable pub into_rows : Bool
into_rows =
    into_row binary32 0 0x41100000 144 1
    && (into_row binary32 3 0x41100001 208 2
    && into_row binary64 0 0x4022000000000002 128 0)

abbrev pub Into-agree : Type 0
Into-agree = Holds into_rows
