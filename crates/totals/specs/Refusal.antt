-- The numbers of the refusals, and the refusals 3 to 6, which do not look at the elements.
use Rattle.std.specs.Prelude.{Bool, not, ◌&&◌, ℕ, leb, ltb, eqb, Result, Ok, Err}
use Rattle.totals_spec.specs.formats.Format.{Format, valid_format}
use Rattle.totals_spec.specs.formats.Settings.{Settings, valid_settings}
use Rattle.totals_spec.specs.sums.Totals.{refuse_if, limit}
use Rattle.totals.specs.declared.refusal.Refusal.{Refusal}
use Rattle.totals.specs.declared.refusal.Refusal.TheVariants.{UnevenLength, ShortBuffer}
use Rattle.totals.specs.declared.refusal.Refusal.TheVariants.{NoSuchFormat, SettingOutOfRange}
use Rattle.totals.specs.declared.refusal.Refusal.TheVariants.{DifferentLengths}
use Rattle.totals.specs.declared.refusal.Refusal.TheVariants.{TooManyElements, StrayBit, NoPence}
use Rattle.totals.specs.declared.refusal.Refusal.TheVariants.{BadShape, NoRoom, BadAmount, NotAPage}
use Rattle.totals.specs.declared.refusal.Refusal.TheVariants.{BadSpan, NoAllowance}
use Rattle.totals.specs.declared.refusal.Refusal.TheVariants.{NoContribution, NotFinite}
use Rattle.totals.specs.declared.refusal.Refusal.TheVariants.{TargetOutOfReach}

abbrev pub number_of : Refusal → ℕ
number_of UnevenLength = 1
number_of ShortBuffer = 2
number_of NoSuchFormat = 3
number_of SettingOutOfRange = 4
number_of DifferentLengths = 5
number_of TooManyElements = 6
number_of (StrayBit i) = 7
number_of NoPence = 8
number_of BadShape = 9
number_of NoRoom = 10
number_of BadAmount = 11
number_of NotAPage = 12
number_of BadSpan = 13
number_of NoContribution = 14
number_of NotFinite = 15
number_of NoAllowance = 16
number_of TargetOutOfReach = 17

-- the place beside the number, 0 for what has none
abbrev pub place_of : Refusal → ℕ
place_of (StrayBit i) = i
place_of _ = 0

-- the number of a call's refusal, 0 where it is accepted
abbrev pub refusal_number : {A : Type 0} → Result A Refusal → ℕ
refusal_number (Ok x) = 0
refusal_number (Err e) = number_of e

-- what totals of every kind refuse first, whether or not the format is offered, by its settings
abbrev pub first_numbers : Bool → Format → Settings → ℕ
first_numbers offered f c = refuse_if (not offered) 3 (refuse_if (not (valid_settings f c)) 4 0)

-- and last, of n elements or pairs
abbrev pub few_number : ℕ → ℕ
few_number n = refuse_if (ltb limit n) 6 0

-- refusals 1 and 2 of a byte entry, where a list is cut short or not, and the answer has so many
-- bytes of those that are needed
abbrev pub length_numbers : Bool → (room needed : ℕ) → ℕ
length_numbers cut n m = refuse_if cut 1 (refuse_if (ltb n m) 2 0)

-- n is the length of the list; a dot has n on the left and m on the right
unfoldable pub sum_numbers : Format → Settings → ℕ → ℕ → ℕ
sum_numbers f c u n =
    refuse_if (not (valid_format f)) 3
    (refuse_if (not (valid_settings f c && leb u 2)) 4
    (refuse_if (ltb limit n) 6 0))

unfoldable pub dot_numbers : Format → Settings → ℕ → ℕ → ℕ
dot_numbers f c n m =
    refuse_if (not (valid_format f)) 3
    (refuse_if (not (valid_settings f c)) 4
    (refuse_if (not (eqb n m)) 5
    (refuse_if (ltb limit n) 6 0)))
