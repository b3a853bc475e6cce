-- The property pins one answer; the definitions have it; and what follows of every rounding, of sums,
-- of targets and of pence.
pub mod OneAnswer
pub mod CutsByRule
pub mod LargestNumbers
pub mod RoundedByProperties
pub mod FinerUnits
pub mod OfEveryRounding
pub mod OverflowThreshold
pub mod SumsRoundedOnce
pub mod SumsOfAmounts
pub mod EncodedNumbers
pub mod OneElement
pub mod WholeNumbers
pub mod RaisedAmounts
pub mod IeeeRounding
pub mod IeeeDecoding
pub mod IeeeAddition
pub mod TenByteSums
pub mod RoundingRises
pub mod TotalsRise
pub mod NearestPence
pub mod RoundedTargets
