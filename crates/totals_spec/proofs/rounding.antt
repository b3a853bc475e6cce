-- The one rounding: what it gives, and how that lies beside the sum.
pub mod BesideTheSum
pub mod BestBounds
pub mod BetweenNeighbours
pub mod Cases
pub mod DirectedIsBest
pub mod FinerUnits
pub mod IntoFormat
pub mod LargestNumber
pub mod RoundedBack
pub mod RoundedNumbers
pub mod SideByFlags
pub mod StoredNumbers
