-- The contribution that reaches a target.
pub mod LeastNumber
pub mod MagnitudesRise
pub mod NumbersOfRanks
pub mod Ranks
pub mod Records
pub mod RoundingRises
pub mod SumRises
pub mod Examples
