-- The one rounding, and which way a result leans.
pub mod Round
pub mod Side
pub mod IntoFormat
pub mod Promises
