-- Amounts known within a range.
pub mod Ranges
pub mod Conditions
pub mod Entry
pub mod Allowed
pub mod Promises
pub mod Examples
