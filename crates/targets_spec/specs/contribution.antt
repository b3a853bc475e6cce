-- The contribution that reaches a target.
pub mod Contribution
pub mod Conditions
pub mod Promises
pub mod Examples
