-- Answers within an allowance of passes.
pub mod Estimate
pub mod Conditions
pub mod Promises
pub mod Examples
