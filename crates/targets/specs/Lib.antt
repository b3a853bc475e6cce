pub mod Contributions
pub mod Kept
pub mod Targets
pub mod Estimates
