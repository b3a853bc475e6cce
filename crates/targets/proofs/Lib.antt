pub mod Halving
mod Contributed
mod ContributionWritten
mod Shown
mod EstimateWritten
mod Keeping
mod Targets
mod TargetWritten
