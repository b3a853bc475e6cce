-- Each refusal exactly under its condition.
pub mod AcceptedCalls
pub mod Exactly
pub mod FirstIndex
pub mod ManyZeros
pub mod RefusedRecords
