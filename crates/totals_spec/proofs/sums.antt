-- The record of a sum and of a dot.
pub mod FieldsFit
pub mod FiniteLists
pub mod RecordRule
pub mod Sides
pub mod Squares
pub mod ZeroTotals
