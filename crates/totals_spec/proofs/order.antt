-- Rearrangements have one record.
pub mod Order
pub mod Rearrangements
