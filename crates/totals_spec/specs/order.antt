-- Rearrangements, and that they have one record.
pub mod Rearranged
pub mod Promises
