-- The length of a list of values, by their kind.
pub mod Lengths
pub mod SignedWords
