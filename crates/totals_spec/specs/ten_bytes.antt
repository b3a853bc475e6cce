-- Kind 4: ten bytes a value.
pub mod Extended
pub mod Conditions
pub mod TwoWords
pub mod Promises
pub mod Examples
