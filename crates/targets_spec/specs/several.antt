-- One total, several formats.
pub mod Several
pub mod Conditions
pub mod Promises
pub mod Examples
