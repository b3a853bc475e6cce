-- The conditions of the refusals, and the place of number 7.
pub mod Conditions
pub mod Places
pub mod Promises
