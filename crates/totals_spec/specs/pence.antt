-- The pence of an encoding and of a list.
pub mod Pence
pub mod Conditions
pub mod Entry
pub mod Hundredfold
pub mod Promises
pub mod Examples
