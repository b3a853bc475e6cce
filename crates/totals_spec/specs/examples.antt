-- Examples of sums and dots, which the checker computes.
pub mod Rows
pub mod Careers
pub mod Promises
