-- Examples of sums and dots.
pub mod Examples
