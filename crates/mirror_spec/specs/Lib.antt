-- Totals of negated lists.
pub mod Mirror
pub mod Promises
pub mod Examples
