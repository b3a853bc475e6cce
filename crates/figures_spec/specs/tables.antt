-- The totals of the rows and columns of a table.
pub mod Table
pub mod Conditions
pub mod Entry
pub mod Promises
pub mod Examples
