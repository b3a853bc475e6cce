-- The whole record of a sum and of a dot.
pub mod Nan
pub mod Totals
pub mod Promises
