-- Totals of tables, and of amounts known within a range.
pub mod tables
pub mod ranges
