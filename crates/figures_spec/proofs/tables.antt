-- The totals of the rows and columns of a table.
pub mod OtherFormats
pub mod ReadBack
pub mod RefusedExactly
pub mod Tables
pub mod Examples
