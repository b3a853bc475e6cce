-- One total, several formats.
pub mod Entry
pub mod Records
pub mod RoundedAsTheSum
pub mod Examples
