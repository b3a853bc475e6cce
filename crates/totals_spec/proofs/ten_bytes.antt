-- Kind 4: ten bytes a value.
pub mod Calls
pub mod Terms
pub mod Totals
pub mod TwoWords
pub mod WrittenOut
pub mod Examples
