pub mod Chunks
pub mod Columns
