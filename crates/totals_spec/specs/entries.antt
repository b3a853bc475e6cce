-- Values in bytes and in words, and the byte entries.
pub mod Bytes
pub mod Columns
pub mod Words
pub mod Promises
