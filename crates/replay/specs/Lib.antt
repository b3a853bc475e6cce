pub mod Row
pub mod Streams
