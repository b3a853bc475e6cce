pub mod Paged
pub mod Spans
