-- A named bias, and kind 4.
pub mod NamedBias
pub mod TenBytes
