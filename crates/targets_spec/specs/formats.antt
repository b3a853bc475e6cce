-- A named bias, and kind 4.
pub mod Promises
