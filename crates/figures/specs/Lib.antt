pub mod Tables
pub mod Ranges
