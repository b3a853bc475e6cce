-- The terms of a list and of a dot.
pub mod Terms
