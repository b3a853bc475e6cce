-- Answers within an allowance of passes.
pub mod Answers
pub mod Entry
pub mod Standing
pub mod Examples
