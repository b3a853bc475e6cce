-- The chain of passes, its limit, and what it ends with.
pub mod Chain
pub mod Settled
pub mod Limit
pub mod Standing
pub mod Promises
