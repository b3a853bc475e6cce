mod Rules
pub mod Standing
mod Beyond
mod Once
mod Plan
pub mod Narrow
pub mod Raised
