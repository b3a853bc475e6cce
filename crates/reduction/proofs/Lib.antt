pub mod Gather
pub mod Loop
pub mod Records
pub mod Reduce
pub mod Items
pub mod Widths
pub mod Choice
pub mod Step
pub mod Codes
pub mod Instances
pub mod Special
pub mod Tens
mod Leaves
