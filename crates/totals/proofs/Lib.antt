pub mod Search
pub mod Laid
pub mod Written
pub mod Answers
pub mod Refusals
pub mod Figures
mod Counted
pub mod Totalled
pub mod ScanTold
pub mod Tens
