pub mod Laid
pub mod Tens
