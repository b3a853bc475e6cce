pub mod Refusal
pub mod Stray
pub mod Walked
pub mod Entered
pub mod PenceRecord
pub mod Asked
pub mod Laid
