pub mod Parted
pub mod Numbers
pub mod Decided
pub mod Left
pub mod Walked
