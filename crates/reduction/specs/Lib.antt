pub mod Scan
pub mod Encodings
pub mod Singles
pub mod Held
pub mod Answered
