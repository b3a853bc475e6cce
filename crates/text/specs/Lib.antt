pub mod Reading
pub mod Holds
pub mod FourLines
pub mod Streams
pub mod Reasons
pub mod Answered
