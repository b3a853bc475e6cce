-- Formats and settings, and what encodings stand for.
pub mod Format
pub mod Settings
pub mod Decode
pub mod Encode
pub mod KindValues
pub mod Bounds
pub mod Encodes
pub mod Ordered
pub mod Promises
