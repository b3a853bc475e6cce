-- What specs/ states, proved: a theorem has the name of its statement in small letters.
pub mod Chain
pub mod Encodings
pub mod Rounding
pub mod TenBytes
pub mod Terms
pub mod Totals
pub mod Examples
