-- What specs/ states, proved: a theorem has the name of its statement in small letters.
pub mod chain
pub mod entries
pub mod formats
pub mod lists
pub mod numbers
pub mod order
pub mod pence
pub mod refusals
pub mod rounding
pub mod sums
pub mod ten_bytes
pub mod terms
pub mod examples
