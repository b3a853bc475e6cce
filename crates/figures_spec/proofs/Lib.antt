-- What specs/ states, proved: a theorem has the name of its statement in small letters.
pub mod ranges
pub mod tables
