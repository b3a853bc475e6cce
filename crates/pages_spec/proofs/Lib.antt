-- What specs/ states, proved: a theorem has the name of its statement in small letters.
pub mod Pages
pub mod PartsOfAPage
pub mod Refused
pub mod Examples
