-- What specs/ states, proved: a theorem has the name of its statement in small letters.
pub mod contribution
pub mod entries
pub mod formats
pub mod several
pub mod within
