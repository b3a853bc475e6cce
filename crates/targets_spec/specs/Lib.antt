-- One total in several formats, answers within an allowance of passes, and the contribution that
-- reaches a target.
pub mod contribution
pub mod entries
pub mod several
pub mod within
pub mod formats
