-- Pages, and the totals of their spans.
pub mod Pages
pub mod Conditions
pub mod Promises
pub mod Examples
