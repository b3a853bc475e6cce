-- The byte entries: refusals, and what a caller reads.
pub mod AnswerFields
pub mod ReadBack
pub mod RefusedExactly
pub mod ValuesInBytes
