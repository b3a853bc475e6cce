-- What the terms of a list have in common.
pub mod GoodTerms
pub mod HighestAndLowest
