-- The pence of an encoding and of a list.
pub mod HundredfoldChain
pub mod HundredfoldTop
pub mod NearestWhole
pub mod PenceOfLists
pub mod RefusedExactly
pub mod Examples
