-- Amounts known within a range.
pub mod BoundsHold
pub mod FiguresInOrder
pub mod NarrowestPair
pub mod Order
pub mod Refused
pub mod SumsOfFigures
pub mod Examples
