-- The words of the contracts: lists that are rearranged, answers in buffers, the limit on the
-- passes, refusals, and what is rounded once.
pub mod Order
pub mod Entries
pub mod Lent
pub mod Passes
pub mod Refusals
pub mod Rounded
pub mod Targets
