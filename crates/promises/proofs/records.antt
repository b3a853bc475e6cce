-- Which NaN a list gives, what stands in the records without a pass, and what entries, text and
-- running totals hold of a record.
pub mod ChosenNan
pub mod WithoutAPass
pub mod TenByteNans
pub mod WithoutAPassRows
pub mod OnlyZeros
pub mod Subnormals
pub mod NanPatterns
pub mod LinesRead
pub mod TargetNumbers
pub mod DigitsRead
pub mod RunningCalls
pub mod RunningRows
pub mod TenByteRecords
pub mod TenByteReads
pub mod ByteEntries
