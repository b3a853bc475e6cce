mod Columns
mod TableWritten
mod RangeFigures
mod RangeSettled
