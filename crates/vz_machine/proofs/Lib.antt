pub mod Points
pub mod Spans
pub mod Rows
pub mod Whole
