pub mod Slots
pub mod Timing
