pub mod Ends
pub mod Parts
mod Finding
mod Gaps
mod Placing
mod Tabling
