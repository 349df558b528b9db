mod Undrawn
pub mod Counting
pub mod Telling
pub mod Frames
mod Playing
mod Testing
pub mod Adding
mod Logging
pub mod Growing
pub mod Taking
pub mod Outs
mod Bytes
mod Going
