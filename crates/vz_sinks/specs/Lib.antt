pub mod Relating
pub mod Messages
