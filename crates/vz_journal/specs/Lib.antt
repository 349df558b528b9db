pub mod Appending
pub mod Reading
pub mod Giving
pub mod Answers
pub mod Messages
