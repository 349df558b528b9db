pub mod Sent
pub mod Changed
pub mod Sending
pub mod Supporting
pub mod Relations
