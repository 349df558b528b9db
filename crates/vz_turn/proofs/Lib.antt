pub mod Keeping
pub mod Counting
pub mod Owned
pub mod Turning
