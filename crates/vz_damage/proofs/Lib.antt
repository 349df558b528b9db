pub mod Between
pub mod Joining
pub mod Looking
pub mod Claiming
pub mod Ranging
pub mod Entering
pub mod Beside
