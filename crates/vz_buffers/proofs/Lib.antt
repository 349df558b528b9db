mod Places
mod Heads
pub mod Banding
mod Filling
pub mod Turning
pub mod Taking
