pub mod Told
pub mod Accepted
pub mod Measured
