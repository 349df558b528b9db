pub mod Asked
pub mod Drawn
pub mod Reaching
pub mod Replaying
pub mod Pictures
pub mod Quiet
