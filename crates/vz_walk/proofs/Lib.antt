pub mod Meeting
pub mod Passing
pub mod Walk_steps
pub mod Seeing
pub mod Rooting
pub mod Alike
pub mod Weighing
pub mod Pairing
