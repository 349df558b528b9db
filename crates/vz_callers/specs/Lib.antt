pub mod Callers
pub mod Crews
pub mod Turns
