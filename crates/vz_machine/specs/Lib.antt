pub mod Pictured
pub mod Stepping
