pub mod Grown
pub mod Session
pub mod Worked
