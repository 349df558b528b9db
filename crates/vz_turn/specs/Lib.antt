pub mod Briefs
pub mod Calls
pub mod Own
pub mod Registers
