pub mod Stored
pub mod Reading
pub mod Keeping
pub mod Memory
pub mod Told
pub mod Chains
pub mod Numbers
pub mod Names
