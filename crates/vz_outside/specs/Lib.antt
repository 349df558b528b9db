pub mod Faults
pub mod Numbered
pub mod Sunk
pub mod Shelved
pub mod InMemory
pub mod Outer
pub mod Messages
pub mod Told
