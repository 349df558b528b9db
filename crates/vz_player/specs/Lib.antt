pub mod Played
pub mod Gated
pub mod Tested
pub mod Written
pub mod Shown
pub mod Taken
pub mod Puts
