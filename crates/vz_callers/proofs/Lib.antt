pub mod Called
pub mod Rounds
pub mod Tells
pub mod Crewing
pub mod Sorting
pub mod Ended
pub mod Played
