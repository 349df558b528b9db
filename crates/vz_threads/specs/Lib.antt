pub mod Courses
pub mod Tails
pub mod Told
pub mod Crews
pub mod Outlets
pub mod Rounds
pub mod Runs
pub mod Pipes
