pub mod Followed
pub mod Seated
pub mod Same_seats
