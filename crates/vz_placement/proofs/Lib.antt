pub mod Fitting
pub mod Rooms
pub mod Sides
