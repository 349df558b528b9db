pub mod Canvas
pub mod Bands
pub mod Turns
pub mod Taken
pub mod Pages
