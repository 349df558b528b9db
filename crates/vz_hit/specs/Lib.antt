pub mod Regions
pub mod Parts
pub mod Hitting
