pub mod Ops
pub mod Nesting
pub mod Parts
pub mod Tiles
pub mod Gutters
pub mod Flat
pub mod Whole
pub mod Flattening
