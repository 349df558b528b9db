pub mod Spanned
pub mod Blitted
pub mod Stacked
pub mod Drawn
pub mod Chosen
pub mod Painted
pub mod Banded
pub mod Grounded
pub mod Opaque_texels
mod Brushing
mod Redrawn
mod Patches
mod Grouped
mod Bands_drawn
mod Bytes_of_groups
mod Rows_behind
mod Same_rows
mod Bands_of_rows
