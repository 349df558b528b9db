pub mod Chosen
pub mod Numerals
mod Plain
pub mod Damages
pub mod Took
pub mod Took_lines
pub mod Again
pub mod Again_lines
pub mod Feeds
pub mod Prefixes
pub mod First
pub mod Found
pub mod Rows
