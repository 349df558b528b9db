pub mod Keeps
pub mod Drawings
pub mod Histories
mod Rows
