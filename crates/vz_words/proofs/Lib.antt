mod Spelled
mod Pieces
mod Given
mod Firsts
mod Shapes
mod Running
pub mod One
