pub mod Row
pub mod Stack
pub mod Strips
pub mod Choice
pub mod Ground
pub mod Redraw
pub mod Scratch
pub mod Alike
