pub mod Meeting
pub mod Walking
pub mod Scenes
pub mod Weighing
