mod Follows
pub mod Following
pub mod Managed
mod Resting
pub mod Showing
pub mod Landings
mod Comings
mod Opened
pub mod Depicting
pub mod Judged
pub mod Stepped
pub mod Rooming
pub mod Unlost
pub mod Own_changes
mod Rested
pub mod Submits
pub mod Reading_all
pub mod Taken_in
pub mod Arrived_new
pub mod Carried
pub mod Crossing
pub mod Hitting
