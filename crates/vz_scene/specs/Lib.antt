pub mod Walking
pub mod Visits
pub mod Counted
pub mod Order
pub mod Groups
pub mod Seen
pub mod Reached
pub mod Gathered
