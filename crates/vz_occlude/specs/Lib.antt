pub mod Items
pub mod Occluders
pub mod Occlusion
pub mod Worked
pub mod Rows
pub mod Roles
pub mod Walk_so_far
pub mod Pictures
