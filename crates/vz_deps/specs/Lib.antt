pub mod Tracking
pub mod Blocking
pub mod Ordered
pub mod Bunching
pub mod Placing
pub mod Lacking
pub mod Numbering
