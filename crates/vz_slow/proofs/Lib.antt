pub mod Asking
pub mod Attaching
pub mod Rounds
pub mod Answering
pub mod Accepting
pub mod Losing
pub mod Named
pub mod Returning
pub mod Following
pub mod Drawing
pub mod Hitting
pub mod Reaching
pub mod Replaying
pub mod Asked_once
pub mod Quieting
mod Stepped
