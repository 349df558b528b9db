pub mod Adding
pub mod Owning
pub mod Pointing
pub mod Rooms
pub mod Naming
pub mod Answering
pub mod Guttering
pub mod Entering
