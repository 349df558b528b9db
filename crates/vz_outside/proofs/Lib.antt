pub mod Rises
pub mod Calls
pub mod Behaving
mod Writes
mod Prints
mod Fills
pub mod Places
pub mod Slots
mod Pieces
pub mod Held
pub mod Counting
mod Shelf_rules
mod OpenRules
mod CreateRules
mod ReadRules
mod WriteRules
mod OuterCalls
mod CollectRules
pub mod Passing
