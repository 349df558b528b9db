pub mod Following
pub mod Stores_kept
pub mod Telling
pub mod Kept_of_world
mod Finding
mod Keyed
mod Lodging
mod Others
mod Accepting
mod Indexed
mod Naming
mod Changing
mod Raising
mod Destroying
mod Holding
mod Storing
mod Storing_whole
mod Grouping
mod Linking
mod Retaining
mod Pointing
mod Shown
mod Found_links
pub mod Seeing
mod Awaited
mod Awaiting
mod Marking
mod Numbering
pub mod Listing
pub mod Leading
