mod Booking
mod Calling
mod Calming
mod Dealing
pub mod Displaying
mod Flying
mod Gathering
pub mod Owning
mod Pausing
mod Showing
mod Telling
