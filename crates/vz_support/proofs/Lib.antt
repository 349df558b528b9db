mod Listed
pub mod Sending
pub mod Messaging
pub mod Clients_kept
pub mod Support_kept
pub mod Asking
mod Taking
mod Requesting
mod Ticking
mod Submitting
mod Opened
