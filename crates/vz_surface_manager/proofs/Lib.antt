pub mod Set_owners
pub mod Risen_one
pub mod Risen_kept
pub mod Accepted_kept
pub mod Sets_kept
pub mod Named_kept
pub mod Ticked_kept
pub mod Closed_kept
pub mod New_surfaces
pub mod Kept_new
pub mod Gone_kept
pub mod Rooted
pub mod Fed_kept
pub mod Stored
pub mod Raised
pub mod Told_gone
pub mod Read
pub mod Absent
pub mod Found_accepted
pub mod Told_accepted
pub mod Viewed
pub mod Seen
pub mod Told_messages
pub mod Entries
mod Packed
pub mod Gathered
pub mod Counted
pub mod Rostered
pub mod Listing_counts
pub mod Flights_kept
pub mod Drawn_flights
pub mod Roster_in_flight
mod Wanted_places
mod Found
mod Live_kept
pub mod Quiet_changes
pub mod Quiet
mod Risen
mod Gone
mod Given
mod Arrived
mod Opened
pub mod Reaches
mod Set_counts
mod Released
mod Landed
mod Lifted
pub mod Fewer
pub mod Asked
pub mod Drawn
mod Filtered
pub mod Waits_on
pub mod Waits_kept
mod Dropped_waits
mod More_met
mod Closed_waits
mod Ticked_waits
pub mod Accepted_waits
mod Without
mod Names_differ
mod One_round
pub mod Rounded
pub mod Many_rounds
mod By_client
mod Collection
mod Set_of_surfaces
