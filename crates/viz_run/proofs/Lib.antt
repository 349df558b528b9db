pub mod Demo_fits
mod Gathering
mod Flaws
mod Accepts
mod Schedules
mod Fitting
mod Gating
mod Stopping
mod Admitting
mod Logs_read
mod Answering
mod Performing
mod Showing
mod Shown_whole
mod Stepping
mod Rounds
mod Returns
mod Spelled
mod Making
mod Asked_names
pub mod Takes
mod Demonstrated
mod Files_given
mod Run_done
mod Opened
mod Exits
