pub mod Legal_stays
pub mod Grown_goes_on
pub mod Next_answers
pub mod Frames_stay
pub mod Deeds_lead
pub mod Told_none_left
pub mod Waiting_taken
mod Worked_once
