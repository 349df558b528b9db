mod Small
mod Rounds
pub mod Fitting
